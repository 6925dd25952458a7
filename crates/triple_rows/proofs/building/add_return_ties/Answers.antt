use Rattle.std.proofs.Common.{◌≡◌, ◌+◌, ◌<◌, ℕ, Bool, true, List, not, length, refl, subst}
use Rattle.std.specs.Prelude.{filter}
use Rattle.std.specs.List.{AllByRecursion}
use Rattle.lin_rows.specs.Rows.{LinearRow}
use Rattle.letter_acts.specs.Frames.{constants_of, variables_of, result_columns, olds_of}
use Rattle.letter_acts.specs.Reading.{taken, is_listed}
use Rattle.letter_acts.specs.Invariant.{written_by}
use Rattle.letter_acts.proofs.ListLemmas.{all_weaker}
use Rattle.triple_rows.specs.declared.drafts.Draft.{Draft}
use Rattle.triple_rows.specs.Systems.{PlainFits, only_rows, after_column, call_column}
use Rattle.triple_rows.specs.Ties.Drafts.{Adds}
use Rattle.triple_rows.proofs.ListLaws.{all_passed}
use Rattle.triple_rows.proofs.PieceLaws.{ties_by_tables, rows_by_table, within_tables}
use Rattle.triple_rows.proofs.building.add_return_ties.Goals as goal

pub add_class-requires-clause-within : goal.add_class-requires-clause-within
add_class-requires-clause-within c =
    let m = length c.args.callee.now in
    within_tables m (length c.args.caller.now) (λ c. c) (λ c. m + c) c.args.at_exit.now c.args.at_call.now (λ (c : ℕ). c) (λ c. c) (constants_of c.args.callee.now) c.requires.tables.exit
    c.requires.tables.call c.requires.within.constants

pub add_olds-requires-clause-within : goal.add_olds-requires-clause-within
add_olds-requires-clause-within c =
    let m = length c.args.callee.now in
    within_tables m (length c.args.caller.now) (λ c. c) (λ c. m + c) c.args.at_exit.now c.args.at_call.now (λ (o : ℕ × ℕ). o.0) (λ o. o.1) (olds_of c.args.callee.now) c.requires.tables.exit
    c.requires.tables.call c.requires.within.olds

pub add_renamed-requires-clause-differ : goal.add_renamed-requires-clause-differ
add_renamed-requires-clause-differ c = c.requires.tables.rows.differ

pub add_kept-requires-clause-within : goal.add_kept-requires-clause-within
add_kept-requires-clause-within c =
    let m = length c.args.callee.now in
    let n = length c.args.caller.now in
    within_tables n m (after_column m (m + n) (written_by c.args.caller.now c.args.targets.now)) (λ c. c) c.args.at_end.now c.args.at_exit.now (λ (g : ℕ). g) (λ g. g) (variables_of c.args.caller.now)
    c.requires.tables.end c.requires.tables.exit c.requires.within.variables

pub add_results-requires-clause-within : goal.add_results-requires-clause-within
add_results-requires-clause-within c =
    let m = length c.args.callee.now in
    let n = length c.args.caller.now in
    within_tables n m (after_column m (m + n) (written_by c.args.caller.now c.args.targets.now)) (λ c. c) c.args.at_end.now c.args.at_exit.now (λ (p : ℕ × ℕ). p.0) (λ p. p.1)
    (taken c.args.targets.now (result_columns c.args.callee.now)) c.requires.tables.end c.requires.tables.exit c.requires.within.taken

pub returns-clause-adds : goal.returns-clause-adds
returns-clause-adds c =
    let caller = c.args.caller.now in
    let callee = c.args.callee.now in
    let targets = c.args.targets.now in
    let m = length callee in
    let n = length caller in
    let written = written_by caller targets in
    let after : ℕ → ℕ = after_column m (m + n) written in
    let x = c.args.at_exit.now in
    let b = c.args.at_call.now in
    let t = c.args.at_end.now in
    let test : ℕ → Bool = λ g. not (is_listed targets g) in
    let vs = variables_of caller in
    let P : ℕ → Type 0 = λ g. (g < n) × (g < m) in
    let kept : AllByRecursion P (filter test vs) = (all_passed P test vs).1 (all_weaker P (λ x. test x ≡ true → P x) (λ x p t. p) vs c.requires.within.variables) in
    let constants = ties_by_tables m n (λ c. c) (λ c. m + c) x b (λ (c : ℕ). c) (λ c. c) (constants_of callee) c.requires.within.constants c.requires.tables.exit c.requires.tables.call in
    let olds = ties_by_tables m n (λ c. c) (λ c. m + c) x b (λ (o : ℕ × ℕ). o.0) (λ o. o.1) (olds_of callee) c.requires.within.olds c.requires.tables.exit c.requires.tables.call in
    let rows = rows_by_table (length c.args.in_rows.now) (call_column m n (length written)) c.args.in_rows.now c.args.rows.now c.requires.rows_within c.requires.tables.rows in
    let globals = ties_by_tables n m after (λ c. c) t x (λ (g : ℕ). g) (λ g. g) (filter test vs) kept c.requires.tables.end c.requires.tables.exit in
    let results = ties_by_tables n m after (λ c. c) t x (λ (p : ℕ × ℕ). p.0) (λ p. p.1) (taken targets (result_columns callee)) c.requires.within.taken c.requires.tables.end c.requires.tables.exit in
    let d0 : Draft = c.args.draft.now in
    let d1 : Draft = c.add_class.new.draft in
    let d2 : Draft = c.add_olds.new.draft in
    let d3 : Draft = c.add_renamed.new.draft in
    let d4 : Draft = c.add_kept.new.draft in
    let d5 : Draft = c.add_results.new.draft in (
      d1,
      subst (λ (rows : List LinearRow). Adds (only_rows rows) d0 d1) constants c.in_ok-add_class.ensures.adds,
      (
        d2,
        subst (λ (rows : List LinearRow). Adds (only_rows rows) d1 d2) olds c.in_ok-add_olds.ensures.adds,
        (
          d3,
          subst (λ (rows : List LinearRow). Adds (only_rows rows) d2 d3) rows c.in_ok-add_renamed.ensures.adds,
          (
            d4,
            subst (λ (rows : List LinearRow). Adds (only_rows rows) d3 d4) globals c.in_ok-add_kept.ensures.adds,
            (
              d5,
              subst (λ (rows : List LinearRow). Adds (only_rows rows) d4 d5) results c.in_ok-add_results.ensures.adds,
              refl,
            ),
          ),
        ),
      ),
    )

pub returns-clause-fits : goal.returns-clause-fits
returns-clause-fits c =
    let caller = c.args.caller.now in
    let callee = c.args.callee.now in
    let targets = c.args.targets.now in
    let m = length callee in
    let n = length caller in
    let written = written_by caller targets in
    let after : ℕ → ℕ = after_column m (m + n) written in
    let x = c.args.at_exit.now in
    let b = c.args.at_call.now in
    let t = c.args.at_end.now in
    let test : ℕ → Bool = λ g. not (is_listed targets g) in
    let vs = variables_of caller in
    let P : ℕ → Type 0 = λ g. (g < n) × (g < m) in
    let kept : AllByRecursion P (filter test vs) = (all_passed P test vs).1 (all_weaker P (λ x. test x ≡ true → P x) (λ x p t. p) vs c.requires.within.variables) in
    let constants = ties_by_tables m n (λ c. c) (λ c. m + c) x b (λ (c : ℕ). c) (λ c. c) (constants_of callee) c.requires.within.constants c.requires.tables.exit c.requires.tables.call in
    let olds = ties_by_tables m n (λ c. c) (λ c. m + c) x b (λ (o : ℕ × ℕ). o.0) (λ o. o.1) (olds_of callee) c.requires.within.olds c.requires.tables.exit c.requires.tables.call in
    let rows = rows_by_table (length c.args.in_rows.now) (call_column m n (length written)) c.args.in_rows.now c.args.rows.now c.requires.rows_within c.requires.tables.rows in
    let globals = ties_by_tables n m after (λ c. c) t x (λ (g : ℕ). g) (λ g. g) (filter test vs) kept c.requires.tables.end c.requires.tables.exit in
    let results = ties_by_tables n m after (λ c. c) t x (λ (p : ℕ × ℕ). p.0) (λ p. p.1) (taken targets (result_columns callee)) c.requires.within.taken c.requires.tables.end c.requires.tables.exit in (
      subst (λ (rows : List LinearRow). PlainFits (only_rows rows)) constants c.in_ok-add_class.ensures.fits,
      (
        subst (λ (rows : List LinearRow). PlainFits (only_rows rows)) olds c.in_ok-add_olds.ensures.fits,
        (
          subst (λ (rows : List LinearRow). PlainFits (only_rows rows)) rows c.in_ok-add_renamed.ensures.fits,
          (
            subst (λ (rows : List LinearRow). PlainFits (only_rows rows)) globals c.in_ok-add_kept.ensures.fits,
            (
              subst (λ (rows : List LinearRow). PlainFits (only_rows rows)) results c.in_ok-add_results.ensures.fits,
              tt,
            ),
          ),
        ),
      ),
    )
