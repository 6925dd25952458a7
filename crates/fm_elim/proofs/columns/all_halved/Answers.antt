use Rattle.std.proofs.Common.{◌≡◌, List, [], ◌∷◌, ◌++◌, sym, ap, ◌∙◌, append_assoc}
use Rattle.std.specs.List.{AllByRecursion, flat_map}
use Rattle.fm_elim.specs.Derivations.{DerivedRow}
use Rattle.fm_elim.specs.Columns.{halves, HalvesFit}
use Rattle.fm_elim.proofs.Lists.{all_middle}
use Rattle.fm_elim.proofs.LoopSteps.{flat_on}
use Rattle.fm_elim.proofs.Exits.{exit_memory, exit_part}
use Rattle.fm_elim.proofs.columns.all_halved.Goals as goal

pub returns-in_err-list : goal.returns-in_err-list
returns-in_err-list c =
    exit_memory c.from_residual.result (λ list. list.items ≡ flat_map (halves c.args.column) c.args.rows.items) (AllByRecursion (HalvesFit c.args.column) c.args.rows.items) c.from_residual.ensures.1

pub loop-row-preserved : goal.loop-row-preserved
loop-row-preserved c =
    let k = c.args.column in
    let more = flat_on (halves k) (HalvesFit k) [] c.loop-row.list.items c.push_halved.new.list.items c.loop-row.yielded c.in-Some.row c.loop-row.invariant.value c.loop-row.invariant.fits
    c.in_ok-push_halved.ensures in
    record {
      value = more.0;
      fits = more.1;
      all = append_assoc c.loop-row.yielded (c.in-Some.row ∷ []) c.next.new.self.rest.items ∙
          ap (λ (xs : List DerivedRow). c.loop-row.yielded ++ xs) (sym c.in-Some.ensures.steps.0) ∙ c.loop-row.invariant.all;
    }

pub returns-in_err-push_halved : goal.returns-in_err-push_halved
returns-in_err-push_halved c =
    let k = c.args.column in
    exit_part c.from_residual-in_err-push_halved.result (λ list. list.items ≡ flat_map (halves k) c.args.rows.items) (AllByRecursion (HalvesFit k) c.args.rows.items) (HalvesFit k c.in-Some.row)
    c.in_err-push_halved.field-0.0
    (all_middle (HalvesFit k) c.loop-row.yielded c.in-Some.row c.next.new.self.rest.items c.args.rows.items
    (ap (λ (xs : List DerivedRow). c.loop-row.yielded ++ xs) (sym c.in-Some.ensures.steps.0) ∙ c.loop-row.invariant.all))
    c.in_err-push_halved.ensures c.from_residual-in_err-push_halved.ensures.1
