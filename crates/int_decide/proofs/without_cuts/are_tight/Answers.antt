use Rattle.std.proofs.Common.{◌≡◌, ◌∙◌, ◌+◌, ◌<◌, ℕ, List, [], ◌∷◌, ◌++◌, length, map, take, get_or, ap, sym, subst}
use Rattle.std.specs.List.{AllByRecursion}
use Rattle.std.proofs.lemmas.List.{map_more, take_more, take_all}
use Rattle.lin_rows.specs.Rows.{LinearRow, IsRow}
use Rattle.lin_rows.specs.Tightening.{tightened}
use Rattle.fm_elim.proofs.Lists.{all_append}
use Rattle.int_decide.proofs.without_cuts.are_tight.Goals as goal

-- one row more is its own tightened row
same_next : (rows : List LinearRow) (i : ℕ) (r : LinearRow) → i < length rows → r ≡ get_or rows i r → tightened r ≡ r →
    map tightened (take i rows) ≡ take i rows → map tightened (take (i + 1) rows) ≡ take (i + 1) rows
same_next rows i r l e t h =
    map_more tightened rows i r l ∙ ap (λ (xs : List LinearRow). xs ++ tightened (get_or rows i r) ∷ []) h ∙
    ap (λ (x : LinearRow). take i rows ++ x ∷ []) (ap tightened (sym e) ∙ t ∙ e) ∙ sym (take_more rows i r l)

pub loop-row-preserved : goal.loop-row-preserved
loop-row-preserved c =
    let rows = c.args.rows.now in
    let i = c.loop-row.row-index in
    let r = c.row-item.result in
    record {
      same = same_next rows i r c.loop-row-test.true c.row-item.is (c.is_tight.ensures.same c.if-not-is_tight.false) c.loop-row.invariant.same;
      valid = subst (AllByRecursion IsRow) (sym (take_more rows i r c.loop-row-test.true))
          (all_append IsRow (take i rows) (get_or rows i r ∷ []) c.loop-row.invariant.valid (subst IsRow c.row-item.is c.is_tight.ensures.valid, tt));
    }

pub returns-clause-same : goal.returns-clause-same
returns-clause-same c = λ t. subst (λ (xs : List LinearRow). map tightened xs ≡ xs) (take_all c.loop-row.row-index c.args.rows.now c.loop-row-test.false) c.loop-row.invariant.same

pub returns-clause-valid : goal.returns-clause-valid
returns-clause-valid c = λ t. subst (AllByRecursion IsRow) (take_all c.loop-row.row-index c.args.rows.now c.loop-row-test.false) c.loop-row.invariant.valid
