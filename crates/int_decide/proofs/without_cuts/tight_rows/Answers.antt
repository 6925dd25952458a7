use Rattle.std.proofs.Common.{◌≡◌, ◌∙◌, ◌+◌, ◌<◌, ℕ, List, [], ◌∷◌, ◌++◌, length, map, take, get_or, ap, sym, subst}
use Rattle.std.specs.List.{AllByRecursion}
use Rattle.std.proofs.lemmas.List.{map_more}
use Rattle.lin_rows.specs.Rows.{LinearRow, IsRow}
use Rattle.lin_rows.specs.Tightening.{tightened}
use Rattle.fm_elim.proofs.Lists.{all_append}
use Rattle.int_decide.proofs.without_cuts.tight_rows.Goals as goal

-- the tight form of one row more
tight_next : (rows : List LinearRow) (i : ℕ) (r t : LinearRow) (old new : List LinearRow) → i < length rows → r ≡ get_or rows i r → t ≡ tightened r →
    old ≡ map tightened (take i rows) → new ≡ old ++ t ∷ [] → new ≡ map tightened (take (i + 1) rows)
tight_next rows i r t old new l e f h p =
    p ∙ ap (λ (xs : List LinearRow). xs ++ t ∷ []) h ∙ ap (λ (x : LinearRow). map tightened (take i rows) ++ x ∷ []) (f ∙ ap tightened e) ∙ sym (map_more tightened rows i r l)

pub loop-row-preserved : goal.loop-row-preserved
loop-row-preserved c = record {
  value = tight_next c.args.rows.now c.loop-row.row-index c.row-item.result c.in_ok-tighten.field-0 c.loop-row.tight.items c.push.new.self.items c.loop-row-test.true
      c.row-item.is c.in_ok-tighten.ensures.value c.loop-row.invariant.value c.in_ok-push.ensures.items;
  valid = subst (AllByRecursion IsRow) (sym c.in_ok-push.ensures.items)
      (all_append IsRow c.loop-row.tight.items (c.in_ok-tighten.field-0 ∷ []) c.loop-row.invariant.valid (c.in_ok-tighten.ensures.valid, tt));
}
