use Rattle.std.proofs.Common.{◌≡◌, List, ◌++◌, ◌∷◌, [], take, get_or, ◌+◌, sym, subst, arith}
use Rattle.std.specs.List.{AllByRecursion}
use Rattle.std.proofs.lemmas.List.{take_more}
use Rattle.lin_rows.specs.Rows.{LinearRow, IsRow}
use Rattle.lin_rows.specs.Tightening.{tightened}
use Rattle.fm_elim.proofs.Lists.{all_append}
use Rattle.fm_elim.proofs.Inputs.{inputs_more}
use Rattle.fm_elim.proofs.derivations.inputs.Goals as goal

pub loop-given-preserved : goal.loop-given-preserved
loop-given-preserved c =
    let h = inputs_more c.args.rows.now c.loop-given.given-index c.given-item.result c.loop-given-test.true in
    let i = c.loop-given.given-index in
    let r = c.given-item.result in
    let e : get_or c.args.rows.now i r ≡ r = cc in
    let t : take (i + 1) c.args.rows.now ≡ take i c.args.rows.now ++ r ∷ [] = subst (λ (q : LinearRow). take (i + 1) c.args.rows.now ≡ take i c.args.rows.now ++ q ∷ []) e (take_more c.args.rows.now i r c.loop-given-test.true) in
    record {
      number = omega arith;
      value = cc (c.in_ok-input.ensures.value.1, c.in_ok-push.ensures.items);
      valid = subst (λ (xs : List LinearRow). AllByRecursion (λ q. IsRow (tightened q)) xs) (sym t)
          (all_append (λ q. IsRow (tightened q)) (take i c.args.rows.now) (r ∷ []) c.loop-given.invariant.valid (c.in_ok-input.ensures.valid, tt));
    }
