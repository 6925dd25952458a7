use Rattle.std.proofs.Common.{◌≡◌, ◌≤◌, min, map, length, sym, subst, arith}
use Rattle.boogie_tree.specs.View as tree
use Rattle.explained_proof.specs.RowExpressions.Cases as spec
use Rattle.explained_proof.specs.RowExpressions.Views as view
use Rattle.explained_proof.proofs.RowExpressions.CaseLaws.{conditions_end}
use Rattle.explained_proof.proofs.RowExpressions.Gathering.{Gathers, gather_ends}
use Rattle.explained_proof.proofs.row_expressions.cases.conditions.Goals as goal

pub returns : goal.returns
returns c =
    let s = view.scope c.args.scope.now in
    let ts = c.args.truths.now in
    let cs = c.args.case.now in
    let m : c.min-place-end.result ≡ min (length ts) (length cs) = c.min-place-end.ensures in
    let k : c.min-place-end.result ≤ c.loop-place.place = c.loop-place-test.false in
    sym (gather_ends (spec.conditions s ts cs) (map tree.expression c.loop-place.said.items)
    (subst (λ r. Gathers (spec.conditions s ts cs) (map tree.expression c.loop-place.said.items) r) (conditions_end s ts cs c.loop-place.place (omega (arith, m, k))) c.loop-place.invariant))
