use Rattle.std.proofs.Common.{FitsSigned, rules, sym, subst}
use Rattle.std.specs.Prelude.{IsTrue}
use Rattle.std.specs.Int.{w128}
use Rattle.std.proofs.lemmas.Int.{to_z-of_z}
use Rattle.std.proofs.lemmas.Bool.{false≢true}
use Rattle.lin_rows.specs.Points.{HasSum}
use Rattle.lin_rows.proofs.PointLemmas.{seen_by}
use Rattle.lin_rows.proofs.points.is_seen_to_hold.Goals as goal

pub returns-in-Some : goal.returns-in-Some
returns-in-Some c =
    let f : FitsSigned w128 c.in-Some.sum = search rules in
    let g : FitsSigned w128 c.bound.result = search rules in
    seen_by c.args.point.now c.args.row.now c.terms.result.now c.kind.result c.in-Some.sum c.bound.result (IsTrue c.stands.result)
    c.terms.ensures.value c.kind.ensures c.bound.ensures c.in-Some.ensures (simp to_z-of_z at c.stands.ensures)

pub returns-in-None : goal.returns-in-None
returns-in-None c = (
  λ t. absurd (false≢true t),
  λ k. absurd (c.in-None.ensures (subst (HasSum c.args.point.now) (sym c.terms.ensures.value) k.sum)),
)
