use Rattle.std.proofs.Common.{ℕ, ℤ, Option, map, subst}
use Rattle.std.specs.declared.vec.Vec.{Vec}
use Rattle.std.specs.declared.alloc.Global.{Global}
use Rattle.fm_elim.specs.Answers.{aside_of}
use Rattle.fm_elim.specs.Ties.Climb.{IsBottom, bottom_of}
use Rattle.fm_elim.proofs.Outcomes.{refuted_found}
use Rattle.fm_elim.proofs.solving.solve.Goals as goal

pub returns-in-Some : goal.returns-in-Some
returns-in-Some c =
    let n = c.args.columns in
    let rows = c.args.rows.items in
    let asides = map aside_of c.in_ok-asides.field-0.asides.items in
    refuted_found n rows asides c.in-Some.parts.items
    (subst (λ (o : Option (Vec (ℕ × ℤ) Global)). IsBottom n rows asides (bottom_of o)) c.in-Some.is c.in_ok-asides.ensures)
