use Rattle.std.proofs.Common.{◌∙◌, sym, ap, refl}
use Rattle.std.specs.List.{position_from}
use Rattle.boogie_types.specs.Naming.{is_before_loop}
use Rattle.boogie_types.specs.Ties.Places.{loops_by}
use Rattle.boogie_types.proofs.statements.leaving.Goals as goal

pub returns-in-None-2-clause-fault : goal.returns-in-None-2-clause-fault
returns-in-None-2-clause-fault c =
    rw c.in-Some.is
    (ap (λ t. position_from (is_before_loop t) 0 (loops_by c.args.loops.now)) (sym c.bytes.ensures) ∙ sym c.in_ok-level-in-Some.ensures.ok ∙ c.in-None-2.is, refl)
