use Rattle.std.proofs.Common.{◌∙◌, sym, arith}
use Rattle.std.proofs.lemmas.Bool.Decides.{nat_tests}
use Rattle.boogie_run.proofs.BoogiePoints.StackLaws.{standing_exit, standing_body}
use Rattle.boogie_run.proofs.boogie_points.points.settle.Goals as goal

pub returns-then-is_empty : goal.returns-then-is_empty
returns-then-is_empty c = sym (c.settle.ensures ∙ standing_exit _ (grind (arith, nat_tests, c.is_empty.ensures, c.if-is_empty.true)))

pub returns-else-is_empty : goal.returns-else-is_empty
returns-else-is_empty c = sym (c.settle.ensures ∙ standing_body _ (λ e. grind (arith, nat_tests, c.is_empty.ensures, c.if-is_empty.false)))
