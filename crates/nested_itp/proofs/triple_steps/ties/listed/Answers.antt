use Rattle.std.proofs.Common.{◌∙◌, Bool, true, cond, get_or, sym, ap}
use Rattle.std.specs.Prelude.{nat_eq}
use Rattle.nested_itp.proofs.TripleSteps.ColumnLaws.{listed_next}
use Rattle.nested_itp.proofs.triple_steps.ties.listed.Goals as goal

pub loop-i-preserved : goal.loop-i-preserved
loop-i-preserved c =
    λ x.
    c.in_ok-insert.ensures.updates.0 x ∙ ap (λ (b : Bool). cond (nat_eq (get_or c.args.targets.now c.loop-i.i 0) x) true b) (c.loop-i.invariant x) ∙
    sym (listed_next c.args.targets.now c.loop-i.i x c.loop-i-test.true)
