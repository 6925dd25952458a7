use Rattle.std.proofs.Common.{List, ℕ, ◌++◌, ap, ◌∙◌}
use Rattle.nwa_base.specs.Edges.{back_ends}
use Rattle.proof_build.proofs.ProofUnwind.ListedEnds.{ends_next, ends_all}
use Rattle.proof_build.proofs.proof_unwind.following.exit_ends.Goals as goal

pub loop-caller-preserved : goal.loop-caller-preserved
loop-caller-preserved c =
    ends_next (λ p. back_ends c.args.exit p c.args.letter c.args.union.now.backs) c.loop-caller.targets.items c.extend_from_slice.new.self.items c.args.callers.now c.loop-caller.caller-index 0
    c.loop-caller-test.true c.loop-caller.invariant (c.in_ok-extend_from_slice.ensures.items ∙ ap (λ (xs : List ℕ). c.loop-caller.targets.items ++ xs) c.back_ends.ensures)

pub returns : goal.returns
returns c =
    ends_all (λ p. back_ends c.args.exit p c.args.letter c.args.union.now.backs) c.loop-caller.targets.items c.args.callers.now c.loop-caller.caller-index c.loop-caller-test.false c.loop-caller.invariant
