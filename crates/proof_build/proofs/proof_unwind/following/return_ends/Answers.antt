use Rattle.std.proofs.Common.{List, ℕ, ◌++◌, ap, ◌∙◌}
use Rattle.std.specs.List.{flat_map}
use Rattle.nwa_base.specs.Edges.{back_ends}
use Rattle.proof_build.proofs.ProofUnwind.ListedEnds.{ends_next, ends_all}
use Rattle.proof_build.proofs.proof_unwind.following.return_ends.Goals as goal

pub loop-exit-preserved : goal.loop-exit-preserved
loop-exit-preserved c =
    ends_next (λ q. flat_map (λ p. back_ends q p c.args.letter c.args.union.now.backs) c.args.callers.now) c.loop-exit.targets.items c.extend_from_slice.new.self.items c.args.exits.now c.loop-exit.exit-index 0
    c.loop-exit-test.true c.loop-exit.invariant (c.in_ok-extend_from_slice.ensures.items ∙ ap (λ (xs : List ℕ). c.loop-exit.targets.items ++ xs) (c.deref.ensures.value ∙ c.in_ok-ends.ensures))

pub returns : goal.returns
returns c =
    ends_all (λ q. flat_map (λ p. back_ends q p c.args.letter c.args.union.now.backs) c.args.callers.now) c.loop-exit.targets.items c.args.exits.now c.loop-exit.exit-index c.loop-exit-test.false c.loop-exit.invariant
