use Rattle.std.proofs.Common.{List, ℕ, ◌++◌, cond, ap, ◌∙◌}
use Rattle.nwa_base.specs.Edges.{ends}
use Rattle.proof_build.proofs.ProofUnwind.ListedEnds.{ends_next, ends_all}
use Rattle.proof_build.proofs.proof_unwind.following.letter_ends.Goals as goal

pub loop-source-preserved : goal.loop-source-preserved
loop-source-preserved c =
    ends_next (λ q. ends q c.args.letter (cond c.args.is_call c.args.union.now.calls c.args.union.now.insides)) c.loop-source.targets.items c.extend_from_slice.new.self.items c.args.sources.now
    c.loop-source.source-index 0 c.loop-source-test.true c.loop-source.invariant (c.in_ok-extend_from_slice.ensures.items ∙ ap (λ (xs : List ℕ). c.loop-source.targets.items ++ xs) c.ends_from.ensures)

pub returns : goal.returns
returns c =
    ends_all (λ q. ends q c.args.letter (cond c.args.is_call c.args.union.now.calls c.args.union.now.insides)) c.loop-source.targets.items c.args.sources.now c.loop-source.source-index
    c.loop-source-test.false c.loop-source.invariant
