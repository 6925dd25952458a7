use Rattle.std.proofs.Common.{◌≡◌, cond, take}
use Rattle.std.specs.List.{flat_map}
use Rattle.nwa_base.specs.Edges.{ends}
use Rattle.proof_build.proofs.proof_unwind.following.letter_ends.Given as goal

abbrev pub invariant-loop-source : goal.invariant-loop-source
invariant-loop-source l = l.targets.items ≡ flat_map (λ q. ends q l.letter (cond l.is_call l.union.calls l.union.insides)) (take l.source-index l.sources)
