use Rattle.proof_names.specs.Naming.{NamesStep}
use Rattle.proof_names.specs.Outlines.{named_place}
use Rattle.proof_names.proofs.PairLaws.{SoFar}
use Rattle.proof_names.proofs.naming.steps_named.Given as goal

abbrev pub invariant-loop-k : goal.invariant-loop-k
invariant-loop-k l = SoFar (λ k line t. NamesStep l.icfg (named_place l.nodes) line t) l.lines l.k l.steps.items
