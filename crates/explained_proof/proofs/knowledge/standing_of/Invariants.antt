use Rattle.std.proofs.Common.{◌≡◌, ◌++◌, ℕ, map, drop}
use Rattle.std.specs.HashMap.{get}
use Rattle.nwa_base.specs.Groups.{grouped}
use Rattle.proof_names.specs.Outlines.{node}
use Rattle.explained_proof.specs.Known as spec
use Rattle.explained_proof.specs.Ties.Views as view
use Rattle.explained_proof.proofs.knowledge.standing_of.Given as goal

abbrev pub invariant-loop-number : goal.invariant-loop-number
invariant-loop-number l =
    (place entry : ℕ) → grouped (get view.same_pair l.groups.by_key (place, entry)) ++ spec.nodes_from l.number (spec.is_standing_at place entry) (map node (drop l.number l.nodes)) ≡
    spec.nodes_from 0 (spec.is_standing_at place entry) (map node l.nodes)
