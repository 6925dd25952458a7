use Rattle.std.proofs.Common.{◌≡◌, ◌++◌, ℕ, map, drop, nat_eq}
use Rattle.std.specs.HashMap.{get}
use Rattle.nwa_base.specs.Groups.{grouped}
use Rattle.proof_names.specs.Outlines.{node}
use Rattle.explained_proof.specs.Known as spec
use Rattle.explained_proof.proofs.knowledge.entered_of.Given as goal

abbrev pub invariant-loop-number : goal.invariant-loop-number
invariant-loop-number l =
    (place : ℕ) → grouped (get nat_eq l.groups.by_key place) ++ spec.nodes_from l.number (spec.is_entered_at place) (map node (drop l.number l.nodes)) ≡
    spec.nodes_from 0 (spec.is_entered_at place) (map node l.nodes)
