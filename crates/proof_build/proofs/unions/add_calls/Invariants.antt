use Rattle.std.proofs.Common.{◌≡◌, ◌++◌, take}
use Rattle.std.specs.List.{filter_map}
use Rattle.proof_build.specs.Numbering.{number_at}
use Rattle.proof_build.specs.Ties.Unions.{numbered}
use Rattle.proof_build.proofs.unions.add_calls.Given as goal

abbrev pub invariant-loop-edge : goal.invariant-loop-edge
invariant-loop-edge l = l.union ≡ record l.initial.union { calls = l.initial.union.calls ++ filter_map (numbered (number_at l.numbers)) (take l.edge-index l.edges) }
