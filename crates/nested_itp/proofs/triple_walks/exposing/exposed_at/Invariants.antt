use Rattle.std.proofs.Common.{◌≡◌, ℕ, List}
use Rattle.nested_itp.specs.NestedRefutations.Refutations.{Claim, TreeSpot}
use Rattle.nested_itp.specs.TripleWalks.Telling.{Tells}
use Rattle.nested_itp.specs.TripleWalks.Ties.Exposing.{found_of}
use Rattle.nested_itp.proofs.TripleWalks.ExposeLaws.{IsLeftToGive}
use Rattle.nested_itp.proofs.triple_walks.exposing.exposed_at.Given as goal

abbrev pub invariant-loop-i : goal.invariant-loop-i
invariant-loop-i l = (columns : List ℕ) (c : Claim) (s : TreeSpot) → l.fn.node ≡ s.node → Tells columns l.tree s c l.claim → IsLeftToGive columns l.tree c l.claim s l.left.items (found_of l.found)
