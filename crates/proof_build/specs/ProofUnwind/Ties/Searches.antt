-- What contracts see of a search.
use Rattle.std.specs.Prelude.{ℕ, List, nat_eq}
use Rattle.std.specs.HashMap.{get}
use Rattle.nwa_base.specs.Groups.{grouped}
use Rattle.proof_build.specs.declared.proof_unwind.exits.Exits.{Exits}
use Rattle.proof_build.specs.declared.proof_unwind.search.Search.{Search}
use Rattle.proof_build.specs.ProofUnwind.Exploring.{Stage}
use Rattle.proof_build.specs.ProofUnwind.Spots.{nodes_of}

-- the nodes and steps that were found
abbrev pub stage_of : Search → Stage
stage_of s = record { nodes = nodes_of s.spots.items; steps = s.steps }

-- the exits of an entry node
abbrev pub exits_of : Exits → ℕ → List ℕ
exits_of x k = grouped (get nat_eq x.by_entry.by_key k)
