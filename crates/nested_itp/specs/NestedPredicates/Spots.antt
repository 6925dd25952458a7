-- The frames at positions, as the code keeps them.
use Rattle.std.specs.Prelude.{ℕ, Bool, List, [], ◌∷◌, if◌then◌else◌}
use Rattle.nwa_base.specs.declared.letters.Kind.{Kind}
use Rattle.nwa_base.specs.declared.letters.Kind.TheVariants.{Inside, Call, Back}
use Rattle.nested_itp.specs.declared.nested_predicates.spots.Spot.{Spot}
use Rattle.nested_itp.specs.NestedPredicates.Stamps.{stamp_of}
use Rattle.nested_itp.specs.NestedPredicates.Positions.{CallScope, Position}

-- of an open frame
abbrev pub spot_of : CallScope → Spot
spot_of s = record { proc = s.proc; own = s.own }

abbrev pub spot_at : Position → Spot
spot_at q = spot_of q.scope

-- of the innermost of open frames
abbrev pub innermost_spot : List Spot → Spot
innermost_spot [] = record { proc = 0; own = 0 }
innermost_spot (s ∷ spots) = s

abbrev pub without_first : List Spot → List Spot
without_first [] = []
without_first (s ∷ spots) = spots

-- the open frames after letter n, of this kind, which enters the callee if it is a call
abbrev pub spots_after : ℕ → Kind → ℕ → Bool → List Spot → List Spot
spots_after n Inside callee returns spots = spots
spots_after n Call callee returns spots = record { proc = callee; own = if returns then stamp_of n else 0 } ∷ spots
spots_after n Back callee returns spots = without_first spots
