-- The pieces and the counts as the code keeps them.
use Rattle.std.specs.Prelude.{ℕ, List, map, reverse}
use Rattle.proof_form.specs.declared.trees.Piece.{Piece}
use Rattle.proof_form.specs.declared.trees.Piece.TheVariants.{Opens, Closes}
use Rattle.proof_form.specs.TreeReading.{Part, opens, closes, Built}

abbrev pub part : {C X : Type 0} → (C → X) → Piece C → Part X
part view (Opens n) = opens (view n)
part view Closes = closes

-- the counts and the nodes, the newest last
abbrev pub built : {C X : Type 0} → (C → X) → List ℕ → List C → Built X
built view counts nodes = (reverse counts, map view (reverse nodes))
