-- What is put into sets, as lists without regard to order.
use Rattle.std.specs.Prelude.{◌≡◌, ◌↔◌, ◌⊎◌, List}
use Rattle.nwa_base.specs.Members.{Member}

-- the set with one more
abbrev pub Inserts : {X : Type 0} → List X → X → List X → Type 0
Inserts {X} old x new = (y : X) → Member new y ↔ (Member old y ⊎ (x ≡ y))

-- the set with all of a list more
abbrev pub InsertsAll : {X : Type 0} → List X → List X → List X → Type 0
InsertsAll {X} old xs new = (y : X) → Member new y ↔ (Member old y ⊎ Member xs y)
