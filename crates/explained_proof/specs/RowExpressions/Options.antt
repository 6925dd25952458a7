-- Values that may be missing.
use Rattle.std.specs.Prelude.{Bool, false, List, ◌∷◌, Option, None, Some}

-- a value in front of others, if all are there
abbrev pub in_front : {X : Type 0} → Option X → Option (List X) → Option (List X)
in_front None os = None
in_front (Some x) None = None
in_front (Some x) (Some xs) = Some (x ∷ xs)

-- a value is there, and passes
abbrev pub passes : {X : Type 0} → (X → Bool) → Option X → Bool
passes test None = false
passes test (Some x) = test x
