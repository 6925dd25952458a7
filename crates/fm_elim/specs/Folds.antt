-- Lists: the first member that passes, and the numbers of a computation that goes over a list.
use Rattle.std.specs.Prelude.{Bool, true, false, List, [], ◌∷◌, Option, None, Some, if◌then◌else◌}

-- the first member that passes
abbrev pub first : {X : Type 0} → (X → Bool) → List X → Option X
first p [] = None
first p (x ∷ xs) = if p x then Some x else first p xs

-- the members without the first that passes
abbrev pub others : {X : Type 0} → (X → Bool) → List X → List X
others p [] = []
others p (x ∷ xs) = if p x then xs else x ∷ others p xs

-- the fact, where the test gives true
abbrev pub Where : Bool → Type 0 → Type 0
Where true P = P
Where false P = Unit {0}

-- the numbers of each step of a fold fit
abbrev pub FoldFits : {A B : Type 0} → (B → A → B) → (B → A → Type 0) → B → List A → Type 0
FoldFits step StepFits b [] = Unit {0}
FoldFits step StepFits b (x ∷ xs) = StepFits b x × FoldFits step StepFits (step b x) xs
