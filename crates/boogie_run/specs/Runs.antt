-- Runs of the machine: one step after another, each with the choice that it takes.
use Rattle.std.specs.Prelude.{◌≡◌, ℕ, ℤ, List, [], ◌∷◌, Option}
use Rattle.typed_tree.specs.TypedTree.{TypedProgram}
use Rattle.boogie_run.specs.Configurations.{Config}
use Rattle.boogie_run.specs.Steps.{Outcome, Went, Failed, start, step}

abbrev pub then_goes_on : Outcome → (Config → Outcome) → Outcome
then_goes_on (Went c) rest = rest c
then_goes_on o rest = o

-- where the run leads that takes these choices, one a step
abbrev pub run : TypedProgram → Config → List (Option ℤ) → Outcome
run t c [] = Went c
run t c (choice ∷ choices) = then_goes_on (step t c choice) (λ d. run t d choices)

-- some choices lead to the failure of the assertion of that number
abbrev pub ChoicesFail : TypedProgram → ℕ → Type 0
ChoicesFail t i = (choices : List (Option ℤ)) × (run t (start t) choices ≡ Failed i)

-- no choices, however many, lead to the failure of an assertion
abbrev pub NoChoicesFail : TypedProgram → Type 0
NoChoicesFail t = (i : ℕ) → ChoicesFail t i → ⊥
