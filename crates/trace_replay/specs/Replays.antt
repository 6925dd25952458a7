-- Replays: the run that takes given choices fails an assertion.
use Rattle.std.specs.Prelude.{◌≡◌, ℕ, ◌≤◌, ℤ, List, [], ◌∷◌, ◌++◌, length, Option, None, Some}
use Rattle.typed_tree.specs.TypedTree.{TypedProgram}
use Rattle.boogie_run.specs.Configurations.{Config}
use Rattle.boogie_run.specs.Steps.{Went, Failed, start, step}
use Rattle.boogie_run.specs.Fitting.{NextFits}
use Rattle.boogie_run.specs.Runs.{run}
use Rattle.boogie_run.specs.StepView.{line_at}
use Rattle.boogie_run.specs.declared.types.AssertId.{AssertId}

-- the choices among what steps take
abbrev pub choices_among : List (Option ℤ) → List ℤ
choices_among [] = []
choices_among (None ∷ taken) = choices_among taken
choices_among (Some z ∷ taken) = z ∷ choices_among taken

-- Each value that the steps from here on read fits.
abbrev pub StepsFit : TypedProgram → Config → List (Option ℤ) → Type 0
StepsFit t c [] = Unit {0}
StepsFit t c (choice ∷ taken) = NextFits t c × ((d : Config) → step t c choice ≡ Went d → StepsFit t d taken)

-- The run of t that takes these choices in order fails assertion i after at most n steps, has used all choices, and each value that it
-- reads on the way fits.
pub record Replays (t : TypedProgram) (n : ℕ) (choices : List ℤ) (i : ℕ) : Type 0 where
  -- what the steps take, one after another: those before the last one, and the last one
  pub taken : List (Option ℤ)
  pub last : Option ℤ
  -- where the last one is made
  pub before : Config
  pub in_time : length (taken ++ last ∷ []) ≤ n
  pub all_used : choices_among (taken ++ last ∷ []) ≡ choices
  pub leads : run t (start t) taken ≡ Went before
  pub fails : step t before last ≡ Failed i
  pub fit : StepsFit t (start t) (taken ++ last ∷ [])

-- The assertion of this number and line fails so.
pub record IsReplayed (t : TypedProgram) (n : ℕ) (choices : List ℤ) (id : AssertId) : Type 0 where
  pub replays : Replays t n choices id.number
  pub line : id.line ≡ line_at t replays.before
