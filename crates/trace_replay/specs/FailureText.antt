-- The text of a failure, a line each: `unsafe`, `rounds N`, `assertion I line L`, `steps N`, `values M` and M values.
use Rattle.std.specs.Prelude.{ℕ, ◌^◌, ◌<◌, ℤ, List, [], ◌∷◌, ◌++◌, map, length, codes}
use Rattle.std.specs.List.{AllByRecursion, concat}
use Rattle.std.specs.Fmt.{decimal, signed_decimal}
use Rattle.math_facts.specs.Fits.{Fits}
use Rattle.boogie_run.specs.declared.types.Choice.{Choice}
use Rattle.trace_replay.specs.declared.failure.Failure.{Failure}

-- a failure: rounds, the number and the line of its assertion, and the steps and choices of its run
pub record PlainFailure : Type 0 where
  pub rounds : ℕ
  pub assertion : ℕ
  pub line : ℕ
  pub steps : ℕ
  pub choices : List ℤ

-- its numbers have the 64 or 32 bits of their lines, and its choices fit
pub record IsInBounds (f : PlainFailure) : Type 0 where
  pub rounds : f.rounds < 2 ^ 64
  pub assertion : f.assertion < 2 ^ 32
  pub line : f.line < 2 ^ 32
  pub steps : f.steps < 2 ^ 64
  pub values : length f.choices < 2 ^ 64
  pub choices : AllByRecursion Fits f.choices

-- a word and a number
abbrev pub numbered_line : List ℕ → ℕ → List ℕ
numbered_line word n = word ++ (decimal n ++ 10 ∷ [])

abbrev pub assertion_line : ℕ → ℕ → List ℕ
assertion_line number line = codes "assertion " ++ (decimal number ++ (codes " line " ++ (decimal line ++ 10 ∷ [])))

-- a whole number, with a minus in front where it is negative
abbrev pub value_line : ℤ → List ℕ
value_line z = signed_decimal z ++ 10 ∷ []

abbrev pub failure_lines : PlainFailure → List (List ℕ)
failure_lines f =
    codes "unsafe\n"
    ∷ numbered_line (codes "rounds ") f.rounds
    ∷ assertion_line f.assertion f.line
    ∷ numbered_line (codes "steps ") f.steps
    ∷ numbered_line (codes "values ") (length f.choices)
    ∷ map value_line f.choices

abbrev pub failure_text : PlainFailure → List ℕ
failure_text f = concat (failure_lines f)

-- the numbers of choices
abbrev pub numbers : List Choice → List ℤ
numbers choices = map (λ c. c.0) choices

-- a failure of the program as plain data
abbrev pub plain : Failure → PlainFailure
plain f =
    record {
      rounds = f.rounds;
      assertion = f.id.number;
      line = f.id.line;
      steps = f.trail.steps;
      choices = numbers f.trail.choices.items;
    }
