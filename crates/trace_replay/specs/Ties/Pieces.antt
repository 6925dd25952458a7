-- Reading a text from the front.
use Rattle.std.specs.Prelude.{◌≡◌, ◌≢◌, ℕ, ◌+◌, ◌^◌, ◌<◌, ℤ, pos, negsuc, Bool, true, false, not, ◌⊎◌, nat_eq, List, [], ◌∷◌, ◌++◌, map, length, codes, Option, None, Some, Result, Ok, Err, Vec}
use Rattle.std.specs.List.{AllByRecursion, concat}
use Rattle.std.specs.Borrow.{Bor}
use Rattle.std.specs.declared.alloc.Global.{Global}
use Rattle.boogie_run.specs.declared.types.Choice.{Choice}
use Rattle.trace_replay.specs.declared.failure.FailureFault.{FailureFault}
use Rattle.trace_replay.specs.declared.failure.FailureFault.TheVariants.{Syntax, Memory}
use Rattle.trace_replay.specs.declared.reading.Head.{Head}
use Rattle.math_facts.specs.Fits.{Fits}
use Rattle.trace_replay.specs.FailureText.{numbered_line, assertion_line, value_line, numbers}

-- One of these pieces was read, and what stands after it; or none stands at the front.
abbrev pub Reads : {A : Type 0} → (A → Type 0) → (A → List ℕ) → List ℕ → Option (A × Bor (List ℕ)) → Type 0
Reads {A} P spelled bytes None = (x : A) (rest : List ℕ) → P x → bytes ≢ spelled x ++ rest
Reads P spelled bytes (Some found) = P found.0 × (bytes ≡ spelled found.0 ++ found.1.now)

-- no zero in front, and at least one digit
abbrev pub has_one_spelling : List ℕ → Bool
has_one_spelling [] = false
has_one_spelling (d ∷ []) = true
has_one_spelling (d ∷ e ∷ ds) = not (nat_eq d 48)

abbrev pub IsBelowZero : ℤ → Type 0
IsBelowZero (pos n) = ⊥
IsBelowZero (negsuc n) = Unit {0}

-- the lines before the values
abbrev pub head_lines : Head → List (List ℕ)
head_lines h =
    codes "unsafe\n"
    ∷ numbered_line (codes "rounds ") h.rounds
    ∷ assertion_line h.id.number h.id.line
    ∷ numbered_line (codes "steps ") h.steps
    ∷ numbered_line (codes "values ") h.values
    ∷ []

-- the numbers in them have the bits of their lines
pub record IsHead (h : Head) : Type 0 where
  pub rounds : h.rounds < 2 ^ 64
  pub number : h.id.number < 2 ^ 32
  pub line : h.id.line < 2 ^ 32
  pub steps : h.steps < 2 ^ 64
  pub values : h.values < 2 ^ 64

-- The values end at this line, the first of them being on line 6: none stands there, though one is wanted; or enough
-- were read, and the text goes on.
pub record ValuesEnd (count : ℕ) (text : List ℕ) (line : ℕ) : Type 0 where
  pub read : List ℤ
  pub rest : List ℕ
  pub fit : AllByRecursion Fits read
  pub spelled : text ≡ concat (map value_line read) ++ rest
  pub line_is : line ≡ length read + 6
  pub end : ((length read < count) × ((z : ℤ) (more : List ℕ) → Fits z → rest ≢ value_line z ++ more)) ⊎ ((length read ≡ count) × (rest ≢ []))

-- This many values are the whole text, or they end at a line.
abbrev pub ReadsValues : ℕ → List ℕ → Result (Vec Choice Global) FailureFault → Type 0
ReadsValues count text (Ok choices) =
    (length choices.items ≡ count) × AllByRecursion Fits (numbers choices.items) × (text ≡ concat (map value_line (numbers choices.items)))
ReadsValues count text (Err (Syntax line)) = ValuesEnd count text line
ReadsValues count text (Err Memory) = Unit {0}
