-- The first line that cannot stand where it stands.
use Rattle.std.specs.Prelude.{◌≡◌, ℕ, ◌<◌, List, take}
use Rattle.outer_io.specs.Lines.{lines_of}
use Rattle.trace_replay.specs.FailureText.{PlainFailure, IsInBounds, failure_lines}
use Rattle.trace_replay.specs.declared.failure.FailureFault.{FailureFault}
use Rattle.trace_replay.specs.declared.failure.FailureFault.TheVariants.{Syntax, Memory}

-- The text begins with the first n lines of some failure's text; n lines of a text that has fewer are all of it.
abbrev pub BeginsAsFailure : ℕ → List ℕ → Type 0
BeginsAsFailure n text = (f : PlainFailure) × IsInBounds f × (take n (lines_of text) ≡ take n (failure_lines f))

-- This line cannot stand there, while those before it can: the text begins as some failure's with fewer lines, and with
-- this one as none. Where the text ends too early, it is the line that is missing.
pub record IsFirstFault (text : List ℕ) (line : ℕ) : Type 0 where
  pub before : (n : ℕ) → n < line → BeginsAsFailure n text
  pub here : BeginsAsFailure line text → ⊥

-- that of a fault
abbrev pub IsFaultOf : List ℕ → FailureFault → Type 0
IsFaultOf text (Syntax line) = IsFirstFault text line
IsFaultOf text Memory = Unit {0}
