-- Guesses: choices that nobody told of a word, and with which a run fails.
use Rattle.std.specs.Prelude.{ℕ, ℤ, List}
use Rattle.typed_tree.specs.TypedTree.{TypedProgram}
use Rattle.trace_replay.specs.Tried.{TriedFails}

-- The run that takes these choices, in order, fails assertion i with its step of that number, counted from 1, and no choice is left then; each value on the way
-- fits.
abbrev pub FailsWith : TypedProgram → ℕ → List ℤ → ℕ → Type 0
FailsWith t steps choices i = TriedFails t steps choices steps choices i

-- It fails some assertion so.
abbrev pub IsGuessed : TypedProgram → ℕ → List ℤ → Type 0
IsGuessed t steps choices = (i : ℕ) × FailsWith t steps choices i
