-- What `unknown` prints is the text of a trace, and the letters of a word are told by their numbers.
use Rattle.std.specs.Prelude.{◌≡◌, ℕ, List, map, Some, IsSome}
use Rattle.std.specs.List.{AllByRecursion}
use Rattle.nwa_base.specs.declared.letters.Letter.{Letter}
use Rattle.letter_acts.specs.Acts.{act_of}
use Rattle.letter_acts.specs.Invariant.{Graph, alphabet_of}
use Rattle.race_core.specs.declared.ends.Cause.{Cause}
use Rattle.race_verdicts.specs.Texts.{unknown_text}
use Rattle.explain_top.specs.TraceStory.TraceText.{PlainTrace, trace_text}
use Rattle.explain_top.specs.TraceStory.TraceStory.{letters_of}

abbrev pub numbers_of : List Letter → List ℕ
numbers_of w = map (λ a. a.id) w

-- the trace of a word of which nothing is known
abbrev pub trace_of : Cause → ℕ → List Letter → PlainTrace
trace_of cause rounds w = record { cause = cause; rounds = rounds; letters = numbers_of w }

abbrev pub UnknownTextsAreTraces : Type 0
UnknownTextsAreTraces = (cause : Cause) (rounds : ℕ) (w : List Letter) → unknown_text cause rounds w ≡ trace_text (trace_of cause rounds w)

-- each letter has an act in the graph
abbrev pub AreLettersOf : Graph → List Letter → Type 0
AreLettersOf g w = AllByRecursion (λ a. IsSome (act_of (alphabet_of g) a)) w

abbrev pub LettersAreTheirNumbers : Type 0
LettersAreTheirNumbers = (g : Graph) (w : List Letter) → AreLettersOf g w → letters_of g (numbers_of w) ≡ Some w
