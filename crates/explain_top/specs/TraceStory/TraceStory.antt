-- The story of a trace: a line for each place from which a letter of it leads, along a run of the automaton to a failure, and what to do.
use Rattle.std.specs.Prelude.{◌≡◌, ℕ, zero, suc, Bool, List, [], ◌∷◌, ◌++◌, Option, None, Some, slice_get, codes}
use Rattle.std.specs.List.{concat}
use Rattle.std.specs.Option.{option_map, option_and_then}
use Rattle.boogie_tree.specs.Tree.{Declaration}
use Rattle.typed_tree.specs.TypedTree.{TypedProgram}
use Rattle.boogie_run.specs.BoogiePlaces.Places.{Place, program_places}
use Rattle.boogie_run.specs.BoogiePoints.Sites.{span_at}
use Rattle.nwa_base.specs.declared.letters.Kind.{Kind}
use Rattle.nwa_base.specs.declared.letters.Kind.TheVariants.{Inside, Call, Back}
use Rattle.nwa_base.specs.declared.letters.Letter.{Letter}
use Rattle.nwa_base.specs.Runs.{IsAcceptingRun}
use Rattle.letter_acts.specs.Acts.{letter_of}
use Rattle.letter_acts.specs.Invariant.{Graph}
use Rattle.race_core.specs.declared.ends.Cause.{Cause}
use Rattle.race_core.specs.declared.ends.Cause.TheVariants as causes
use Rattle.explain_top.specs.RunStory.Items.{Item}
use Rattle.explain_top.specs.RunStory.Sites.{site_at}
use Rattle.explain_top.specs.RunStory.Texts.{told_line, shortened}
use Rattle.explain_top.specs.TraceStory.TraceText.{PlainTrace}
use Rattle.explain_top.specs.declared.trace_story.traces.ToldFault.{ToldFault}
use Rattle.explain_top.specs.declared.trace_story.traces.ToldFault.TheVariants.{BadName, BadStep, Memory}

-- the letters with these numbers, where each exists
abbrev pub letters_of : Graph → List ℕ → Option (List Letter)
letters_of g [] = Some []
letters_of g (n ∷ ns) = option_and_then (λ act. option_map (λ w. letter_of n act ∷ w) (letters_of g ns)) (slice_get g.acts n)

-- how many calls are open behind a letter, where so many are before it
abbrev pub open_behind : Kind → ℕ → ℕ
open_behind Inside n = n
open_behind Call n = suc n
open_behind Back zero = zero
open_behind Back (suc n) = n

abbrev pub place_item : TypedProgram → List Declaration → Option Place → Option Item
place_item t ds p = option_map (λ x. site_at ds x.proc (span_at t x.proc x.point)) p

-- The item at a place. At the start stands none, and at the place of a failure neither.
abbrev pub item_of : TypedProgram → List Declaration → ℕ → Option Item
item_of t ds zero = None
item_of t ds (suc n) = place_item t ds (slice_get (program_places t) n)

abbrev pub line_of : Option Item → ℕ → List (List ℕ) → List (List ℕ)
line_of None calls notes = []
line_of (Some i) calls notes = told_line i calls notes ∷ []

-- the last letter leads to a failure
abbrev pub fails : List Letter → List (List ℕ)
fails [] = codes "fails" ∷ []
fails (a ∷ w) = []

-- a line for each letter of a word, by the places of a run over it, with so many open calls
abbrev pub letter_lines : TypedProgram → List Declaration → List ℕ → List Letter → ℕ → List (List ℕ)
letter_lines t ds (q ∷ qs) (a ∷ w) calls = line_of (item_of t ds q) calls (fails w) ++ letter_lines t ds qs w (open_behind a.kind calls)
letter_lines t ds qs w calls = []

-- what to do about a cause
abbrev pub advice : Cause → List ℕ
advice causes.Rounds = codes "unknown rounds: give more rounds, or say by an invariant, an assert or an ensures what keeps this trace from its failure\n"
advice causes.Whole = codes "unknown whole: give more depth, or say by an assume or an assert what holds of the whole numbers here\n"
advice causes.Number = codes "unknown number: make the numbers of the program smaller, or cut a long chain of assignments by an assert\n"
advice causes.Product = codes "unknown product: say by an assume what is needed of the product, or put a literal in the place of a factor\n"

-- The text is the story of the trace: its letters exist, and lead to a failure along these places; of several runs over them any may be told.
pub record IsTraceStory (t : TypedProgram) (ds : List Declaration) (g : Graph) (all : Bool) (u : PlainTrace) (text : List ℕ) : Type 0 where
  pub word : List Letter
  pub letters : letters_of g u.letters ≡ Some word
  pub places : List ℕ
  pub run : IsAcceptingRun g.automaton word places
  pub is : text ≡ concat (shortened all (letter_lines t ds places word 0)) ++ advice u.cause

-- Why a trace is not told: one of its letters does not exist, or they lead to no failure.
abbrev pub IsToldFault : Graph → List ℕ → ToldFault → Type 0
IsToldFault g ns BadName = letters_of g ns ≡ None
IsToldFault g ns BadStep = (w : List Letter) × (letters_of g ns ≡ Some w) × (((places : List ℕ) × IsAcceptingRun g.automaton w places) → ⊥)
IsToldFault g ns Memory = Unit {0}
