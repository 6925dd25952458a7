-- The choices of a run, told of its positions by a table of the kinds of its places and by the inside edges of its graph.
use Rattle.std.specs.Prelude.{ℕ, suc, ◌+◌, ◌-◌, ℤ, pos, nat_eq, List, [], ◌∷◌, ◌++◌, map, take, drop, length, Option, None, Some, slice_get, if◌then◌else◌}
use Rattle.std.specs.List.{AllByRecursion}
use Rattle.math_facts.specs.Fits.{Fits}
use Rattle.lin_rows.specs.Points.{point_of}
use Rattle.nwa_base.specs.declared.letters.Letter.{Letter}
use Rattle.nwa_base.specs.Edges.{leaving}
use Rattle.typed_tree.specs.TypedTree.{TypedProgram}
use Rattle.lowered_graph.specs.LoweredSteps.Edges.{columns_before_locals}
use Rattle.lowered_graph.specs.LoweredRuns.Choices.{call_choices}
use Rattle.lowered_graph.specs.LoweredChoices.Traces.{TracePosition}
use Rattle.trace_replay.specs.ToldChoices.Kinds.{PlainKind, Silent, Guesses, Picks, Enters, Imports}

-- which of these edges is the first that leads to that state; their number where none does
abbrev pub first_to : ℕ → List (ℕ × Letter × ℕ) → ℕ
first_to q [] = 0
first_to q (e ∷ es) = if nat_eq e.2 q then 0 else suc (first_to q es)

-- the choices of the steps at a place of this kind, from which these inside edges lead, on the way to a position
abbrev pub kind_choices : TypedProgram → List (ℕ × Letter × ℕ) → PlainKind → TracePosition → List (Option ℤ)
kind_choices t edges Silent y = None ∷ []
kind_choices t edges (Guesses c) y = Some (point_of y.values c) ∷ []
kind_choices t edges Picks y = Some (pos (first_to y.place edges)) ∷ []
kind_choices t edges (Enters k) y = None ∷ map Some (drop (columns_before_locals t + k) y.values)
kind_choices t edges (Imports f targets) y = call_choices t.globals (slice_get t.procs f) targets y.helpers y.values

abbrev pub choices_if_any : TypedProgram → List (ℕ × Letter × ℕ) → Option PlainKind → TracePosition → List (Option ℤ)
choices_if_any t edges None y = []
choices_if_any t edges (Some k) y = kind_choices t edges k y

-- those of a letter from this place to a position
abbrev pub letter_choices : TypedProgram → List PlainKind → List (ℕ × Letter × ℕ) → ℕ → TracePosition → List (Option ℤ)
letter_choices t kinds insides q y = choices_if_any t (leaving q insides) (slice_get kinds (q - 1)) y

-- those of all further letters
abbrev pub further_choices : TypedProgram → List PlainKind → List (ℕ × Letter × ℕ) → ℕ → List TracePosition → List (Option ℤ)
further_choices t kinds insides q [] = []
further_choices t kinds insides q (y ∷ more) = letter_choices t kinds insides q y ++ further_choices t kinds insides y.place more

-- those of the start
abbrev pub first_choices : TypedProgram → List ℤ → List (Option ℤ)
first_choices t values = map Some (take (length t.globals) values) ++ map Some (drop (columns_before_locals t) values)

-- those of the run through all positions behind the letters
abbrev pub all_choices : TypedProgram → List PlainKind → List (ℕ × Letter × ℕ) → List TracePosition → List (Option ℤ)
all_choices t kinds insides [] = []
all_choices t kinds insides (y ∷ more) = first_choices t y.values ++ further_choices t kinds insides y.place more

-- ---- numbers that fit

abbrev pub ChoiceFits : Option ℤ → Type 0
ChoiceFits None = Unit {0}
ChoiceFits (Some z) = Fits z

abbrev pub ChoicesFit : List (Option ℤ) → Type 0
ChoicesFit choices = AllByRecursion ChoiceFits choices

-- the values and helpers of the position fit
pub record PositionFits (x : TracePosition) : Type 0 where
  pub values : AllByRecursion Fits x.values
  pub helpers : AllByRecursion Fits x.helpers
