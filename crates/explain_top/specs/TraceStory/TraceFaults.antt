-- The first line of the text of a trace that cannot stand where it stands.
use Rattle.std.specs.Prelude.{◌≡◌, ℕ, List}
use Rattle.rank_lasso.specs.Faults.{IsFirstFaultAs}
use Rattle.explain_top.specs.declared.trace_story.traces.TraceFault.{TraceFault}
use Rattle.explain_top.specs.declared.trace_story.traces.TraceFault.TheVariants.{Syntax, Memory}
use Rattle.explain_top.specs.TraceStory.TraceText.{PlainTrace, IsInBounds, trace_lines}

-- these are the lines of some trace's text
abbrev pub AreOfTrace : List (List ℕ) → Type 0
AreOfTrace lines = (u : PlainTrace) × IsInBounds u × (lines ≡ trace_lines u)

-- this line is the first that cannot stand there; where the text ends too early, it is the line that is missing
abbrev pub IsFirstFault : List ℕ → ℕ → Type 0
IsFirstFault text line = IsFirstFaultAs AreOfTrace text line

-- why a text is not a trace's
abbrev pub IsTraceFault : List ℕ → TraceFault → Type 0
IsTraceFault text (Syntax line) = IsFirstFault text line
IsTraceFault text Memory = Unit {0}
