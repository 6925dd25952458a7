-- What is said of the line of one step.
use Rattle.std.specs.Prelude.{◌≡◌, ℕ, ℤ, false, List, [], length}
use Rattle.boogie_tree.specs.Tree.{Declaration}
use Rattle.math_facts.specs.Optional.{or_zero}
use Rattle.typed_tree.specs.TypedTree.{TypedProgram}
use Rattle.boogie_run.specs.Configurations.{Config}
use Rattle.boogie_run.specs.Needs.{need}
use Rattle.boogie_run.specs.Steps.{Went, Failed}
use Rattle.trace_replay.specs.declared.replaying.Turn.{Turn}
use Rattle.trace_replay.specs.declared.replaying.Turn.TheVariants.{GoesOn, Fails, FailsEarly, Stops}
use Rattle.trace_replay.specs.FailureText.{numbers}
use Rattle.trace_replay.specs.NextChoices.{next_choice}
use Rattle.trace_replay.specs.ReplayCauses.{StepEnds}
use Rattle.boogie_tree.specs.declared.tree.Column.{Column}
use Rattle.explain_top.specs.declared.run_story.lines.Line.{Line}
use Rattle.explain_top.specs.RunStory.Lines.{IsNoted}
use Rattle.explain_top.specs.RunStory.Sites.{site}
use Rattle.explain_top.specs.RunStory.Notes.{held, notes_before}
use Rattle.explain_top.specs.RunStory.Texts.{place_text}
use Rattle.explain_top.specs.RunStory.Story.{step_line}

-- the choice of the next step as a number
abbrev pub next_number : TypedProgram → Config → List ℤ → ℤ
next_number t c left = or_zero (next_choice (need t c) left).0

-- The line of the next step, with what is told before it.
abbrev pub IsBegun : TypedProgram → List Declaration → Config → List ℤ → Line → Type 0
IsBegun t ds c left line = IsNoted (place_text (site t ds c) (length c.below)) false (notes_before t ds (site t ds c) c (next_number t c left)) line

-- what is told behind a step that changes these columns
abbrev pub told_behind : TypedProgram → Config → Turn → List Column → List (List ℕ)
told_behind t d (GoesOn rest) xs = held t d xs
told_behind t d (Fails id) xs = []
told_behind t d (FailsEarly rest) xs = []
told_behind t d (Stops cause) xs = []

-- The line tells a step that goes on, or that fails with the last choice.
abbrev pub TellsStep : TypedProgram → List Declaration → Config → List ℤ → Config → Turn → List ℕ → Type 0
TellsStep t ds c left d (GoesOn rest) text = (s : StepEnds t c left (Went d) (numbers rest.now)) → text ≡ step_line t ds c s.choice
TellsStep t ds c left d (Fails id) text = (s : StepEnds t c left (Failed id.number) []) → text ≡ step_line t ds c s.choice
TellsStep t ds c left d (FailsEarly rest) text = Unit {0}
TellsStep t ds c left d (Stops cause) text = Unit {0}
