-- The story of a run that fails: a line for each step, and the assertion that fails.
use Rattle.std.specs.Prelude.{◌≡◌, ℕ, ℤ, Bool, List, [], ◌∷◌, ◌++◌, length, Option, codes}
use Rattle.std.specs.List.{concat}
use Rattle.std.specs.Fmt.{decimal}
use Rattle.math_facts.specs.Optional.{or_zero}
use Rattle.boogie_tree.specs.Tree.{Declaration}
use Rattle.typed_tree.specs.TypedTree.{TypedProgram}
use Rattle.boogie_run.specs.declared.types.AssertId.{AssertId}
use Rattle.boogie_run.specs.Configurations.{Config}
use Rattle.boogie_run.specs.Steps.{Outcome, Went, Blocked, Failed, Ended, Refused, start, step}
use Rattle.boogie_run.specs.StepView.{line_at}
use Rattle.trace_replay.specs.Replays.{Replays}
use Rattle.explain_top.specs.RunStory.Sites.{site}
use Rattle.explain_top.specs.RunStory.Notes.{notes}
use Rattle.explain_top.specs.RunStory.Texts.{told_line, shortened}

-- of a step that fails nothing changes
abbrev pub after : Config → Outcome → Config
after c (Went d) = d
after c Blocked = c
after c (Failed i) = c
after c Ended = c
after c Refused = c

-- a step of a run, made with this choice
abbrev pub step_line : TypedProgram → List Declaration → Config → Option ℤ → List ℕ
step_line t ds c choice = told_line (site t ds c) (length c.below) (notes t ds (site t ds c) c (or_zero choice) (after c (step t c choice)))

-- the steps of a run from a configuration on, with the choices that they take
abbrev pub step_lines : TypedProgram → List Declaration → Config → List (Option ℤ) → List (List ℕ)
step_lines t ds c [] = []
step_lines t ds c (choice ∷ choices) = step_line t ds c choice ∷ step_lines t ds (after c (step t c choice)) choices

abbrev pub fails_line : AssertId → List ℕ
fails_line id = codes "assertion " ++ (decimal id.number ++ (codes " line " ++ (decimal id.line ++ codes " fails\n")))

-- The story of a run that takes these choices, one a step, and fails that assertion.
abbrev pub story : TypedProgram → List Declaration → Bool → List (Option ℤ) → AssertId → List ℕ
story t ds all choices id = concat (shortened all (step_lines t ds (start t) choices)) ++ fails_line id

-- The text is the story of the run that takes these choices, in order, in at most n steps, and fails that assertion.
pub record IsStory (t : TypedProgram) (ds : List Declaration) (all : Bool) (n : ℕ) (choices : List ℤ) (id : AssertId) (text : List ℕ) : Type 0 where
  pub run : Replays t n choices id.number
  pub line : id.line ≡ line_at t run.before
  pub is : text ≡ story t ds all (run.taken ++ run.last ∷ []) id
