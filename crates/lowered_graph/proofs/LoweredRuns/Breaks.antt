-- Runs by moves of which the last configuration fails an assertion.
use Rattle.std.specs.Prelude.{◌≡◌, ◌⊎◌, ℕ, zero, suc, pos}
use Rattle.typed_tree.specs.TypedTree.{TypedProgram}
use Rattle.boogie_run.specs.BoogiePoints.Actions.{action_at}
use Rattle.boogie_run.specs.Configurations.{Config}
use Rattle.boogie_run.specs.Steps.{Failed, act}
use Rattle.lowered_graph.specs.LoweredSteps.Moves.{IsMove}

-- so many moves or whole calls without body, and then an assertion fails
abbrev pub Breaks : TypedProgram → (Config → Config → Type 0) → ℕ → ℕ → Config → Type 0
Breaks t Import i zero c = act t c (pos 0) (action_at t c.top.proc c.top.point) ≡ Failed i
Breaks t Import i (suc k) c = (d : Config) × (IsMove t c d ⊎ Import c d) × Breaks t Import i k d
