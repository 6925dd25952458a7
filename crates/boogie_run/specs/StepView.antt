-- What a step answers, as contracts see it.
use Rattle.std.specs.Prelude.{◌≡◌, ℕ, ℤ, pos, negsuc, Bool, true, false, nat_lt, List, Option, Result, Ok, Err}
use Rattle.std.specs.Option.{option_map}
use Rattle.math_facts.specs.Optional.{or_zero}
use Rattle.typed_tree.specs.TypedTree.{TypedExpression, TypedProgram}
use Rattle.typed_tree.specs.Values.{value}
use Rattle.typed_tree.specs.TypingRules.TypedParts.{typed_program}
use Rattle.boogie_run.specs.BoogiePoints.Points.{Point, settled, past_first}
use Rattle.boogie_run.specs.BoogiePoints.Starts.{targets_at}
use Rattle.boogie_run.specs.BoogiePoints.Actions as actions
use Rattle.boogie_run.specs.BoogiePoints.Told.{Told, Grant, told, ways_of}
use Rattle.boogie_run.specs.declared.types.Choice.{Choice}
use Rattle.boogie_run.specs.declared.types.Need.{Need}
use Rattle.boogie_run.specs.declared.types.Need.TheVariants as code
use Rattle.boogie_run.specs.declared.types.Moved.{Moved}
use Rattle.boogie_run.specs.declared.types.Moved.TheVariants as moves
use Rattle.boogie_run.specs.declared.types.RunFault.{RunFault}
use Rattle.boogie_run.specs.declared.types.RunFault.TheVariants as faults
use Rattle.boogie_run.specs.declared.configurations.Config.{Config}
use Rattle.boogie_run.specs.Configurations as spec
use Rattle.boogie_run.specs.Needs as needs
use Rattle.boogie_run.specs.Steps.{Outcome, Went, Blocked, Failed, Ended, moved_to, all_written, granted_state, next}
use Rattle.boogie_run.specs.Fitting.{NextFits}
use Rattle.boogie_run.specs.Evaluated.{IsCause}
use Rattle.boogie_run.specs.RunView.{config_of}
use Rattle.boogie_run.specs.ToldActs.{ToldFits, told_act, told_line}

-- a need of the code
abbrev pub need_view : Need → needs.Need
need_view code.Nothing = needs.Nothing
need_view code.Whole = needs.Whole
need_view code.Truth = needs.Truth
need_view (code.Below n) = needs.Below n

-- a choice of the code
abbrev pub choice_view : Option Choice → Option ℤ
choice_view choice = option_map (λ (c : Choice). c.0) choice

-- the line of the assertion at a point, 0 where there is none
abbrev pub line_at : TypedProgram → spec.Config → ℕ
line_at t c = told_line (told (actions.action_at t c.top.proc c.top.point))

-- The answer says how the step ended, and the new configuration is the next one, or the one before where there is no next one.
-- Told are the line of the assertion, the configuration before and the outcome.
abbrev pub IsMoved : ℕ → spec.Config → Outcome → Moved → spec.Config → Type 0
IsMoved line c (Went next) moves.Went d = d ≡ next
IsMoved line c Blocked moves.Blocked d = d ≡ c
IsMoved line c (Failed i) (moves.Failed id) d = (id.number ≡ i) × (id.line ≡ line) × (d ≡ c)
IsMoved line c Ended moves.Ended d = d ≡ c
IsMoved line c o m d = ⊥

-- The choice is taken, and this is its number; or no choice is given where one is needed; or the need does not take the one that is given.
abbrev pub IsChoice : needs.Need → Option ℤ → Result ℤ RunFault → Type 0
IsChoice n choice (Ok v) = (needs.is_taken n choice ≡ true) × (v ≡ or_zero choice)
IsChoice n choice (Err faults.NeedsChoice) = needs.is_missing n choice ≡ true
IsChoice n choice (Err faults.BadChoice) = needs.is_refused n choice ≡ true
IsChoice n choice (Err faults.Number) = ⊥
IsChoice n choice (Err faults.Memory) = ⊥

-- the number is one of the ways that are chosen from, where ways are chosen from
abbrev pub is_below : ℤ → ℕ → Bool
is_below (pos k) n = nat_lt k n
is_below (negsuc k) n = false

abbrev pub is_way : needs.Need → ℤ → Bool
is_way (needs.Below n) v = is_below v n
is_way n v = true

-- The answer of one action, which tells this and leads to these points, on the way from one configuration to another.
abbrev pub Answers : TypedProgram → spec.Config → ℤ → Told → List Point → Result Moved RunFault → spec.Config → Type 0
Answers t c v a ways (Ok m) d = ToldFits t c a × IsMoved (told_line a) c (told_act t c v a ways) m d
Answers t c v a ways (Err e) d = IsCause (ToldFits t c a) e × (d ≡ c)

-- what happens at the point of the frame that runs
abbrev pub happening : Config → actions.Action
happening c = actions.action_at (typed_program c.program.now) (config_of c).top.proc (config_of c).top.point

-- The code does what the action tells that stands there.
abbrev pub Performs : Config → ℤ → Told → Result Moved RunFault → Config → Type 0
Performs c v a r d = Answers (typed_program c.program.now) (config_of c) v a (ways_of (happening c)) r (config_of d)

-- the value of an ensures behind a call without body, where those of its parts and of the arguments fit
abbrev pub IsGranted : TypedProgram → spec.Config → ℕ → List TypedExpression → TypedExpression → Result ℤ RunFault → Type 0
IsGranted t c f args e (Ok n) = (n ≡ value (granted_state t c f args) e) × ToldFits t c (Grant f args e)
IsGranted t c f args e (Err fault) = IsCause (ToldFits t c (Grant f args e)) fault

-- with these results written to the targets of the call at which the frame stands, and past it
abbrev pub returned : TypedProgram → spec.Config → List ℤ → spec.Config
returned t c results = moved_to (all_written c (targets_at c.top.point.todo) results) (settled (past_first t.procs c.top.point.todo))

-- The answer of a step whose choice is taken, on the way from one configuration to another.
abbrev pub StepsTo : TypedProgram → spec.Config → ℤ → Result Moved RunFault → spec.Config → Type 0
StepsTo t c v (Ok m) d = NextFits t c × IsMoved (line_at t c) c (next t c v) m d
StepsTo t c v (Err e) d = IsCause (NextFits t c) e × (d ≡ c)
