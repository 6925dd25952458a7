-- What an action needs, reads and makes, by what it tells and the points that it leads to.
use Rattle.std.specs.Prelude.{ℕ, ℤ, unsigned_abs, List, Option, None, Some, slice_get, if◌then◌else◌}
use Rattle.typed_tree.specs.TypedTree.{TypedProgram}
use Rattle.typed_tree.specs.Values.{value, PartsFit}
use Rattle.boogie_run.specs.BoogiePoints.Points.{Point}
use Rattle.boogie_run.specs.BoogiePoints.Told.{Told, Check, Suppose, Demand, Write, Guess, Test, Pick, Jump, Enter, Keep, Grant, Finish, Leave}
use Rattle.boogie_run.specs.Configurations.{Config, state_of}
use Rattle.boogie_run.specs.Needs as needs
use Rattle.boogie_run.specs.Steps.{Outcome, Went, Blocked, Failed, Refused, values, written, all_written, kept_on, kept_to, passed_state, granted_state, finished, entered, left, is_true, went_if}
use Rattle.boogie_run.specs.Fitting.{AllFit, PassedFit}

abbrev pub told_need : TypedProgram → ℕ → Told → needs.Need
told_need t n (Guess x) = needs.need_of_column t.globals (needs.locals_at t n) x
told_need t n (Pick ways) = needs.Below ways
told_need t n (Keep f args x) = needs.need_of_column t.globals (needs.locals_at t f) x
told_need t n a = needs.Nothing

-- the line of the assertion, 0 where there is none
abbrev pub told_line : Told → ℕ
told_line (Check id at e) = at.line
told_line (Demand id at e args) = at.line
told_line a = 0

abbrev pub ToldFits : TypedProgram → Config → Told → Type 0
ToldFits t c (Check id at e) = PartsFit (state_of c) e
ToldFits t c (Suppose e) = PartsFit (state_of c) e
ToldFits t c (Demand id at e args) = PassedFit (state_of c) args e
ToldFits t c (Write cs es) = AllFit (state_of c) es
ToldFits t c (Guess x) = Unit {0}
ToldFits t c (Test e) = PartsFit (state_of c) e
ToldFits t c (Pick ways) = Unit {0}
ToldFits t c Jump = Unit {0}
ToldFits t c (Enter f args) = AllFit (state_of c) args
ToldFits t c (Keep f args x) = AllFit (state_of c) args
ToldFits t c (Grant f args e) = AllFit (state_of c) args × PartsFit (granted_state t c f args) e
ToldFits t c (Finish f args targets) = AllFit (state_of c) args
ToldFits t c Leave = Unit {0}

abbrev pub kept_on_if : Option Point → Config → Outcome
kept_on_if None c = Refused
kept_on_if (Some p) c = Went (kept_on c p)

abbrev pub kept_to_if : Option Point → Config → ℤ → Outcome
kept_to_if None c v = Refused
kept_to_if (Some p) c v = Went (kept_to c v p)

abbrev pub told_act : TypedProgram → Config → ℤ → Told → List Point → Outcome
told_act t c v (Check id at e) ways = if is_true (value (state_of c) e) then went_if (slice_get ways 0) c else Failed id
told_act t c v (Suppose e) ways = if is_true (value (state_of c) e) then went_if (slice_get ways 0) c else Blocked
told_act t c v (Demand id at e args) ways =
    if is_true (value (passed_state (state_of c) args) e) then went_if (slice_get ways 0) c else Failed id
told_act t c v (Write cs es) ways = went_if (slice_get ways 0) (all_written c cs (values (state_of c) es))
told_act t c v (Guess x) ways = went_if (slice_get ways 0) (written c x v)
told_act t c v (Test e) ways = went_if (slice_get ways (if is_true (value (state_of c) e) then 0 else 1)) c
told_act t c v (Pick count) ways = went_if (slice_get ways (unsigned_abs v)) c
told_act t c v Jump ways = went_if (slice_get ways 0) c
told_act t c v (Enter f args) ways = Went (entered t c f (values (state_of c) args))
told_act t c v (Keep f args x) ways = kept_to_if (slice_get ways 0) c v
told_act t c v (Grant f args e) ways = if is_true (value (granted_state t c f args) e) then kept_on_if (slice_get ways 0) c else Blocked
told_act t c v (Finish f args targets) ways = went_if (slice_get ways 0) (finished t c f targets)
told_act t c v Leave ways = left t c c.below

-- how many points it leads to in its own frame
abbrev pub told_ways : Told → ℕ
told_ways (Pick ways) = ways
told_ways (Test e) = 2
told_ways (Enter f args) = 0
told_ways Leave = 0
told_ways a = 1
