-- The step: what an action makes of a configuration.
use Rattle.std.specs.Prelude.{ℕ, zero, suc, ℤ, pos, Bool, not, nat_lt, unsigned_abs, List, [], ◌∷◌, ◌++◌, map, length, take, drop, Option, None, Some, slice_get, if◌then◌else◌}
use Rattle.math_facts.specs.Optional.{or_zero}
use Rattle.boogie_tree.specs.declared.tree.Column.{Column}
use Rattle.boogie_tree.specs.declared.tree.Column.TheVariants as columns
use Rattle.typed_tree.specs.TypedTree.{TypedExpression, TypedProcedure, TypedProgram}
use Rattle.typed_tree.specs.Values.{State, value, value_is_zero}
use Rattle.boogie_run.specs.BoogiePoints.Points.{Point, settled, past_first}
use Rattle.boogie_run.specs.BoogiePoints.Actions.{Action, Check, Suppose, Demand, Write, Guess, Test, Pick, Jump, Enter, Keep, Grant, Finish, Leave, action_at}
use Rattle.boogie_run.specs.BoogiePoints.Starts.{point_of_call, start_point_of, targets_at}
use Rattle.boogie_run.specs.Configurations.{Frame, Config, state_of}
use Rattle.boogie_run.specs.Needs.{need, is_taken, locals_at}

-- how a step ends: it goes on, blocks, fails the assertion of that number, ends the run, or the choice is none that it takes
pub data Outcome : Type 0 where
  Went : Config → Outcome
  Blocked : Outcome
  Failed : ℕ → Outcome
  Ended : Outcome
  Refused : Outcome

abbrev pub put : List ℤ → ℕ → ℤ → List ℤ
put [] n v = []
put (z ∷ zs) zero v = v ∷ zs
put (z ∷ zs) (suc n) v = z ∷ put zs n v

-- with the column's value changed; a column that is not there changes nothing
abbrev pub written : Config → Column → ℤ → Config
written c (columns.Global n) v = record c { globals = put c.globals n v }
written c (columns.Old n) v = c
written c (columns.Local n) v = record c { top = record c.top { locals = put c.top.locals n v } }

-- with the values of several columns changed, one after the other
abbrev pub all_written : Config → List Column → List ℤ → Config
all_written c [] vs = c
all_written c (x ∷ xs) [] = c
all_written c (x ∷ xs) (v ∷ vs) = all_written (written c x v) xs vs

abbrev pub moved_to : Config → Point → Config
moved_to c p = record c { top = record c.top { point = p; kept = [] } }

-- on to a point, what was kept stays
abbrev pub kept_on : Config → Point → Config
kept_on c p = record c { top = record c.top { point = p } }

-- on to a point, with a value kept
abbrev pub kept_to : Config → ℤ → Point → Config
kept_to c v p = record c { top = record c.top { point = p; kept = c.top.kept ++ v ∷ [] } }

abbrev pub values : State → List TypedExpression → List ℤ
values s es = map (value s) es

-- the state of a requires of a called procedure: its parameters are the arguments
abbrev pub passed_state : State → List TypedExpression → State
passed_state s args = record { globals = s.globals; old = s.old; locals = values s args }

-- the constants and globals with these numbers changed
abbrev pub all_put : List ℤ → List ℕ → List ℤ → List ℤ
all_put zs [] vs = zs
all_put zs (n ∷ ns) [] = zs
all_put zs (n ∷ ns) (v ∷ vs) = all_put (put zs n v) ns vs

abbrev pub modifies_of : Option TypedProcedure → List ℕ
modifies_of None = []
modifies_of (Some q) = q.modifies

-- the state behind a call without body: the modified globals as chosen, the old ones as before, the arguments and the chosen results
abbrev pub granted_state : TypedProgram → Config → ℕ → List TypedExpression → State
granted_state t c f args =
    let ns = modifies_of (slice_get t.procs f) in
    record {
      globals = all_put c.globals ns c.top.kept;
      old = c.globals;
      locals = values (state_of c) args ++ drop (length ns) c.top.kept;
    }

-- the globals and the targets as chosen
abbrev pub finished : TypedProgram → Config → ℕ → List Column → Config
finished t c f targets =
    let ns = modifies_of (slice_get t.procs f) in
    all_written (record c { globals = all_put c.globals ns c.top.kept }) targets (drop (length ns) c.top.kept)

-- a frame of the called procedure, with the arguments as its first locals
abbrev pub entered : TypedProgram → Config → ℕ → List ℤ → Config
entered t c f args =
    record {
      globals = c.globals;
      top = record { proc = f; locals = args; entry = c.globals; point = point_of_call t f (slice_get t.procs f); kept = [] };
      below = c.top ∷ c.below;
    }

abbrev pub results_if_any : Option TypedProcedure → List ℤ → List ℤ
results_if_any None locals = []
results_if_any (Some q) locals = take q.results (drop q.params locals)

-- the results of the frame that runs
abbrev pub results_left : TypedProgram → Frame → List ℤ
results_left t f = results_if_any (slice_get t.procs f.proc) f.locals

-- A return: the results go to the targets of the call at which the frame below stands, which is then past it. The first frame ends the run.
abbrev pub left : TypedProgram → Config → List Frame → Outcome
left t c [] = Ended
left t c (f ∷ fs) =
    Went (moved_to (all_written (record { globals = c.globals; top = f; below = fs }) (targets_at f.point.todo) (results_left t c.top))
    (settled (past_first t.procs f.point.todo)))

abbrev pub is_true : ℤ → Bool
is_true z = not (value_is_zero z)

abbrev pub went_if : Option Point → Config → Outcome
went_if None c = Refused
went_if (Some p) c = Went (moved_to c p)

-- what an action makes of a configuration, with the choice as a number
abbrev pub act : TypedProgram → Config → ℤ → Action → Outcome
act t c v (Check id at e next) = if is_true (value (state_of c) e) then Went (moved_to c next) else Failed id
act t c v (Suppose e next) = if is_true (value (state_of c) e) then Went (moved_to c next) else Blocked
act t c v (Demand id at e args next) = if is_true (value (passed_state (state_of c) args) e) then Went (moved_to c next) else Failed id
act t c v (Write cs es next) = Went (moved_to (all_written c cs (values (state_of c) es)) next)
act t c v (Guess x next) = Went (moved_to (written c x v) next)
act t c v (Test e hit miss) = Went (moved_to c (if is_true (value (state_of c) e) then hit else miss))
act t c v (Pick ways) = went_if (slice_get ways (unsigned_abs v)) c
act t c v (Jump next) = Went (moved_to c next)
act t c v (Enter f args) = Went (entered t c f (values (state_of c) args))
act t c v (Keep f args x next) = Went (kept_to c v next)
act t c v (Grant f args e next) = if is_true (value (granted_state t c f args) e) then Went (kept_on c next) else Blocked
act t c v (Finish f args targets next) = Went (moved_to (finished t c f targets) next)
act t c v Leave = left t c c.below

-- the start of a run: nothing is chosen yet, and the entry procedure stands at its first point
abbrev pub start : TypedProgram → Config
start t =
    record {
      globals = [];
      top = record { proc = t.entry; locals = []; entry = []; point = start_point_of t (slice_get t.procs t.entry); kept = [] };
      below = [];
    }

-- one more constant or global, which is one at the entry, too
abbrev pub with_global : Config → ℤ → Config
with_global c v = record c { globals = c.globals ++ v ∷ []; top = record c.top { entry = c.top.entry ++ v ∷ [] } }

-- one more local
abbrev pub with_local : Config → ℤ → Config
with_local c v = record c { top = record c.top { locals = c.top.locals ++ v ∷ [] } }

-- the next configuration, with the choice as a number
abbrev pub next : TypedProgram → Config → ℤ → Outcome
next t c v =
    if nat_lt (length c.globals) (length t.globals) then Went (with_global c v)
    else (if nat_lt (length c.top.locals) (length (locals_at t c.top.proc)) then Went (with_local c v)
    else act t c v (action_at t c.top.proc c.top.point))

-- one step
abbrev pub step : TypedProgram → Config → Option ℤ → Outcome
step t c choice = if is_taken (need t c) choice then next t c (or_zero choice) else Refused
