-- When an action reads and writes only what is there, and its lists are complete.
use Rattle.std.specs.Prelude.{◌≡◌, ◌+◌, ◌<◌, List, [], ◌∷◌, length, IsSome, IsSomeAnd, slice_get}
use Rattle.std.specs.List.{AllByRecursion}
use Rattle.boogie_tree.specs.declared.tree.Column.{Column}
use Rattle.boogie_tree.specs.declared.tree.Column.TheVariants as columns
use Rattle.boogie_tree.specs.declared.tree.VarInfo.{VarInfo}
use Rattle.typed_tree.specs.TypedTree.{TypedExpression, TypedProcedure, TypedProgram}
use Rattle.boogie_run.specs.BoogiePoints.Actions.{Action, Check, Suppose, Demand, Write, Guess, Test, Pick, Jump, Enter, Keep, Grant, Finish, Leave}
use Rattle.boogie_run.specs.BoogiePoints.Starts.{targets_at}
use Rattle.boogie_run.specs.Configurations.{Frame, Config, state_of}
use Rattle.boogie_run.specs.Needs.{locals_at}
use Rattle.boogie_run.specs.Steps.{passed_state, granted_state, results_left}
use Rattle.boogie_run.specs.RunDefaults.Reading.{Reads}
use Rattle.boogie_run.specs.RunDefaults.Standing.{AtCall}

-- the column is there to be written, and is no old value
abbrev pub CanWrite : Config → Column → Type 0
CanWrite c (columns.Global n) = n < length c.globals
CanWrite c (columns.Old n) = ⊥
CanWrite c (columns.Local n) = n < length c.top.locals

-- the column is one of these variables
abbrev pub IsVariable : List VarInfo → List VarInfo → Column → Type 0
IsVariable globals locals (columns.Global n) = IsSome (slice_get globals n)
IsVariable globals locals (columns.Old n) = ⊥
IsVariable globals locals (columns.Local n) = IsSome (slice_get locals n)

-- an argument for each parameter
abbrev pub Passes : Config → List TypedExpression → TypedProcedure → Type 0
Passes c args q = (length args ≡ q.params) × AllByRecursion (Reads (state_of c)) args

-- a target for each result
abbrev pub Receives : Config → List Column → TypedProcedure → Type 0
Receives c targets q = (length targets ≡ q.results) × AllByRecursion (CanWrite c) targets

-- of a call without body: a value is kept for each modified global, which is there, and for each result
abbrev pub HasChosen : Config → TypedProcedure → Type 0
HasChosen c q = (length c.top.kept ≡ length q.modifies + q.results) × AllByRecursion (λ n. n < length c.globals) q.modifies

-- A return has all results, and the frame below stands at a call of the procedure, with a target for each. The first frame has none below.
abbrev pub Returns : TypedProgram → Config → List Frame → Type 0
Returns t c [] = Unit {0}
Returns t c (f ∷ fs) =
    AtCall c.top.proc f.point.todo
    × IsSomeAnd (slice_get t.procs c.top.proc)
    (λ q.
    (length (results_left t c.top) ≡ q.results)
    × Receives (record { globals = c.globals; top = f; below = fs }) (targets_at f.point.todo) q)

-- What the action reads and writes is there; a called procedure exists, and one that is entered has a body.
abbrev pub ActsOnWhatIs : TypedProgram → Config → Action → Type 0
ActsOnWhatIs t c (Check id at e next) = Reads (state_of c) e
ActsOnWhatIs t c (Suppose e next) = Reads (state_of c) e
ActsOnWhatIs t c (Demand id at e args next) = AllByRecursion (Reads (state_of c)) args × Reads (passed_state (state_of c) args) e
ActsOnWhatIs t c (Write cs es next) = (length cs ≡ length es) × AllByRecursion (CanWrite c) cs × AllByRecursion (Reads (state_of c)) es
ActsOnWhatIs t c (Guess x next) = CanWrite c x × IsVariable t.globals (locals_at t c.top.proc) x
ActsOnWhatIs t c (Test e hit miss) = Reads (state_of c) e
ActsOnWhatIs t c (Pick ways) = 0 < length ways
ActsOnWhatIs t c (Jump next) = Unit {0}
ActsOnWhatIs t c (Enter f args) = IsSomeAnd (slice_get t.procs f) (λ q. IsSome q.body × Passes c args q)
ActsOnWhatIs t c (Keep f args x next) = IsSomeAnd (slice_get t.procs f) (λ q. Passes c args q × IsVariable t.globals q.locals x)
ActsOnWhatIs t c (Grant f args e next) =
    IsSomeAnd (slice_get t.procs f) (λ q. Passes c args q × HasChosen c q × Reads (granted_state t c f args) e)
ActsOnWhatIs t c (Finish f args targets next) =
    IsSomeAnd (slice_get t.procs f) (λ q. Passes c args q × HasChosen c q × Receives c targets q)
ActsOnWhatIs t c Leave = Returns t c c.below
