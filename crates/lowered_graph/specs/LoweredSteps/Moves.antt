-- Runs by moves: one action, and then the choices of the locals that are missing. What a configuration keeps in a run of a typed program.
use Rattle.std.specs.Prelude.{◌≡◌, ℕ, ◌+◌, ◌≤◌, ℤ, true, false, List, [], ◌∷◌, ◌++◌, length, take, drop, Option, Some, slice_get}
use Rattle.std.specs.List.{AllByRecursion}
use Rattle.math_facts.specs.Optional.{or_zero}
use Rattle.boogie_tree.specs.declared.tree.Ty.{Ty}
use Rattle.boogie_tree.specs.declared.tree.Ty.TheVariants as types
use Rattle.boogie_tree.specs.declared.tree.Column.{Column}
use Rattle.boogie_tree.specs.declared.tree.Column.TheVariants as columns
use Rattle.boogie_tree.specs.declared.tree.VarInfo.{VarInfo}
use Rattle.typed_tree.specs.TypedTree.{TypedExpression, Lit, Truth, Var, Old, Not, Neg, Bin, TypedProcedure, TypedProgram}
use Rattle.typed_tree.specs.Values.{State, member}
use Rattle.typed_tree.specs.Divided.{is_divided}
use Rattle.letter_acts.specs.Frames.{Columns, IsValue, ConstantsFirst}
use Rattle.boogie_run.specs.BoogiePlaces.Places.{onward}
use Rattle.cond_jumps.specs.Environments.{type_in}
use Rattle.cond_jumps.specs.Frames.{frame_environment}
use Rattle.cond_jumps.specs.Passing.{passed, standing_environment}
use Rattle.cond_jumps.specs.FreeProducts.FrameLaws.{IsDividedCondition, IsDividedValue}
use Rattle.boogie_run.specs.BoogiePoints.Points.{Point}
use Rattle.boogie_run.specs.BoogiePoints.Actions as actions
use Rattle.boogie_run.specs.BoogiePoints.Actions.{Action, action_at}
use Rattle.boogie_run.specs.Configurations.{Frame, Config, state_of}
use Rattle.boogie_run.specs.Needs.{locals_at, need_of_action, is_taken}
use Rattle.boogie_run.specs.Steps.{Went, act, values}
use Rattle.typed_tree.specs.TypingRules.Rules.{results_of}
use Rattle.lowered_graph.specs.LoweredSteps.ProgramFrames.{frame_at, shown}
use Rattle.lowered_graph.specs.LoweredSteps.Stacks.{Pending, Stack}
use Rattle.lowered_graph.specs.LoweredSteps.Edges.{At}
use Rattle.boogie_run.specs.BoogiePoints.Starts.{targets_at, point_of_call, start_point_of}

-- as many values as variables, each of its type
abbrev pub HasTypes : List VarInfo → List ℤ → Type 0
HasTypes [] [] = Unit {0}
HasTypes [] (z ∷ zs) = ⊥
HasTypes (v ∷ vs) [] = ⊥
HasTypes (v ∷ vs) (z ∷ zs) = IsValue v.ty z × HasTypes vs zs

-- What a frame of procedure n keeps in a run: its values are of their types, and the constants at its entry are the constants now.
pub record FrameKeeps (t : TypedProgram) (n : ℕ) (s : State) : Type 0 where
  pub globals : HasTypes t.globals s.globals
  pub old : HasTypes t.globals s.old
  pub locals : HasTypes (locals_at t n) s.locals
  pub constants : (g : ℕ) (v : VarInfo) → slice_get t.globals g ≡ Some v → v.constant ≡ true → member s.old g ≡ member s.globals g

-- ---- typed actions

-- a variable of that type that is no constant and no parameter
pub record IsVariable (ty : Ty) (o : Option VarInfo) : Type 0 where
  pub info : VarInfo
  pub is : o ≡ Some info
  pub type : info.ty ≡ ty
  pub varies : info.constant ≡ false

-- the column is a variable of that type in procedure n
abbrev pub IsTarget : TypedProgram → ℕ → Ty → Column → Type 0
IsTarget t n ty (columns.Global g) = IsVariable ty (slice_get t.globals g)
IsTarget t n ty (columns.Old g) = ⊥
IsTarget t n ty (columns.Local l) = IsVariable ty (slice_get (locals_at t n) l)

-- the value is of a type, its divisors are literals other than 0, and its column is of that type
pub record IsAssigned (t : TypedProgram) (n : ℕ) (c : Column) (e : TypedExpression) : Type 0 where
  pub type : Ty
  pub target : IsTarget t n type c
  pub typed : type_in (frame_environment (frame_at t n)) false e ≡ Some type
  pub divided : is_divided e ≡ true

abbrev pub AreAssigned : TypedProgram → ℕ → List Column → List TypedExpression → Type 0
AreAssigned t n [] [] = Unit {0}
AreAssigned t n [] (e ∷ es) = ⊥
AreAssigned t n (c ∷ cs) [] = ⊥
AreAssigned t n (c ∷ cs) (e ∷ es) = IsAssigned t n c e × AreAssigned t n cs es

-- a condition of a called procedure over the arguments, which are typed, too
pub record IsPassed (frame : Columns) (args : List TypedExpression) (e : TypedExpression) : Type 0 where
  pub condition : IsDividedCondition (standing_environment (frame_environment frame) (passed args)) e
  pub arguments : AllByRecursion (IsDividedValue (frame_environment frame)) args

-- a literal, a name, or `!` before a name
abbrev pub IsSimple : TypedExpression → Type 0
IsSimple (Lit at n) = Unit {0}
IsSimple (Truth at b) = Unit {0}
IsSimple (Var at c) = Unit {0}
IsSimple (Old at e) = ⊥
IsSimple (Not at (Lit at2 n)) = ⊥
IsSimple (Not at (Truth at2 b)) = ⊥
IsSimple (Not at (Var at2 c)) = Unit {0}
IsSimple (Not at (Old at2 e)) = ⊥
IsSimple (Not at (Not at2 e)) = ⊥
IsSimple (Not at (Neg at2 e)) = ⊥
IsSimple (Not at (Bin at2 op a b)) = ⊥
IsSimple (Neg at e) = ⊥
IsSimple (Bin at op a b) = ⊥

-- an argument of a parameter: of its type, its divisors are literals other than 0, and a boolean one is simple
pub record IsArgument (frame : Columns) (v : VarInfo) (e : TypedExpression) : Type 0 where
  pub typed : type_in (frame_environment frame) false e ≡ Some v.ty
  pub divided : is_divided e ≡ true
  pub simple : v.ty ≡ types.Bool → IsSimple e

abbrev pub AreArguments : Columns → List VarInfo → List TypedExpression → Type 0
AreArguments frame [] [] = Unit {0}
AreArguments frame [] (e ∷ es) = ⊥
AreArguments frame (v ∷ vs) [] = ⊥
AreArguments frame (v ∷ vs) (e ∷ es) = IsArgument frame v e × AreArguments frame vs es

-- What an action of procedure n reads and writes is typed. Of calls nothing is said here.
abbrev pub IsTypedAction : TypedProgram → ℕ → Action → Type 0
IsTypedAction t n (actions.Check id at e next) = IsDividedCondition (frame_environment (frame_at t n)) e
IsTypedAction t n (actions.Suppose e next) = IsDividedCondition (frame_environment (frame_at t n)) e
IsTypedAction t n (actions.Demand id at e args next) = IsPassed (frame_at t n) args e
IsTypedAction t n (actions.Write cs es next) = AreAssigned t n cs es
IsTypedAction t n (actions.Guess c next) = (ty : Ty) × IsTarget t n ty c
IsTypedAction t n (actions.Test e hit miss) = IsDividedCondition (frame_environment (frame_at t n)) e
IsTypedAction t n (actions.Pick ways) = Unit {0}
IsTypedAction t n (actions.Jump next) = Unit {0}
IsTypedAction t n (actions.Enter f args) = Unit {0}
IsTypedAction t n (actions.Keep f args c next) = Unit {0}
IsTypedAction t n (actions.Grant f args e next) = Unit {0}
IsTypedAction t n (actions.Finish f args targets next) = Unit {0}
IsTypedAction t n actions.Leave = Unit {0}

-- ---- the stack that shows a configuration

-- of the calls that are open; told are the constants and globals when the frame above was entered
abbrev pub shown_below : TypedProgram → List ℤ → List Frame → List Pending
shown_below t gs [] = []
shown_below t gs (f ∷ fs) =
    record { proc = f.proc; point = f.point; values = shown t (record { globals = gs; old = f.entry; locals = f.locals }) } ∷ shown_below t f.entry fs

abbrev pub shown_stack : TypedProgram → Config → Stack
shown_stack t c = record { proc = c.top.proc; spot = At c.top.point; values = shown t (state_of c); below = shown_below t c.top.entry c.below }

-- ---- calls that are open

-- a target for each result, of its type
abbrev pub AreTargets : TypedProgram → ℕ → List VarInfo → List Column → Type 0
AreTargets t n [] [] = Unit {0}
AreTargets t n [] (c ∷ cs) = ⊥
AreTargets t n (v ∷ vs) [] = ⊥
AreTargets t n (v ∷ vs) (c ∷ cs) = IsTarget t n v.ty c × AreTargets t n vs cs

-- the parameters come first among the locals, and are the constant ones
pub record HasParameters (q : TypedProcedure) : Type 0 where
  pub constant : AllByRecursion (λ v. v.constant ≡ true) (take q.params q.locals)
  pub vary : AllByRecursion (λ v. v.constant ≡ false) (drop q.params q.locals)

-- The frame below stands at the call that began the frame above it: the parameters still have the values of the arguments, and there is a target
-- for each result.
pub record Awaits (t : TypedProgram) (above below : Frame) : Type 0 where
  pub args : List TypedExpression
  pub calls : action_at t below.proc below.point ≡ actions.Enter above.proc args
  pub procedure : TypedProcedure
  pub is : slice_get t.procs above.proc ≡ Some procedure
  pub enough : procedure.params + procedure.results ≤ length procedure.locals
  pub shape : HasParameters procedure
  pub arguments : AreArguments (frame_at t below.proc) (take procedure.params procedure.locals) args
  pub later : List ℤ
  pub passed : above.locals ≡ values (record { globals = above.entry; old = below.entry; locals = below.locals }) args ++ later
  pub targets : AreTargets t below.proc (results_of procedure) (targets_at below.point.todo)

-- ---- what a configuration keeps in a run

-- a frame, where the constants and globals are these: its values are typed, its point is known, and nothing is kept
pub record FrameIsGood (t : TypedProgram) (Known : ℕ → Point → Type 0) (globals : List ℤ) (f : Frame) : Type 0 where
  pub keeps : FrameKeeps t f.proc (record { globals = globals; old = f.entry; locals = f.locals })
  pub known : Known f.proc f.point
  pub nothing_kept : f.kept ≡ []

-- the frames below another: each stands at the call that began the one above it
abbrev pub BelowIsGood : TypedProgram → (ℕ → Point → Type 0) → Frame → List Frame → Type 0
BelowIsGood t Known above [] = Unit {0}
BelowIsGood t Known above (b ∷ rest) = FrameIsGood t Known above.entry b × Awaits t above b × BelowIsGood t Known b rest

pub record IsGood (t : TypedProgram) (Known : ℕ → Point → Type 0) (c : Config) : Type 0 where
  pub top : FrameIsGood t Known c.globals c.top
  pub below : BelowIsGood t Known c.top c.below

-- ---- moves

-- the frame that runs has these further locals
abbrev pub filled : Config → List ℤ → Config
filled c zs = record c { top = record c.top { locals = c.top.locals ++ zs } }

-- the action is none of a call of a procedure without body
abbrev pub IsNoImport : Action → Type 0
IsNoImport (actions.Keep f args c next) = ⊥
IsNoImport (actions.Grant f args e next) = ⊥
IsNoImport (actions.Finish f args targets next) = ⊥
IsNoImport a = Unit {0}

-- One action, none of a call without body, with a choice that it takes, and then a choice for each local that is missing.
pub record IsMove (t : TypedProgram) (c d : Config) : Type 0 where
  pub plain : IsNoImport (action_at t c.top.proc c.top.point)
  pub choice : Option ℤ
  pub taken : is_taken (need_of_action t c.top.proc (action_at t c.top.proc c.top.point)) choice ≡ true
  pub mid : Config
  pub went : act t c (or_zero choice) (action_at t c.top.proc c.top.point) ≡ Went mid
  pub more : List ℤ
  pub typed : HasTypes (locals_at t mid.top.proc) (mid.top.locals ++ more)
  pub done : d ≡ filled mid more

-- ---- what is known of the points of a program

-- a call of a procedure with a body: its arguments and targets are those of the procedure
pub record IsKnownCall (t : TypedProgram) (n : ℕ) (p : Point) (f : ℕ) (args : List TypedExpression) : Type 0 where
  pub procedure : TypedProcedure
  pub is : slice_get t.procs f ≡ Some procedure
  pub enough : procedure.params + procedure.results ≤ length procedure.locals
  pub shape : HasParameters procedure
  pub arguments : AreArguments (frame_at t n) (take procedure.params procedure.locals) args
  pub targets : AreTargets t n (results_of procedure) (targets_at p.todo)

pub record KnowsPoints (t : TypedProgram) (Known : ℕ → Point → Type 0) : Type 0 where
  pub starts : Known t.entry (start_point_of t (slice_get t.procs t.entry))
  pub typed : (n : ℕ) (p : Point) → Known n p → IsTypedAction t n (action_at t n p)
  pub onward : (n : ℕ) (p : Point) → Known n p → AllByRecursion (Known n) (onward t.procs p (action_at t n p))
  pub entries : (n : ℕ) (p : Point) (f : ℕ) (args : List TypedExpression) → Known n p → action_at t n p ≡ actions.Enter f args → Known f (point_of_call t f (slice_get t.procs f))
  pub calls : (n : ℕ) (p : Point) (f : ℕ) (args : List TypedExpression) → Known n p → action_at t n p ≡ actions.Enter f args → IsKnownCall t n p f args
  pub constants_first : (n : ℕ) → ConstantsFirst (locals_at t n)
