-- The stack machine of a program over its points: the state of the frame that runs, and of each call that is open.
use Rattle.std.specs.Prelude.{◌≡◌, ◌⊎◌, ℕ, zero, suc, false, ℤ, List, [], ◌∷◌, length, slice_get}
use Rattle.typed_tree.specs.TypedTree.{TypedExpression, TypedProgram}
use Rattle.letter_acts.specs.Frames.{IsState}
use Rattle.letter_acts.specs.Meaning.{InsideLeads, CallLeads, BackLeads}
use Rattle.cond_jumps.specs.FreeProducts.Letters.{MarkedConjunction}
use Rattle.boogie_run.specs.BoogiePoints.Points.{Point, settled, past_first}
use Rattle.boogie_run.specs.BoogiePoints.Actions as actions
use Rattle.boogie_run.specs.BoogiePoints.Actions.{action_at}
use Rattle.boogie_run.specs.BoogiePoints.Starts.{point_of_call, start_point_of, targets_at}
use Rattle.lowered_graph.specs.LoweredSteps.ProgramFrames.{frame_at, shown}
use Rattle.lowered_graph.specs.LoweredSteps.Edges.{Spot, At, Wrong, Edge, inside_edges, call_letters, numbers_in}

-- a call that is open: its procedure, the point of the call, and the state before it
pub record Pending : Type 0 where
  pub proc : ℕ
  pub point : Point
  pub values : List ℤ

-- the frame that runs, and the calls that are open, innermost first
pub record Stack : Type 0 where
  pub proc : ℕ
  pub spot : Spot
  pub values : List ℤ
  pub below : List Pending

-- the member is in the list
abbrev pub IsAmong : {X : Type 0} → List X → X → Type 0
IsAmong [] x = ⊥
IsAmong (y ∷ ys) x = (y ≡ x) ⊎ IsAmong ys x

-- One step: by an inside edge of the point; into a procedure with a body; or back from one, behind the call that is open.
pub data IsStep (t : TypedProgram) (x y : Stack) : Type 0 where
  inside : (p : Point) (e : Edge) → x.spot ≡ At p → IsAmong (inside_edges t x.proc p (action_at t x.proc p)) e →
      InsideLeads (frame_at t x.proc) e.written e.rows.helpers e.rows.rows x.values y.values →
      y.proc ≡ x.proc → y.spot ≡ e.to → y.below ≡ x.below → IsStep t x y
  call : (p : Point) (f : ℕ) (args : List TypedExpression) (c : MarkedConjunction) → x.spot ≡ At p → action_at t x.proc p ≡ actions.Enter f args →
      IsAmong (call_letters t x.proc f args) c → CallLeads (frame_at t x.proc) (frame_at t f) c.plain.helpers c.plain.rows x.values y.values →
      y.proc ≡ f → y.spot ≡ At (point_of_call t f (slice_get t.procs f)) → y.below ≡ (record { proc = x.proc; point = p; values = x.values }) ∷ x.below → IsStep t x y
  back : (p : Point) (b : Pending) (args : List TypedExpression) (c : MarkedConjunction) → x.spot ≡ At p → action_at t x.proc p ≡ actions.Leave →
      x.below ≡ b ∷ y.below → action_at t b.proc b.point ≡ actions.Enter x.proc args → IsAmong (call_letters t b.proc x.proc args) c →
      BackLeads (frame_at t b.proc) (frame_at t x.proc) c.plain.helpers c.plain.rows (numbers_in (frame_at t b.proc) (targets_at b.point.todo)) x.values b.values y.values →
      y.proc ≡ b.proc → y.spot ≡ At (settled (past_first t.procs b.point.todo)) → IsStep t x y

-- behind the start: the entry procedure stands at its first point, whose old values are those of its globals
pub record IsStart (t : TypedProgram) (x : Stack) : Type 0 where
  pub globals : List ℤ
  pub as_many : length globals ≡ length t.globals
  pub locals : List ℤ
  pub proc : x.proc ≡ t.entry
  pub spot : x.spot ≡ At (start_point_of t (slice_get t.procs t.entry))
  pub values : x.values ≡ shown t (record { globals = globals; old = globals; locals = locals })
  pub state : IsState (frame_at t t.entry) x.values
  pub below : x.below ≡ []

-- so many steps lead to the failing of the assertion of that number
abbrev pub Reaches : TypedProgram → ℕ → ℕ → Stack → Type 0
Reaches t i zero x = x.spot ≡ Wrong i
Reaches t i (suc k) x = (y : Stack) × IsStep t x y × Reaches t i k y

-- some steps lead there from the start
abbrev pub MachineFails : TypedProgram → ℕ → Type 0
MachineFails t i = (k : ℕ) × (x : Stack) × IsStart t x × Reaches t i k x

-- ---- exact steps

-- The rows of the step leave no product free. A return is exact: the frame below still stands at the call, whose arguments the parameters have.
abbrev pub IsExact : (t : TypedProgram) (x y : Stack) → IsStep t x y → Type 0
IsExact t x y (inside p e at among leads proc spot below) = e.coarse ≡ false
IsExact t x y (call p f args c at is among leads proc spot below) = c.coarse ≡ false
IsExact t x y (back p b args c at is below calls among leads proc spot) = Unit {0}

-- so many exact steps lead to the failing of the assertion of that number
abbrev pub ExactlyReaches : TypedProgram → ℕ → ℕ → Stack → Type 0
ExactlyReaches t i zero x = x.spot ≡ Wrong i
ExactlyReaches t i (suc k) x = (y : Stack) × (s : IsStep t x y) × IsExact t x y s × ExactlyReaches t i k y

-- some exact steps lead there from the start
abbrev pub MachineFailsExactly : TypedProgram → ℕ → Type 0
MachineFailsExactly t i = (k : ℕ) × (x : Stack) × IsStart t x × ExactlyReaches t i k x
