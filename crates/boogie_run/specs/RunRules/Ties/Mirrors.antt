-- How a configuration of the machine mirrors a moment of a run by the rules.
use Rattle.std.specs.Prelude.{◌≡◌, ℕ, ℤ, false, nat_lt, List, [], ◌∷◌, map, length, Some, slice_get}
use Rattle.boogie_tree.specs.declared.tree.Column.{Column}
use Rattle.typed_tree.specs.TypedTree.{TypedBlock, TypedProcedure, TypedProgram}
use Rattle.boogie_run.specs.BoogiePoints.Points.{Todo, settled, past_first}
use Rattle.boogie_run.specs.BoogiePoints.Starts.{targets_at}
use Rattle.boogie_run.specs.Configurations.{Frame, Config}
use Rattle.boogie_run.specs.Needs.{locals_at}
use Rattle.boogie_run.specs.Steps.{moved_to}
use Rattle.boogie_run.specs.RunRules.Moments.{OpenBlock, Activation, Moment}

-- a block without the number of its next place
abbrev pub pending_of : Todo → OpenBlock
pending_of t = record { rest = t.rest; of_loop = t.of_loop; id = t.id }

abbrev pub pendings : List Todo → List OpenBlock
pendings ts = map pending_of ts

-- the moment with the values of a configuration
abbrev pub moment_of : Config → List Column → List Activation → List OpenBlock → Moment
moment_of v targets below ps =
    record {
      globals = v.globals;
      top = record { proc = v.top.proc; locals = v.top.locals; entry = v.top.entry; pending = ps; targets = targets };
      below = below;
    }

-- the procedure has a body
pub record HasBody (t : TypedProgram) (n : ℕ) : Type 0 where
  pub procedure : TypedProcedure
  pub body : TypedBlock
  pub there : slice_get t.procs n ≡ Some procedure
  pub has_body : procedure.body ≡ Some body

-- each local has a value
abbrev pub HasLocals : TypedProgram → ℕ → List ℤ → Type 0
HasLocals t n locals = nat_lt (length locals) (length (locals_at t n)) ≡ false

-- each constant, global and local has a value, and the procedure that runs has a body
pub record IsFull (t : TypedProgram) (v : Config) : Type 0 where
  pub all_globals : nat_lt (length v.globals) (length t.globals) ≡ false
  pub all_locals : HasLocals t v.top.proc v.top.locals
  pub body : HasBody t v.top.proc

-- A frame waits at a call with these targets, and its activation goes on behind it.
pub record Waits (t : TypedProgram) (f : Frame) (targets : List Column) (a : Activation) : Type 0 where
  pub proc : f.proc ≡ a.proc
  pub locals : f.locals ≡ a.locals
  pub entry : f.entry ≡ a.entry
  pub targets_are : targets_at f.point.todo ≡ targets
  pub pending : pendings (past_first t.procs f.point.todo) ≡ a.pending
  pub all_locals : HasLocals t f.proc f.locals
  pub body : HasBody t f.proc

-- the frames wait for results that go to these targets, and then to those of the activations, one after another
abbrev pub WaitAll : TypedProgram → List Frame → List Column → List Activation → Type 0
WaitAll t [] targets [] = Unit {0}
WaitAll t [] targets (a ∷ waiting) = ⊥
WaitAll t (f ∷ fs) targets [] = ⊥
WaitAll t (f ∷ fs) targets (a ∷ waiting) = Waits t f targets a × WaitAll t fs a.targets waiting

-- The values are those of the moment, and the frame that runs stands where these blocks are to do, apart from ended ones and labels in front.
pub record Mirrors (t : TypedProgram) (c : Config) (m : Moment) : Type 0 where
  pub values : Config
  pub todo : List Todo
  pub targets : List Column
  pub below : List Activation
  pub config : c ≡ moved_to values (settled todo)
  pub moment : m ≡ moment_of values targets below (pendings todo)
  pub waits : WaitAll t values.below targets below
  pub full : IsFull t values
