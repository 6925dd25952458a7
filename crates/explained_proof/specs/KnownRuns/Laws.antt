-- Where an annotation proves the graph of a program, its nodes describe the runs of the program, frame by frame.
use Rattle.std.specs.Prelude.{◌≡◌, ℕ, ℤ, List, IsTrue}
use Rattle.nwa_base.specs.Members.{Member}
use Rattle.typed_tree.specs.TypedTree.{TypedProgram}
use Rattle.typed_tree.specs.TypingRules.ValidProgram.{is_valid}
use Rattle.boogie_run.specs.BoogiePoints.Points.{Start}
use Rattle.boogie_run.specs.Configurations.{Config, state_of}
use Rattle.proof_form.specs.Annotations.{Content}
use Rattle.proof_names.specs.Items.{pred_at}
use Rattle.proof_names.specs.Outlines.{OutlineNode, Sketch}
use Rattle.proof_check.specs.Steps.{IsNode}
use Rattle.proof_check.specs.Described.{HoldsAt}
use Rattle.proof_check.specs.Proves.{IsStart}
use Rattle.lowered_graph.specs.LoweredSteps.Moves.{FrameKeeps}
use Rattle.lowered_graph.specs.Lowered.{lowered}
use Rattle.explained_proof.specs.KnownRuns.Reached.{IsReached, MayEnter, at_entry, seen}
use Rattle.explained_proof.specs.KnownRuns.Followed.{IsProofOf, IsEntryOf, Begins, IsDescribed}

-- A configuration of a run is described by a node, whose entry node is one of its procedure, or one that begins a run.
pub record IsDescribedByOne (t : TypedProgram) (a : Content) (s : Sketch) (c : Config) : Type 0 where
  pub number : ℕ
  pub node : OutlineNode
  pub stands : IsNode s number node
  pub begins : Begins t c.top.proc number node
  pub described : IsDescribed (pred_at (lowered t) a) s number (seen t c)

abbrev pub RunsAreDescribed : Type 0
RunsAreDescribed = (t : TypedProgram) (a : Content) (s : Sketch) (c : Config) → IsTrue (is_valid t) → IsProofOf t a s → IsReached t c → IsDescribedByOne t a s c

-- the node's predicates hold in each state in which the frame that runs may have been entered
abbrev pub HoldsAtEntry : TypedProgram → Content → OutlineNode → Config → Type 0
HoldsAtEntry t a x c = (locals : List ℤ) → MayEnter t c locals → (k : ℕ) → Member x.preds k → HoldsAt (pred_at (lowered t) a) k (at_entry t c locals)

-- Behind the start, a configuration of a run is described from each entry node of its procedure whose predicates hold where its frame was entered.
abbrev pub FramesAreDescribed : Type 0
FramesAreDescribed = (t : TypedProgram) (a : Content) (s : Sketch) (c : Config) (n : ℕ) (x : OutlineNode) → IsTrue (is_valid t) → IsProofOf t a s → IsReached t c →
    (c.top.point.stage ≡ Start → ⊥) → IsNode s n x → IsEntryOf (lowered t) c.top.proc n x → HoldsAtEntry t a x c → IsDescribed (pred_at (lowered t) a) s n (seen t c)

-- A configuration of the entry procedure, also where it was called, is described from each node that begins a run.
abbrev pub StartsAreDescribed : Type 0
StartsAreDescribed = (t : TypedProgram) (a : Content) (s : Sketch) (c : Config) (n : ℕ) (x : OutlineNode) → IsTrue (is_valid t) → IsProofOf t a s → IsReached t c →
    c.top.proc ≡ t.entry → IsNode s n x → IsStart n x → IsDescribed (pred_at (lowered t) a) s n (seen t c)

-- The frame that runs was entered with these locals, in a state that one of the nodes knows which are its procedure's or begin a run; from each entry node of its procedure
-- whose predicates held in that state it is described.
pub record IsEntered (t : TypedProgram) (a : Content) (s : Sketch) (c : Config) : Type 0 where
  pub keeps : FrameKeeps t c.top.proc (state_of c)
  pub locals : List ℤ
  pub may : MayEnter t c locals
  pub number : ℕ
  pub node : OutlineNode
  pub stands : IsNode s number node
  pub begins : Begins t c.top.proc number node
  pub held : (k : ℕ) → Member node.preds k → HoldsAt (pred_at (lowered t) a) k (at_entry t c locals)
  pub described : (n : ℕ) (x : OutlineNode) → IsNode s n x → IsEntryOf (lowered t) c.top.proc n x → ((k : ℕ) → Member x.preds k → HoldsAt (pred_at (lowered t) a) k (at_entry t c locals)) →
      IsDescribed (pred_at (lowered t) a) s n (seen t c)

-- Behind the start, the frame of a configuration of a run was entered in some state in which a node stands for it, and is described from the nodes of that state.
abbrev pub FramesAreEntered : Type 0
FramesAreEntered = (t : TypedProgram) (a : Content) (s : Sketch) (c : Config) → IsTrue (is_valid t) → IsProofOf t a s → IsReached t c → (c.top.point.stage ≡ Start → ⊥) → IsEntered t a s c
