-- The six checks of an annotation, and the first that fails, at its first item.
use Rattle.std.specs.Prelude.{◌≡◌, ℕ, ◌+◌, ◌<◌, Option, None, Some, Result, Ok, Err, slice_get}
use Rattle.letter_acts.specs.Invariant.{Graph}
use Rattle.proof_form.specs.Annotations.{Content}
use Rattle.proof_names.specs.declared.outlines.NamedTriple.{NamedTriple}
use Rattle.proof_names.specs.declared.outlines.NamedStep.{NamedStep}
use Rattle.proof_names.specs.Outlines.{OutlineNode, Sketch}
use Rattle.proof_names.specs.Items.{IsNamed, Names, first_triple, first_node, first_step, item_count}
use Rattle.proof_check.specs.declared.rejects.Reject.{Reject}
use Rattle.proof_check.specs.declared.rejects.Reject.TheVariants.{At, Memory}
use Rattle.proof_check.specs.declared.rejects.RejectCause.{RejectCause}
use Rattle.proof_check.specs.declared.rejects.RejectCause.TheVariants.{BadTriple, NoStart, OpenError, MissingStep, BadStep, BadName}
use Rattle.proof_check.specs.Steps.{IsNode, IsOpen, IsSound, HasSteps, HasBacks}
use Rattle.proof_check.specs.Proves.{IsShown, HasStart, ErrorIsFalse}

-- the node has each step and each back that it has to have
abbrev pub IsCovered : Graph → Sketch → ℕ → OutlineNode → Type 0
IsCovered g s n x = IsOpen x → HasSteps g s n x × HasBacks g s n x

-- item i passes the check, where its lines name this; items that a check does not speak of pass it
abbrev pub PassesIn : Graph → Content → Sketch → RejectCause → ℕ → Type 0
PassesIn g a s BadTriple i = (k : ℕ) (t : NamedTriple) → i ≡ first_triple a + k → slice_get s.triples k ≡ Some t → IsShown g t
PassesIn g a s NoStart i = i ≡ item_count a → HasStart s
PassesIn g a s OpenError i = (n : ℕ) (x : OutlineNode) → i ≡ first_node a + n → IsNode s n x → ErrorIsFalse g.automaton x
PassesIn g a s MissingStep i = (n : ℕ) (x : OutlineNode) → i ≡ first_node a + n → IsNode s n x → IsCovered g s n x
PassesIn g a s BadStep i = (k : ℕ) (t : NamedStep) → i ≡ first_step a + k → slice_get s.steps k ≡ Some t → IsSound g s t
PassesIn g a s BadName i = Unit {0}

-- item i passes the check; what lines name is asked for by all checks but the first
abbrev pub Passes : Graph → Content → RejectCause → ℕ → Type 0
Passes g a BadName i = IsNamed g a i
Passes g a BadTriple i = (s : Sketch) → Names g a s → PassesIn g a s BadTriple i
Passes g a NoStart i = (s : Sketch) → Names g a s → PassesIn g a s NoStart i
Passes g a OpenError i = (s : Sketch) → Names g a s → PassesIn g a s OpenError i
Passes g a BadStep i = (s : Sketch) → Names g a s → PassesIn g a s BadStep i
Passes g a MissingStep i = (s : Sketch) → Names g a s → PassesIn g a s MissingStep i

-- which check it is
abbrev pub turn : RejectCause → ℕ
turn BadName = 1
turn BadTriple = 2
turn NoStart = 3
turn OpenError = 4
turn BadStep = 5
turn MissingStep = 6

-- the first of the six checks that fails, and its first item
pub record IsFirst (g : Graph) (a : Content) (item : ℕ) (cause : RejectCause) : Type 0 where
  pub earlier : (c : RejectCause) (i : ℕ) → turn c < turn cause → Passes g a c i
  pub before : (i : ℕ) → i < item → Passes g a cause i
  pub fails : Passes g a cause item → ⊥

-- ---- the outcome of checks

-- of one check: all items pass, or it names its cause and the first item that fails
abbrev pub IsOutcome : {U : Type 0} → (ℕ → Type 0) → RejectCause → Result U Reject → Type 0
IsOutcome P c (Ok u) = (i : ℕ) → P i
IsOutcome P c (Err (At item cause)) = (cause ≡ c) × ((i : ℕ) → i < item → P i) × (P item → ⊥)
IsOutcome P c (Err Memory) = Unit {0}

-- the refusal of the item at this place behind the first of its kind, or want of memory
abbrev pub IsRefusal : Option ℕ → ℕ → RejectCause → Reject → Type 0
IsRefusal first place cause Memory = Unit {0}
IsRefusal None place cause (At item c) = ⊥
IsRefusal (Some n) place cause (At item c) = (item ≡ n + place) × (c ≡ cause)

-- the first of the checks of what lines name that fails, and its first item
pub record IsFirstIn (g : Graph) (a : Content) (s : Sketch) (item : ℕ) (cause : RejectCause) : Type 0 where
  pub earlier : (c : RejectCause) (i : ℕ) → turn c < turn cause → PassesIn g a s c i
  pub before : (i : ℕ) → i < item → PassesIn g a s cause i
  pub fails : PassesIn g a s cause item → ⊥

-- of all checks of what lines name
abbrev pub AreOutcomes : {U : Type 0} → Graph → Content → Sketch → Result U Reject → Type 0
AreOutcomes g a s (Ok u) = (c : RejectCause) (i : ℕ) → PassesIn g a s c i
AreOutcomes g a s (Err (At item cause)) = IsFirstIn g a s item cause
AreOutcomes g a s (Err Memory) = Unit {0}
