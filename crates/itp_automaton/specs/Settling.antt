-- Triples that are tried one after another until all are settled.
use Rattle.std.specs.Prelude.{◌≡◌, ℕ, ◌<◌, true, List, [], ◌++◌, length, map, Option, None, Some, slice_get, slice_index_or}
use Rattle.std.specs.List.{AllByRecursion, flat_map}
use Rattle.nwa_base.specs.Members.{Member}
use Rattle.letter_acts.specs.Acts.{PlainAct, inside_act, call_act, back_act, Alphabet}
use Rattle.triple_rows.specs.declared.triples.Scoped.{Scoped}
use Rattle.triple_rows.specs.declared.triples.Triple.{Triple}
use Rattle.triple_rows.specs.declared.triples.Triple.TheVariants as triples
use Rattle.triple_rows.specs.Triples.{Agrees, IsScoped, truth_of}
use Rattle.triple_rows.specs.Proofs.{PlainProof}
use Rattle.hoare_check.specs.Decided.{RefutesUncut, IsProofFor}
use Rattle.hoare_check.specs.Halves.{IsTargetHalf}
use Rattle.itp_automaton.specs.declared.settling.Target.{Target}
use Rattle.itp_automaton.specs.declared.sources.Source.{Source}
use Rattle.itp_automaton.specs.declared.sources.Source.TheVariants.{Inside, Call, Back}
use Rattle.itp_automaton.specs.Making.{named_in}

-- one of the proofs is of the triple
abbrev pub IsListed : List PlainProof → Triple → Type 0
IsListed proofs t = (p : PlainProof) × Member proofs p × (p.triple ≡ t)

-- where kinds and scopes agree and Decide without cuts refutes the triple's system, one of the proofs is of it
abbrev pub SettlesTriple : Alphabet → List PlainProof → Triple → Type 0
SettlesTriple al proofs t = Agrees al t → RefutesUncut al t → IsListed proofs t

-- the predicates that the triple names are states
abbrev pub NamesStates : List Scoped → Triple → Type 0
NamesStates states t = AllByRecursion (Member states) (named_in t)

-- a proof for the alphabet, of a triple over the states
pub record IsGrounded (al : Alphabet) (states : List Scoped) (p : PlainProof) : Type 0 where
  pub proof : IsProofFor al p
  pub named : NamesStates states p.triple

-- the letter of a triple
abbrev pub letter_in : Triple → ℕ
letter_in (triples.Inside before letter after) = letter
letter_in (triples.Call before letter after) = letter
letter_in (triples.Back exit before letter after) = letter

-- the predicate that is the state; true where there is no such state
abbrev pub state_at : List Scoped → ℕ → Scoped
state_at states q = slice_index_or states q (truth_of 0 true)

-- the source's states exist
abbrev pub IsWithin : ℕ → Source → Type 0
IsWithin n (Inside q) = q < n
IsWithin n (Call q) = q < n
IsWithin n (Back q p) = (q < n) × (p < n)

-- the triple from a source by a letter to a target
abbrev pub triple_from : List Scoped → Source → ℕ → Scoped → Triple
triple_from states (Inside q) letter after = triples.Inside (state_at states q) letter after
triple_from states (Call q) letter after = triples.Call (state_at states q) letter after
triple_from states (Back q p) letter after = triples.Back (state_at states q) (state_at states p) letter after

-- with each target in this procedure, kinds and scopes agree
abbrev pub AgreesTo : Alphabet → List Scoped → ℕ → ℕ → Source → Type 0
AgreesTo al states letter proc s = (after : Scoped) → IsScoped al proc after → Agrees al (triple_from states s letter after)

-- each triple over the states by this letter that agrees comes from one of the sources
pub record IsFrom (al : Alphabet) (preds : List Scoped) (letter proc : ℕ) (sources : List Source) (t : Triple) : Type 0 where
  pub source : Source
  pub after : Scoped
  pub listed : Member sources source
  pub scoped : IsScoped al proc after
  pub state : Member preds after
  pub is : t ≡ triple_from preds source letter after

-- the sources of all triples over the states by this letter whose kinds and scopes agree, and the procedure of their targets
pub record AreSources (al : Alphabet) (preds : List Scoped) (letter proc : ℕ) (sources : List Source) : Type 0 where
  pub within : AllByRecursion (IsWithin (length preds)) sources
  pub agree : AllByRecursion (AgreesTo al preds letter proc) sources
  pub all : (t : Triple) → Agrees al t → letter_in t ≡ letter → NamesStates preds t → IsFrom al preds letter proc sources t

-- the state exists, and its predicate is in the scope of the procedure
pub record IsStateIn (al : Alphabet) (preds : List Scoped) (proc q : ℕ) : Type 0 where
  pub below : q < length preds
  pub scoped : IsScoped al proc (state_at preds q)

-- the states in the scope of the procedure
pub record AreStatesIn (al : Alphabet) (preds : List Scoped) (proc : ℕ) (found : List ℕ) : Type 0 where
  pub each : AllByRecursion (IsStateIn al preds proc) found
  pub all : (q : ℕ) → IsStateIn al preds proc q → Member found q

-- the sources of the triples by a return from a call with this act, and the procedure of their targets
abbrev pub AreReturnSources : Alphabet → List Scoped → Option PlainAct → ℕ → List Source → Type 0
AreReturnSources al preds None proc sources = sources ≡ []
AreReturnSources al preds (Some (inside_act p written helpers rows)) proc sources = sources ≡ []
AreReturnSources al preds (Some (call_act caller callee helpers rows)) proc sources =
    (proc ≡ caller) × (exits : List ℕ) × (callers : List ℕ) × AreStatesIn al preds callee exits × AreStatesIn al preds caller callers ×
    (sources ≡ flat_map (λ exit. map (Back exit) callers) exits)
AreReturnSources al preds (Some (back_act c targets)) proc sources = sources ≡ []

-- by a letter with this act
abbrev pub AreActSources : Alphabet → List Scoped → Option PlainAct → ℕ → List Source → Type 0
AreActSources al preds None proc sources = sources ≡ []
AreActSources al preds (Some (inside_act p written helpers rows)) proc sources =
    (proc ≡ p) × (found : List ℕ) × AreStatesIn al preds p found × (sources ≡ map Inside found)
AreActSources al preds (Some (call_act caller callee helpers rows)) proc sources =
    (proc ≡ callee) × (found : List ℕ) × AreStatesIn al preds caller found × (sources ≡ map Call found)
AreActSources al preds (Some (back_act c targets)) proc sources = AreReturnSources al preds (slice_get al.acts c) proc sources

-- proofs are added alone, and those that are added are for the alphabet and over the states
pub record Adds (al : Alphabet) (states : List Scoped) (old new : List PlainProof) : Type 0 where
  pub kept : (p : PlainProof) → Member old p → Member new p
  pub grounded : AllByRecursion (IsGrounded al states) old → AllByRecursion (IsGrounded al states) new

-- all triples over the states by letters below n are settled
abbrev pub SettledBelow : Alphabet → List Scoped → List PlainProof → ℕ → Type 0
SettledBelow al states proofs n = (t : Triple) → letter_in t < n → NamesStates states t → SettlesTriple al proofs t

-- all triples over the states by this letter are settled
abbrev pub SettledBy : Alphabet → List Scoped → List PlainProof → ℕ → Type 0
SettledBy al states proofs letter = (t : Triple) → letter_in t ≡ letter → NamesStates states t → SettlesTriple al proofs t

-- ---- the targets of a letter

-- a state in the scope of the procedure, with what the triple from a source by a letter to it says but for its source
pub record IsTarget (al : Alphabet) (states : List Scoped) (letter proc : ℕ) (source : Source) (t : Target) : Type 0 where
  pub state : IsStateIn al states proc t.state
  pub half : IsTargetHalf al (triple_from states source letter (state_at states t.state)) t.half

-- the targets of the triples from a source by a letter: the states in the scope of the procedure
pub record AreTargets (al : Alphabet) (states : List Scoped) (letter proc : ℕ) (source : Source) (targets : List Target) : Type 0 where
  pub each : AllByRecursion (IsTarget al states letter proc source) targets
  pub found : AreStatesIn al states proc (map (λ t. t.state) targets)

-- the triples from a source by a letter to the targets are settled
abbrev pub SettlesTargets : Alphabet → List Scoped → ℕ → List PlainProof → List Target → Source → Type 0
SettlesTargets al states letter proofs targets source = AllByRecursion (λ t. SettlesTriple al proofs (triple_from states source letter (state_at states t.state))) targets

-- what is found from the sources: proofs over the states, with which the triples to the targets are settled
pub record SettlesSources (al : Alphabet) (states : List Scoped) (letter : ℕ) (known : List PlainProof) (targets : List Target) (sources : List Source) (found : List PlainProof) : Type 0 where
  pub grounded : AllByRecursion (IsGrounded al states) found
  pub settled : AllByRecursion (SettlesTargets al states letter (known ++ found) targets) sources

-- each number below n is listed, and none beyond
pub record AreAllBelow (n : ℕ) (numbers : List ℕ) : Type 0 where
  pub each : AllByRecursion (λ k. k < n) numbers
  pub all : (k : ℕ) → k < n → Member numbers k

-- what is found by a letter: proofs over the states, with which all triples by the letter are settled
pub record IsFoundBy (al : Alphabet) (states : List Scoped) (known : List PlainProof) (letter : ℕ) (found : List PlainProof) : Type 0 where
  pub grounded : AllByRecursion (IsGrounded al states) found
  pub settled : SettledBy al states (known ++ found) letter
