-- The outcomes of the checks, put together.
use Rattle.std.proofs.Common.{◌≡◌, ℕ, ◌+◌, ◌<◌, List, Option, None, Some, refl, sym, subst, arith}
use Rattle.std.specs.Prelude.{slice_get, Result, Ok, Err, IfSome, IsErrAnd}
use Rattle.letter_acts.specs.Invariant.{Graph}
use Rattle.proof_form.specs.Annotations.{Content}
use Rattle.proof_names.specs.Outlines.{Sketch}
use Rattle.proof_check.specs.declared.rejects.Reject.{Reject}
use Rattle.proof_check.specs.declared.rejects.Reject.TheVariants.{At, Memory}
use Rattle.proof_check.specs.declared.rejects.RejectCause.{RejectCause}
use Rattle.proof_check.specs.declared.rejects.RejectCause.TheVariants.{BadTriple, NoStart, OpenError, MissingStep, BadStep, BadName}
use Rattle.proof_check.specs.Ties.Firsts.{IsFirstOf}
use Rattle.proof_check.specs.Checks.{PassesIn, turn, IsRefusal, IsOutcome, AreOutcomes}

-- ---- from places to items

-- items from the first one on have the property of the members of the list
abbrev pub PassFrom : {X : Type 0} → (ℕ → X → Type 0) → List X → ℕ → ℕ → Type 0
PassFrom {X} P xs first i = (k : ℕ) (x : X) → i ≡ first + k → slice_get xs k ≡ Some x → P k x

pub none_fails : {X : Type 0} (P : ℕ → X → Type 0) (xs : List X) (first : ℕ) → IsFirstOf P xs None → (i : ℕ) → PassFrom P xs first i
none_fails P xs first h i k x e g = h k x g

pub before_fails : {X : Type 0} (P : ℕ → X → Type 0) (xs : List X) (first k : ℕ) → IsFirstOf P xs (Some k) → (i : ℕ) → i < first + k → PassFrom P xs first i
before_fails P xs first k h i l j x e g = h.0 j (omega (arith, l, e)) x g

pub item_fails : {X : Type 0} (P : ℕ → X → Type 0) (xs : List X) (first k : ℕ) → IsFirstOf P xs (Some k) → PassFrom P xs first (first + k) → ⊥
item_fails P xs first k h p = h.1 (λ x g. p k x refl g)

-- the refusal at a place is the outcome of the check
pub refused : {X : Type 0} (P : ℕ → X → Type 0) (xs : List X) (first k : ℕ) (cause : RejectCause) (f : Option ℕ) (r : Reject) → IfSome f (λ n. n ≡ first) →
    IsRefusal f k cause r → IsFirstOf P xs (Some k) → IsOutcome {U = Unit {0}} (PassFrom P xs first) cause (Err r)
refused P xs first k cause f Memory e q h = tt
refused P xs first k cause None (At item c) e q h = absurd q
refused P xs first k cause (Some n) (At item c) e q h =
    let m : first + k ≡ item = let j = q.0 in omega (arith, e, j) in (
      q.1,
      subst (λ (j : ℕ). (i : ℕ) → i < j → PassFrom P xs first i) m (before_fails P xs first k h),
      subst (λ (j : ℕ). PassFrom P xs first j → ⊥) m (item_fails P xs first k h),
    )

-- ---- all checks of what lines name

pub all_pass : (g : Graph) (a : Content) (s : Sketch) → ((i : ℕ) → PassesIn g a s BadTriple i) → ((i : ℕ) → PassesIn g a s NoStart i) → ((i : ℕ) → PassesIn g a s OpenError i) →
    ((i : ℕ) → PassesIn g a s BadStep i) → ((i : ℕ) → PassesIn g a s MissingStep i) → (c : RejectCause) (i : ℕ) → PassesIn g a s c i
all_pass g a s t n e b m BadTriple i = t i
all_pass g a s t n e b m NoStart i = n i
all_pass g a s t n e b m OpenError i = e i
all_pass g a s t n e b m MissingStep i = m i
all_pass g a s t n e b m BadStep i = b i
all_pass g a s t n e b m BadName i = tt

-- the checks before one have passed
abbrev Passed : Graph → Content → Sketch → RejectCause → Type 0
Passed g a s cause = (c : RejectCause) (i : ℕ) → turn c < turn cause → PassesIn g a s c i

first_in : (g : Graph) (a : Content) (s : Sketch) (c : RejectCause) (r : Reject) → Passed g a s c → IsOutcome {U = Unit {0}} (PassesIn g a s c) c (Err r) → AreOutcomes {U = Unit {0}} g a s (Err r)
first_in g a s c (At item cause) p h = record {
  earlier = subst (λ (d : RejectCause). Passed g a s d) (sym h.0) p;
  before = subst (λ (d : RejectCause). (i : ℕ) → i < item → PassesIn g a s d i) (sym h.0) h.1;
  fails = subst (λ (d : RejectCause). PassesIn g a s d item → ⊥) (sym h.0) h.2;
}
first_in g a s c Memory p h = tt

before_triples : (g : Graph) (a : Content) (s : Sketch) → Passed g a s BadTriple
before_triples g a s BadName i l = tt
before_triples g a s BadTriple i l = absurd (omega arith)
before_triples g a s NoStart i l = absurd (omega arith)
before_triples g a s OpenError i l = absurd (omega arith)
before_triples g a s BadStep i l = absurd (omega arith)
before_triples g a s MissingStep i l = absurd (omega arith)

before_start : (g : Graph) (a : Content) (s : Sketch) → ((i : ℕ) → PassesIn g a s BadTriple i) → Passed g a s NoStart
before_start g a s t BadName i l = tt
before_start g a s t BadTriple i l = t i
before_start g a s t NoStart i l = absurd (omega arith)
before_start g a s t OpenError i l = absurd (omega arith)
before_start g a s t BadStep i l = absurd (omega arith)
before_start g a s t MissingStep i l = absurd (omega arith)

before_errors : (g : Graph) (a : Content) (s : Sketch) → ((i : ℕ) → PassesIn g a s BadTriple i) → ((i : ℕ) → PassesIn g a s NoStart i) → Passed g a s OpenError
before_errors g a s t n BadName i l = tt
before_errors g a s t n BadTriple i l = t i
before_errors g a s t n NoStart i l = n i
before_errors g a s t n OpenError i l = absurd (omega arith)
before_errors g a s t n BadStep i l = absurd (omega arith)
before_errors g a s t n MissingStep i l = absurd (omega arith)

before_steps : (g : Graph) (a : Content) (s : Sketch) → ((i : ℕ) → PassesIn g a s BadTriple i) → ((i : ℕ) → PassesIn g a s NoStart i) → ((i : ℕ) → PassesIn g a s OpenError i) →
    Passed g a s BadStep
before_steps g a s t n e BadName i l = tt
before_steps g a s t n e BadTriple i l = t i
before_steps g a s t n e NoStart i l = n i
before_steps g a s t n e OpenError i l = e i
before_steps g a s t n e BadStep i l = absurd (omega arith)
before_steps g a s t n e MissingStep i l = absurd (omega arith)

before_covering : (g : Graph) (a : Content) (s : Sketch) → ((i : ℕ) → PassesIn g a s BadTriple i) → ((i : ℕ) → PassesIn g a s NoStart i) → ((i : ℕ) → PassesIn g a s OpenError i) →
    ((i : ℕ) → PassesIn g a s BadStep i) → Passed g a s MissingStep
before_covering g a s t n e b BadName i l = tt
before_covering g a s t n e b BadTriple i l = t i
before_covering g a s t n e b NoStart i l = n i
before_covering g a s t n e b OpenError i l = e i
before_covering g a s t n e b BadStep i l = b i
before_covering g a s t n e b MissingStep i l = absurd (omega arith)

pub stops_at_triples : (g : Graph) (a : Content) (s : Sketch) (r : Reject) → IsOutcome {U = Unit {0}} (PassesIn g a s BadTriple) BadTriple (Err r) → AreOutcomes {U = Unit {0}} g a s (Err r)
stops_at_triples g a s r h = first_in g a s BadTriple r (before_triples g a s) h

pub stops_at_start : (g : Graph) (a : Content) (s : Sketch) (r : Reject) → ((i : ℕ) → PassesIn g a s BadTriple i) →
    IsOutcome {U = Unit {0}} (PassesIn g a s NoStart) NoStart (Err r) → AreOutcomes {U = Unit {0}} g a s (Err r)
stops_at_start g a s r t h = first_in g a s NoStart r (before_start g a s t) h

pub stops_at_errors : (g : Graph) (a : Content) (s : Sketch) (r : Reject) → ((i : ℕ) → PassesIn g a s BadTriple i) → ((i : ℕ) → PassesIn g a s NoStart i) →
    IsOutcome {U = Unit {0}} (PassesIn g a s OpenError) OpenError (Err r) → AreOutcomes {U = Unit {0}} g a s (Err r)
stops_at_errors g a s r t n h = first_in g a s OpenError r (before_errors g a s t n) h

pub stops_at_steps : (g : Graph) (a : Content) (s : Sketch) (r : Reject) → ((i : ℕ) → PassesIn g a s BadTriple i) → ((i : ℕ) → PassesIn g a s NoStart i) → ((i : ℕ) → PassesIn g a s OpenError i) →
    IsOutcome {U = Unit {0}} (PassesIn g a s BadStep) BadStep (Err r) → AreOutcomes {U = Unit {0}} g a s (Err r)
stops_at_steps g a s r t n e h = first_in g a s BadStep r (before_steps g a s t n e) h

pub stops_at_covering : (g : Graph) (a : Content) (s : Sketch) (r : Reject) → ((i : ℕ) → PassesIn g a s BadTriple i) → ((i : ℕ) → PassesIn g a s NoStart i) →
    ((i : ℕ) → PassesIn g a s OpenError i) → ((i : ℕ) → PassesIn g a s BadStep i) →
    IsOutcome {U = Unit {0}} (PassesIn g a s MissingStep) MissingStep (Err r) → AreOutcomes {U = Unit {0}} g a s (Err r)
stops_at_covering g a s r t n e b h = first_in g a s MissingStep r (before_covering g a s t n e b) h

-- the outcome of the last check is that of all
pub last_check : (g : Graph) (a : Content) (s : Sketch) (r : Result (Unit {0}) Reject) → ((i : ℕ) → PassesIn g a s BadTriple i) → ((i : ℕ) → PassesIn g a s NoStart i) →
    ((i : ℕ) → PassesIn g a s OpenError i) → ((i : ℕ) → PassesIn g a s BadStep i) → IsOutcome (PassesIn g a s MissingStep) MissingStep r → AreOutcomes g a s r
last_check g a s (Ok u) t n e b h = all_pass g a s t n e b h
last_check g a s (Err r) t n e b h = stops_at_covering g a s r t n e b h

-- an error that `?` hands on
pub handed_on : (P : Reject → Type 0) (C : Result (Unit {0}) Reject → Type 0) (r : Result (Unit {0}) Reject) → IsErrAnd r P → ((x : Reject) → P x → C (Err x)) → C r
handed_on P C (Ok u) h k = absurd h
handed_on P C (Err x) h k = k x h
