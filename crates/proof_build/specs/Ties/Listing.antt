-- The triples of proofs, by the numbers of their predicates.
use Rattle.std.specs.Prelude.{◌≡◌, Bool, true, false, List, [], ◌∷◌, ◌++◌, map, Option, None, Some}
use Rattle.nwa_base.specs.Members.{Member}
use Rattle.letter_acts.specs.Invariant.{AreDistinct}
use Rattle.triple_rows.specs.declared.triples.Scoped.{Scoped}
use Rattle.triple_rows.specs.declared.triples.Triple.{Triple}
use Rattle.triple_rows.specs.declared.triples.Triple.TheVariants as triples
use Rattle.triple_rows.specs.Proofs.{PlainProof}
use Rattle.itp_automaton.specs.Certified.{Certificate}
use Rattle.proof_names.specs.declared.outlines.Listed.{Listed}
use Rattle.proof_names.specs.declared.outlines.Listed.TheVariants.{Inside, Call, Back}
use Rattle.proof_names.specs.ProofSpell.Drafts.{PlainShown}
use Rattle.proof_build.specs.Unwindings.{HasTriple}
use Rattle.proof_build.specs.Numbering.{IsNumberOf}

-- these are the numbers of the triple's predicates, with its letter
abbrev pub IsListedAs : List Scoped → Triple → Listed → Type 0
IsListedAs preds (triples.Inside before l after) (Inside q k r) = IsNumberOf preds before q × (k ≡ l) × IsNumberOf preds after r
IsListedAs preds (triples.Call before l after) (Call q k r) = IsNumberOf preds before q × (k ≡ l) × IsNumberOf preds after r
IsListedAs preds (triples.Back exit before l after) (Back q p k r) = IsNumberOf preds exit q × IsNumberOf preds before p × (k ≡ l) × IsNumberOf preds after r
IsListedAs preds t n = ⊥

-- the numbers of the triple, if all its predicates have numbers
abbrev pub AreItsNumbers : List Scoped → Triple → Option Listed → Type 0
AreItsNumbers preds t None = (n : Listed) → IsListedAs preds t n → ⊥
AreItsNumbers preds t (Some n) = IsListedAs preds t n

-- the triple of one of the proofs, with its refutation
pub record IsOneOf (preds : List Scoped) (proofs : List PlainProof) (t : PlainShown) : Type 0 where
  pub proof : PlainProof
  pub among : Member proofs proof
  pub numbers : IsListedAs preds proof.triple t.listed
  pub refutation : t.proof ≡ proof.refutation

-- the proof's triple is listed, if all its predicates have numbers and it is needed
pub record IsListedIn (preds : List Scoped) (needed : List Listed) (shown : List PlainShown) (p : PlainProof) : Type 0 where
  pub numbers : Option Listed
  pub are : AreItsNumbers preds p.triple numbers
  pub listed : (n : Listed) → numbers ≡ Some n → Member needed n → HasTriple shown n

-- the triples of the proofs that are needed are added
pub record Shows (preds : List Scoped) (needed : List Listed) (proofs : List PlainProof) (old new : List PlainShown) : Type 0 where
  pub rest : List PlainShown
  pub are : new ≡ old ++ rest
  pub each : (t : PlainShown) → Member rest t → IsOneOf preds proofs t
  pub all : (p : PlainProof) → Member proofs p → IsListedIn preds needed new p

-- the triples of the certificates' proofs that are needed
pub record AreTriplesOf (preds : List Scoped) (cs : List Certificate) (needed : List Listed) (shown : List PlainShown) : Type 0 where
  pub each : (t : PlainShown) → Member shown t → (c : Certificate) × Member cs c × IsOneOf preds c.proofs t
  pub all : (c : Certificate) → Member cs c → (p : PlainProof) → Member c.proofs p → IsListedIn preds needed shown p

-- ---- each once

abbrev pub listed_in : List PlainShown → List Listed
listed_in shown = map (λ t. t.listed) shown

-- the numbers are needed and new, and then at the end of the list, or else the list is as it was
abbrev pub IsFirst : List Listed → List Listed → Listed → Bool → List Listed → Type 0
IsFirst needed old t true new = Member needed t × (Member old t → ⊥) × (new ≡ old ++ t ∷ [])
IsFirst needed old t false new = (Member needed t → Member old t) × (new ≡ old)

-- these are the numbers of the triples, each once and all needed
pub record AreNumbersOf (needed seen : List Listed) (shown : List PlainShown) : Type 0 where
  pub are : listed_in shown ≡ seen
  pub once : AreDistinct seen
  pub within : (t : Listed) → Member seen t → Member needed t

-- the triples are needed, and no two have the same numbers
pub record AreNeededOnce (needed : List Listed) (shown : List PlainShown) : Type 0 where
  pub once : AreDistinct (listed_in shown)
  pub within : (t : PlainShown) → Member shown t → Member needed t.listed
