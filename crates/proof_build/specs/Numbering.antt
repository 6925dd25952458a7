-- Predicates of certified automata by number: 0 is true, 1 is false, the listed ones follow.
use Rattle.std.specs.Prelude.{◌≡◌, ℕ, Bool, true, false, IsTrue, List, ◌++◌, Option, None, Some, slice_get}
use Rattle.std.specs.List.{AllByRecursion}
use Rattle.std.specs.Option.{option_and_then}
use Rattle.letter_acts.specs.Invariant.{Graph, AreDistinct, IsPlaceOf}
use Rattle.triple_rows.specs.declared.triples.Scoped.{Scoped}
use Rattle.triple_rows.specs.Proofs.{PlainProof}
use Rattle.itp_automaton.specs.Certified.{Certificate, IsTruthAt}
use Rattle.itp_automaton.specs.Making.{named_in}
use Rattle.proof_names.specs.Columns.{is_some_entry}
use Rattle.proof_names.specs.Naming.{scoped_at}
use Rattle.proof_names.specs.ProofSpell.Drafts.{MayBeNamed}

-- ---- procedures with bodies

abbrev pub HasBody : Graph → ℕ → Type 0
HasBody g p = IsTrue (is_some_entry (slice_get g.entries p))

-- the procedure in which the graph starts has a body
abbrev pub StartHasBody : Graph → Type 0
StartHasBody g = (p : ℕ) → IsPlaceOf g.place_procs p 0 → HasBody g p

-- ---- numbers

-- the predicate has this number
abbrev pub IsNumberOf : List Scoped → Scoped → ℕ → Type 0
IsNumberOf preds s k = scoped_at (slice_get preds) s.proc k ≡ Some s

-- the number of the predicate, if it has one
abbrev pub IsNumber : List Scoped → Scoped → Option ℕ → Type 0
IsNumber preds s None = (k : ℕ) → IsNumberOf preds s k → ⊥
IsNumber preds s (Some k) = IsNumberOf preds s k

abbrev pub truth_number : Bool → ℕ
truth_number true = 0
truth_number false = 1

-- the number of each state, if it has one; true and false have theirs
pub record AreNumbers (preds states : List Scoped) (number : ℕ → Option ℕ) : Type 0 where
  pub each : (q : ℕ) (s : Scoped) → slice_get states q ≡ Some s → IsNumber preds s (number q)
  pub truths : (q : ℕ) (b : Bool) → IsTruthAt states q b → number q ≡ Some (truth_number b)

-- the number in a list of them, which may lack it
abbrev pub number_at : List (Option ℕ) → ℕ → Option ℕ
number_at numbers q = option_and_then (λ o. o) (slice_get numbers q)

-- ---- the predicates that are listed

-- predicates that lines can name, each once
pub record AreListed (g : Graph) (preds : List Scoped) : Type 0 where
  pub named : AllByRecursion (MayBeNamed g) preds
  pub once : AreDistinct preds

-- if its procedure has a body, the predicate has a number
abbrev pub IsNumbered : Graph → List Scoped → Scoped → Type 0
IsNumbered g preds s = HasBody g s.proc → (k : ℕ) × IsNumberOf preds s k

-- so have the predicates of all triples of the proofs
abbrev pub AreNumbered : Graph → List Scoped → List PlainProof → Type 0
AreNumbered g preds proofs = AllByRecursion (λ p. AllByRecursion (IsNumbered g preds) (named_in p.triple)) proofs

-- and of all certificates
abbrev pub AreAllNumbered : Graph → List Scoped → List Certificate → Type 0
AreAllNumbered g preds cs = AllByRecursion (λ c. AreNumbered g preds c.proofs) cs

-- more predicates are listed
pub record ListsMore (g : Graph) (old new : List Scoped) : Type 0 where
  pub listed : AreListed g new
  pub rest : List Scoped
  pub are : new ≡ old ++ rest
