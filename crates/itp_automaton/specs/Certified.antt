-- Automata whose states are predicates and whose edges are proved triples.
use Rattle.std.specs.Prelude.{◌≡◌, ℕ, Bool, true, false, List, Some, length, slice_get}
use Rattle.std.specs.List.{AllByRecursion}
use Rattle.nwa_base.specs.declared.letters.Letter.{Letter}
use Rattle.nwa_base.specs.Members.{Member}
use Rattle.nwa_base.specs.Automata.{Automaton}
use Rattle.letter_acts.specs.Acts.{Alphabet}
use Rattle.letter_acts.specs.Feasible.{IsFeasible}
use Rattle.triple_rows.specs.declared.triples.Scoped.{Scoped}
use Rattle.triple_rows.specs.declared.triples.Triple.{Triple}
use Rattle.triple_rows.specs.declared.triples.Triple.TheVariants as triples
use Rattle.triple_rows.specs.Predicates.{truth, formula_of}
use Rattle.triple_rows.specs.Triples.{Agrees, IsValid}
use Rattle.triple_rows.specs.Proofs.{PlainProof, IsProofOver}
use Rattle.hoare_check.specs.Decided.{AreCutsWithin, IsProofFor}

-- predicates, which are the states; proofs of triples over them; and the automaton whose edges these are
pub record Certificate : Type 0 where
  pub preds : List Scoped
  pub proofs : List PlainProof
  pub automaton : Automaton

-- state q is the predicate true, or false, of some procedure
abbrev pub IsTruthAt : List Scoped → ℕ → Bool → Type 0
IsTruthAt preds q b = (p : Scoped) × (slice_get preds q ≡ Some p) × (formula_of p.pred ≡ truth b)

-- The triple agrees with its letter, is valid, and one of the proofs is of it, with each cut at a column of the triple's system.
pub record ProvesTriple (al : Alphabet) (proofs : List PlainProof) (triple : Triple) : Type 0 where
  pub agrees : Agrees al triple
  pub valid : IsValid al triple
  pub proof : PlainProof
  pub listed : Member proofs proof
  pub is : proof.triple ≡ triple
  pub over : IsProofOver al proof
  pub within : AreCutsWithin al proof.triple proof.refutation

-- the triple from state q by an inside letter to state e is proved
pub record InsideIsProved (al : Alphabet) (c : Certificate) (q : ℕ) (a : Letter) (e : ℕ) : Type 0 where
  pub before : Scoped
  pub after : Scoped
  pub source : slice_get c.preds q ≡ Some before
  pub target : slice_get c.preds e ≡ Some after
  pub proved : ProvesTriple al c.proofs (triples.Inside before a.id after)

-- that by a call letter
pub record CallIsProved (al : Alphabet) (c : Certificate) (q : ℕ) (a : Letter) (e : ℕ) : Type 0 where
  pub before : Scoped
  pub after : Scoped
  pub source : slice_get c.preds q ≡ Some before
  pub target : slice_get c.preds e ≡ Some after
  pub proved : ProvesTriple al c.proofs (triples.Call before a.id after)

-- that from state q at the exit, with state p before the call, by a return letter to state e
pub record BackIsProved (al : Alphabet) (c : Certificate) (q p : ℕ) (a : Letter) (e : ℕ) : Type 0 where
  pub exit : Scoped
  pub before : Scoped
  pub after : Scoped
  pub source : slice_get c.preds q ≡ Some exit
  pub caller : slice_get c.preds p ≡ Some before
  pub target : slice_get c.preds e ≡ Some after
  pub proved : ProvesTriple al c.proofs (triples.Back exit before a.id after)

-- Certified: the states are the predicates, the proofs are for the alphabet, the start is true, the final states are false, and each edge is a
-- proved triple.
pub record IsCertified (al : Alphabet) (c : Certificate) : Type 0 where
  pub states : c.automaton.states ≡ length c.preds
  pub proofs : AllByRecursion (IsProofFor al) c.proofs
  pub start : IsTruthAt c.preds c.automaton.start true
  pub finals : (q : ℕ) → Member c.automaton.finals q → IsTruthAt c.preds q false
  pub insides : (q e : ℕ) (a : Letter) → Member c.automaton.insides (q, a, e) → InsideIsProved al c q a e
  pub calls : (q e : ℕ) (a : Letter) → Member c.automaton.calls (q, a, e) → CallIsProved al c q a e
  pub backs : (q p e : ℕ) (a : Letter) → Member c.automaton.backs (q, p, a, e) → BackIsProved al c q p a e

-- the word is feasible for an alphabet for which the automaton is certified
abbrev pub IsFeasibleFor : Certificate → List Letter → Type 0
IsFeasibleFor c w = (al : Alphabet) × IsCertified al c × IsFeasible al w
