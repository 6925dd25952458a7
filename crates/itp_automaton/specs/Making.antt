-- What a certified automaton is made of: proofs for an alphabet, and the predicates that their triples name.
use Rattle.std.specs.Prelude.{◌≡◌, ◌⊎◌, ℕ, ◌<◌, Bool, true, false, List, [], ◌∷◌, length, Some, slice_get}
use Rattle.std.specs.List.{AllByRecursion}
use Rattle.nwa_base.specs.Members.{Member}
use Rattle.nwa_base.specs.Automata.{Automaton}
use Rattle.letter_acts.specs.Acts.{PlainAct, Alphabet, letter_of}
use Rattle.letter_acts.specs.Invariant.{Graph, AreDistinct, IsPlaceOf}
use Rattle.triple_rows.specs.declared.triples.Scoped.{Scoped}
use Rattle.triple_rows.specs.declared.triples.Triple.{Triple}
use Rattle.triple_rows.specs.declared.triples.Triple.TheVariants.{Inside, Call, Back}
use Rattle.triple_rows.specs.Proofs.{PlainProof}
use Rattle.triple_rows.specs.Triples.{truth_of}
use Rattle.itp_automaton.specs.Certified.{Certificate, IsCertified}

-- what a certified automaton keeps: it is certified for some alphabet, that which it was made for
abbrev pub IsCertificate : Certificate → Type 0
IsCertificate c = (al : Alphabet) × IsCertified al c

-- the predicates that a triple names
abbrev pub named_in : Triple → List Scoped
named_in (Inside before letter after) = before ∷ after ∷ []
named_in (Call before letter after) = before ∷ after ∷ []
named_in (Back exit before letter after) = exit ∷ before ∷ after ∷ []

-- the predicate is true, false or in the list
abbrev pub IsStateFor : List Scoped → Scoped → Type 0
IsStateFor preds s = ((b : Bool) × (s ≡ truth_of s.proc b)) ⊎ Member preds s

-- the proofs' triples name true, false and predicates of the list alone
abbrev pub NameStatesFor : List Scoped → List PlainProof → Type 0
NameStatesFor preds proofs = AllByRecursion (λ p. AllByRecursion (IsStateFor preds) (named_in p.triple)) proofs

-- true and false of each procedure and the predicates of the list, each once
pub record AreStates (frames : ℕ) (preds states : List Scoped) : Type 0 where
  pub once : AreDistinct states
  pub truths : (p : ℕ) (b : Bool) → p < frames → Member states (truth_of p b)
  pub given : (s : Scoped) → Member preds s → Member states s
  pub only : (s : Scoped) → Member states s → IsStateFor preds s

-- The states are true and false of each procedure and the predicates of the list, each once. The start is true of the
-- procedure of the graph's start, and false of each procedure is final.
pub record HasStates (g : Graph) (preds : List Scoped) (c : Certificate) : Type 0 where
  pub states : AreStates (length g.frames) preds c.preds
  pub start : (p : ℕ) → IsPlaceOf g.place_procs p 0 → slice_get c.preds c.automaton.start ≡ Some (truth_of p true)
  pub finals : (q p : ℕ) → slice_get c.preds q ≡ Some (truth_of p false) → Member c.automaton.finals q

-- ---- edges

-- the edge of an inside triple: between the states that are its predicates, by the letter of the alphabet with its number
pub record HasInside (al : Alphabet) (states : List Scoped) (m : Automaton) (before : Scoped) (letter : ℕ) (after : Scoped) : Type 0 where
  pub q : ℕ
  pub e : ℕ
  pub act : PlainAct
  pub source : slice_get states q ≡ Some before
  pub target : slice_get states e ≡ Some after
  pub stands : slice_get al.acts letter ≡ Some act
  pub edge : Member m.insides (q, letter_of letter act, e)

-- that of a call triple
pub record HasCall (al : Alphabet) (states : List Scoped) (m : Automaton) (before : Scoped) (letter : ℕ) (after : Scoped) : Type 0 where
  pub q : ℕ
  pub e : ℕ
  pub act : PlainAct
  pub source : slice_get states q ≡ Some before
  pub target : slice_get states e ≡ Some after
  pub stands : slice_get al.acts letter ≡ Some act
  pub edge : Member m.calls (q, letter_of letter act, e)

-- that of a return triple
pub record HasBack (al : Alphabet) (states : List Scoped) (m : Automaton) (exit before : Scoped) (letter : ℕ) (after : Scoped) : Type 0 where
  pub q : ℕ
  pub p : ℕ
  pub e : ℕ
  pub act : PlainAct
  pub source : slice_get states q ≡ Some exit
  pub caller : slice_get states p ≡ Some before
  pub target : slice_get states e ≡ Some after
  pub stands : slice_get al.acts letter ≡ Some act
  pub edge : Member m.backs (q, p, letter_of letter act, e)

-- the triple is an edge of the automaton over these states
abbrev pub HasEdge : Alphabet → List Scoped → Automaton → Triple → Type 0
HasEdge al states m (Inside before letter after) = HasInside al states m before letter after
HasEdge al states m (Call before letter after) = HasCall al states m before letter after
HasEdge al states m (Back exit before letter after) = HasBack al states m exit before letter after

-- the triple of each of the proofs is an edge
abbrev pub HasEdges : Alphabet → List PlainProof → Certificate → Type 0
HasEdges al proofs c = (p : PlainProof) → Member proofs p → HasEdge al c.preds c.automaton p.triple
