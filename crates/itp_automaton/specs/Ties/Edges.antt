-- Automata to which the edges of proofs are added one by one.
use Rattle.std.specs.Prelude.{◌≡◌, ◌⊎◌, ℕ, ◌<◌, true, false, List, [], ◌∷◌, ◌++◌, length, Some, slice_get}
use Rattle.nwa_base.specs.declared.letters.Letter.{Letter}
use Rattle.nwa_base.specs.Members.{Member}
use Rattle.nwa_base.specs.Automata.{Automaton}
use Rattle.letter_acts.specs.Acts.{PlainAct, Alphabet, letter_of}
use Rattle.letter_acts.specs.Invariant.{Graph, IsPlaceOf, alphabet_of}
use Rattle.triple_rows.specs.declared.predicates.PredNode.TheVariants.{Truth}
use Rattle.triple_rows.specs.declared.triples.Scoped.{Scoped}
use Rattle.triple_rows.specs.declared.triples.Triple.{Triple}
use Rattle.triple_rows.specs.declared.triples.Triple.TheVariants as triples
use Rattle.triple_rows.specs.Predicates.{SpellsPredicate}
use Rattle.triple_rows.specs.Triples.{HasTarget, truth_of}
use Rattle.triple_rows.specs.Proofs.{PlainProof}
use Rattle.itp_automaton.specs.Certified.{IsTruthAt}
use Rattle.itp_automaton.specs.Making.{HasEdge}

-- the state is the predicate false
abbrev pub IsFalseAt : List Scoped → ℕ → Type 0
IsFalseAt states q = (s : Scoped) × (slice_get states q ≡ Some s) × (s.pred ≡ Truth false ∷ [])

-- the automaton has these states, and its start and its final states are as they are to be
pub record IsBegun (g : Graph) (preds : List Scoped) (m : Automaton) : Type 0 where
  pub states : m.states ≡ length preds
  pub start : (p : ℕ) → IsPlaceOf g.place_procs p 0 → slice_get preds m.start ≡ Some (truth_of p true)
  pub begins : IsTruthAt preds m.start true
  pub falses : (q : ℕ) → Member m.finals q → IsFalseAt preds q
  pub finals : (q p : ℕ) → slice_get preds q ≡ Some (truth_of p false) → Member m.finals q

-- a state is made final where it is the predicate false
abbrev pub MarksFalse : Scoped → ℕ → Automaton → Automaton → Type 0
MarksFalse s q old new =
    ((s.pred ≡ Truth false ∷ []) × (new ≡ record old { finals = old.finals ++ q ∷ [] })) ⊎ ((s.pred ≡ Truth false ∷ [] → ⊥) × (new ≡ old))

-- the automaton has these states and no edge, and of the states below n exactly those are final that are false
pub record IsMarkedBelow (n start : ℕ) (preds : List Scoped) (m : Automaton) : Type 0 where
  pub states : m.states ≡ length preds
  pub begins : m.start ≡ start
  pub falses : (q : ℕ) → Member m.finals q → IsFalseAt preds q
  pub finals : (q : ℕ) → q < n → IsFalseAt preds q → Member m.finals q
  pub insides : m.insides ≡ []
  pub calls : m.calls ≡ []
  pub backs : m.backs ≡ []

-- the edge is that of one of the proofs
pub record IsInsideOf (states : List Scoped) (proofs : List PlainProof) (q : ℕ) (a : Letter) (e : ℕ) : Type 0 where
  pub before : Scoped
  pub after : Scoped
  pub source : slice_get states q ≡ Some before
  pub target : slice_get states e ≡ Some after
  pub proof : PlainProof
  pub listed : Member proofs proof
  pub is : proof.triple ≡ triples.Inside before a.id after

pub record IsCallOf (states : List Scoped) (proofs : List PlainProof) (q : ℕ) (a : Letter) (e : ℕ) : Type 0 where
  pub before : Scoped
  pub after : Scoped
  pub source : slice_get states q ≡ Some before
  pub target : slice_get states e ≡ Some after
  pub proof : PlainProof
  pub listed : Member proofs proof
  pub is : proof.triple ≡ triples.Call before a.id after

pub record IsBackOf (states : List Scoped) (proofs : List PlainProof) (q p : ℕ) (a : Letter) (e : ℕ) : Type 0 where
  pub exit : Scoped
  pub before : Scoped
  pub after : Scoped
  pub source : slice_get states q ≡ Some exit
  pub caller : slice_get states p ≡ Some before
  pub target : slice_get states e ≡ Some after
  pub proof : PlainProof
  pub listed : Member proofs proof
  pub is : proof.triple ≡ triples.Back exit before a.id after

-- the automaton has exactly the edges of the proofs, whose targets are spelled
pub record IsBuilt (g : Graph) (preds : List Scoped) (proofs : List PlainProof) (m : Automaton) : Type 0 where
  pub begun : IsBegun g preds m
  pub insides : (q e : ℕ) (a : Letter) → Member m.insides (q, a, e) → IsInsideOf preds proofs q a e
  pub calls : (q e : ℕ) (a : Letter) → Member m.calls (q, a, e) → IsCallOf preds proofs q a e
  pub backs : (q p e : ℕ) (a : Letter) → Member m.backs (q, p, a, e) → IsBackOf preds proofs q p a e
  pub has : (p : PlainProof) → Member proofs p → HasEdge (alphabet_of g) preds m p.triple
  pub spelled : (p : PlainProof) → Member proofs p → HasTarget p.triple

-- the edge of an inside triple is added
pub record AddsInside (al : Alphabet) (states : List Scoped) (before : Scoped) (letter : ℕ) (after : Scoped) (old new : Automaton) : Type 0 where
  pub q : ℕ
  pub e : ℕ
  pub act : PlainAct
  pub source : slice_get states q ≡ Some before
  pub target : slice_get states e ≡ Some after
  pub stands : slice_get al.acts letter ≡ Some act
  pub spelled : SpellsPredicate after.pred
  pub is : new ≡ record old { insides = old.insides ++ (q, letter_of letter act, e) ∷ [] }

-- that of a call triple
pub record AddsCall (al : Alphabet) (states : List Scoped) (before : Scoped) (letter : ℕ) (after : Scoped) (old new : Automaton) : Type 0 where
  pub q : ℕ
  pub e : ℕ
  pub act : PlainAct
  pub source : slice_get states q ≡ Some before
  pub target : slice_get states e ≡ Some after
  pub stands : slice_get al.acts letter ≡ Some act
  pub spelled : SpellsPredicate after.pred
  pub is : new ≡ record old { calls = old.calls ++ (q, letter_of letter act, e) ∷ [] }

-- that of a return triple
pub record AddsBack (al : Alphabet) (states : List Scoped) (exit before : Scoped) (letter : ℕ) (after : Scoped) (old new : Automaton) : Type 0 where
  pub q : ℕ
  pub p : ℕ
  pub e : ℕ
  pub act : PlainAct
  pub source : slice_get states q ≡ Some exit
  pub caller : slice_get states p ≡ Some before
  pub target : slice_get states e ≡ Some after
  pub stands : slice_get al.acts letter ≡ Some act
  pub spelled : SpellsPredicate after.pred
  pub is : new ≡ record old { backs = old.backs ++ (q, p, letter_of letter act, e) ∷ [] }

-- the triple's edge is added
abbrev pub AddsEdge : Alphabet → List Scoped → Triple → Automaton → Automaton → Type 0
AddsEdge al states (triples.Inside before letter after) old new = AddsInside al states before letter after old new
AddsEdge al states (triples.Call before letter after) old new = AddsCall al states before letter after old new
AddsEdge al states (triples.Back exit before letter after) old new = AddsBack al states exit before letter after old new
