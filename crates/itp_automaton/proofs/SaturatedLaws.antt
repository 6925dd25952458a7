-- What is built of settled proofs is saturated.
use Rattle.std.proofs.Common.{◌≡◌, ◌∙◌, ℕ, ◌<◌, Bool, List, [], ◌∷◌, length, Some, refl, sym, subst}
use Rattle.std.specs.Prelude.{slice_get}
use Rattle.std.specs.List.{AllByRecursion}
use Rattle.nwa_base.specs.declared.letters.Letter.{Letter}
use Rattle.nwa_base.specs.Members.{Member}
use Rattle.nwa_base.specs.Automata.{Automaton}
use Rattle.letter_acts.specs.Acts.{PlainAct, Alphabet, letter_of}
use Rattle.letter_acts.specs.Invariant.{Graph, AreDistinct, alphabet_of}
use Rattle.triple_rows.specs.declared.triples.Scoped.{Scoped}
use Rattle.triple_rows.specs.declared.triples.Triple.{Triple}
use Rattle.triple_rows.specs.declared.triples.Triple.TheVariants as triples
use Rattle.triple_rows.specs.Triples.{Agrees, truth_of}
use Rattle.triple_rows.specs.Proofs.{PlainProof}
use Rattle.hoare_check.specs.Decided.{RefutesUncut}
use Rattle.hoare_check.specs.Decided.{IsProofFor}
use Rattle.itp_automaton.specs.Certified.{Certificate}
use Rattle.itp_automaton.specs.Saturated.{IsSaturated, HasTruth}
use Rattle.itp_automaton.specs.Making.{NameStatesFor, AreStates, HasInside, HasCall, HasBack, HasEdge, HasEdges}
use Rattle.itp_automaton.specs.Settling.{NamesStates, IsGrounded, SettledBelow, letter_in}
use Rattle.itp_automaton.specs.Ties.Edges.{IsBuilt}
use Rattle.itp_automaton.proofs.StateLaws.{member_at, place_of, one_place}
use Rattle.itp_automaton.proofs.EdgeLaws.{place_below}
use Rattle.itp_automaton.proofs.MakingLaws.{named_alike}
use Rattle.itp_automaton.proofs.SettlingLaws.{all_later}

-- ---- the proofs before and after

pub all_grounded : (g : Graph) (preds states : List Scoped) (proofs : List PlainProof) → AreStates (length g.frames) preds states → AllByRecursion (IsProofFor (alphabet_of g)) proofs → NameStatesFor preds proofs →
    AllByRecursion (IsGrounded (alphabet_of g) states) proofs
all_grounded g preds states proofs h f n = both proofs f ((named_alike g preds states h proofs f).1 n)
  where
    both : (ps : List PlainProof) → AllByRecursion (IsProofFor (alphabet_of g)) ps → AllByRecursion (λ p. NamesStates states p.triple) ps → AllByRecursion (IsGrounded (alphabet_of g) states) ps
    both [] a b = tt
    both (p ∷ ps) a b = (record { proof = a.0; named = b.0 }, both ps a.1 b.1)

pub grounded_proofs : (al : Alphabet) (states : List Scoped) (proofs : List PlainProof) → AllByRecursion (IsGrounded al states) proofs → AllByRecursion (IsProofFor al) proofs
grounded_proofs al states proofs h = all_later (IsGrounded al states) (IsProofFor al) proofs (λ p k. k.proof) h

pub grounded_named : (al : Alphabet) (states : List Scoped) (proofs : List PlainProof) → AllByRecursion (IsGrounded al states) proofs → AllByRecursion (λ p. NamesStates states p.triple) proofs
grounded_named al states proofs h = all_later (IsGrounded al states) (λ p. NamesStates states p.triple) proofs (λ p k. k.named) h

-- ---- edges between given states

module _ (al : Alphabet) (states : List Scoped) (m : Automaton) (once : AreDistinct states) where
  same_act : (l : ℕ) (a b : PlainAct) → slice_get al.acts l ≡ Some a → slice_get al.acts l ≡ Some b → a ≡ b
  same_act l a b e f = let k : Some a ≡ Some b = sym e ∙ f in cc

  inside_here : (q e l : ℕ) (act : PlainAct) (before after : Scoped) → slice_get al.acts l ≡ Some act → slice_get states q ≡ Some before → slice_get states e ≡ Some after →
      HasInside al states m before l after → Member m.insides (q, letter_of l act, e)
  inside_here q e l act before after d s t h =
      let a = same_act l h.act act h.stands d in
      let x = one_place states h.q q before once h.source s in
      let z = one_place states h.e e after once h.target t in
      let is : (h.q, letter_of l h.act, h.e) ≡ (q, letter_of l act, e) = λ i. (x i, letter_of l (a i), z i) in
      subst (λ (k : ℕ × Letter × ℕ). Member m.insides k) is h.edge

  call_here : (q e l : ℕ) (act : PlainAct) (before after : Scoped) → slice_get al.acts l ≡ Some act → slice_get states q ≡ Some before → slice_get states e ≡ Some after →
      HasCall al states m before l after → Member m.calls (q, letter_of l act, e)
  call_here q e l act before after d s t h =
      let a = same_act l h.act act h.stands d in
      let x = one_place states h.q q before once h.source s in
      let z = one_place states h.e e after once h.target t in
      let is : (h.q, letter_of l h.act, h.e) ≡ (q, letter_of l act, e) = λ i. (x i, letter_of l (a i), z i) in
      subst (λ (k : ℕ × Letter × ℕ). Member m.calls k) is h.edge

  back_here : (q p e l : ℕ) (act : PlainAct) (exit before after : Scoped) → slice_get al.acts l ≡ Some act → slice_get states q ≡ Some exit → slice_get states p ≡ Some before → slice_get states e ≡ Some after →
      HasBack al states m exit before l after → Member m.backs (q, p, letter_of l act, e)
  back_here q p e l act exit before after d s r t h =
      let a = same_act l h.act act h.stands d in
      let x = one_place states h.q q exit once h.source s in
      let y = one_place states h.p p before once h.caller r in
      let z = one_place states h.e e after once h.target t in
      let is : (h.q, h.p, letter_of l h.act, h.e) ≡ (q, p, letter_of l act, e) = λ i. (x i, y i, letter_of l (a i), z i) in
      subst (λ (k : ℕ × ℕ × Letter × ℕ). Member m.backs k) is h.edge

-- ---- saturated

module _ (g : Graph) (preds states : List Scoped) (proofs : List PlainProof) (c : Certificate) (h : AreStates (length g.frames) preds states) (b : IsBuilt g states proofs c.automaton)
    (s : SettledBelow (alphabet_of g) states proofs (length g.acts)) (e : c.preds ≡ states) where
  has_edge : (t : Triple) → letter_in t < length g.acts → NamesStates states t → Agrees (alphabet_of g) t → RefutesUncut (alphabet_of g) t → HasEdge (alphabet_of g) states c.automaton t
  has_edge t lt n a r = let p = s t lt n a r in subst (HasEdge (alphabet_of g) states c.automaton) p.2 (b.has p.0 p.1)

  has_truth : (p : ℕ) (v : Bool) → p < length g.frames → HasTruth states p v
  has_truth p v lt = let place = place_of states (truth_of p v) (h.truths p v lt) in (place.0, truth_of p v, place.1, refl, refl)

  at : (q : ℕ) (x : Scoped) → slice_get c.preds q ≡ Some x → slice_get states q ≡ Some x
  at q x f = subst (λ (l : List Scoped). slice_get l q ≡ Some x) e f

  pub built_saturated : IsSaturated (alphabet_of g) c
  built_saturated = record {
    truths = λ p v lt. subst (λ (l : List Scoped). HasTruth l p v) (sym e) (has_truth p v lt);
    insides = λ q k l act before after d x y a r. inside_here (alphabet_of g) states c.automaton h.once q k l act before after d (at q before x) (at k after y)
        (has_edge (triples.Inside before l after) (place_below g.acts l act d) (member_at states q before (at q before x), (member_at states k after (at k after y), tt)) a r);
    calls = λ q k l act before after d x y a r. call_here (alphabet_of g) states c.automaton h.once q k l act before after d (at q before x) (at k after y)
        (has_edge (triples.Call before l after) (place_below g.acts l act d) (member_at states q before (at q before x), (member_at states k after (at k after y), tt)) a r);
    backs = λ q p k l act exit before after d x w y a r. back_here (alphabet_of g) states c.automaton h.once q p k l act exit before after d (at q exit x) (at p before w) (at k after y)
        (has_edge (triples.Back exit before l after) (place_below g.acts l act d)
        (member_at states q exit (at q exit x), (member_at states p before (at p before w), (member_at states k after (at k after y), tt))) a r);
  }

  -- proofs that were there before
  pub old_edges : (old : List PlainProof) → ((p : PlainProof) → Member old p → Member proofs p) → HasEdges (alphabet_of g) old c
  old_edges old more p m = subst (λ (l : List Scoped). HasEdge (alphabet_of g) l c.automaton p.triple) (sym e) (b.has p (more p m))
