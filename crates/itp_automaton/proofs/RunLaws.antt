-- An automaton with the triples along a word accepts the word.
use Rattle.std.proofs.Common.{◌≡◌, ◌∙◌, ℕ, suc, true, false, List, [], ◌∷◌, ◌++◌, length, map, Option, Some, refl, sym, ap, subst, inl, inr, arith}
use Rattle.std.specs.Prelude.{slice_get}
use Rattle.std.specs.List.{AllByRecursion}
use Rattle.nwa_base.specs.declared.letters.Kind.{Kind}
use Rattle.nwa_base.specs.declared.letters.Kind.TheVariants as kinds
use Rattle.nwa_base.specs.declared.letters.Letter.{Letter}
use Rattle.nwa_base.specs.Members.{Member}
use Rattle.nwa_base.specs.Automata.{Automaton}
use Rattle.nwa_base.specs.Acceptance.{Follows, AcceptsFrom, Accepts}
use Rattle.nwa_base.proofs.MemberLemmas.{member_front, member_split, member_map, member_from_map}
use Rattle.letter_acts.specs.Acts.{PlainAct, inside_act, call_act, back_act, letter_of}
use Rattle.letter_acts.specs.Invariant.{Graph, IsGraph, AreDistinct, IsPlaceOf, alphabet_of}
use Rattle.letter_acts.specs.Known.{InsideKnown, CallKnown, BackKnown}
use Rattle.letter_acts.proofs.KnownLemmas.{inside_edge_known, call_edge_known, back_edge_known}
use Rattle.triple_rows.specs.declared.predicates.PredNode.TheVariants.{Truth}
use Rattle.triple_rows.specs.declared.triples.Scoped.{Scoped}
use Rattle.triple_rows.specs.declared.triples.Triple.{Triple}
use Rattle.triple_rows.specs.declared.triples.Triple.TheVariants as triples
use Rattle.triple_rows.specs.Triples.{InsideAgrees, CallAgrees, Agrees, truth_of}
use Rattle.triple_rows.specs.Proofs.{PlainProof}
use Rattle.nested_itp.specs.NestedPredicates.Interpolants.{letter_triple, saved_after, triples_along, BeginsTrue, EndsFalse}
use Rattle.hoare_check.specs.Decided.{IsProofFor}
use Rattle.itp_automaton.specs.Certified.{Certificate}
use Rattle.itp_automaton.specs.Making.{named_in, IsStateFor, NameStatesFor, HasStates, HasEdge, HasEdges}
use Rattle.itp_automaton.specs.Words.{AreAlong}
use Rattle.itp_automaton.proofs.StateLaws.{one_place}
use Rattle.itp_automaton.proofs.BuiltLaws.{all_of, all_member}

-- ---- letters of edges

inside_letter : (g : Graph) (q e : ℕ) (a : Letter) (act : PlainAct) → InsideKnown g q a e → a.kind ≡ kinds.Inside → slice_get g.acts a.id ≡ Some act → letter_of a.id act ≡ a
inside_letter g q e a act h k d =
    let s : Some act ≡ Some (inside_act h.proc h.written h.helpers h.rows) = sym d ∙ h.act in
    let is : act ≡ inside_act h.proc h.written h.helpers h.rows = cc in
    ap (letter_of a.id) is ∙ (λ i. record { id = a.id; kind = sym k i; call = sym h.call i })

call_letter : (g : Graph) (q e : ℕ) (a : Letter) (act : PlainAct) → CallKnown g q a e → a.kind ≡ kinds.Call → slice_get g.acts a.id ≡ Some act → letter_of a.id act ≡ a
call_letter g q e a act h k d =
    let s : Some act ≡ Some (call_act h.caller h.callee h.helpers h.rows) = sym d ∙ h.act in
    let is : act ≡ call_act h.caller h.callee h.helpers h.rows = cc in
    ap (letter_of a.id) is ∙ (λ i. record { id = a.id; kind = sym k i; call = sym h.call i })

back_letter : (g : Graph) (q p e : ℕ) (a : Letter) (act : PlainAct) → BackKnown g q p a e → a.kind ≡ kinds.Back → slice_get g.acts a.id ≡ Some act → letter_of a.id act ≡ a
back_letter g q p e a act h k d =
    let s : Some act ≡ Some (back_act a.call h.targets) = sym d ∙ h.act in
    let is : act ≡ back_act a.call h.targets = cc in
    ap (letter_of a.id) is ∙ (λ i. record { id = a.id; kind = sym k i; call = a.call })

-- ---- the run

-- the states before the open calls are the predicates that were saved, one for each place that was left
abbrev AreSaved : List Scoped → List ℕ → List ℕ → List Scoped → Type 0
AreSaved states [] [] [] = Unit {0}
AreSaved states [] [] (s ∷ saved) = ⊥
AreSaved states [] (b ∷ before) saved = ⊥
AreSaved states (x ∷ stack) [] saved = ⊥
AreSaved states (x ∷ stack) (b ∷ before) [] = ⊥
AreSaved states (x ∷ stack) (b ∷ before) (s ∷ saved) = (slice_get states b ≡ Some s) × AreSaved states stack before saved

module _ (g : Graph) (k : IsGraph g) (states : List Scoped) (once : AreDistinct states) (m : Automaton) where
  -- each triple of the list is an edge
  abbrev AreEdges : List Triple → Type 0
  AreEdges ts = (t : Triple) → Member ts t → HasEdge (alphabet_of g) states m t

  -- what accepts the rest of the word, wherever it is reached
  abbrev Rest : List Letter → Scoped → List Scoped → Type 0
  Rest w p preds = (stack before : List ℕ) (saved : List Scoped) (place q : ℕ) → AcceptsFrom g.automaton stack place w → AreSaved states stack before saved → slice_get states q ≡ Some p →
      AreEdges (triples_along w (p ∷ preds) saved) → AcceptsFrom m before q w

  step : (a : Letter) (w : List Letter) (p next : Scoped) (preds : List Scoped) → Rest w next preds → (kind : Kind) → a.kind ≡ kind → (stack before : List ℕ) (saved : List Scoped) (place end q : ℕ) →
      Follows g.automaton kind a stack place end (λ s. AcceptsFrom g.automaton s end w) → AreSaved states stack before saved → slice_get states q ≡ Some p →
      AreEdges (letter_triple kind a.id p saved next ++ triples_along w (next ∷ preds) (saved_after kind p saved)) →
      (e : ℕ) × Follows m kind a before q e (λ s. AcceptsFrom m s e w)
  step a w p next preds rest kinds.Inside kind stack before saved place end q f s at edges =
      let h = edges (triples.Inside p a.id next) (inl refl) in
      let x = one_place states h.q q p once h.source at in
      let z = inside_letter g place end a h.act (inside_edge_known g k place end a f.0) kind h.stands in
      let is : (h.q, letter_of a.id h.act, h.e) ≡ (q, a, h.e) = λ i. (x i, z i, h.e) in
      (h.e, (subst (λ (y : ℕ × Letter × ℕ). Member m.insides y) is h.edge, rest stack before saved end h.e f.1 s h.target (λ t n. edges t (inr n))))
  step a w p next preds rest kinds.Call kind stack before saved place end q f s at edges =
      let h = edges (triples.Call p a.id next) (inl refl) in
      let x = one_place states h.q q p once h.source at in
      let z = call_letter g place end a h.act (call_edge_known g k place end a f.0) kind h.stands in
      let is : (h.q, letter_of a.id h.act, h.e) ≡ (q, a, h.e) = λ i. (x i, z i, h.e) in
      (h.e, (subst (λ (y : ℕ × Letter × ℕ). Member m.calls y) is h.edge, rest (place ∷ stack) (q ∷ before) (p ∷ saved) end h.e f.1 (at, s) h.target (λ t n. edges t (inr n))))
  step a w p next preds rest kinds.Back kind [] before saved place end q f s at edges = absurd f
  step a w p next preds rest kinds.Back kind (o ∷ stack) [] saved place end q f s at edges = absurd s
  step a w p next preds rest kinds.Back kind (o ∷ stack) (b ∷ before) [] place end q f s at edges = absurd s
  step a w p next preds rest kinds.Back kind (o ∷ stack) (b ∷ before) (caller ∷ saved) place end q f s at edges =
      let h = edges (triples.Back p caller a.id next) (inl refl) in
      let x = one_place states h.q q p once h.source at in
      let y = one_place states h.p b caller once h.caller s.0 in
      let z = back_letter g place o end a h.act (back_edge_known g k place o end a kind f.0) kind h.stands in
      let is : (h.q, h.p, letter_of a.id h.act, h.e) ≡ (q, b, a, h.e) = λ i. (x i, y i, z i, h.e) in
      (h.e, (subst (λ (v : ℕ × ℕ × Letter × ℕ). Member m.backs v) is h.edge, rest stack before saved end h.e f.1 s.1 h.target (λ t n. edges t (inr n))))

  module _ (finals : (q p : ℕ) → slice_get states q ≡ Some (truth_of p false) → Member m.finals q) where
    run : (w : List Letter) (p : Scoped) (preds : List Scoped) → length preds ≡ length w → EndsFalse (p ∷ preds) → Rest w p preds
    run [] p [] count ends stack before saved place q accepts s at edges =
        finals q p.proc (at ∙ ap Some (λ i. record { proc = p.proc; pred = ends i }))
    run [] p (next ∷ preds) count ends stack before saved place q accepts s at edges = absurd (omega arith)
    run (a ∷ w) p [] count ends stack before saved place q accepts s at edges = absurd (omega arith)
    run (a ∷ w) p (next ∷ preds) count ends stack before saved place q accepts s at edges =
        step a w p next preds (run w next preds (omega arith) ends) a.kind refl stack before saved place accepts.0 q accepts.1 s at edges

-- ---- the first predicate

module _ (g : Graph) (k : IsGraph g) where
  -- a source of an edge that leaves the start is of the procedure of the start
  starts_by : (a : Letter) (kind : Kind) (p next : Scoped) (e : ℕ) (rest : List ℕ → Type 0) → Follows g.automaton kind a [] g.automaton.start e rest →
      ((t : Triple) → Member (letter_triple kind a.id p [] next) t → Agrees (alphabet_of g) t) → IsPlaceOf g.place_procs p.proc 0
  starts_by a kinds.Inside p next e rest f agree =
      let h = inside_edge_known g k g.automaton.start e a f.0 in
      let i = subst (λ (o : Option PlainAct). InsideAgrees (alphabet_of g) o p next) h.act (agree (triples.Inside p a.id next) (inl refl)) in
      subst (λ (x : ℕ). IsPlaceOf g.place_procs p.proc x) k.procedures.start (subst (λ (x : ℕ). IsPlaceOf g.place_procs x g.automaton.start) (sym i.0.proc) h.starts)
  starts_by a kinds.Call p next e rest f agree =
      let h = call_edge_known g k g.automaton.start e a f.0 in
      let i = subst (λ (o : Option PlainAct). CallAgrees (alphabet_of g) o p next) h.act (agree (triples.Call p a.id next) (inl refl)) in
      subst (λ (x : ℕ). IsPlaceOf g.place_procs p.proc x) k.procedures.start (subst (λ (x : ℕ). IsPlaceOf g.place_procs x g.automaton.start) (sym i.0.proc) h.starts)
  starts_by a kinds.Back p next e rest f agree = absurd f

-- the triples along a word are edges, and agree
module _ (g : Graph) (proofs : List PlainProof) (ts : List Triple) (e : map (λ p. p.triple) proofs ≡ ts) where
  its_proof : (t : Triple) → Member ts t → (p : PlainProof) × Member proofs p × (p.triple ≡ t)
  its_proof t m = member_from_map (λ (p : PlainProof). p.triple) proofs t (subst (λ (l : List Triple). Member l t) (sym e) m)

  edges_of : (c : Certificate) → HasEdges (alphabet_of g) proofs c → (t : Triple) → Member ts t → HasEdge (alphabet_of g) c.preds c.automaton t
  edges_of c h t m = let p = its_proof t m in subst (HasEdge (alphabet_of g) c.preds c.automaton) p.2 (h p.0 p.1)

  agree_of : AllByRecursion (IsProofFor (alphabet_of g)) proofs → (t : Triple) → Member ts t → Agrees (alphabet_of g) t
  agree_of h t m = let p = its_proof t m in subst (Agrees (alphabet_of g)) p.2 (all_member (IsProofFor (alphabet_of g)) proofs p.0 h p.1).agrees

pub accepts_along : (g : Graph) (w : List Letter) (given : List Scoped) (proofs : List PlainProof) (c : Certificate) → IsGraph g → Accepts g.automaton w → AreAlong g w given proofs →
    HasStates g given c → HasEdges (alphabet_of g) proofs c → Accepts c.automaton w
accepts_along g w given proofs c k accepts a s h = by_preds w given accepts a.count a.begins a.ends a.triples
  where
    by_preds : (v : List Letter) (preds : List Scoped) → Accepts g.automaton v → length preds ≡ suc (length v) → BeginsTrue preds → EndsFalse preds →
        map (λ p. p.triple) proofs ≡ triples_along v preds [] → Accepts c.automaton v
    by_preds v [] acc count begins ends e = absurd begins
    by_preds [] (p ∷ []) acc count begins ends e = let x : Truth true ∷ [] ≡ Truth false ∷ [] = sym begins ∙ ends in absurd cc
    by_preds [] (p ∷ next ∷ preds) acc count begins ends e = absurd (omega arith)
    by_preds (b ∷ v) (p ∷ []) acc count begins ends e = absurd (omega arith)
    by_preds (b ∷ v) (p ∷ next ∷ preds) acc count begins ends e =
        let place = starts_by g k b b.kind p next acc.0 (λ stack. AcceptsFrom g.automaton stack acc.0 v) acc.1
        (λ t m. agree_of g proofs (triples_along (b ∷ v) (p ∷ next ∷ preds) []) e a.proved t (member_front (letter_triple b.kind b.id p [] next) (triples_along v (next ∷ preds) (saved_after b.kind p [])) t m)) in
        let first : truth_of p.proc true ≡ p = λ i. record { proc = p.proc; pred = sym begins i } in
        run g k c.preds s.states.once c.automaton s.finals (b ∷ v) p (next ∷ preds) (omega arith) ends [] [] [] g.automaton.start c.automaton.start acc tt
        (s.start p.proc place ∙ ap Some first) (edges_of g proofs (triples_along (b ∷ v) (p ∷ next ∷ preds) []) e c h)

-- ---- the predicates that the triples name

module _ (all : List Scoped) where
  letter_named : (kind : Kind) (letter : ℕ) (p : Scoped) (saved : List Scoped) (next : Scoped) → Member all p → ((s : Scoped) → Member saved s → Member all s) → Member all next →
      (t : Triple) → Member (letter_triple kind letter p saved next) t → AllByRecursion (Member all) (named_in t)
  letter_named kinds.Inside letter p saved next x f y t (inl e) = subst (λ (u : Triple). AllByRecursion (Member all) (named_in u)) e (x, (y, tt))
  letter_named kinds.Inside letter p saved next x f y t (inr none) = absurd none
  letter_named kinds.Call letter p saved next x f y t (inl e) = subst (λ (u : Triple). AllByRecursion (Member all) (named_in u)) e (x, (y, tt))
  letter_named kinds.Call letter p saved next x f y t (inr none) = absurd none
  letter_named kinds.Back letter p [] next x f y t m = absurd m
  letter_named kinds.Back letter p (b ∷ saved) next x f y t (inl e) = subst (λ (u : Triple). AllByRecursion (Member all) (named_in u)) e (x, (f b (inl refl), (y, tt)))
  letter_named kinds.Back letter p (b ∷ saved) next x f y t (inr none) = absurd none

  saved_in : (kind : Kind) (p : Scoped) (saved : List Scoped) → Member all p → ((s : Scoped) → Member saved s → Member all s) → (s : Scoped) → Member (saved_after kind p saved) s → Member all s
  saved_in kinds.Inside p saved x f s m = f s m
  saved_in kinds.Call p saved x f s (inl e) = subst (λ (y : Scoped). Member all y) e x
  saved_in kinds.Call p saved x f s (inr m) = f s m
  saved_in kinds.Back p [] x f s m = absurd m
  saved_in kinds.Back p (b ∷ saved) x f s m = f s (inr m)

  along_named : (w : List Letter) (preds saved : List Scoped) → ((s : Scoped) → Member preds s → Member all s) → ((s : Scoped) → Member saved s → Member all s) →
      (t : Triple) → Member (triples_along w preds saved) t → AllByRecursion (Member all) (named_in t)
  along_named [] preds saved h f t m = absurd m
  along_named (a ∷ w) [] saved h f t m = absurd m
  along_named (a ∷ w) (p ∷ []) saved h f t m = absurd m
  along_named (a ∷ w) (p ∷ next ∷ preds) saved h f t m = elim (member_split (letter_triple a.kind a.id p saved next) (triples_along w (next ∷ preds) (saved_after a.kind p saved)) t m) [
    | inl j ↦ letter_named a.kind a.id p saved next (h p (inl refl)) f (h next (inr (inl refl))) t j
    | inr j ↦ along_named w (next ∷ preds) (saved_after a.kind p saved) (λ s n. h s (inr n)) (saved_in a.kind p saved (h p (inl refl)) f) t j
  ]

states_for : (preds l : List Scoped) → AllByRecursion (Member preds) l → AllByRecursion (IsStateFor preds) l
states_for preds [] h = tt
states_for preds (s ∷ l) h = (inr h.0, states_for preds l h.1)

pub along_states : (g : Graph) (w : List Letter) (preds : List Scoped) (proofs : List PlainProof) → AreAlong g w preds proofs → NameStatesFor preds proofs
along_states g w preds proofs a = all_of (λ p. AllByRecursion (IsStateFor preds) (named_in p.triple)) proofs (λ p m.
    states_for preds (named_in p.triple) (along_named preds w preds [] (λ s n. n) (λ s n. absurd n) p.triple
    (subst (λ (l : List Triple). Member l p.triple) a.triples (member_map (λ (q : PlainProof). q.triple) proofs p m))))
