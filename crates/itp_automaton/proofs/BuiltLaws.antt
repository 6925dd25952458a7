-- Automata to which the edges of proofs are added.
use Rattle.std.proofs.Common.{◌≡◌, ◌∙◌, ℕ, zero, suc, ◌+◌, ◌<◌, true, false, List, [], ◌∷◌, ◌++◌, length, None, Some, Result, Ok, IfOk, refl, sym, ap, subst, inl, inr, arith}
use Rattle.std.specs.Prelude.{Bool, MatchBool, slice_get}
use Rattle.std.specs.List.{AllByRecursion}
use Rattle.nwa_base.specs.declared.letters.Letter.{Letter}
use Rattle.nwa_base.specs.Members.{Member}
use Rattle.nwa_base.specs.Automata.{Automaton}
use Rattle.nwa_base.proofs.MemberLemmas.{member_front, member_rest, member_split}
use Rattle.letter_acts.specs.Acts.{Alphabet, letter_of}
use Rattle.letter_acts.specs.Invariant.{Graph, IsGraph, alphabet_of, IsPlaceOf}
use Rattle.hoare_check.specs.Decided.{IsProofFor}
use Rattle.itp_automaton.specs.Settling.{NamesStates}
use Rattle.itp_automaton.proofs.StateLaws.{below_or_last, member_at}
use Rattle.itp_automaton.proofs.EdgeLaws.{place_below}
use Rattle.triple_rows.specs.declared.triples.Scoped.{Scoped}
use Rattle.triple_rows.specs.declared.triples.Triple.{Triple}
use Rattle.triple_rows.specs.declared.triples.Triple.TheVariants as triples
use Rattle.triple_rows.specs.Predicates.{formula_of}
use Rattle.triple_rows.specs.Triples.{Agrees, HasTarget, IsValid, truth_of}
use Rattle.triple_rows.specs.Proofs.{PlainProof}
use Rattle.triple_rows.proofs.ValidLaws.{refuted_valid}
use Rattle.itp_automaton.specs.Certified.{IsTruthAt, ProvesTriple, IsCertified}
use Rattle.itp_automaton.specs.Making.{HasEdge}
use Rattle.itp_automaton.specs.Ties.Edges.{IsFalseAt, MarksFalse, IsMarkedBelow, IsBegun, IsInsideOf, IsCallOf, IsBackOf, IsBuilt, AddsInside, AddsCall, AddsBack, AddsEdge}

-- ---- what stays where a proof is added

inside_later : (states : List Scoped) (proofs more : List PlainProof) (q : ℕ) (a : Letter) (e : ℕ) → IsInsideOf states proofs q a e → IsInsideOf states (proofs ++ more) q a e
inside_later states proofs more q a e h = record {
  before = h.before;
  after = h.after;
  source = h.source;
  target = h.target;
  proof = h.proof;
  listed = member_front proofs more h.proof h.listed;
  is = h.is;
}

call_later : (states : List Scoped) (proofs more : List PlainProof) (q : ℕ) (a : Letter) (e : ℕ) → IsCallOf states proofs q a e → IsCallOf states (proofs ++ more) q a e
call_later states proofs more q a e h = record {
  before = h.before;
  after = h.after;
  source = h.source;
  target = h.target;
  proof = h.proof;
  listed = member_front proofs more h.proof h.listed;
  is = h.is;
}

back_later : (states : List Scoped) (proofs more : List PlainProof) (q p : ℕ) (a : Letter) (e : ℕ) → IsBackOf states proofs q p a e → IsBackOf states (proofs ++ more) q p a e
back_later states proofs more q p a e h = record {
  exit = h.exit;
  before = h.before;
  after = h.after;
  source = h.source;
  caller = h.caller;
  target = h.target;
  proof = h.proof;
  listed = member_front proofs more h.proof h.listed;
  is = h.is;
}

-- an automaton has no fewer edges
record HasMore (m n : Automaton) : Type 0 where
  insides : (x : ℕ × Letter × ℕ) → Member m.insides x → Member n.insides x
  calls : (x : ℕ × Letter × ℕ) → Member m.calls x → Member n.calls x
  backs : (x : ℕ × ℕ × Letter × ℕ) → Member m.backs x → Member n.backs x

edge_later : (al : Alphabet) (states : List Scoped) (m n : Automaton) → HasMore m n → (t : Triple) → HasEdge al states m t → HasEdge al states n t
edge_later al states m n more (triples.Inside before letter after) h = record {
  q = h.q;
  e = h.e;
  act = h.act;
  source = h.source;
  target = h.target;
  stands = h.stands;
  edge = more.insides (h.q, letter_of letter h.act, h.e) h.edge;
}
edge_later al states m n more (triples.Call before letter after) h = record {
  q = h.q;
  e = h.e;
  act = h.act;
  source = h.source;
  target = h.target;
  stands = h.stands;
  edge = more.calls (h.q, letter_of letter h.act, h.e) h.edge;
}
edge_later al states m n more (triples.Back exit before letter after) h = record {
  q = h.q;
  p = h.p;
  e = h.e;
  act = h.act;
  source = h.source;
  caller = h.caller;
  target = h.target;
  stands = h.stands;
  edge = more.backs (h.q, h.p, letter_of letter h.act, h.e) h.edge;
}

-- the same start and final states
begun_still : (g : Graph) (states : List Scoped) (m n : Automaton) → n.states ≡ m.states → n.start ≡ m.start → n.finals ≡ m.finals → IsBegun g states m → IsBegun g states n
begun_still g states m n s b f h = record {
  states = s ∙ h.states;
  start = λ p place. subst (λ (q : ℕ). slice_get states q ≡ Some (truth_of p true)) (sym b) (h.start p place);
  begins = subst (λ (q : ℕ). IsTruthAt states q true) (sym b) h.begins;
  falses = λ q m. h.falses q (subst (λ (l : List ℕ). Member l q) f m);
  finals = λ q p e. subst (λ (l : List ℕ). Member l q) (sym f) (h.finals q p e);
}

-- ---- the start and the final states

pub all_at : {X : Type 0} (P : X → Type 0) (xs : List X) (n : ℕ) (x : X) → AllByRecursion P xs → slice_get xs n ≡ Some x → P x
all_at P [] n x h e = absurd cc
all_at P (y ∷ xs) zero x h e = let is : y ≡ x = cc in subst P is h.0
all_at P (y ∷ xs) (suc n) x h e = all_at P xs n x h.1 e

no_first : {X : Type 0} (xs : List X) → 0 < length xs → slice_get xs 0 ≡ None → ⊥
no_first [] h e = omega arith
no_first (x ∷ xs) h e = cc

pub some_place : (g : Graph) → IsGraph g → g.automaton.start < g.automaton.states → slice_get g.place_procs 0 ≡ None → ⊥
some_place g h lt e =
    let count : length g.place_procs ≡ g.automaton.states = h.procedures.place_procs in
    no_first g.place_procs (omega arith) e

pub place_exists : (g : Graph) (p : ℕ) → IsGraph g → slice_get g.place_procs 0 ≡ Some p → p < length g.frames
place_exists g p h e = all_at (λ q. q < length g.frames) g.place_procs 0 p h.procedures.procs_exist e

pub marked_none : {E : Type 0} (n start : ℕ) (preds : List Scoped) (r : Result Automaton E) (m : Automaton) → n ≡ length preds → r ≡ Ok m →
    IfOk r (λ x. x ≡ record { states = n; start = start; finals = []; insides = []; calls = []; backs = [] }) → IsMarkedBelow 0 start preds m
marked_none {E} n start preds r m k made is = let e = subst (λ (z : Result Automaton E). IfOk z (λ x. x ≡ record { states = n; start = start; finals = []; insides = []; calls = []; backs = [] })) made is in record {
  states = ap (λ (x : Automaton). x.states) e ∙ k;
  begins = ap (λ (x : Automaton). x.start) e;
  falses = λ q h. absurd (subst (λ (x : Automaton). Member x.finals q) e h);
  finals = λ q lt h. absurd (omega arith);
  insides = ap (λ (x : Automaton). x.insides) e;
  calls = ap (λ (x : Automaton). x.calls) e;
  backs = ap (λ (x : Automaton). x.backs) e;
}

marked_final : (n start : ℕ) (preds : List Scoped) (m : Automaton) → IsMarkedBelow n start preds m → IsFalseAt preds n →
    IsMarkedBelow (n + 1) start preds (record m { finals = m.finals ++ n ∷ [] })
marked_final n start preds m h f = record {
  states = h.states;
  begins = h.begins;
  falses = λ q k. elim (member_split m.finals (n ∷ []) q k) [
    | inl j ↦ h.falses q j
    | inr j ↦ elim j [ inl e ↦ subst (λ (x : ℕ). IsFalseAt preds x) e f | inr none ↦ absurd none ]
  ];
  finals = λ q lt k. elim (below_or_last q n lt) [
    | inl j ↦ member_front m.finals (n ∷ []) q (h.finals q j k)
    | inr e ↦ member_rest m.finals (n ∷ []) q (inl (sym e))
  ];
  insides = h.insides;
  calls = h.calls;
  backs = h.backs;
}

marked_other : (n start : ℕ) (preds : List Scoped) (m : Automaton) → IsMarkedBelow n start preds m → (IsFalseAt preds n → ⊥) → IsMarkedBelow (n + 1) start preds m
marked_other n start preds m h f = record {
  states = h.states;
  begins = h.begins;
  falses = h.falses;
  finals = λ q lt k. elim (below_or_last q n lt) [
    | inl j ↦ h.finals q j k
    | inr e ↦ absurd (f (subst (λ (x : ℕ). IsFalseAt preds x) e k))
  ];
  insides = h.insides;
  calls = h.calls;
  backs = h.backs;
}

pub marked_more : (n start : ℕ) (preds : List Scoped) (s : Scoped) (m new : Automaton) → IsMarkedBelow n start preds m → slice_get preds n ≡ Some s → MarksFalse s n m new →
    IsMarkedBelow (n + 1) start preds new
marked_more n start preds s m new h e (inl k) = subst (λ (x : Automaton). IsMarkedBelow (n + 1) start preds x) (sym k.1) (marked_final n start preds m h (s, e, k.0))
marked_more n start preds s m new h e (inr k) = subst (λ (x : Automaton). IsMarkedBelow (n + 1) start preds x) (sym k.1)
    (marked_other n start preds m h (λ f. let is : f.0 ≡ s = (let j : Some f.0 ≡ Some s = sym f.1 ∙ e in cc) in k.0 (ap (λ (x : Scoped). x.pred) (sym is) ∙ f.2)))

pub marked_built : (g : Graph) (start : ℕ) (preds : List Scoped) (m : Automaton) → IsMarkedBelow (length preds) start preds m →
    ((p : ℕ) × IsPlaceOf g.place_procs p 0 × (slice_get preds start ≡ Some (truth_of p true))) → IsBuilt g preds [] m
marked_built g start preds m h s = record {
  begun = record {
    states = h.states;
    start = λ p place. let is : s.0 ≡ p = (let j : Some s.0 ≡ Some p = sym s.1 ∙ place in cc) in
        subst (λ (x : ℕ). slice_get preds m.start ≡ Some (truth_of x true)) is at_start;
    begins = (truth_of s.0 true, at_start, refl);
    falses = h.falses;
    finals = λ q p e. h.finals q (place_below preds q (truth_of p false) e) (truth_of p false, e, refl);
  };
  insides = λ q e a k. absurd (subst (λ (l : List (ℕ × Letter × ℕ)). Member l (q, a, e)) h.insides k);
  calls = λ q e a k. absurd (subst (λ (l : List (ℕ × Letter × ℕ)). Member l (q, a, e)) h.calls k);
  backs = λ q p e a k. absurd (subst (λ (l : List (ℕ × ℕ × Letter × ℕ)). Member l (q, p, a, e)) h.backs k);
  has = λ p k. absurd k;
  spelled = λ p k. absurd k;
}
  where
    at_start : slice_get preds m.start ≡ Some (truth_of s.0 true)
    at_start = subst (λ (x : ℕ). slice_get preds x ≡ Some (truth_of s.0 true)) (sym h.begins) s.2

-- ---- one more proof

inside_added : (g : Graph) (preds : List Scoped) (done : List PlainProof) (p : PlainProof) (before : Scoped) (letter : ℕ) (after : Scoped) (m new : Automaton) →
    IsBuilt g preds done m → p.triple ≡ triples.Inside before letter after → AddsInside (alphabet_of g) preds before letter after m new → IsBuilt g preds (done ++ p ∷ []) new
inside_added g preds done p before letter after m new h is a =
    subst (λ (x : Automaton). IsBuilt g preds (done ++ p ∷ []) x) (sym a.is) (record {
      begun = begun_still g preds m with_edge refl refl refl h.begun;
      insides = λ q e b k. elim (member_split m.insides ((a.q, letter_of letter a.act, a.e) ∷ []) (q, b, e) k) [
        | inl j ↦ inside_later preds done (p ∷ []) q b e (h.insides q e b j)
        | inr j ↦ elim j [ inl same ↦ subst (λ (x : ℕ × Letter × ℕ). IsInsideOf preds (done ++ p ∷ []) x.0 x.1 x.2) same new_edge | inr none ↦ absurd none ]
      ];
      calls = λ q e b k. call_later preds done (p ∷ []) q b e (h.calls q e b k);
      backs = λ q r e b k. back_later preds done (p ∷ []) q r b e (h.backs q r e b k);
      has = λ o k. elim (member_split done (p ∷ []) o k) [
        | inl j ↦ edge_later (alphabet_of g) preds m with_edge more o.triple (h.has o j)
        | inr j ↦ elim j [ inl same ↦ subst (λ (x : PlainProof). HasEdge (alphabet_of g) preds with_edge x.triple) same its_edge | inr none ↦ absurd none ]
      ];
      spelled = λ o k. elim (member_split done (p ∷ []) o k) [
        | inl j ↦ h.spelled o j
        | inr j ↦ elim j [ inl same ↦ subst (λ (x : PlainProof). HasTarget x.triple) same (subst HasTarget (sym is) a.spelled) | inr none ↦ absurd none ]
      ];
    })
  where
    with_edge : Automaton
    with_edge = record m { insides = m.insides ++ (a.q, letter_of letter a.act, a.e) ∷ [] }

    more : HasMore m with_edge
    more = record {
      insides = λ x k. member_front m.insides ((a.q, letter_of letter a.act, a.e) ∷ []) x k;
      calls = λ x k. k;
      backs = λ x k. k;
    }

    new_edge : IsInsideOf preds (done ++ p ∷ []) a.q (letter_of letter a.act) a.e
    new_edge = record { before = before; after = after; source = a.source; target = a.target; proof = p; listed = member_rest done (p ∷ []) p (inl refl); is = is }

    its_edge : HasEdge (alphabet_of g) preds with_edge p.triple
    its_edge = subst (λ (t : Triple). HasEdge (alphabet_of g) preds with_edge t) (sym is) (record {
      q = a.q;
      e = a.e;
      act = a.act;
      source = a.source;
      target = a.target;
      stands = a.stands;
      edge = member_rest m.insides ((a.q, letter_of letter a.act, a.e) ∷ []) (a.q, letter_of letter a.act, a.e) (inl refl);
    })

call_added : (g : Graph) (preds : List Scoped) (done : List PlainProof) (p : PlainProof) (before : Scoped) (letter : ℕ) (after : Scoped) (m new : Automaton) →
    IsBuilt g preds done m → p.triple ≡ triples.Call before letter after → AddsCall (alphabet_of g) preds before letter after m new → IsBuilt g preds (done ++ p ∷ []) new
call_added g preds done p before letter after m new h is a =
    subst (λ (x : Automaton). IsBuilt g preds (done ++ p ∷ []) x) (sym a.is) (record {
      begun = begun_still g preds m with_edge refl refl refl h.begun;
      insides = λ q e b k. inside_later preds done (p ∷ []) q b e (h.insides q e b k);
      calls = λ q e b k. elim (member_split m.calls ((a.q, letter_of letter a.act, a.e) ∷ []) (q, b, e) k) [
        | inl j ↦ call_later preds done (p ∷ []) q b e (h.calls q e b j)
        | inr j ↦ elim j [ inl same ↦ subst (λ (x : ℕ × Letter × ℕ). IsCallOf preds (done ++ p ∷ []) x.0 x.1 x.2) same new_edge | inr none ↦ absurd none ]
      ];
      backs = λ q r e b k. back_later preds done (p ∷ []) q r b e (h.backs q r e b k);
      has = λ o k. elim (member_split done (p ∷ []) o k) [
        | inl j ↦ edge_later (alphabet_of g) preds m with_edge more o.triple (h.has o j)
        | inr j ↦ elim j [ inl same ↦ subst (λ (x : PlainProof). HasEdge (alphabet_of g) preds with_edge x.triple) same its_edge | inr none ↦ absurd none ]
      ];
      spelled = λ o k. elim (member_split done (p ∷ []) o k) [
        | inl j ↦ h.spelled o j
        | inr j ↦ elim j [ inl same ↦ subst (λ (x : PlainProof). HasTarget x.triple) same (subst HasTarget (sym is) a.spelled) | inr none ↦ absurd none ]
      ];
    })
  where
    with_edge : Automaton
    with_edge = record m { calls = m.calls ++ (a.q, letter_of letter a.act, a.e) ∷ [] }

    more : HasMore m with_edge
    more = record {
      insides = λ x k. k;
      calls = λ x k. member_front m.calls ((a.q, letter_of letter a.act, a.e) ∷ []) x k;
      backs = λ x k. k;
    }

    new_edge : IsCallOf preds (done ++ p ∷ []) a.q (letter_of letter a.act) a.e
    new_edge = record { before = before; after = after; source = a.source; target = a.target; proof = p; listed = member_rest done (p ∷ []) p (inl refl); is = is }

    its_edge : HasEdge (alphabet_of g) preds with_edge p.triple
    its_edge = subst (λ (t : Triple). HasEdge (alphabet_of g) preds with_edge t) (sym is) (record {
      q = a.q;
      e = a.e;
      act = a.act;
      source = a.source;
      target = a.target;
      stands = a.stands;
      edge = member_rest m.calls ((a.q, letter_of letter a.act, a.e) ∷ []) (a.q, letter_of letter a.act, a.e) (inl refl);
    })

back_added : (g : Graph) (preds : List Scoped) (done : List PlainProof) (p : PlainProof) (exit before : Scoped) (letter : ℕ) (after : Scoped) (m new : Automaton) →
    IsBuilt g preds done m → p.triple ≡ triples.Back exit before letter after → AddsBack (alphabet_of g) preds exit before letter after m new → IsBuilt g preds (done ++ p ∷ []) new
back_added g preds done p exit before letter after m new h is a =
    subst (λ (x : Automaton). IsBuilt g preds (done ++ p ∷ []) x) (sym a.is) (record {
      begun = begun_still g preds m with_edge refl refl refl h.begun;
      insides = λ q e b k. inside_later preds done (p ∷ []) q b e (h.insides q e b k);
      calls = λ q e b k. call_later preds done (p ∷ []) q b e (h.calls q e b k);
      backs = λ q r e b k. elim (member_split m.backs ((a.q, a.p, letter_of letter a.act, a.e) ∷ []) (q, r, b, e) k) [
        | inl j ↦ back_later preds done (p ∷ []) q r b e (h.backs q r e b j)
        | inr j ↦ elim j [ inl same ↦ subst (λ (x : ℕ × ℕ × Letter × ℕ). IsBackOf preds (done ++ p ∷ []) x.0 x.1 x.2 x.3) same new_edge | inr none ↦ absurd none ]
      ];
      has = λ o k. elim (member_split done (p ∷ []) o k) [
        | inl j ↦ edge_later (alphabet_of g) preds m with_edge more o.triple (h.has o j)
        | inr j ↦ elim j [ inl same ↦ subst (λ (x : PlainProof). HasEdge (alphabet_of g) preds with_edge x.triple) same its_edge | inr none ↦ absurd none ]
      ];
      spelled = λ o k. elim (member_split done (p ∷ []) o k) [
        | inl j ↦ h.spelled o j
        | inr j ↦ elim j [ inl same ↦ subst (λ (x : PlainProof). HasTarget x.triple) same (subst HasTarget (sym is) a.spelled) | inr none ↦ absurd none ]
      ];
    })
  where
    with_edge : Automaton
    with_edge = record m { backs = m.backs ++ (a.q, a.p, letter_of letter a.act, a.e) ∷ [] }

    more : HasMore m with_edge
    more = record {
      insides = λ x k. k;
      calls = λ x k. k;
      backs = λ x k. member_front m.backs ((a.q, a.p, letter_of letter a.act, a.e) ∷ []) x k;
    }

    new_edge : IsBackOf preds (done ++ p ∷ []) a.q a.p (letter_of letter a.act) a.e
    new_edge = record { exit = exit; before = before; after = after; source = a.source; caller = a.caller; target = a.target; proof = p; listed = member_rest done (p ∷ []) p (inl refl); is = is }

    its_edge : HasEdge (alphabet_of g) preds with_edge p.triple
    its_edge = subst (λ (t : Triple). HasEdge (alphabet_of g) preds with_edge t) (sym is) (record {
      q = a.q;
      p = a.p;
      e = a.e;
      act = a.act;
      source = a.source;
      caller = a.caller;
      target = a.target;
      stands = a.stands;
      edge = member_rest m.backs ((a.q, a.p, letter_of letter a.act, a.e) ∷ []) (a.q, a.p, letter_of letter a.act, a.e) (inl refl);
    })

pub proof_added : (g : Graph) (preds : List Scoped) (done : List PlainProof) (p : PlainProof) (m new : Automaton) → IsBuilt g preds done m → AddsEdge (alphabet_of g) preds p.triple m new →
    IsBuilt g preds (done ++ p ∷ []) new
proof_added g preds done p m new h a = by_triple p.triple refl a
  where
    by_triple : (t : Triple) → p.triple ≡ t → AddsEdge (alphabet_of g) preds t m new → IsBuilt g preds (done ++ p ∷ []) new
    by_triple (triples.Inside before letter after) is k = inside_added g preds done p before letter after m new h is k
    by_triple (triples.Call before letter after) is k = call_added g preds done p before letter after m new h is k
    by_triple (triples.Back exit before letter after) is k = back_added g preds done p exit before letter after m new h is k

-- ---- what is built

pub all_of : {X : Type 0} (P : X → Type 0) (xs : List X) → ((x : X) → Member xs x → P x) → AllByRecursion P xs
all_of P [] h = tt
all_of P (x ∷ xs) h = (h x (inl refl), all_of P xs (λ y k. h y (inr k)))

pub all_member : {X : Type 0} (P : X → Type 0) (xs : List X) (x : X) → AllByRecursion P xs → Member xs x → P x
all_member P [] x h k = absurd k
all_member P (y ∷ xs) x h (inl e) = subst P e h.0
all_member P (y ∷ xs) x h (inr k) = all_member P xs x h.1 k

edge_named : (al : Alphabet) (preds : List Scoped) (m : Automaton) (t : Triple) → HasEdge al preds m t → NamesStates preds t
edge_named al preds m (triples.Inside before letter after) h = (member_at preds h.q before h.source, (member_at preds h.e after h.target, tt))
edge_named al preds m (triples.Call before letter after) h = (member_at preds h.q before h.source, (member_at preds h.e after h.target, tt))
edge_named al preds m (triples.Back exit before letter after) h =
    (member_at preds h.q exit h.source, (member_at preds h.p before h.caller, (member_at preds h.e after h.target, tt)))

pub built_named : (g : Graph) (preds : List Scoped) (proofs : List PlainProof) (m : Automaton) → IsBuilt g preds proofs m →
    AllByRecursion (λ p. NamesStates preds p.triple) proofs
built_named g preds proofs m h = all_of (λ p. NamesStates preds p.triple) proofs (λ p k. edge_named (alphabet_of g) preds m p.triple (h.has p k))

proved_by : (g : Graph) (preds : List Scoped) (proofs : List PlainProof) (m : Automaton) (p : PlainProof) (t : Triple) → IsGraph g → AllByRecursion (IsProofFor (alphabet_of g)) proofs →
    IsBuilt g preds proofs m → Member proofs p → p.triple ≡ t → ProvesTriple (alphabet_of g) proofs t
proved_by g preds proofs m p t k f h listed is =
    let its = all_member (IsProofFor (alphabet_of g)) proofs p f listed in
    record {
      agrees = subst (Agrees (alphabet_of g)) is its.agrees;
      valid = subst (IsValid (alphabet_of g)) is (refuted_valid g p.triple p.refutation k (h.spelled p listed) its.agrees its.over);
      proof = p;
      listed = listed;
      is = is;
      over = its.over;
      within = its.within;
    }

-- the answer to all proofs, of the states and proofs that were read
pub edges_of : (g : Graph) (seen states : List Scoped) (read proofs : List PlainProof) (m : Automaton) (all b : Bool) → all ≡ b → seen ≡ states → read ≡ proofs →
    MatchBool all (IsBuilt g seen read m) (AllByRecursion (λ p. NamesStates seen p.triple) read → ⊥) →
    MatchBool b (IsBuilt g states proofs m) (AllByRecursion (λ p. NamesStates states p.triple) proofs → ⊥)
edges_of g seen states read proofs m all b said same alike h =
    let found = subst (λ (x : Bool). MatchBool x (IsBuilt g seen read m) (AllByRecursion (λ p. NamesStates seen p.triple) read → ⊥)) said h in
    let there = subst (λ (l : List Scoped). MatchBool b (IsBuilt g l read m) (AllByRecursion (λ p. NamesStates l p.triple) read → ⊥)) same found in
    subst (λ (l : List PlainProof). MatchBool b (IsBuilt g states l m) (AllByRecursion (λ p. NamesStates states p.triple) l → ⊥)) alike there

pub built_certified : (g : Graph) (preds : List Scoped) (proofs : List PlainProof) (m : Automaton) → IsGraph g → AllByRecursion (IsProofFor (alphabet_of g)) proofs →
    IsBuilt g preds proofs m → IsCertified (alphabet_of g) (record { preds = preds; proofs = proofs; automaton = m })
built_certified g preds proofs m k f h = record {
  states = h.begun.states;
  proofs = f;
  start = h.begun.begins;
  finals = λ q j. let s = h.begun.falses q j in (s.0, s.1, ap formula_of s.2);
  insides = λ q e a j. let x = h.insides q e a j in record {
    before = x.before;
    after = x.after;
    source = x.source;
    target = x.target;
    proved = proved_by g preds proofs m x.proof (triples.Inside x.before a.id x.after) k f h x.listed x.is;
  };
  calls = λ q e a j. let x = h.calls q e a j in record {
    before = x.before;
    after = x.after;
    source = x.source;
    target = x.target;
    proved = proved_by g preds proofs m x.proof (triples.Call x.before a.id x.after) k f h x.listed x.is;
  };
  backs = λ q p e a j. let x = h.backs q p e a j in record {
    exit = x.exit;
    before = x.before;
    after = x.after;
    source = x.source;
    caller = x.caller;
    target = x.target;
    proved = proved_by g preds proofs m x.proof (triples.Back x.exit x.before a.id x.after) k f h x.listed x.is;
  };
}

pub all_push : {X : Type 0} (P : X → Type 0) (xs : List X) (x : X) → AllByRecursion P xs → P x → AllByRecursion P (xs ++ x ∷ [])
all_push P [] x h p = (p, tt)
all_push P (y ∷ xs) x h p = (h.0, all_push P xs x h.1 p)
