-- Nodes that are opened keep their steps, and once all are opened nothing is due.
use Rattle.std.proofs.Common.{◌≡◌, ◌∙◌, ◌⊎◌, ℕ, zero, suc, ◌+◌, ◌<◌, ◌≤◌, List, [], ◌∷◌, ◌++◌, length, length-append, refl, sym, ap, subst, inl, inr, arith, append_assoc}
use Rattle.nwa_base.specs.declared.letters.Letter.{Letter}
use Rattle.nwa_base.specs.Members.{Member}
use Rattle.nwa_base.specs.Automata.{Automaton}
use Rattle.std.proofs.lemmas.List.{append-nil}
use Rattle.proof_names.specs.Outlines.{OutlineNode}
use Rattle.proof_check.specs.Steps.{IsOpen}
use Rattle.proof_build.specs.ProofUnwind.Unwindings.{node_at, node_place_in, entry_of, IsAlong, ClosesUnwinding, HasStep, HasBack}
use Rattle.proof_build.specs.ProofUnwind.Exploring.{Grows, AreOpened}

-- ---- growing

pub stays_at : (nodes rest : List OutlineNode) (n : ℕ) → n < length nodes → node_at (nodes ++ rest) n ≡ node_at nodes n
stays_at [] rest n l = absurd (omega arith)
stays_at (y ∷ nodes) rest zero l = refl
stays_at (y ∷ nodes) rest (suc n) l = stays_at nodes rest n (omega arith)

pub grown_at : (nodes : List OutlineNode) (s : Automaton) (new : List OutlineNode) (t : Automaton) (n : ℕ) → Grows nodes s new t → n < length nodes → node_at new n ≡ node_at nodes n
grown_at nodes s new t n g l = ap (λ (k : List OutlineNode). node_at k n) g.nodes_are ∙ stays_at nodes g.rest n l

pub grown_long : (nodes : List OutlineNode) (s : Automaton) (new : List OutlineNode) (t : Automaton) (n : ℕ) → Grows nodes s new t → n < length nodes → n < length new
grown_long nodes s new t n g l =
    let e : length new ≡ length nodes + length g.rest = ap (λ (k : List OutlineNode). length k) g.nodes_are ∙ length-append nodes g.rest in omega (arith, e, l)

pub grows_not : (nodes : List OutlineNode) (s : Automaton) → Grows nodes s nodes s
grows_not nodes s = record {
  rest = [];
  nodes_are = sym (append-nil nodes);
  part = record { insides = λ n a k i. i; calls = λ n a k i. i; backs = λ x c l k i. i };
}

pub grows_on : (nodes : List OutlineNode) (s : Automaton) (mid : List OutlineNode) (t : Automaton) (new : List OutlineNode) (u : Automaton) → Grows nodes s mid t → Grows mid t new u → Grows nodes s new u
grows_on nodes s mid t new u g h = record {
  rest = g.rest ++ h.rest;
  nodes_are = h.nodes_are ∙ ap (λ (k : List OutlineNode). k ++ h.rest) g.nodes_are ∙ append_assoc nodes g.rest h.rest;
  part = record {
    insides = λ n a k i. h.part.insides n a k (g.part.insides n a k i);
    calls = λ n a k i. h.part.calls n a k (g.part.calls n a k i);
    backs = λ x c l k i. h.part.backs x c l k (g.part.backs x c l k i);
  };
}

-- ---- steps that are there stay

pub step_stays : (m : Automaton) (nodes : List OutlineNode) (s : Automaton) (new : List OutlineNode) (t : Automaton) (n : ℕ) (a : Letter) (e : ℕ) → IsAlong m nodes s → Grows nodes s new t →
    HasStep s.insides nodes n a e → HasStep t.insides new n a e
step_stays m nodes s new t n a e al g h = record {
  number = h.number;
  step = g.part.insides n a h.number h.step;
  at = ap (λ (x : OutlineNode). x.place) (grown_at nodes s new t h.number g (al.insides n a h.number h.step).to) ∙ h.at;
}

pub call_stays : (m : Automaton) (nodes : List OutlineNode) (s : Automaton) (new : List OutlineNode) (t : Automaton) (n : ℕ) (a : Letter) (e : ℕ) → IsAlong m nodes s → Grows nodes s new t →
    HasStep s.calls nodes n a e → HasStep t.calls new n a e
call_stays m nodes s new t n a e al g h = record {
  number = h.number;
  step = g.part.calls n a h.number h.step;
  at = ap (λ (x : OutlineNode). x.place) (grown_at nodes s new t h.number g (al.calls n a h.number h.step).to) ∙ h.at;
}

pub back_stays : (m : Automaton) (nodes : List OutlineNode) (s : Automaton) (new : List OutlineNode) (t : Automaton) (x c : ℕ) (a : Letter) (e : ℕ) → IsAlong m nodes s → Grows nodes s new t →
    HasBack s.backs nodes x c a e → HasBack t.backs new x c a e
back_stays m nodes s new t x c a e al g h = record {
  number = h.number;
  back = g.part.backs x c a h.number h.back;
  at = ap (λ (y : OutlineNode). y.place) (grown_at nodes s new t h.number g (al.backs x c a h.number h.back).to) ∙ h.at;
}

-- ---- one node more is opened

-- a node has its steps, and the backs that join it with nodes up to it
pub record IsOpened (m : Automaton) (nodes : List OutlineNode) (s : Automaton) (n : ℕ) : Type 0 where
  pub insides : IsOpen (node_at nodes n) → (a : Letter) (e : ℕ) → Member m.insides (node_place_in nodes n, a, e) → HasStep s.insides nodes n a e
  pub calls : IsOpen (node_at nodes n) → (a : Letter) (e : ℕ) → Member m.calls (node_place_in nodes n, a, e) → HasStep s.calls nodes n a e
  pub exits : (c : ℕ) → c ≤ n → IsOpen (node_at nodes n) → IsOpen (node_at nodes c) → (a : Letter) → Member s.calls (c, a, entry_of nodes n) →
      (t : Letter) (e : ℕ) → Member m.backs (node_place_in nodes n, node_place_in nodes c, t, e) → t.call ≡ a.id → HasBack s.backs nodes n c t e
  pub returns : (x : ℕ) → x < n → IsOpen (node_at nodes x) → IsOpen (node_at nodes n) → (a : Letter) → Member s.calls (n, a, entry_of nodes x) →
      (t : Letter) (e : ℕ) → Member m.backs (node_place_in nodes x, node_place_in nodes n, t, e) → t.call ≡ a.id → HasBack s.backs nodes x n t e

pub below_or_last : (P : ℕ → Type 0) (r n : ℕ) → n < r + 1 → ((k : ℕ) → k < r → P k) → P r → P n
below_or_last P r n l h p = elim (cases n r) [
  | inl k ↦ h n k
  | inr k ↦ let e : r ≡ n = omega arith in subst P e p
]
  where
    cases : (i j : ℕ) → (i < j) ⊎ (j ≤ i)
    cases i zero = inr (omega arith)
    cases zero (suc j) = inl (omega arith)
    cases (suc i) (suc j) = elim (cases i j) [ inl k ↦ inl (omega arith) | inr k ↦ inr (omega arith) ]

-- the exit x and node c before the call have their backs
abbrev Joined : Automaton → List OutlineNode → Automaton → ℕ → ℕ → Type 0
Joined m nodes s c x = IsOpen (node_at nodes x) → IsOpen (node_at nodes c) → (a : Letter) → Member s.calls (c, a, entry_of nodes x) →
    (t : Letter) (e : ℕ) → Member m.backs (node_place_in nodes x, node_place_in nodes c, t, e) → t.call ≡ a.id → HasBack s.backs nodes x c t e

pub opened_more : (m : Automaton) (nodes : List OutlineNode) (s : Automaton) (new : List OutlineNode) (t : Automaton) (r : ℕ) → r < length nodes → IsAlong m nodes s → AreOpened m nodes s r → Grows nodes s new t →
    ((c : ℕ) (a : Letter) (k : ℕ) → Member t.calls (c, a, k) → Member s.calls (c, a, k) ⊎ (c ≡ r)) → IsOpened m new t r → AreOpened m new t (r + 1)
opened_more m nodes s new t r l al h g d o = record {
  insides = λ n i. below_or_last (λ k. IsOpen (node_at new k) → (a : Letter) (e : ℕ) → Member m.insides (node_place_in new k, a, e) → HasStep t.insides new k a e) r n i
      (λ k j. subst (λ (x : OutlineNode). IsOpen x → (a : Letter) (e : ℕ) → Member m.insides (x.place, a, e) → HasStep t.insides new k a e)
      (sym (grown_at nodes s new t k g (omega (arith, j, l)))) (λ op a e q. step_stays m nodes s new t k a e al g (h.insides k j op a e q))) o.insides;
  calls = λ n i. below_or_last (λ k. IsOpen (node_at new k) → (a : Letter) (e : ℕ) → Member m.calls (node_place_in new k, a, e) → HasStep t.calls new k a e) r n i
      (λ k j. subst (λ (x : OutlineNode). IsOpen x → (a : Letter) (e : ℕ) → Member m.calls (x.place, a, e) → HasStep t.calls new k a e)
      (sym (grown_at nodes s new t k g (omega (arith, j, l)))) (λ op a e q. call_stays m nodes s new t k a e al g (h.calls k j op a e q))) o.calls;
  backs = λ x c i j. below_or_last (Joined m new t c) r x i
      (λ k u. below_or_last (λ d. Joined m new t d k) r c j (λ d v. old k d u v) (λ p q a w. o.returns k u p q a w))
      (λ p q a w. o.exits c (omega arith) p q a w);
  callers = λ c a k i. elim (d c a k i) [ inl j ↦ (let b = h.callers c a k j in omega (arith, b)) | inr e ↦ omega (arith, e) ];
}
  where
    old : (x c : ℕ) → x < r → c < r → Joined m new t c x
    old x c u v =
        let ex : node_at new x ≡ node_at nodes x = grown_at nodes s new t x g (omega (arith, u, l)) in
        let ec : node_at new c ≡ node_at nodes c = grown_at nodes s new t c g (omega (arith, v, l)) in
        λ p q a w z e i id.
        let w2 : Member t.calls (c, a, entry_of nodes x) = subst (λ (y : OutlineNode). Member t.calls (c, a, y.entry)) ex w in
        let i2 : Member m.backs (node_place_in nodes x, node_place_in nodes c, z, e) =
        subst (λ (y : OutlineNode). Member m.backs (y.place, node_place_in nodes c, z, e)) ex (subst (λ (y : OutlineNode). Member m.backs (node_place_in new x, y.place, z, e)) ec i) in
        elim (d c a (entry_of nodes x) w2) [
          | inl k ↦ back_stays m nodes s new t x c z e al g
              (h.backs x c u v (subst (λ (y : OutlineNode). IsOpen y) ex p) (subst (λ (y : OutlineNode). IsOpen y) ec q) a k z e i2 id)
          | inr k ↦ absurd (omega (arith, k, v))
        ]

-- once all nodes are opened, nothing is due
pub all_opened : (m : Automaton) (nodes : List OutlineNode) (s : Automaton) (r : ℕ) → length nodes ≤ r → AreOpened m nodes s r → ClosesUnwinding m nodes s
all_opened m nodes s r l h = record {
  insides = λ n i. h.insides n (omega (arith, i, l));
  calls = λ n i. h.calls n (omega (arith, i, l));
  backs = λ x c i j. h.backs x c (omega (arith, i, l)) (omega (arith, j, l));
}

pub none_opened : (m : Automaton) (nodes : List OutlineNode) (s : Automaton) → s.calls ≡ [] → AreOpened m nodes s 0
none_opened m nodes s e = record {
  insides = λ n i. absurd (omega arith);
  calls = λ n i. absurd (omega arith);
  backs = λ x c i j. absurd (omega arith);
  callers = λ c a k i. absurd (subst (λ (l : List (ℕ × Letter × ℕ)). Member l (c, a, k)) e i);
}
