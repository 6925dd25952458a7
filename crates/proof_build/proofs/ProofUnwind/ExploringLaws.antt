-- What is kept while nodes and steps are searched: by a step to a node that is there, and by one to a new node.
use Rattle.std.proofs.Common.{◌≡◌, ◌∙◌, ◌⊎◌, ℕ, zero, suc, ◌+◌, ◌<◌, ◌≤◌, List, [], ◌∷◌, ◌++◌, length, Some, refl, sym, ap, subst, inl, inr, arith}
use Rattle.std.specs.Prelude.{slice_get}
use Rattle.nwa_base.specs.declared.letters.Kind.TheVariants as kinds
use Rattle.nwa_base.specs.declared.letters.Letter.{Letter}
use Rattle.nwa_base.specs.Members.{Member}
use Rattle.nwa_base.specs.Automata.{Automaton}
use Rattle.nwa_base.proofs.MemberLemmas.{member_front, member_rest}
use Rattle.proof_names.specs.Outlines.{OutlineNode}
use Rattle.proof_names.specs.ProofSpell.Drafts.{AscendFrom}
use Rattle.proof_check.specs.Steps.{IsOf, IsOpen}
use Rattle.proof_build.specs.ProofUnwind.Unwindings.{node_at, node_place_in, entry_of, IsInsideStep, IsCallStep, IsBackStep, IsAlong, IsReached, IsPart, Claims, Spreads, bare}
use Rattle.proof_build.specs.ProofUnwind.Exploring.{InsideFollows, CallFollows, BackFollows, AreFollowing, AreShown, IsExploring, IsStarting, with_inside, with_call, with_back, with_state}
use Rattle.proof_build.proofs.ProofUnwind.GrowingLaws.{more_at, last_at, more_long, longer, along_more, shown_more, spread_more, step_more, back_step_more, along_inside, along_call, along_back, reached_more, reached_inside, reached_call, reached_back}

-- ---- steps that are parts

part_inside : (t s : Automaton) (e : ℕ × Letter × ℕ) → IsPart t s → IsPart t (with_inside s e)
part_inside t s e p = record { insides = λ n a k i. member_front s.insides (e ∷ []) (n, a, k) (p.insides n a k i); calls = p.calls; backs = p.backs }

part_back : (t s : Automaton) (e : ℕ × ℕ × Letter × ℕ) → IsPart t s → IsPart t (with_back s e)
part_back t s e p = record { insides = p.insides; calls = p.calls; backs = λ x c r k i. member_front s.backs (e ∷ []) (x, c, r, k) (p.backs x c r k i) }

more_inside : (t : Automaton) (e : ℕ × Letter × ℕ) → IsPart t (with_inside t e)
more_inside t e = record { insides = λ n a k i. member_front t.insides (e ∷ []) (n, a, k) i; calls = λ n a k i. i; backs = λ x c r k i. i }

more_call : (t : Automaton) (e : ℕ × Letter × ℕ) → IsPart t (with_call t e)
more_call t e = record { insides = λ n a k i. i; calls = λ n a k i. member_front t.calls (e ∷ []) (n, a, k) i; backs = λ x c r k i. i }

more_back : (t : Automaton) (e : ℕ × ℕ × Letter × ℕ) → IsPart t (with_back t e)
more_back t e = record { insides = λ n a k i. i; calls = λ n a k i. i; backs = λ x c r k i. member_front t.backs (e ∷ []) (x, c, r, k) i }

both_inside : (t s : Automaton) (n : ℕ) (a : Letter) (k : ℕ) → IsPart t s → IsPart (with_inside t (n, a, k)) (with_inside s (n, a, k))
both_inside t s n a k p = record {
  insides = step_more (λ q l e. Member (s.insides ++ (n, a, k) ∷ []) (q, l, e)) t.insides n a k (λ q l e i. member_front s.insides ((n, a, k) ∷ []) (q, l, e) (p.insides q l e i))
      (member_rest s.insides ((n, a, k) ∷ []) (n, a, k) (inl refl));
  calls = p.calls;
  backs = p.backs;
}

both_call : (t s : Automaton) (n : ℕ) (a : Letter) (k : ℕ) → IsPart t s → IsPart (with_call t (n, a, k)) (with_call s (n, a, k))
both_call t s n a k p = record {
  insides = p.insides;
  calls = step_more (λ q l e. Member (s.calls ++ (n, a, k) ∷ []) (q, l, e)) t.calls n a k (λ q l e i. member_front s.calls ((n, a, k) ∷ []) (q, l, e) (p.calls q l e i))
      (member_rest s.calls ((n, a, k) ∷ []) (n, a, k) (inl refl));
  backs = p.backs;
}

both_back : (t s : Automaton) (x c : ℕ) (r : Letter) (k : ℕ) → IsPart t s → IsPart (with_back t (x, c, r, k)) (with_back s (x, c, r, k))
both_back t s x c r k p = record {
  insides = p.insides;
  calls = p.calls;
  backs = back_step_more (λ y d l e. Member (s.backs ++ (x, c, r, k) ∷ []) (y, d, l, e)) t.backs x c r k
      (λ y d l e i. member_front s.backs ((x, c, r, k) ∷ []) (y, d, l, e) (p.backs y d l e i)) (member_rest s.backs ((x, c, r, k) ∷ []) (x, c, r, k) (inl refl));
}

-- ---- claims

claims_of : (Follows : ℕ → Type 0) (x : OutlineNode) (preds : List ℕ) → AreFollowing Follows preds → x.preds ≡ preds → (r : ℕ) → Follows r → Claims x r
claims_of Follows x preds f e r h = by_case (f.complete r h)
  where
    by_case : Member preds 1 ⊎ (r ≡ 0) ⊎ Member preds r → Claims x r
    by_case (inl m) = inl (subst (λ (l : List ℕ). Member l 1) (sym e) m)
    by_case (inr (inl z)) = inr (inl z)
    by_case (inr (inr m)) = inr (inr (subst (λ (l : List ℕ). Member l r) (sym e) m))

spread_inside : (b t : Automaton) (nodes : List OutlineNode) (n : ℕ) (a : Letter) (k : ℕ) → Spreads b t nodes (λ q. q) → IsOpen (node_at nodes n) →
    ((r : ℕ) → InsideFollows b a (node_at nodes n) r → Claims (node_at nodes k) r) → Spreads b (with_inside t (n, a, k)) nodes (λ q. q)
spread_inside b t nodes n a k h o f = record {
  start = h.start;
  finals = h.finals;
  insides = step_more (λ q l e. IsOpen (node_at nodes q) × ((i j : ℕ) → Member b.insides (i, l, j) → IsOf i (node_at nodes q) → Claims (node_at nodes e) j)) t.insides n a k h.insides
      (o, λ i j m w. f j (i, m, w));
  calls = h.calls;
  backs = h.backs;
}

spread_call : (b t : Automaton) (nodes : List OutlineNode) (n : ℕ) (a : Letter) (k : ℕ) → Spreads b t nodes (λ q. q) → IsOpen (node_at nodes n) →
    ((r : ℕ) → CallFollows b a (node_at nodes n) r → Claims (node_at nodes k) r) → Spreads b (with_call t (n, a, k)) nodes (λ q. q)
spread_call b t nodes n a k h o f = record {
  start = h.start;
  finals = h.finals;
  insides = h.insides;
  calls = step_more (λ q l e. IsOpen (node_at nodes q) × ((i j : ℕ) → Member b.calls (i, l, j) → IsOf i (node_at nodes q) → Claims (node_at nodes e) j)) t.calls n a k h.calls
      (o, λ i j m w. f j (i, m, w));
  backs = h.backs;
}

spread_back : (b t : Automaton) (nodes : List OutlineNode) (x c : ℕ) (r : Letter) (k : ℕ) → Spreads b t nodes (λ q. q) → IsOpen (node_at nodes x) → IsOpen (node_at nodes c) →
    ((j : ℕ) → BackFollows b r (node_at nodes x) (node_at nodes c) j → Claims (node_at nodes k) j) → Spreads b (with_back t (x, c, r, k)) nodes (λ q. q)
spread_back b t nodes x c r k h o p f = record {
  start = h.start;
  finals = h.finals;
  insides = h.insides;
  calls = h.calls;
  backs = back_step_more (λ y d l e. IsOpen (node_at nodes y) × IsOpen (node_at nodes d) ×
      ((i q j : ℕ) → Member b.backs (i, q, l, j) → IsOf i (node_at nodes y) → IsOf q (node_at nodes d) → Claims (node_at nodes e) j)) t.backs x c r k h.backs
      (o, p, λ i q j m v w. f j (i, q, m, v, w));
}

-- ---- to a node that is there

pub covered_inside : (m b : Automaton) (nodes : List OutlineNode) (s : Automaton) (n : ℕ) (a : Letter) (k : ℕ) → IsExploring m b nodes s → IsInsideStep m nodes n a k →
    ((r : ℕ) → Member (node_at nodes k).preds r → InsideFollows b a (node_at nodes n) r) → IsExploring m b nodes (with_inside s (n, a, k))
covered_inside m b nodes s n a k h d f = record {
  first = h.first;
  states = h.states;
  along = along_inside m nodes s n a k h.along d;
  shown = record {
    insides = step_more (λ q l e. (r : ℕ) → Member (node_at nodes e).preds r → InsideFollows b l (node_at nodes q) r) s.insides n a k h.shown.insides f;
    calls = h.shown.calls;
    backs = h.shown.backs;
  };
  ascend = h.ascend;
  tree = h.tree;
  part = part_inside h.tree s (n, a, k) h.part;
  all_calls = h.all_calls;
  reached = h.reached;
  spread = h.spread;
}

pub covered_back : (m b : Automaton) (nodes : List OutlineNode) (s : Automaton) (x c : ℕ) (r : Letter) (k : ℕ) → IsExploring m b nodes s → IsBackStep m nodes s x c r k →
    ((j : ℕ) → Member (node_at nodes k).preds j → BackFollows b r (node_at nodes x) (node_at nodes c) j) → IsExploring m b nodes (with_back s (x, c, r, k))
covered_back m b nodes s x c r k h d f = record {
  first = h.first;
  states = h.states;
  along = along_back m nodes s x c r k h.along d;
  shown = record {
    insides = h.shown.insides;
    calls = h.shown.calls;
    backs = back_step_more (λ y e l i. (j : ℕ) → Member (node_at nodes i).preds j → BackFollows b l (node_at nodes y) (node_at nodes e) j) s.backs x c r k h.shown.backs f;
  };
  ascend = h.ascend;
  tree = h.tree;
  part = part_back h.tree s (x, c, r, k) h.part;
  all_calls = h.all_calls;
  reached = h.reached;
  spread = h.spread;
}

pub covered_call : (m b : Automaton) (nodes : List OutlineNode) (s : Automaton) (n : ℕ) (a : Letter) (k : ℕ) → IsExploring m b nodes s → IsCallStep m nodes n a k → IsOpen (node_at nodes n) →
    AreFollowing (CallFollows b a (node_at nodes n)) (node_at nodes k).preds → IsExploring m b nodes (with_call s (n, a, k))
covered_call m b nodes s n a k h d o f = record {
  first = h.first;
  states = h.states;
  along = along_call m nodes s n a k h.along d;
  shown = record {
    insides = h.shown.insides;
    calls = step_more (λ q l e. (r : ℕ) → Member (node_at nodes e).preds r → CallFollows b l (node_at nodes q) r) s.calls n a k h.shown.calls f.sound;
    backs = h.shown.backs;
  };
  ascend = h.ascend;
  tree = with_call h.tree (n, a, k);
  part = both_call h.tree s n a k h.part;
  all_calls = step_more (λ q l e. Member (h.tree.calls ++ (n, a, k) ∷ []) (q, l, e)) s.calls n a k
      (λ q l e i. member_front h.tree.calls ((n, a, k) ∷ []) (q, l, e) (h.all_calls q l e i)) (member_rest h.tree.calls ((n, a, k) ∷ []) (n, a, k) (inl refl));
  reached = λ q l. reached_more h.tree (with_call h.tree (n, a, k)) (entry_of nodes q) q (more_call h.tree (n, a, k)) (h.reached q l);
  spread = spread_call b h.tree nodes n a k h.spread o (claims_of (CallFollows b a (node_at nodes n)) (node_at nodes k) (node_at nodes k).preds f refl);
}

-- ---- with a new node

-- nodes and steps with one node more, which no step leads to yet
record WithNode (m b : Automaton) (nodes : List OutlineNode) (s : Automaton) (x : OutlineNode) (h : IsExploring m b nodes s) : Type 0 where
  first : slice_get (nodes ++ x ∷ []) 0 ≡ Some bare
  states : (with_state s).states ≡ length (nodes ++ x ∷ [])
  along : IsAlong m (nodes ++ x ∷ []) s
  shown : AreShown b (nodes ++ x ∷ []) s
  ascend : (n : ℕ) → n < length (nodes ++ x ∷ []) → AscendFrom 1 (node_at (nodes ++ x ∷ []) n).preds
  spread : Spreads b h.tree (nodes ++ x ∷ []) (λ q. q)

first_stays : (nodes : List OutlineNode) (x : OutlineNode) → slice_get nodes 0 ≡ Some bare → slice_get (nodes ++ x ∷ []) 0 ≡ Some bare
first_stays [] x e = absurd (cc)
first_stays (y ∷ nodes) x e = e

-- each number of a node is one of the old nodes or the new one
pub old_or_new : (P : ℕ → Type 0) (nodes : List OutlineNode) (x : OutlineNode) → ((n : ℕ) → n < length nodes → P n) → P (length nodes) → (n : ℕ) → n < length (nodes ++ x ∷ []) → P n
old_or_new P nodes x h p n l = elim (cases_lt n (length nodes)) [
  | inl k ↦ h n k
  | inr k ↦ let e : length (nodes ++ x ∷ []) ≡ length nodes + 1 = more_long nodes x in let q : length nodes ≡ n = omega (arith, e, k, l) in subst P q p
]
  where
    cases_lt : (i j : ℕ) → (i < j) ⊎ (j ≤ i)
    cases_lt i zero = inr (omega arith)
    cases_lt zero (suc j) = inl (omega arith)
    cases_lt (suc i) (suc j) = elim (cases_lt i j) [ inl k ↦ inl (omega arith) | inr k ↦ inr (omega arith) ]

with_node : (m b : Automaton) (nodes : List OutlineNode) (s : Automaton) (x : OutlineNode) (h : IsExploring m b nodes s) → AscendFrom 1 x.preds → WithNode m b nodes s x h
with_node m b nodes s x h a = record {
  first = first_stays nodes x h.first;
  states = let e = more_long nodes x in let k = h.states in omega (arith, e, k);
  along = along_more m nodes x s h.along;
  shown = shown_more m b nodes x s h.along h.shown;
  ascend = old_or_new (λ n. AscendFrom 1 (node_at (nodes ++ x ∷ []) n).preds) nodes x
      (λ n l. subst (λ (y : OutlineNode). AscendFrom 1 y.preds) (sym (more_at nodes x n l)) (h.ascend n l)) (subst (λ (y : OutlineNode). AscendFrom 1 y.preds) (sym (last_at nodes x)) a);
  spread = spread_more m b h.tree nodes x s h.along h.part h.spread;
}

old_reached : (nodes : List OutlineNode) (x : OutlineNode) (t u : Automaton) (n : ℕ) → n < length nodes → IsPart t u → IsReached t (entry_of nodes n) n → IsReached u (entry_of (nodes ++ x ∷ []) n) n
old_reached nodes x t u n l p r = subst (λ (y : OutlineNode). IsReached u y.entry n) (sym (more_at nodes x n l)) (reached_more t u (entry_of nodes n) n p r)

pub fresh_inside : (m b : Automaton) (nodes : List OutlineNode) (s : Automaton) (n : ℕ) (a : Letter) (x : OutlineNode) → IsExploring m b nodes s → n < length nodes → IsOpen (node_at nodes n) →
    a.kind ≡ kinds.Inside → Member m.insides (node_place_in nodes n, a, x.place) → x.entry ≡ entry_of nodes n → AreFollowing (InsideFollows b a (node_at nodes n)) x.preds →
    IsExploring m b (nodes ++ x ∷ []) (with_inside (with_state s) (n, a, length nodes))
fresh_inside m b nodes s n a x h l o kind e en f =
    let K : ℕ = length nodes in
    let new : List OutlineNode = nodes ++ x ∷ [] in
    let w = with_node m b nodes s x h f.ascend in
    let old : node_at new n ≡ node_at nodes n = more_at nodes x n l in
    let last : node_at new K ≡ x = last_at nodes x in
    let d : IsInsideStep m new n a K = record {
      «from» = longer nodes x n l;
      to = let q = more_long nodes x in omega (arith, q);
      edge = subst (λ (y : OutlineNode). Member m.insides (y.place, a, node_place_in new K)) (sym old) (subst (λ (y : OutlineNode). Member m.insides (node_place_in nodes n, a, y.place)) (sym last) e);
      entry = ap (λ (y : OutlineNode). y.entry) last ∙ en ∙ ap (λ (y : OutlineNode). y.entry) (sym old);
    } in
    let follows : AreFollowing (InsideFollows b a (node_at new n)) x.preds = subst (λ (y : OutlineNode). AreFollowing (InsideFollows b a y) x.preds) (sym old) f in
    let opens : IsOpen (node_at new n) = subst (λ (y : OutlineNode). IsOpen y) (sym old) o in
    let t : Automaton = with_inside h.tree (n, a, K) in
    record {
      first = w.first;
      states = w.states;
      along = along_inside m new (with_state s) n a K (record {
        insides = w.along.insides;
        calls = w.along.calls;
        backs = λ y c r k i. let z = w.along.backs y c r k i in record {
          exit = z.exit;
          before = z.before;
          to = z.to;
          edge = z.edge;
          entry = z.entry;
          letter = z.letter;
          joined = z.joined;
          names = z.names;
        };
      }) d;
      shown = record {
        insides = step_more (λ q c k. (r : ℕ) → Member (node_at new k).preds r → InsideFollows b c (node_at new q) r) s.insides n a K w.shown.insides
            (λ r i. follows.sound r (subst (λ (y : OutlineNode). Member y.preds r) last i));
        calls = w.shown.calls;
        backs = w.shown.backs;
      };
      ascend = w.ascend;
      tree = t;
      part = let p = both_inside h.tree s n a K h.part in record { insides = p.insides; calls = p.calls; backs = p.backs };
      all_calls = h.all_calls;
      reached = old_or_new (λ q. IsReached t (entry_of new q) q) nodes x (λ q i. old_reached nodes x h.tree t q i (more_inside h.tree (n, a, K)) (h.reached q i))
          (subst (λ (q : ℕ). IsReached t q K) (sym (ap (λ (y : OutlineNode). y.entry) last ∙ en))
          (reached_inside t (entry_of nodes n) n a K (reached_more h.tree t (entry_of nodes n) n (more_inside h.tree (n, a, K)) (h.reached n l)) kind
          (member_rest h.tree.insides ((n, a, K) ∷ []) (n, a, K) (inl refl))));
      spread = spread_inside b h.tree new n a K w.spread opens
          (claims_of (InsideFollows b a (node_at new n)) (node_at new K) x.preds follows (ap (λ (y : OutlineNode). y.preds) last));
    }

-- steps along with one state more
state_along : (m : Automaton) (nodes : List OutlineNode) (s : Automaton) → IsAlong m nodes s → IsAlong m nodes (with_state s)
state_along m nodes s h = record {
  insides = h.insides;
  calls = h.calls;
  backs = λ y c r k i. let z = h.backs y c r k i in
      record { exit = z.exit; before = z.before; to = z.to; edge = z.edge; entry = z.entry; letter = z.letter; joined = z.joined; names = z.names };
}

pub fresh_call : (m b : Automaton) (nodes : List OutlineNode) (s : Automaton) (n : ℕ) (a : Letter) (x : OutlineNode) → IsExploring m b nodes s → n < length nodes → IsOpen (node_at nodes n) →
    a.kind ≡ kinds.Call → Member m.calls (node_place_in nodes n, a, x.place) → x.entry ≡ length nodes → AreFollowing (CallFollows b a (node_at nodes n)) x.preds →
    IsExploring m b (nodes ++ x ∷ []) (with_call (with_state s) (n, a, length nodes))
fresh_call m b nodes s n a x h l o kind e en f =
    let K : ℕ = length nodes in
    let new : List OutlineNode = nodes ++ x ∷ [] in
    let w = with_node m b nodes s x h f.ascend in
    let old : node_at new n ≡ node_at nodes n = more_at nodes x n l in
    let last : node_at new K ≡ x = last_at nodes x in
    let own : entry_of new K ≡ K = ap (λ (y : OutlineNode). y.entry) last ∙ en in
    let d : IsCallStep m new n a K = record {
      «from» = longer nodes x n l;
      to = let q = more_long nodes x in omega (arith, q);
      edge = subst (λ (y : OutlineNode). Member m.calls (y.place, a, node_place_in new K)) (sym old) (subst (λ (y : OutlineNode). Member m.calls (node_place_in nodes n, a, y.place)) (sym last) e);
      entry = own;
    } in
    let follows : AreFollowing (CallFollows b a (node_at new n)) x.preds = subst (λ (y : OutlineNode). AreFollowing (CallFollows b a y) x.preds) (sym old) f in
    let opens : IsOpen (node_at new n) = subst (λ (y : OutlineNode). IsOpen y) (sym old) o in
    let t : Automaton = with_call h.tree (n, a, K) in
    record {
      first = w.first;
      states = w.states;
      along = along_call m new (with_state s) n a K (state_along m new s w.along) d;
      shown = record {
        insides = w.shown.insides;
        calls = step_more (λ q c k. (r : ℕ) → Member (node_at new k).preds r → CallFollows b c (node_at new q) r) s.calls n a K w.shown.calls
            (λ r i. follows.sound r (subst (λ (y : OutlineNode). Member y.preds r) last i));
        backs = w.shown.backs;
      };
      ascend = w.ascend;
      tree = t;
      part = let p = both_call h.tree s n a K h.part in record { insides = p.insides; calls = p.calls; backs = p.backs };
      all_calls = step_more (λ q c k. Member (h.tree.calls ++ (n, a, K) ∷ []) (q, c, k)) s.calls n a K
          (λ q c k i. member_front h.tree.calls ((n, a, K) ∷ []) (q, c, k) (h.all_calls q c k i)) (member_rest h.tree.calls ((n, a, K) ∷ []) (n, a, K) (inl refl));
      reached = old_or_new (λ q. IsReached t (entry_of new q) q) nodes x (λ q i. old_reached nodes x h.tree t q i (more_call h.tree (n, a, K)) (h.reached q i))
          (subst (λ (q : ℕ). IsReached t q K) (sym own)
          (reached_call t (entry_of nodes n) n a K (reached_more h.tree t (entry_of nodes n) n (more_call h.tree (n, a, K)) (h.reached n l)) kind
          (member_rest h.tree.calls ((n, a, K) ∷ []) (n, a, K) (inl refl))));
      spread = spread_call b h.tree new n a K w.spread opens
          (claims_of (CallFollows b a (node_at new n)) (node_at new K) x.preds follows (ap (λ (y : OutlineNode). y.preds) last));
    }

pub fresh_back : (m b : Automaton) (nodes : List OutlineNode) (s : Automaton) (y c : ℕ) (a r : Letter) (x : OutlineNode) → IsExploring m b nodes s → y < length nodes → c < length nodes →
    IsOpen (node_at nodes y) → IsOpen (node_at nodes c) → a.kind ≡ kinds.Call → r.kind ≡ kinds.Back → Member s.calls (c, a, entry_of nodes y) → r.call ≡ a.id →
    Member m.backs (node_place_in nodes y, node_place_in nodes c, r, x.place) → x.entry ≡ entry_of nodes c → AreFollowing (BackFollows b r (node_at nodes y) (node_at nodes c)) x.preds →
    IsExploring m b (nodes ++ x ∷ []) (with_back (with_state s) (y, c, r, length nodes))
fresh_back m b nodes s y c a r x h l k o p ka kr j id e en f =
    let K : ℕ = length nodes in
    let new : List OutlineNode = nodes ++ x ∷ [] in
    let w = with_node m b nodes s x h f.ascend in
    let olds : node_at new y ≡ node_at nodes y = more_at nodes x y l in
    let oldc : node_at new c ≡ node_at nodes c = more_at nodes x c k in
    let last : node_at new K ≡ x = last_at nodes x in
    let d : IsBackStep m new (with_state s) y c r K = record {
      exit = longer nodes x y l;
      before = longer nodes x c k;
      to = let q = more_long nodes x in omega (arith, q);
      edge = subst (λ (v : OutlineNode). Member m.backs (v.place, node_place_in new c, r, node_place_in new K)) (sym olds)
          (subst (λ (v : OutlineNode). Member m.backs (node_place_in nodes y, v.place, r, node_place_in new K)) (sym oldc)
          (subst (λ (v : OutlineNode). Member m.backs (node_place_in nodes y, node_place_in nodes c, r, v.place)) (sym last) e));
      entry = ap (λ (v : OutlineNode). v.entry) last ∙ en ∙ ap (λ (v : OutlineNode). v.entry) (sym oldc);
      letter = a;
      joined = subst (λ (v : OutlineNode). Member s.calls (c, a, v.entry)) (sym olds) j;
      names = id;
    } in
    let follows : AreFollowing (BackFollows b r (node_at new y) (node_at new c)) x.preds =
    subst (λ (v : OutlineNode). AreFollowing (BackFollows b r v (node_at new c)) x.preds) (sym olds) (subst (λ (v : OutlineNode). AreFollowing (BackFollows b r (node_at nodes y) v) x.preds) (sym oldc) f) in
    let t : Automaton = with_back h.tree (y, c, r, K) in
    record {
      first = w.first;
      states = w.states;
      along = along_back m new (with_state s) y c r K (state_along m new s w.along) d;
      shown = record {
        insides = w.shown.insides;
        calls = w.shown.calls;
        backs = back_step_more (λ q i v z. (g : ℕ) → Member (node_at new z).preds g → BackFollows b v (node_at new q) (node_at new i) g) s.backs y c r K w.shown.backs
            (λ g i. follows.sound g (subst (λ (v : OutlineNode). Member v.preds g) last i));
      };
      ascend = w.ascend;
      tree = t;
      part = let q = both_back h.tree s y c r K h.part in record { insides = q.insides; calls = q.calls; backs = q.backs };
      all_calls = h.all_calls;
      reached = old_or_new (λ q. IsReached t (entry_of new q) q) nodes x (λ q i. old_reached nodes x h.tree t q i (more_back h.tree (y, c, r, K)) (h.reached q i))
          (subst (λ (q : ℕ). IsReached t q K) (sym (ap (λ (v : OutlineNode). v.entry) last ∙ en))
          (reached_back t (entry_of nodes c) y c a (entry_of nodes y) r K (reached_more h.tree t (entry_of nodes y) y (more_back h.tree (y, c, r, K)) (h.reached y l))
          (reached_more h.tree t (entry_of nodes c) c (more_back h.tree (y, c, r, K)) (h.reached c k)) ka (h.all_calls c a (entry_of nodes y) j) kr
          (member_rest h.tree.backs ((y, c, r, K) ∷ []) (y, c, r, K) (inl refl))));
      spread = spread_back b h.tree new y c r K w.spread (subst (λ (v : OutlineNode). IsOpen v) (sym olds) o) (subst (λ (v : OutlineNode). IsOpen v) (sym oldc) p)
          (claims_of (BackFollows b r (node_at new y) (node_at new c)) (node_at new K) x.preds follows (ap (λ (v : OutlineNode). v.preds) last));
    }

-- where nothing is searched yet
pub nothing_explored : (m b s : Automaton) → IsStarting b s → IsExploring m b (bare ∷ []) s
nothing_explored m b s h = record {
  first = refl;
  states = h.states;
  along = record {
    insides = λ n a k i. absurd (none (λ (l : List (ℕ × Letter × ℕ)). Member l (n, a, k)) s.insides h.insides (λ v. v) i);
    calls = λ n a k i. absurd (none (λ (l : List (ℕ × Letter × ℕ)). Member l (n, a, k)) s.calls h.calls (λ v. v) i);
    backs = λ x c r k i. absurd (none (λ (l : List (ℕ × ℕ × Letter × ℕ)). Member l (x, c, r, k)) s.backs h.backs (λ v. v) i);
  };
  shown = record {
    insides = λ n a k i. absurd (none (λ (l : List (ℕ × Letter × ℕ)). Member l (n, a, k)) s.insides h.insides (λ v. v) i);
    calls = λ n a k i. absurd (none (λ (l : List (ℕ × Letter × ℕ)). Member l (n, a, k)) s.calls h.calls (λ v. v) i);
    backs = λ x c r k i. absurd (none (λ (l : List (ℕ × ℕ × Letter × ℕ)). Member l (x, c, r, k)) s.backs h.backs (λ v. v) i);
  };
  ascend = λ n l. let e : 0 ≡ n = omega arith in subst (λ (k : ℕ). AscendFrom 1 (node_at (bare ∷ []) k).preds) e tt;
  tree = s;
  part = record { insides = λ n a k i. i; calls = λ n a k i. i; backs = λ x c r k i. i };
  all_calls = λ n a k i. i;
  reached = λ n l. let e : 0 ≡ n = omega arith in
      subst (λ (k : ℕ). IsReached s (entry_of (bare ∷ []) k) k) e (record { prefix = []; callers = []; enters = (refl, refl); matched = []; within = (refl, refl) });
  spread = record {
    start = h.over.start;
    finals = h.over.finals;
    insides = λ n a k i. absurd (none (λ (l : List (ℕ × Letter × ℕ)). Member l (n, a, k)) s.insides h.insides (λ v. v) i);
    calls = λ n a k i. absurd (none (λ (l : List (ℕ × Letter × ℕ)). Member l (n, a, k)) s.calls h.calls (λ v. v) i);
    backs = λ x c r k i. absurd (none (λ (l : List (ℕ × ℕ × Letter × ℕ)). Member l (x, c, r, k)) s.backs h.backs (λ v. v) i);
  };
}
  where
    none : {X : Type 0} (P : List X → Type 0) (xs : List X) → xs ≡ [] → (P [] → ⊥) → P xs → ⊥
    none P xs e f p = f (subst P e p)
