-- Nodes and steps that are added keep what is known of the others.
use Rattle.std.proofs.Common.{◌≡◌, ℕ, zero, suc, ◌+◌, ◌<◌, List, [], ◌∷◌, ◌++◌, length, length-append, refl, sym, subst, inl, inr, arith}
use Rattle.nwa_base.specs.declared.letters.Kind.{Kind}
use Rattle.nwa_base.specs.declared.letters.Kind.TheVariants as kinds
use Rattle.nwa_base.specs.declared.letters.Letter.{Letter}
use Rattle.nwa_base.specs.Members.{Member}
use Rattle.nwa_base.specs.Automata.{Automaton}
use Rattle.nwa_base.specs.Acceptance.{Follows, Moves}
use Rattle.nwa_base.proofs.MemberLemmas.{member_front, member_split}
use Rattle.nwa_base.proofs.WayLemmas.{moves_join, moves_below}
use Rattle.proof_names.specs.Outlines.{OutlineNode}
use Rattle.proof_check.specs.Steps.{IsOf, IsOpen}
use Rattle.proof_build.specs.ProofUnwind.Unwindings.{node_at, entry_of, IsInsideStep, IsCallStep, IsBackStep, IsAlong, IsReached, IsPart, Claims, Spreads}
use Rattle.proof_build.specs.ProofUnwind.Exploring.{InsideFollows, CallFollows, BackFollows, AreShown, with_inside, with_call, with_back}

-- ---- one node more

pub more_at : (nodes : List OutlineNode) (x : OutlineNode) (n : ℕ) → n < length nodes → node_at (nodes ++ x ∷ []) n ≡ node_at nodes n
more_at [] x n l = absurd (omega arith)
more_at (y ∷ nodes) x zero l = refl
more_at (y ∷ nodes) x (suc n) l = more_at nodes x n (omega arith)

pub last_at : (nodes : List OutlineNode) (x : OutlineNode) → node_at (nodes ++ x ∷ []) (length nodes) ≡ x
last_at [] x = refl
last_at (y ∷ nodes) x = last_at nodes x

pub more_long : (nodes : List OutlineNode) (x : OutlineNode) → length (nodes ++ x ∷ []) ≡ length nodes + 1
more_long nodes x = length-append nodes (x ∷ [])

pub longer : (nodes : List OutlineNode) (x : OutlineNode) (n : ℕ) → n < length nodes → n < length (nodes ++ x ∷ [])
longer nodes x n l = let e = more_long nodes x in omega (arith, e, l)

-- what is said of nodes that stay
two : (P : OutlineNode → OutlineNode → Type 0) (nodes : List OutlineNode) (x : OutlineNode) (n k : ℕ) → n < length nodes → k < length nodes → P (node_at nodes n) (node_at nodes k) →
    P (node_at (nodes ++ x ∷ []) n) (node_at (nodes ++ x ∷ []) k)
two P nodes x n k l m p =
    subst (λ (y : OutlineNode). P (node_at (nodes ++ x ∷ []) n) y) (sym (more_at nodes x k m)) (subst (λ (y : OutlineNode). P y (node_at nodes k)) (sym (more_at nodes x n l)) p)

three : (P : OutlineNode → OutlineNode → OutlineNode → Type 0) (nodes : List OutlineNode) (x : OutlineNode) (n k j : ℕ) → n < length nodes → k < length nodes → j < length nodes →
    P (node_at nodes n) (node_at nodes k) (node_at nodes j) → P (node_at (nodes ++ x ∷ []) n) (node_at (nodes ++ x ∷ []) k) (node_at (nodes ++ x ∷ []) j)
three P nodes x n k j l m o p =
    subst (λ (y : OutlineNode). P (node_at (nodes ++ x ∷ []) n) (node_at (nodes ++ x ∷ []) k) y) (sym (more_at nodes x j o))
    (two (λ a b. P a b (node_at nodes j)) nodes x n k l m p)

inside_more : (m : Automaton) (nodes : List OutlineNode) (x : OutlineNode) (n : ℕ) (a : Letter) (k : ℕ) → IsInsideStep m nodes n a k → IsInsideStep m (nodes ++ x ∷ []) n a k
inside_more m nodes x n a k d = record {
  «from» = longer nodes x n d.from;
  to = longer nodes x k d.to;
  edge = two (λ y z. Member m.insides (y.place, a, z.place)) nodes x n k d.from d.to d.edge;
  entry = two (λ y z. z.entry ≡ y.entry) nodes x n k d.from d.to d.entry;
}

call_more : (m : Automaton) (nodes : List OutlineNode) (x : OutlineNode) (n : ℕ) (a : Letter) (k : ℕ) → IsCallStep m nodes n a k → IsCallStep m (nodes ++ x ∷ []) n a k
call_more m nodes x n a k d = record {
  «from» = longer nodes x n d.from;
  to = longer nodes x k d.to;
  edge = two (λ y z. Member m.calls (y.place, a, z.place)) nodes x n k d.from d.to d.edge;
  entry = two (λ y z. z.entry ≡ k) nodes x n k d.from d.to d.entry;
}

back_more : (m : Automaton) (nodes : List OutlineNode) (x : OutlineNode) (s : Automaton) (q c : ℕ) (r : Letter) (k : ℕ) → IsBackStep m nodes s q c r k → IsBackStep m (nodes ++ x ∷ []) s q c r k
back_more m nodes x s q c r k d = record {
  exit = longer nodes x q d.exit;
  before = longer nodes x c d.before;
  to = longer nodes x k d.to;
  edge = three (λ u v w. Member m.backs (u.place, v.place, r, w.place)) nodes x q c k d.exit d.before d.to d.edge;
  entry = two (λ v w. w.entry ≡ v.entry) nodes x c k d.before d.to d.entry;
  letter = d.letter;
  joined = two (λ u v. Member s.calls (c, d.letter, u.entry)) nodes x q c d.exit d.before d.joined;
  names = d.names;
}

pub along_more : (m : Automaton) (nodes : List OutlineNode) (x : OutlineNode) (s : Automaton) → IsAlong m nodes s → IsAlong m (nodes ++ x ∷ []) s
along_more m nodes x s h = record {
  insides = λ n a k e. inside_more m nodes x n a k (h.insides n a k e);
  calls = λ n a k e. call_more m nodes x n a k (h.calls n a k e);
  backs = λ q c r k e. back_more m nodes x s q c r k (h.backs q c r k e);
}

pub shown_more : (m b : Automaton) (nodes : List OutlineNode) (x : OutlineNode) (s : Automaton) → IsAlong m nodes s → AreShown b nodes s → AreShown b (nodes ++ x ∷ []) s
shown_more m b nodes x s al h = record {
  insides = λ n a k e. let d = al.insides n a k e in
      two (λ y z. (r : ℕ) → Member z.preds r → InsideFollows b a y r) nodes x n k d.from d.to (h.insides n a k e);
  calls = λ n a k e. let d = al.calls n a k e in
      two (λ y z. (r : ℕ) → Member z.preds r → CallFollows b a y r) nodes x n k d.from d.to (h.calls n a k e);
  backs = λ q c a k e. let d = al.backs q c a k e in
      three (λ u v w. (r : ℕ) → Member w.preds r → BackFollows b a u v r) nodes x q c k d.exit d.before d.to (h.backs q c a k e);
}

pub spread_more : (m b t : Automaton) (nodes : List OutlineNode) (x : OutlineNode) (s : Automaton) → IsAlong m nodes s → IsPart t s → Spreads b t nodes (λ q. q) → Spreads b t (nodes ++ x ∷ []) (λ q. q)
spread_more m b t nodes x s al p h = record {
  start = h.start;
  finals = h.finals;
  insides = λ n a k e. let d = al.insides n a k (p.insides n a k e) in
      two (λ y z. IsOpen y × ((q i : ℕ) → Member b.insides (q, a, i) → IsOf q y → Claims z i)) nodes x n k d.from d.to (h.insides n a k e);
  calls = λ n a k e. let d = al.calls n a k (p.calls n a k e) in
      two (λ y z. IsOpen y × ((q i : ℕ) → Member b.calls (q, a, i) → IsOf q y → Claims z i)) nodes x n k d.from d.to (h.calls n a k e);
  backs = λ y c r k e. let d = al.backs y c r k (p.backs y c r k e) in
      three (λ u v w. IsOpen u × IsOpen v × ((q i j : ℕ) → Member b.backs (q, i, r, j) → IsOf q u → IsOf i v → Claims w j)) nodes x y c k d.exit d.before d.to (h.backs y c r k e);
}

-- ---- one step more

one_of : {X : Type 0} (P : X → Type 0) (xs : List X) (y : X) → ((x : X) → Member xs x → P x) → P y → (x : X) → Member (xs ++ y ∷ []) x → P x
one_of P xs y h p x m = elim (member_split xs (y ∷ []) x m) [
  | inl a ↦ h x a
  | inr a ↦ last a
]
  where
    last : Member (y ∷ []) x → P x
    last (inl e) = subst P e p
    last (inr n) = absurd n

-- what is said of members of the three lists
abbrev Insides : (ℕ → Letter → ℕ → Type 0) → ℕ × Letter × ℕ → Type 0
Insides P e = P e.0 e.1 e.2

abbrev Backs : (ℕ → ℕ → Letter → ℕ → Type 0) → ℕ × ℕ × Letter × ℕ → Type 0
Backs P e = P e.0 e.1 e.2 e.3

pub step_more : (P : ℕ → Letter → ℕ → Type 0) (xs : List (ℕ × Letter × ℕ)) (n : ℕ) (a : Letter) (k : ℕ) → ((q : ℕ) (l : Letter) (e : ℕ) → Member xs (q, l, e) → P q l e) → P n a k →
    (q : ℕ) (l : Letter) (e : ℕ) → Member (xs ++ (n, a, k) ∷ []) (q, l, e) → P q l e
step_more P xs n a k h p q l e m = one_of (Insides P) xs (n, a, k) (λ x i. h x.0 x.1 x.2 i) p (q, l, e) m

pub back_step_more : (P : ℕ → ℕ → Letter → ℕ → Type 0) (xs : List (ℕ × ℕ × Letter × ℕ)) (x c : ℕ) (r : Letter) (k : ℕ) →
    ((y d : ℕ) (l : Letter) (e : ℕ) → Member xs (y, d, l, e) → P y d l e) → P x c r k → (y d : ℕ) (l : Letter) (e : ℕ) → Member (xs ++ (x, c, r, k) ∷ []) (y, d, l, e) → P y d l e
back_step_more P xs x c r k h p y d l e m = one_of (Backs P) xs (x, c, r, k) (λ z i. h z.0 z.1 z.2 z.3 i) p (y, d, l, e) m

-- a back stays one where there are more calls
back_stays : (m : Automaton) (nodes : List OutlineNode) (s : Automaton) (e : ℕ × Letter × ℕ) (x c : ℕ) (r : Letter) (k : ℕ) → IsBackStep m nodes s x c r k → IsBackStep m nodes (with_call s e) x c r k
back_stays m nodes s e x c r k d = record {
  exit = d.exit;
  before = d.before;
  to = d.to;
  edge = d.edge;
  entry = d.entry;
  letter = d.letter;
  joined = member_front s.calls (e ∷ []) (c, d.letter, entry_of nodes x) d.joined;
  names = d.names;
}

back_same : (m : Automaton) (nodes : List OutlineNode) (s t : Automaton) (x c : ℕ) (r : Letter) (k : ℕ) → s.calls ≡ t.calls → IsBackStep m nodes s x c r k → IsBackStep m nodes t x c r k
back_same m nodes s t x c r k f d = record {
  exit = d.exit;
  before = d.before;
  to = d.to;
  edge = d.edge;
  entry = d.entry;
  letter = d.letter;
  joined = subst (λ (l : List (ℕ × Letter × ℕ)). Member l (c, d.letter, entry_of nodes x)) f d.joined;
  names = d.names;
}

pub along_inside : (m : Automaton) (nodes : List OutlineNode) (s : Automaton) (n : ℕ) (a : Letter) (k : ℕ) → IsAlong m nodes s → IsInsideStep m nodes n a k → IsAlong m nodes (with_inside s (n, a, k))
along_inside m nodes s n a k h d = record {
  insides = step_more (IsInsideStep m nodes) s.insides n a k h.insides d;
  calls = h.calls;
  backs = λ x c r e i. back_same m nodes s (with_inside s (n, a, k)) x c r e refl (h.backs x c r e i);
}

pub along_call : (m : Automaton) (nodes : List OutlineNode) (s : Automaton) (n : ℕ) (a : Letter) (k : ℕ) → IsAlong m nodes s → IsCallStep m nodes n a k → IsAlong m nodes (with_call s (n, a, k))
along_call m nodes s n a k h d = record {
  insides = h.insides;
  calls = step_more (IsCallStep m nodes) s.calls n a k h.calls d;
  backs = λ x c r e i. back_stays m nodes s (n, a, k) x c r e (h.backs x c r e i);
}

pub along_back : (m : Automaton) (nodes : List OutlineNode) (s : Automaton) (x c : ℕ) (r : Letter) (k : ℕ) → IsAlong m nodes s → IsBackStep m nodes s x c r k → IsAlong m nodes (with_back s (x, c, r, k))
along_back m nodes s x c r k h d = record {
  insides = h.insides;
  calls = h.calls;
  backs = λ y e l j i. back_same m nodes s (with_back s (x, c, r, k)) y e l j refl (back_step_more (λ q p t z. IsBackStep m nodes s q p t z) s.backs x c r k h.backs d y e l j i);
}

-- ---- nodes are reached

follows_more : (t u : Automaton) (k : Kind) (a : Letter) (before : List ℕ) (n r : ℕ) (R S : List ℕ → Type 0) → IsPart t u → ((stack : List ℕ) → R stack → S stack) →
    Follows t k a before n r R → Follows u k a before n r S
follows_more t u kinds.Inside a before n r R S p g f = (p.insides n a r f.0, g before f.1)
follows_more t u kinds.Call a before n r R S p g f = (p.calls n a r f.0, g (n ∷ before) f.1)
follows_more t u kinds.Back a [] n r R S p g f = f
follows_more t u kinds.Back a (c ∷ before) n r R S p g f = (p.backs n c a r f.0, g before f.1)

moves_more : (t u : Automaton) (w : List Letter) (before after : List ℕ) (n e : ℕ) → IsPart t u → Moves t before n w after e → Moves u before n w after e
moves_more t u [] before after n e p v = v
moves_more t u (a ∷ w) before after n e p v =
    (v.0, follows_more t u a.kind a before n v.0 (λ stack. Moves t stack v.0 w after e) (λ stack. Moves u stack v.0 w after e) p (λ stack h. moves_more t u w stack after v.0 e p h) v.1)

pub reached_more : (t u : Automaton) (entry n : ℕ) → IsPart t u → IsReached t entry n → IsReached u entry n
reached_more t u entry n p r = record {
  prefix = r.prefix;
  callers = r.callers;
  enters = moves_more t u r.prefix [] r.callers 0 entry p r.enters;
  matched = r.matched;
  within = moves_more t u r.matched [] [] entry n p r.within;
}

one_inside : (t : Automaton) (before : List ℕ) (n : ℕ) (a : Letter) (k : ℕ) → a.kind ≡ kinds.Inside → Member t.insides (n, a, k) → Moves t before n (a ∷ []) before k
one_inside t before n a k e i = (k, subst (λ (c : Kind). Follows t c a before n k (λ stack. Moves t stack k [] before k)) (sym e) (i, (refl, refl)))

one_call : (t : Automaton) (before : List ℕ) (n : ℕ) (a : Letter) (k : ℕ) → a.kind ≡ kinds.Call → Member t.calls (n, a, k) → Moves t before n (a ∷ []) (n ∷ before) k
one_call t before n a k e i = (k, subst (λ (c : Kind). Follows t c a before n k (λ stack. Moves t stack k [] (n ∷ before) k)) (sym e) (i, (refl, refl)))

one_back : (t : Automaton) (before : List ℕ) (x c : ℕ) (r : Letter) (k : ℕ) → r.kind ≡ kinds.Back → Member t.backs (x, c, r, k) → Moves t (c ∷ before) x (r ∷ []) before k
one_back t before x c r k e i = (k, subst (λ (j : Kind). Follows t j r (c ∷ before) x k (λ stack. Moves t stack k [] before k)) (sym e) (i, (refl, refl)))

pub reached_inside : (t : Automaton) (entry n : ℕ) (a : Letter) (k : ℕ) → IsReached t entry n → a.kind ≡ kinds.Inside → Member t.insides (n, a, k) → IsReached t entry k
reached_inside t entry n a k r e i = record {
  prefix = r.prefix;
  callers = r.callers;
  enters = r.enters;
  matched = r.matched ++ a ∷ [];
  within = moves_join t r.matched (a ∷ []) [] [] [] entry n k r.within (one_inside t [] n a k e i);
}

pub reached_call : (t : Automaton) (entry n : ℕ) (a : Letter) (k : ℕ) → IsReached t entry n → a.kind ≡ kinds.Call → Member t.calls (n, a, k) → IsReached t k k
reached_call t entry n a k r e i =
    let below : Moves t r.callers entry r.matched r.callers n = moves_below t r.matched [] [] r.callers entry n r.within in
    record {
      prefix = r.prefix ++ (r.matched ++ a ∷ []);
      callers = n ∷ r.callers;
      enters = moves_join t r.prefix (r.matched ++ a ∷ []) [] r.callers (n ∷ r.callers) 0 entry k r.enters
          (moves_join t r.matched (a ∷ []) r.callers r.callers (n ∷ r.callers) entry n k below (one_call t r.callers n a k e i));
      matched = [];
      within = (refl, refl);
    }

pub reached_back : (t : Automaton) (entry x c : ℕ) (a : Letter) (place : ℕ) (r : Letter) (k : ℕ) → IsReached t place x → IsReached t entry c → a.kind ≡ kinds.Call → Member t.calls (c, a, place) →
    r.kind ≡ kinds.Back → Member t.backs (x, c, r, k) → IsReached t entry k
reached_back t entry x c a place r k p q e i f j =
    let below : Moves t (c ∷ []) place p.matched (c ∷ []) x = moves_below t p.matched [] [] (c ∷ []) place x p.within in
    let tail : Moves t (c ∷ []) place (p.matched ++ r ∷ []) [] k = moves_join t p.matched (r ∷ []) (c ∷ []) (c ∷ []) [] place x k below (one_back t [] x c r k f j) in
    let call : Moves t [] c (a ∷ []) (c ∷ []) place = one_call t [] c a place e i in
    record {
      prefix = q.prefix;
      callers = q.callers;
      enters = q.enters;
      matched = q.matched ++ ((a ∷ []) ++ (p.matched ++ r ∷ []));
      within = moves_join t q.matched ((a ∷ []) ++ (p.matched ++ r ∷ [])) [] [] [] entry c k q.within
          (moves_join t (a ∷ []) (p.matched ++ r ∷ []) [] (c ∷ []) [] c place k call tail);
    }
