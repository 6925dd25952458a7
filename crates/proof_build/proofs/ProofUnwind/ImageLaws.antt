-- What is kept while nodes and steps are searched holds also of nodes under new numbers.
use Rattle.std.proofs.Common.{◌≡◌, ◌∙◌, ◌⊎◌, ℕ, ◌<◌, List, [], ◌∷◌, length, Some, refl, sym, ap, subst, arith}
use Rattle.std.specs.Prelude.{map, slice_get}
use Rattle.nwa_base.specs.declared.letters.Kind.{Kind}
use Rattle.nwa_base.specs.declared.letters.Kind.TheVariants as kinds
use Rattle.nwa_base.specs.declared.letters.Letter.{Letter}
use Rattle.nwa_base.specs.Members.{Member}
use Rattle.nwa_base.specs.Automata.{Automaton}
use Rattle.nwa_base.specs.Acceptance.{Follows, Moves}
use Rattle.nwa_base.proofs.MemberLemmas.{member_map, member_from_map}
use Rattle.proof_names.specs.Outlines.{OutlineNode}
use Rattle.proof_names.specs.ProofSpell.Drafts.{AscendFrom}
use Rattle.proof_check.specs.Steps.{IsOf, IsOpen}
use Rattle.proof_build.specs.ProofUnwind.Unwindings.{node_at, node_place_in, entry_of, IsInsideStep, IsCallStep, IsBackStep, IsAlong, HasStep, HasBack, IsReached, IsPart, Claims, Spreads, bare}
use Rattle.proof_build.specs.ProofUnwind.Exploring.{InsideFollows, CallFollows, BackFollows, AreShown, IsExploring, AreOpened}
use Rattle.proof_build.specs.ProofUnwind.Renumbering.{renamed, moved, moved_back, IsMoved, IsRenumbering}

abbrev pub image : (ℕ → ℕ) → Automaton → Automaton
image h s = record s { insides = map (moved h) s.insides; calls = map (moved h) s.calls; backs = map (moved_back h) s.backs }

-- ---- moved edges

each_moved : (h : ℕ → ℕ) (edges : List (ℕ × Letter × ℕ)) (P : ℕ → Letter → ℕ → Type 0) → ((n : ℕ) (a : Letter) (k : ℕ) → Member edges (n, a, k) → P (h n) a (h k)) →
    (n : ℕ) (a : Letter) (k : ℕ) → Member (map (moved h) edges) (n, a, k) → P n a k
each_moved h edges P f n a k i =
    let r = member_from_map (moved h) edges (n, a, k) i in
    subst (λ (x : ℕ × Letter × ℕ). P x.0 x.1 x.2) r.2 (f r.0.0 r.0.1 r.0.2 r.1)

each_moved_back : (h : ℕ → ℕ) (edges : List (ℕ × ℕ × Letter × ℕ)) (P : ℕ → ℕ → Letter → ℕ → Type 0) →
    ((x c : ℕ) (a : Letter) (k : ℕ) → Member edges (x, c, a, k) → P (h x) (h c) a (h k)) → (x c : ℕ) (a : Letter) (k : ℕ) → Member (map (moved_back h) edges) (x, c, a, k) → P x c a k
each_moved_back h edges P f x c a k i =
    let r = member_from_map (moved_back h) edges (x, c, a, k) i in
    subst (λ (y : ℕ × ℕ × Letter × ℕ). P y.0 y.1 y.2 y.3) r.2 (f r.0.0 r.0.1 r.0.2 r.0.3 r.1)

to_moved : (h : ℕ → ℕ) (edges : List (ℕ × Letter × ℕ)) (n : ℕ) (a : Letter) (k : ℕ) → Member edges (n, a, k) → Member (map (moved h) edges) (h n, a, h k)
to_moved h edges n a k i = member_map (moved h) edges (n, a, k) i

to_moved_back : (h : ℕ → ℕ) (edges : List (ℕ × ℕ × Letter × ℕ)) (x c : ℕ) (a : Letter) (k : ℕ) → Member edges (x, c, a, k) → Member (map (moved_back h) edges) (h x, h c, a, h k)
to_moved_back h edges x c a k i = member_map (moved_back h) edges (x, c, a, k) i

-- ---- moved words

follows_moved : (t : Automaton) (h : ℕ → ℕ) (k : Kind) (a : Letter) (before : List ℕ) (n r : ℕ) (R S : List ℕ → Type 0) → ((stack : List ℕ) → R stack → S (map h stack)) →
    Follows t k a before n r R → Follows (image h t) k a (map h before) (h n) (h r) S
follows_moved t h kinds.Inside a before n r R S g f = (to_moved h t.insides n a r f.0, g before f.1)
follows_moved t h kinds.Call a before n r R S g f = (to_moved h t.calls n a r f.0, g (n ∷ before) f.1)
follows_moved t h kinds.Back a [] n r R S g f = absurd f
follows_moved t h kinds.Back a (c ∷ before) n r R S g f = (to_moved_back h t.backs n c a r f.0, g before f.1)

moves_moved : (t : Automaton) (h : ℕ → ℕ) (w : List Letter) (before after : List ℕ) (n e : ℕ) → Moves t before n w after e → Moves (image h t) (map h before) (h n) w (map h after) (h e)
moves_moved t h [] before after n e v = (ap (map h) v.0, ap h v.1)
moves_moved t h (a ∷ w) before after n e v = (
  h v.0,
  follows_moved t h a.kind a before n v.0 (λ stack. Moves t stack v.0 w after e) (λ stack. Moves (image h t) stack (h v.0) w (map h after) (h e))
      (λ stack f. moves_moved t h w stack after v.0 e f) v.1,
)

reached_moved : (t : Automaton) (h : ℕ → ℕ) (entry n : ℕ) → h 0 ≡ 0 → IsReached t entry n → IsReached (image h t) (h entry) (h n)
reached_moved t h entry n z r = record {
  prefix = r.prefix;
  callers = map h r.callers;
  enters = subst (λ (q : ℕ). Moves (image h t) [] q r.prefix (map h r.callers) (h entry)) z (moves_moved t h r.prefix [] r.callers 0 entry r.enters);
  matched = r.matched;
  within = moves_moved t h r.matched [] [] entry n r.within;
}

first_is : (nodes : List OutlineNode) (x : OutlineNode) → 0 < length nodes → node_at nodes 0 ≡ x → slice_get nodes 0 ≡ Some x
first_is [] x l e = absurd (omega arith)
first_is (y ∷ nodes) x l e = ap (λ (z : OutlineNode). Some z) e

first_at : (nodes : List OutlineNode) (x : OutlineNode) → slice_get nodes 0 ≡ Some x → (0 < length nodes) × (node_at nodes 0 ≡ x)
first_at [] x e = absurd (cc)
first_at (y ∷ nodes) x e = (omega arith, cc)

-- ---- nodes under new numbers

module _ (nodes new : List OutlineNode) (h : ℕ → ℕ) (r : IsRenumbering nodes new h) where
  there : (n : ℕ) → n < length nodes → h n < length new
  there n l = let e = r.long in let k = r.below n l in omega (arith, e, k)

  -- what is said of each node under its new number is said of all
  all_numbers : (P : ℕ → Type 0) → ((n : ℕ) → n < length nodes → P (h n)) → (j : ℕ) → j < length new → P j
  all_numbers P f j l = let e = r.long in let o = r.onto j (omega (arith, e, l)) in subst P o.2 (f o.0 o.1)

  place_same : (n : ℕ) → n < length nodes → node_place_in new (h n) ≡ node_place_in nodes n
  place_same n l = ap (λ (x : OutlineNode). x.place) (r.at n l)

  entry_moved : (n : ℕ) → n < length nodes → entry_of new (h n) ≡ h (entry_of nodes n)
  entry_moved n l = ap (λ (x : OutlineNode). x.entry) (r.at n l)

  preds_same : (n : ℕ) → n < length nodes → (node_at new (h n)).preds ≡ (node_at nodes n).preds
  preds_same n l = ap (λ (x : OutlineNode). x.preds) (r.at n l)

  to_new : (P : List ℕ → Type 0) (n : ℕ) → n < length nodes → P (node_at nodes n).preds → P (node_at new (h n)).preds
  to_new P n l p = subst P (sym (preds_same n l)) p

  to_old : (P : List ℕ → Type 0) (n : ℕ) → n < length nodes → P (node_at new (h n)).preds → P (node_at nodes n).preds
  to_old P n l p = subst P (preds_same n l) p

  edge_moved : (edges : List (ℕ × Letter × ℕ)) (n : ℕ) (a : Letter) (k : ℕ) → n < length nodes → k < length nodes → Member edges (node_place_in nodes n, a, node_place_in nodes k) →
      Member edges (node_place_in new (h n), a, node_place_in new (h k))
  edge_moved edges n a k l o i =
      subst (λ (p : ℕ). Member edges (p, a, node_place_in new (h k))) (sym (place_same n l)) (subst (λ (p : ℕ). Member edges (node_place_in nodes n, a, p)) (sym (place_same k o)) i)

  inside_moved : (m : Automaton) (n : ℕ) (a : Letter) (k : ℕ) → IsInsideStep m nodes n a k → IsInsideStep m new (h n) a (h k)
  inside_moved m n a k d = record {
    «from» = there n d.from;
    to = there k d.to;
    edge = edge_moved m.insides n a k d.from d.to d.edge;
    entry = entry_moved k d.to ∙ ap h d.entry ∙ sym (entry_moved n d.from);
  }

  call_moved : (m : Automaton) (n : ℕ) (a : Letter) (k : ℕ) → IsCallStep m nodes n a k → IsCallStep m new (h n) a (h k)
  call_moved m n a k d = record {
    «from» = there n d.from;
    to = there k d.to;
    edge = edge_moved m.calls n a k d.from d.to d.edge;
    entry = entry_moved k d.to ∙ ap h d.entry;
  }

  back_moved : (m s : Automaton) (x c : ℕ) (a : Letter) (k : ℕ) → IsBackStep m nodes s x c a k → IsBackStep m new (image h s) (h x) (h c) a (h k)
  back_moved m s x c a k d = record {
    exit = there x d.exit;
    before = there c d.before;
    to = there k d.to;
    edge = subst (λ (p : ℕ). Member m.backs (p, node_place_in new (h c), a, node_place_in new (h k))) (sym (place_same x d.exit))
        (subst (λ (p : ℕ). Member m.backs (node_place_in nodes x, p, a, node_place_in new (h k))) (sym (place_same c d.before))
        (subst (λ (p : ℕ). Member m.backs (node_place_in nodes x, node_place_in nodes c, a, p)) (sym (place_same k d.to)) d.edge));
    entry = entry_moved k d.to ∙ ap h d.entry ∙ sym (entry_moved c d.before);
    letter = d.letter;
    joined = subst (λ (p : ℕ). Member (image h s).calls (h c, d.letter, p)) (sym (entry_moved x d.exit)) (to_moved h s.calls c d.letter (entry_of nodes x) d.joined);
    names = d.names;
  }

  along_moved : (m s : Automaton) → IsAlong m nodes s → IsAlong m new (image h s)
  along_moved m s al = record {
    insides = each_moved h s.insides (IsInsideStep m new) (λ n a k i. inside_moved m n a k (al.insides n a k i));
    calls = each_moved h s.calls (IsCallStep m new) (λ n a k i. call_moved m n a k (al.calls n a k i));
    backs = each_moved_back h s.backs (IsBackStep m new (image h s)) (λ x c a k i. back_moved m s x c a k (al.backs x c a k i));
  }

  shown_moved : (m b s : Automaton) → IsAlong m nodes s → AreShown b nodes s → AreShown b new (image h s)
  shown_moved m b s al f = record {
    insides = each_moved h s.insides (λ n a k. (q : ℕ) → Member (node_at new k).preds q → InsideFollows b a (node_at new n) q)
        (λ n a k i q j. let d = al.insides n a k i in let g = f.insides n a k i q (to_old (λ l. Member l q) k d.to j) in
        (g.0, g.1, to_new (λ l. (g.0 ≡ 0) ⊎ Member l g.0) n d.from g.2));
    calls = each_moved h s.calls (λ n a k. (q : ℕ) → Member (node_at new k).preds q → CallFollows b a (node_at new n) q)
        (λ n a k i q j. let d = al.calls n a k i in let g = f.calls n a k i q (to_old (λ l. Member l q) k d.to j) in
        (g.0, g.1, to_new (λ l. (g.0 ≡ 0) ⊎ Member l g.0) n d.from g.2));
    backs = each_moved_back h s.backs (λ x c a k. (q : ℕ) → Member (node_at new k).preds q → BackFollows b a (node_at new x) (node_at new c) q)
        (λ x c a k i q j. let d = al.backs x c a k i in let g = f.backs x c a k i q (to_old (λ l. Member l q) k d.to j) in
        (g.0, g.1, g.2, to_new (λ l. (g.0 ≡ 0) ⊎ Member l g.0) x d.exit g.3, to_new (λ l. (g.1 ≡ 0) ⊎ Member l g.1) c d.before g.4));
  }

  spread_moved : (m b s t : Automaton) → IsAlong m nodes s → IsPart t s → Spreads b t nodes (λ q. q) → Spreads b (image h t) new (λ q. q)
  spread_moved m b s t al p f = record {
    start = f.start;
    finals = f.finals;
    insides = each_moved h t.insides (λ n a k. IsOpen (node_at new n) × ((q e : ℕ) → Member b.insides (q, a, e) → IsOf q (node_at new n) → Claims (node_at new k) e))
        (λ n a k i. let d = al.insides n a k (p.insides n a k i) in let g = f.insides n a k i in (
          to_new (λ l. Member l 1 → ⊥) n d.from g.0,
          λ q e j o. to_new (λ l. Member l 1 ⊎ (e ≡ 0) ⊎ Member l e) k d.to (g.1 q e j (to_old (λ l. (q ≡ 0) ⊎ Member l q) n d.from o)),
        ));
    calls = each_moved h t.calls (λ n a k. IsOpen (node_at new n) × ((q e : ℕ) → Member b.calls (q, a, e) → IsOf q (node_at new n) → Claims (node_at new k) e))
        (λ n a k i. let d = al.calls n a k (p.calls n a k i) in let g = f.calls n a k i in (
          to_new (λ l. Member l 1 → ⊥) n d.from g.0,
          λ q e j o. to_new (λ l. Member l 1 ⊎ (e ≡ 0) ⊎ Member l e) k d.to (g.1 q e j (to_old (λ l. (q ≡ 0) ⊎ Member l q) n d.from o)),
        ));
    backs = each_moved_back h t.backs (λ x c a k. IsOpen (node_at new x) × IsOpen (node_at new c) ×
        ((q u e : ℕ) → Member b.backs (q, u, a, e) → IsOf q (node_at new x) → IsOf u (node_at new c) → Claims (node_at new k) e))
        (λ x c a k i. let d = al.backs x c a k (p.backs x c a k i) in let g = f.backs x c a k i in (
          to_new (λ l. Member l 1 → ⊥) x d.exit g.0,
          to_new (λ l. Member l 1 → ⊥) c d.before g.1,
          λ q u e j o v. to_new (λ l. Member l 1 ⊎ (e ≡ 0) ⊎ Member l e) k d.to
              (g.2 q u e j (to_old (λ l. (q ≡ 0) ⊎ Member l q) x d.exit o) (to_old (λ l. (u ≡ 0) ⊎ Member l u) c d.before v)),
        ));
  }

  part_moved : (t s : Automaton) → IsPart t s → IsPart (image h t) (image h s)
  part_moved t s p = record {
    insides = each_moved h t.insides (λ n a k. Member (image h s).insides (n, a, k)) (λ n a k i. to_moved h s.insides n a k (p.insides n a k i));
    calls = each_moved h t.calls (λ n a k. Member (image h s).calls (n, a, k)) (λ n a k i. to_moved h s.calls n a k (p.calls n a k i));
    backs = each_moved_back h t.backs (λ x c a k. Member (image h s).backs (x, c, a, k)) (λ x c a k i. to_moved_back h s.backs x c a k (p.backs x c a k i));
  }

  pub exploring_moved : (m b s : Automaton) → IsExploring m b nodes s → IsExploring m b new (image h s)
  exploring_moved m b s x = record {
    first = let f = first_at nodes bare x.first in
        let e : node_at new 0 ≡ bare = subst (λ (j : ℕ). node_at new j ≡ record { place = 0; entry = j; preds = [] }) r.first
        (r.at 0 f.0 ∙ ap (renamed h) f.1 ∙ ap (λ (j : ℕ). record { place = 0; entry = j; preds = [] }) refl) in
        first_is new bare (let l = r.long in let z = f.0 in omega (arith, l, z)) e;
    states = x.states ∙ sym r.long;
    along = along_moved m s x.along;
    shown = shown_moved m b s x.along x.shown;
    ascend = all_numbers (λ j. AscendFrom 1 (node_at new j).preds) (λ n l. to_new (AscendFrom 1) n l (x.ascend n l));
    tree = image h x.tree;
    part = part_moved x.tree s x.part;
    all_calls = each_moved h s.calls (λ n a k. Member (image h x.tree).calls (n, a, k)) (λ n a k i. to_moved h x.tree.calls n a k (x.all_calls n a k i));
    reached = all_numbers (λ j. IsReached (image h x.tree) (entry_of new j) j)
        (λ n l. subst (λ (e : ℕ). IsReached (image h x.tree) e (h n)) (sym (entry_moved n l)) (reached_moved x.tree h (entry_of nodes n) n r.first (x.reached n l)));
    spread = spread_moved m b s x.tree x.along x.part x.spread;
  }

  step_there : (edges : List (ℕ × Letter × ℕ)) (n : ℕ) (a : Letter) (e : ℕ) → ((k : ℕ) → Member edges (n, a, k) → k < length nodes) → HasStep edges nodes n a e →
      HasStep (map (moved h) edges) new (h n) a e
  step_there edges n a e f g = record {
    number = h g.number;
    step = to_moved h edges n a g.number g.step;
    at = place_same g.number (f g.number g.step) ∙ g.at;
  }

  back_there : (edges : List (ℕ × ℕ × Letter × ℕ)) (x c : ℕ) (a : Letter) (e : ℕ) → ((k : ℕ) → Member edges (x, c, a, k) → k < length nodes) → HasBack edges nodes x c a e →
      HasBack (map (moved_back h) edges) new (h x) (h c) a e
  back_there edges x c a e f g = record {
    number = h g.number;
    back = to_moved_back h edges x c a g.number g.back;
    at = place_same g.number (f g.number g.back) ∙ g.at;
  }

  -- a call between new numbers is one between the old
  call_back : (edges : List (ℕ × Letter × ℕ)) (c k : ℕ) (a : Letter) → c < length nodes → k < length nodes → ((d : ℕ) (l : Letter) (e : ℕ) → Member edges (d, l, e) → (d < length nodes) × (e < length nodes)) →
      Member (map (moved h) edges) (h c, a, h k) → Member edges (c, a, k)
  call_back edges c k a l o f i =
      let v = member_from_map (moved h) edges (h c, a, h k) i in
      let b = f v.0.0 v.0.1 v.0.2 v.1 in
      let p : v.0.0 ≡ c = r.apart v.0.0 c b.0 l (ap (λ (x : ℕ × Letter × ℕ). x.0) v.2) in
      let q : v.0.2 ≡ k = r.apart v.0.2 k b.1 o (ap (λ (x : ℕ × Letter × ℕ). x.2) v.2) in
      let e : v.0.1 ≡ a = ap (λ (x : ℕ × Letter × ℕ). x.1) v.2 in
      let z : v.0 ≡ (c, a, k) = λ t. (p t, e t, q t) in
      subst (λ (x : ℕ × Letter × ℕ). Member edges x) z v.1

  pub opened_moved : (m s : Automaton) → IsAlong m nodes s → ((n : ℕ) → n < length nodes → entry_of nodes n < length nodes) → AreOpened m nodes s (length nodes) →
      AreOpened m new (image h s) (length new)
  opened_moved m s al en f = record {
    insides = all_numbers (λ j. IsOpen (node_at new j) → (a : Letter) (e : ℕ) → Member m.insides (node_place_in new j, a, e) → HasStep (image h s).insides new j a e)
        (λ n l o a e i. step_there s.insides n a e (λ k z. (al.insides n a k z).to)
        (f.insides n l (to_old (λ p. Member p 1 → ⊥) n l o) a e (subst (λ (p : ℕ). Member m.insides (p, a, e)) (place_same n l) i)));
    calls = all_numbers (λ j. IsOpen (node_at new j) → (a : Letter) (e : ℕ) → Member m.calls (node_place_in new j, a, e) → HasStep (image h s).calls new j a e)
        (λ n l o a e i. step_there s.calls n a e (λ k z. (al.calls n a k z).to)
        (f.calls n l (to_old (λ p. Member p 1 → ⊥) n l o) a e (subst (λ (p : ℕ). Member m.calls (p, a, e)) (place_same n l) i)));
    backs = λ x c i j. all_numbers (λ x. (c : ℕ) → c < length new → Due x c)
        (λ x l. all_numbers (λ c. Due (h x) c) (λ c o. due x c l o)) x i c j;
    callers = each_moved h s.calls (λ n a k. n < length new) (λ n a k i. there n (al.calls n a k i).from);
  }
    where
      Due : ℕ → ℕ → Type 0
      Due x c = IsOpen (node_at new x) → IsOpen (node_at new c) → (a : Letter) → Member (image h s).calls (c, a, entry_of new x) →
          (t : Letter) (e : ℕ) → Member m.backs (node_place_in new x, node_place_in new c, t, e) → t.call ≡ a.id → HasBack (image h s).backs new x c t e

      due : (x c : ℕ) → x < length nodes → c < length nodes → Due (h x) (h c)
      due x c l o p q a i t e w id =
          back_there s.backs x c t e (λ k z. (al.backs x c t k z).to)
          (f.backs x c l o (to_old (λ v. Member v 1 → ⊥) x l p) (to_old (λ v. Member v 1 → ⊥) c o q) a
          (call_back s.calls c (entry_of nodes x) a o (en x l) (λ d b k z. ((al.calls d b k z).from, (al.calls d b k z).to))
          (subst (λ (k : ℕ). Member (image h s).calls (h c, a, k)) (entry_moved x l) i)) t e
          (subst (λ (k : ℕ). Member m.backs (k, node_place_in nodes c, t, e)) (place_same x l) (subst (λ (k : ℕ). Member m.backs (node_place_in new (h x), k, t, e)) (place_same c o) w)) id)

-- ---- entry nodes are there

-- each edge of these leads to a number below the count
pub record IsBelow (t : Automaton) (n : ℕ) : Type 0 where
  pub insides : (q : ℕ) (a : Letter) (e : ℕ) → Member t.insides (q, a, e) → e < n
  pub calls : (q : ℕ) (a : Letter) (e : ℕ) → Member t.calls (q, a, e) → e < n
  pub backs : (q c : ℕ) (a : Letter) (e : ℕ) → Member t.backs (q, c, a, e) → e < n

follows_below : (t : Automaton) (n : ℕ) (k : Kind) (a : Letter) (before : List ℕ) (q e : ℕ) (R : List ℕ → Type 0) → IsBelow t n → Follows t k a before q e R → (e < n) × ((stack : List ℕ) × R stack)
follows_below t n kinds.Inside a before q e R b f = (b.insides q a e f.0, (before, f.1))
follows_below t n kinds.Call a before q e R b f = (b.calls q a e f.0, (q ∷ before, f.1))
follows_below t n kinds.Back a [] q e R b f = absurd f
follows_below t n kinds.Back a (c ∷ before) q e R b f = (b.backs q c a e f.0, (before, f.1))

ends_below : (t : Automaton) (n : ℕ) (w : List Letter) (before after : List ℕ) (q e : ℕ) → IsBelow t n → q < n → Moves t before q w after e → e < n
ends_below t n [] before after q e b l v = subst (λ (k : ℕ). k < n) v.1 l
ends_below t n (a ∷ w) before after q e b l v =
    let f = follows_below t n a.kind a before q v.0 (λ stack. Moves t stack v.0 w after e) b v.1 in
    ends_below t n w f.1.0 after v.0 e b f.0 f.1.1

pub entry_below : (m b : Automaton) (nodes : List OutlineNode) (s : Automaton) → IsExploring m b nodes s → (n : ℕ) → n < length nodes → entry_of nodes n < length nodes
entry_below m b nodes s x n l =
    let t : Automaton = x.tree in
    let below : IsBelow t (length nodes) = record {
      insides = λ q a e i. (x.along.insides q a e (x.part.insides q a e i)).to;
      calls = λ q a e i. (x.along.calls q a e (x.part.calls q a e i)).to;
      backs = λ q c a e i. (x.along.backs q c a e (x.part.backs q c a e i)).to;
    } in
    let k = x.reached n l in
    ends_below t (length nodes) k.prefix [] k.callers 0 (entry_of nodes n) below (first_at nodes bare x.first).0 k.enters

-- ---- automata with the same states and edges

module _ (m b : Automaton) (nodes : List OutlineNode) (s : Automaton) (start : ℕ) (finals : List ℕ) where
  exploring_as : IsExploring m b nodes s → IsExploring m b nodes (record s { start = start; finals = finals })
  exploring_as x = record {
    first = x.first;
    states = x.states;
    along = record {
      insides = x.along.insides;
      calls = x.along.calls;
      backs = λ y c a k i. let d = x.along.backs y c a k i in
          record { exit = d.exit; before = d.before; to = d.to; edge = d.edge; entry = d.entry; letter = d.letter; joined = d.joined; names = d.names };
    };
    shown = record { insides = x.shown.insides; calls = x.shown.calls; backs = x.shown.backs };
    ascend = x.ascend;
    tree = x.tree;
    part = record { insides = x.part.insides; calls = x.part.calls; backs = x.part.backs };
    all_calls = x.all_calls;
    reached = x.reached;
    spread = x.spread;
  }

  opened_as : (r : ℕ) → AreOpened m nodes s r → AreOpened m nodes (record s { start = start; finals = finals }) r
  opened_as r x = record { insides = x.insides; calls = x.calls; backs = x.backs; callers = x.callers }

moved_is : (h : ℕ → ℕ) (s t : Automaton) → IsMoved h s t → record (image h s) { start = t.start; finals = t.finals } ≡ t
moved_is h s t e = λ j. record {
  states = sym e.states j;
  start = t.start;
  finals = t.finals;
  insides = sym e.insides j;
  calls = sym e.calls j;
  backs = sym e.backs j;
}

pub exploring_renumbered : (m b : Automaton) (nodes new : List OutlineNode) (h : ℕ → ℕ) (s t : Automaton) → IsRenumbering nodes new h → IsMoved h s t → IsExploring m b nodes s → IsExploring m b new t
exploring_renumbered m b nodes new h s t r e x =
    subst (λ (z : Automaton). IsExploring m b new z) (moved_is h s t e) (exploring_as m b new (image h s) t.start t.finals (exploring_moved nodes new h r m b s x))

pub opened_renumbered : (m b : Automaton) (nodes new : List OutlineNode) (h : ℕ → ℕ) (s t : Automaton) → IsRenumbering nodes new h → IsMoved h s t → IsExploring m b nodes s →
    AreOpened m nodes s (length nodes) → AreOpened m new t (length new)
opened_renumbered m b nodes new h s t r e x o =
    subst (λ (z : Automaton). AreOpened m new z (length new)) (moved_is h s t e)
    (opened_as m b new (image h s) t.start t.finals (length new) (opened_moved nodes new h r m s x.along (entry_below m b nodes s x) o))
