-- Words that lead to nodes: they lead through places of the graph, and an automaton that accepts one has its predicates claimed all along.
use Rattle.std.proofs.Common.{◌≡◌, ◌∙◌, ℕ, zero, suc, ◌<◌, List, [], ◌∷◌, ◌++◌, length, Some, refl, sym, subst, inl, inr, arith}
use Rattle.std.specs.Prelude.{map, slice_get}
use Rattle.std.specs.List.{AllByRecursion}
use Rattle.nwa_base.specs.declared.letters.Kind.{Kind}
use Rattle.nwa_base.specs.declared.letters.Kind.TheVariants as kinds
use Rattle.nwa_base.specs.declared.letters.Letter.{Letter}
use Rattle.nwa_base.specs.Members.{Member}
use Rattle.nwa_base.specs.Automata.{Automaton}
use Rattle.nwa_base.specs.Acceptance.{Follows, AcceptsFrom, Accepts, Moves}
use Rattle.nwa_base.proofs.WayLemmas.{moves_join, moves_below}
use Rattle.proof_names.specs.Outlines.{OutlineNode}
use Rattle.proof_names.specs.ProofSpell.Correspond.{Correspond}
use Rattle.proof_check.specs.Steps.{IsOf, IsOpen}
use Rattle.proof_build.specs.ProofUnwind.Unwindings.{node_at, node_place_in, IsAlong, IsReached, IsPart, Claims, Spreads}
use Rattle.proof_build.specs.Unwound.{AreCovering}

-- ---- nodes by number

pub node_is : (nodes : List OutlineNode) (n : ℕ) (x : OutlineNode) → slice_get nodes n ≡ Some x → node_at nodes n ≡ x
node_is [] n x e = absurd (cc)
node_is (y ∷ nodes) zero x e = cc
node_is (y ∷ nodes) (suc n) x e = node_is nodes n x e

pub node_there : (nodes : List OutlineNode) (n : ℕ) → n < length nodes → slice_get nodes n ≡ Some (node_at nodes n)
node_there [] n l = absurd (omega arith)
node_there (y ∷ nodes) zero l = refl
node_there (y ∷ nodes) (suc n) l = node_there nodes n (omega arith)

-- ---- what steps keep

-- what each step keeps holds at the end of a word, and of the nodes before the calls that are then open
pub record IsKept (t : Automaton) (P : ℕ → Type 0) : Type 0 where
  pub insides : (n : ℕ) (a : Letter) (k : ℕ) → Member t.insides (n, a, k) → P n → P k
  pub calls : (n : ℕ) (a : Letter) (k : ℕ) → Member t.calls (n, a, k) → P n → P k
  pub backs : (x c : ℕ) (r : Letter) (k : ℕ) → Member t.backs (x, c, r, k) → P x → P c → P k

kept_step : (t : Automaton) (P : ℕ → Type 0) (k : Kind) (a : Letter) (before : List ℕ) (n r : ℕ) (R : List ℕ → Type 0) → IsKept t P → AllByRecursion P before → P n →
    Follows t k a before n r R → (stack : List ℕ) × AllByRecursion P stack × P r × R stack
kept_step t P kinds.Inside a before n r R h b p f = (before, b, h.insides n a r f.0 p, f.1)
kept_step t P kinds.Call a before n r R h b p f = (n ∷ before, (p, b), h.calls n a r f.0 p, f.1)
kept_step t P kinds.Back a [] n r R h b p f = absurd f
kept_step t P kinds.Back a (c ∷ before) n r R h b p f = (before, b.1, h.backs n c a r f.0 p b.0, f.1)

pub kept_along : (t : Automaton) (P : ℕ → Type 0) (w : List Letter) (before after : List ℕ) (n e : ℕ) → IsKept t P → AllByRecursion P before → P n → Moves t before n w after e →
    P e × AllByRecursion P after
kept_along t P [] before after n e h b p m = (subst P m.1 p, subst (λ (l : List ℕ). AllByRecursion P l) m.0 b)
kept_along t P (a ∷ w) before after n e h b p m =
    let s = kept_step t P a.kind a before n m.0 (λ stack. Moves t stack m.0 w after e) h b p m.1 in
    kept_along t P w s.0 after m.0 e h s.1 s.2 s.3

pub kept_everywhere : (t : Automaton) (P : ℕ → Type 0) (entry n : ℕ) → IsKept t P → P 0 → IsReached t entry n → P n
kept_everywhere t P entry n h p r =
    let e = kept_along t P r.prefix [] r.callers 0 entry h tt p r.enters in
    (kept_along t P r.matched [] [] entry n h tt e.0 r.within).0

-- ---- one word for a node

pub whole_way : (t : Automaton) (entry n : ℕ) → IsReached t entry n → (w : List Letter) × (after : List ℕ) × Moves t [] 0 w after n
whole_way t entry n r =
    (r.prefix ++ r.matched, r.callers, moves_join t r.prefix r.matched [] r.callers r.callers 0 entry n r.enters (moves_below t r.matched [] [] r.callers entry n r.within))

-- ---- places

abbrev places : List OutlineNode → List ℕ → List ℕ
places nodes stack = map (node_place_in nodes) stack

place_step : (m t : Automaton) (nodes : List OutlineNode) (s : Automaton) (k : Kind) (a : Letter) (before : List ℕ) (n r : ℕ) (R S : List ℕ → Type 0) → IsAlong m nodes s → IsPart t s →
    ((stack : List ℕ) → R stack → S (places nodes stack)) → Follows t k a before n r R → Follows m k a (places nodes before) (node_place_in nodes n) (node_place_in nodes r) S
place_step m t nodes s kinds.Inside a before n r R S al p g f = ((al.insides n a r (p.insides n a r f.0)).edge, g before f.1)
place_step m t nodes s kinds.Call a before n r R S al p g f = ((al.calls n a r (p.calls n a r f.0)).edge, g (n ∷ before) f.1)
place_step m t nodes s kinds.Back a [] n r R S al p g f = absurd f
place_step m t nodes s kinds.Back a (c ∷ before) n r R S al p g f = ((al.backs n c a r (p.backs n c a r f.0)).edge, g before f.1)

-- a word to a node at a final place is accepted
pub places_accept : (m t : Automaton) (nodes : List OutlineNode) (s : Automaton) (w : List Letter) (before after : List ℕ) (n e : ℕ) → IsAlong m nodes s → IsPart t s →
    Moves t before n w after e → Member m.finals (node_place_in nodes e) → AcceptsFrom m (places nodes before) (node_place_in nodes n) w
places_accept m t nodes s [] before after n e al p v f = subst (λ (q : ℕ). Member m.finals (node_place_in nodes q)) (sym v.1) f
places_accept m t nodes s (a ∷ w) before after n e al p v f = (
  node_place_in nodes v.0,
  place_step m t nodes s a.kind a before n v.0 (λ stack. Moves t stack v.0 w after e) (λ stack. AcceptsFrom m stack (node_place_in nodes v.0) w) al p
      (λ stack h. places_accept m t nodes s w stack after v.0 e al p h f) v.1,
)

-- ---- claims

abbrev Have : List OutlineNode → (ℕ → ℕ) → List ℕ → List ℕ → Type 0
Have nodes number stack states = Correspond (λ (n : ℕ) (q : ℕ). Claims (node_at nodes n) (number q)) stack states

open_has : (x : OutlineNode) (k : ℕ) → IsOpen x → Claims x k → IsOf k x
open_has x k o (inl f) = absurd (o f)
open_has x k o (inr h) = h

claim_step : (b t : Automaton) (nodes : List OutlineNode) (number : ℕ → ℕ) (k : Kind) (a : Letter) (before states : List ℕ) (n r q e : ℕ) (R S : List ℕ → Type 0) → Spreads b t nodes number →
    Have nodes number before states → Claims (node_at nodes n) (number q) → Follows t k a before n r R → Follows b k a states q e S →
    (stack : List ℕ) × (others : List ℕ) × Have nodes number stack others × Claims (node_at nodes r) (number e) × R stack × S others
claim_step b t nodes number kinds.Inside a before states n r q e R S h c p f g =
    let s = h.insides n a r f.0 in
    (before, states, c, s.1 q e g.0 (open_has (node_at nodes n) (number q) s.0 p), f.1, g.1)
claim_step b t nodes number kinds.Call a before states n r q e R S h c p f g =
    let s = h.calls n a r f.0 in
    (n ∷ before, q ∷ states, (p, c), s.1 q e g.0 (open_has (node_at nodes n) (number q) s.0 p), f.1, g.1)
claim_step b t nodes number kinds.Back a [] states n r q e R S h c p f g = absurd f
claim_step b t nodes number kinds.Back a (d ∷ before) [] n r q e R S h c p f g = absurd g
claim_step b t nodes number kinds.Back a (d ∷ before) (o ∷ states) n r q e R S h c p f g =
    let s = h.backs n d a r f.0 in
    (before, states, c.1, s.2 q o e g.0 (open_has (node_at nodes n) (number q) s.0 p) (open_has (node_at nodes d) (number o) s.1 c.0), f.1, g.1)

false_claimed : (x : OutlineNode) (k : ℕ) → k ≡ 1 → Claims x k → Member x.preds 1
false_claimed x k e (inl f) = f
false_claimed x k e (inr (inl z)) = absurd (omega (arith, e, z))
false_claimed x k e (inr (inr h)) = subst (λ (j : ℕ). Member x.preds j) e h

-- where the automaton accepts the word, its end has false
claimed_along : (b t : Automaton) (nodes : List OutlineNode) (number : ℕ → ℕ) (w : List Letter) (before after states : List ℕ) (n e q : ℕ) → Spreads b t nodes number →
    Have nodes number before states → Claims (node_at nodes n) (number q) → Moves t before n w after e → AcceptsFrom b states q w → Member (node_at nodes e).preds 1
claimed_along b t nodes number [] before after states n e q h c p m a =
    false_claimed (node_at nodes e) (number q) (h.finals q a) (subst (λ (k : ℕ). Claims (node_at nodes k) (number q)) m.1 p)
claimed_along b t nodes number (l ∷ w) before after states n e q h c p m a =
    let s = claim_step b t nodes number l.kind l before states n m.0 q a.0 (λ stack. Moves t stack m.0 w after e) (λ stack. AcceptsFrom b stack a.0 w) h c p m.1 a.1 in
    claimed_along b t nodes number w s.0 after s.1 m.0 e a.0 h s.2 s.3 s.4 s.5

-- each node at a final place has false
pub error_has_false : (m t : Automaton) (nodes : List OutlineNode) (s : Automaton) (bs : List Automaton) (n entry : ℕ) → m.start ≡ 0 → node_place_in nodes 0 ≡ 0 → IsAlong m nodes s → IsPart t s →
    ((b : Automaton) → Member bs b → (number : ℕ → ℕ) × Spreads b t nodes number) → AreCovering m bs → IsReached t entry n → Member m.finals (node_place_in nodes n) →
    Member (node_at nodes n).preds 1
error_has_false m t nodes s bs n entry st z al p sp co r f =
    let w = whole_way t entry n r in
    let a : AcceptsFrom m [] (node_place_in nodes 0) w.0 = places_accept m t nodes s w.0 [] w.1 0 n al p w.2 f in
    let ac : Accepts m w.0 = subst (λ (q : ℕ). AcceptsFrom m [] q w.0) (z ∙ sym st) a in
    let b = co w.0 ac in
    let h = sp b.0 b.1 in
    claimed_along b.0 t nodes h.0 w.0 [] w.1 [] 0 n b.0.start h.1 tt (inr (inl h.1.start)) w.2 b.2
