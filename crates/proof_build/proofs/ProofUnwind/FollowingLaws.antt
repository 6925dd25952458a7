-- What follows over a letter is where the edges lead from true and from the predicates of a node.
use Rattle.std.proofs.Common.{◌≡◌, ℕ, suc, ◌+◌, ◌<◌, ◌≤◌, Bool, true, ◌&&◌, List, [], ◌∷◌, Result, Ok, Err, IfOk, refl, sym, subst, inl, inr, arith}
use Rattle.std.specs.Prelude.{filter, nat_eq}
use Rattle.std.specs.List.{flat_map}
use Rattle.std.proofs.lemmas.Bool.{eqb-true, eq-eqb}
use Rattle.std.specs.List.{AllPairs}
use Rattle.std.specs.List.Sorted.{IsStrictlyIncreasing}
use Rattle.std.proofs.lemmas.List.Kept.{AllPairs-from_increasing}
use Rattle.nwa_base.proofs.PairLemmas.{member_contains}
use Rattle.nwa_base.specs.declared.letters.Letter.{Letter}
use Rattle.nwa_base.specs.Letters.{same_letter}
use Rattle.nwa_base.specs.Members.{Member}
use Rattle.nwa_base.specs.Automata.{Automaton}
use Rattle.nwa_base.specs.Edges.{ends, back_ends}
use Rattle.nwa_base.proofs.LetterLemmas.{same_letter-true, same_letter-refl, and_left, and_right}
use Rattle.nwa_base.proofs.MemberLemmas.{member_split, member_front, member_rest, member_map, member_from_map, member_filter, filter_member}
use Rattle.proof_names.specs.Outlines.{OutlineNode}
use Rattle.proof_names.specs.ProofSpell.Drafts.{AscendFrom}
use Rattle.proof_check.specs.Steps.{IsOf}
use Rattle.proof_build.specs.ProofUnwind.Exploring.{BackFollows, AreFollowing, IsChosen}

both_hold : (a b : Bool) → (a && b) ≡ true → (a ≡ true) × (b ≡ true)
both_hold a b h = (and_left a b h, and_right a b h)

-- ---- ends of edges

end_there : (q r : ℕ) (a : Letter) (edges : List (ℕ × Letter × ℕ)) → Member (ends q a edges) r → Member edges (q, a, r)
end_there q r a edges h =
    let m = member_from_map (λ (e : ℕ × Letter × ℕ). e.2) (filter (λ e. nat_eq e.0 q && same_letter e.1 a) edges) r h in
    let f = filter_member (λ (e : ℕ × Letter × ℕ). nat_eq e.0 q && same_letter e.1 a) edges m.0 m.1 in
    let b = both_hold (nat_eq m.0.0 q) (same_letter m.0.1 a) f.1 in
    let i : m.0.0 ≡ q = eqb-true m.0.0 q b.0 in
    let j : m.0.1 ≡ a = same_letter-true m.0.1 a b.1 in
    let k : m.0.2 ≡ r = m.2 in
    let e : m.0 ≡ (q, a, r) = λ t. (i t, j t, k t) in
    subst (λ (x : ℕ × Letter × ℕ). Member edges x) e f.0

there_end : (q r : ℕ) (a : Letter) (edges : List (ℕ × Letter × ℕ)) → Member edges (q, a, r) → Member (ends q a edges) r
there_end q r a edges h =
    member_map (λ (e : ℕ × Letter × ℕ). e.2) (filter (λ e. nat_eq e.0 q && same_letter e.1 a) edges) (q, a, r)
    (member_filter (λ (e : ℕ × Letter × ℕ). nat_eq e.0 q && same_letter e.1 a) edges (q, a, r) h (rw (eq-eqb q q refl, same_letter-refl a) refl))

back_there : (q p r : ℕ) (a : Letter) (edges : List (ℕ × ℕ × Letter × ℕ)) → Member (back_ends q p a edges) r → Member edges (q, p, a, r)
back_there q p r a edges h =
    let m = member_from_map (λ (e : ℕ × ℕ × Letter × ℕ). e.3) (filter (λ e. (nat_eq e.0 q && nat_eq e.1 p) && same_letter e.2 a) edges) r h in
    let f = filter_member (λ (e : ℕ × ℕ × Letter × ℕ). (nat_eq e.0 q && nat_eq e.1 p) && same_letter e.2 a) edges m.0 m.1 in
    let b = both_hold (nat_eq m.0.0 q && nat_eq m.0.1 p) (same_letter m.0.2 a) f.1 in
    let c = both_hold (nat_eq m.0.0 q) (nat_eq m.0.1 p) b.0 in
    let i : m.0.0 ≡ q = eqb-true m.0.0 q c.0 in
    let o : m.0.1 ≡ p = eqb-true m.0.1 p c.1 in
    let j : m.0.2 ≡ a = same_letter-true m.0.2 a b.1 in
    let k : m.0.3 ≡ r = m.2 in
    let e : m.0 ≡ (q, p, a, r) = λ t. (i t, o t, j t, k t) in
    subst (λ (x : ℕ × ℕ × Letter × ℕ). Member edges x) e f.0

there_back : (q p r : ℕ) (a : Letter) (edges : List (ℕ × ℕ × Letter × ℕ)) → Member edges (q, p, a, r) → Member (back_ends q p a edges) r
there_back q p r a edges h =
    member_map (λ (e : ℕ × ℕ × Letter × ℕ). e.3) (filter (λ e. (nat_eq e.0 q && nat_eq e.1 p) && same_letter e.2 a) edges) (q, p, a, r)
    (member_filter (λ (e : ℕ × ℕ × Letter × ℕ). (nat_eq e.0 q && nat_eq e.1 p) && same_letter e.2 a) edges (q, p, a, r) h (rw (eq-eqb q q refl, eq-eqb p p refl, same_letter-refl a) refl))

-- ---- all ends together

from_flat : (f : ℕ → List ℕ) (xs : List ℕ) (r : ℕ) → Member (flat_map f xs) r → (x : ℕ) × Member xs x × Member (f x) r
from_flat f [] r h = absurd h
from_flat f (x ∷ xs) r h = elim (member_split (f x) (flat_map f xs) r h) [
  | inl m ↦ (x, inl refl, m)
  | inr m ↦ let k = from_flat f xs r m in (k.0, inr k.1, k.2)
]

to_flat : (f : ℕ → List ℕ) (xs : List ℕ) (x r : ℕ) → Member xs x → Member (f x) r → Member (flat_map f xs) r
to_flat f [] x r h m = absurd h
to_flat f (y ∷ xs) x r (inl e) m = member_front (f y) (flat_map f xs) r (subst (λ (z : ℕ). Member (f z) r) (sym e) m)
to_flat f (y ∷ xs) x r (inr h) m = member_rest (f y) (flat_map f xs) r (to_flat f xs x r h m)

source_of : (x : OutlineNode) (preds : List ℕ) (q : ℕ) → x.preds ≡ preds → Member (0 ∷ preds) q → IsOf q x
source_of x preds q e (inl z) = inl (sym z)
source_of x preds q e (inr m) = inr (subst (λ (l : List ℕ). Member l q) (sym e) m)

of_source : (x : OutlineNode) (preds : List ℕ) (q : ℕ) → x.preds ≡ preds → IsOf q x → Member (0 ∷ preds) q
of_source x preds q e (inl z) = inl (sym z)
of_source x preds q e (inr m) = inr (subst (λ (l : List ℕ). Member l q) e m)

-- what is chosen of all ends follows
chosen_follow : (Follows : ℕ → Type 0) (numbers preds : List ℕ) → ((r : ℕ) → Member numbers r → Follows r) → ((r : ℕ) → Follows r → Member numbers r) → IsChosen numbers preds → AreFollowing Follows preds
chosen_follow Follows numbers preds f g c = record { ascend = c.ascend; sound = λ r m. f r (c.sound r m); complete = λ r m. c.complete r (g r m) }

pub edge_chosen : {V E : Type 0} (items : V → List ℕ) (edges : List (ℕ × Letter × ℕ)) (a : Letter) (preds sources targets : List ℕ) (r : Result V E) → sources ≡ 0 ∷ preds →
    targets ≡ flat_map (λ q. ends q a edges) sources → IfOk r (λ v. IsChosen targets (items v)) →
    IfOk r (λ v. (x : OutlineNode) → x.preds ≡ preds → AreFollowing (λ t. (q : ℕ) × Member edges (q, a, t) × IsOf q x) (items v))
edge_chosen items edges a preds sources targets (Err e) s t c = c
edge_chosen items edges a preds sources targets (Ok v) s t c = λ x e. chosen_follow (λ t. (q : ℕ) × Member edges (q, a, t) × IsOf q x) targets (items v)
    (λ r m. let k = from_flat (λ q. ends q a edges) sources r (subst (λ (l : List ℕ). Member l r) t m) in
    (k.0, end_there k.0 r a edges k.2, source_of x preds k.0 e (subst (λ (l : List ℕ). Member l k.0) s k.1)))
    (λ r f. subst (λ (l : List ℕ). Member l r) (sym t) (to_flat (λ q. ends q a edges) sources f.0 r (subst (λ (l : List ℕ). Member l f.0) (sym s) (of_source x preds f.0 e f.2))
    (there_end f.0 r a edges f.1))) c

pub back_chosen : {V E : Type 0} (items : V → List ℕ) (b : Automaton) (a : Letter) (exit before exits callers targets : List ℕ) (r : Result V E) → exits ≡ 0 ∷ exit → callers ≡ 0 ∷ before →
    targets ≡ flat_map (λ q. flat_map (λ p. back_ends q p a b.backs) callers) exits → IfOk r (λ v. IsChosen targets (items v)) →
    IfOk r (λ v. (x c : OutlineNode) → x.preds ≡ exit → c.preds ≡ before → AreFollowing (BackFollows b a x c) (items v))
back_chosen items b a exit before exits callers targets (Err e) s u t c = c
back_chosen items b a exit before exits callers targets (Ok v) s u t c = λ x d e f. chosen_follow (BackFollows b a x d) targets (items v)
    (λ r m. let k = from_flat (λ q. flat_map (λ p. back_ends q p a b.backs) callers) exits r (subst (λ (l : List ℕ). Member l r) t m) in
    let j = from_flat (λ p. back_ends k.0 p a b.backs) callers r k.2 in
    (k.0, j.0, back_there k.0 j.0 r a b.backs j.2, source_of x exit k.0 e (subst (λ (l : List ℕ). Member l k.0) s k.1), source_of d before j.0 f (subst (λ (l : List ℕ). Member l j.0) u j.1)))
    (λ r g. subst (λ (l : List ℕ). Member l r) (sym t)
    (to_flat (λ q. flat_map (λ p. back_ends q p a b.backs) callers) exits g.0 r (subst (λ (l : List ℕ). Member l g.0) (sym s) (of_source x exit g.0 e g.3))
    (to_flat (λ p. back_ends g.0 p a b.backs) callers g.1 r (subst (λ (l : List ℕ). Member l g.1) (sym u) (of_source d before g.1 f g.4)) (there_back g.0 g.1 r a b.backs g.2)))) c

-- ---- numbers in order

ascend_pairs : (low : ℕ) (xs : List ℕ) → AllPairs (λ x y. x < y) xs → ((k : ℕ) → Member xs k → low ≤ k) → AscendFrom low xs
ascend_pairs low [] h b = tt
ascend_pairs low (x ∷ xs) h b = (
  b x (inl refl),
  ascend_pairs (x + 1) xs (λ i j d l g. h (suc i) (suc j) d (omega arith) (omega arith))
      (λ k m. let c = member_contains xs k m in let l : x < k = subst (λ (z : ℕ). x < z) c.2 (h 0 (suc c.0) k (omega arith) (omega (arith, c.1))) in omega (arith, l)),
)

pub increasing_ascend : (xs : List ℕ) → IsStrictlyIncreasing xs → AscendFrom 0 xs
increasing_ascend xs h = ascend_pairs 0 xs (AllPairs-from_increasing xs h) (λ k m. omega arith)

-- where false is among the numbers
pub false_chosen : (numbers preds : List ℕ) → Member numbers 1 → preds ≡ 1 ∷ [] → IsChosen numbers preds
false_chosen numbers preds m e = subst (λ (l : List ℕ). IsChosen numbers l) (sym e) (record {
  ascend = (omega arith, tt);
  sound = λ r i. one r i;
  complete = λ r i. inl (inl refl);
})
  where
    one : (r : ℕ) → Member (1 ∷ []) r → Member numbers r
    one r (inl f) = subst (λ (k : ℕ). Member numbers k) f m
    one r (inr n) = absurd n
