-- Sets that are collected from lists.
use Rattle.std.proofs.Common.{◌≡◌, ◌∙◌, ◌↔◌, ◌<◌, ◌≤◌, ◌+◌, ◌&&◌, ℕ, Bool, true, cond, List, [], ◌∷◌, ◌++◌, Option, None, Some, length, take, get_or, refl, sym, ap, subst, inl, inr, eqb}
use Rattle.std.proofs.lemmas.Bool.{eqb-true}
use Rattle.std.proofs.lemmas.List.{take_more, take_all}
use Rattle.std.specs.List.{list_any}
use Rattle.nwa_base.specs.declared.letters.Letter.{Letter}
use Rattle.nwa_base.specs.Members.{Member}
use Rattle.nwa_base.proofs.LetterLemmas.{and_left, and_right, same_letter-true, sameb-same_kind}
use Rattle.nwa_base.proofs.EdgeLemmas.{letter_test}
use Rattle.nwa_base.proofs.MemberLemmas.{any_member, member_front, member_rest, member_split}
use Rattle.nwa_reduce.specs.Images.{Among, IsNamedEdge, IsNamedBack}
use Rattle.nwa_reduce.proofs.ListLemmas.{only_member, same_some, insert_old, insert_new, insert_either}

-- the set has what is related to the members of the list
abbrev pub IsCollected : {X Y : Type 0} → (X → Y → Type 0) → List X → List Y → Type 0
IsCollected {X} {Y} R xs keys = (y : Y) → Member keys y ↔ Among R xs y

pub collected_none : {X Y : Type 0} (R : X → Y → Type 0) (keys : List Y) → keys ≡ [] → IsCollected R [] keys
collected_none {X} {Y} R keys e y = (λ h. absurd (subst (λ (l : List Y). Member l y) e h), λ h. absurd h.1)

among_front : {X Y : Type 0} (R : X → Y → Type 0) (xs : List X) (x : X) (y : Y) → Among R xs y → Among R (xs ++ x ∷ []) y
among_front R xs x y h = (h.0, member_front xs (x ∷ []) h.0 h.1, h.2)

collected_on : {X Y : Type 0} (R : X → Y → Type 0) (xs : List X) (x : X) (keys : List Y) → IsCollected R xs keys → ((y : Y) → R x y → ⊥) →
    IsCollected R (xs ++ x ∷ []) keys
collected_on {X} {Y} R xs x keys h n y = (
  λ m. among_front R xs x y ((h y).0 m),
  λ a.
      elim (member_split xs (x ∷ []) a.0 a.1) [
        | inl m ↦ (h y).1 (a.0, m, a.2)
        | inr m ↦ absurd (n y (subst (λ (z : X). R z y) (sym (only_member x a.0 m)) a.2))
      ],
)

put_on : {X Y : Type 0} (R : X → Y → Type 0) (b : Bool) (xs : List X) (x : X) (keys new : List Y) (z : Y) → IsCollected R xs keys → R x z →
    ((y : Y) → R x y → z ≡ y) → (b ≡ true → Member keys z) → new ≡ cond b keys (keys ++ z ∷ []) → IsCollected R (xs ++ x ∷ []) new
put_on {X} {Y} R b xs x keys new z h r u t e y = (
  λ m.
      elim (insert_either b keys new z y e m) [
        | inl o ↦ among_front R xs x y ((h y).0 o)
        | inr i ↦ (x, member_rest xs (x ∷ []) x (inl refl), subst (R x) i r)
      ],
  λ a.
      elim (member_split xs (x ∷ []) a.0 a.1) [
        | inl m ↦ insert_old b keys new z y e ((h y).1 (a.0, m, a.2))
        | inr m ↦ insert_new b keys new z y t e (u y (subst (λ (w : X). R w y) (sym (only_member x a.0 m)) a.2))
      ],
)

pub collected_skips : {X Y : Type 0} (R : X → Y → Type 0) (xs : List X) (i : ℕ) (d : X) (keys : List Y) → i < length xs →
    ((y : Y) → R (get_or xs i d) y → ⊥) → IsCollected R (take i xs) keys → IsCollected R (take (i + 1) xs) keys
collected_skips {X} R xs i d keys l n h =
    subst (λ (f : List X). IsCollected R f keys) (sym (take_more xs i d l)) (collected_on R (take i xs) (get_or xs i d) keys h n)

pub collected_puts : {X Y : Type 0} (R : X → Y → Type 0) (b : Bool) (xs : List X) (i : ℕ) (d : X) (keys new : List Y) (z : Y) → i < length xs →
    R (get_or xs i d) z → ((x : X) (v w : Y) → R x v → R x w → v ≡ w) → (b ≡ true → Member keys z) → new ≡ cond b keys (keys ++ z ∷ []) →
    IsCollected R (take i xs) keys → IsCollected R (take (i + 1) xs) new
collected_puts {X} R b xs i d keys new z l r u t e h =
    subst (λ (f : List X). IsCollected R f new) (sym (take_more xs i d l)) (put_on R b (take i xs) (get_or xs i d) keys new z h r (λ y k. u (get_or xs i d) z y r k) t e)

pub collected_all : {X Y : Type 0} (R : X → Y → Type 0) (xs : List X) (i : ℕ) (keys : List Y) → length xs ≤ i → IsCollected R (take i xs) keys → IsCollected R xs keys
collected_all {X} R xs i keys l h = subst (λ (f : List X). IsCollected R f keys) (take_all i xs l) h

pub letters_same : (a b : Letter) → letter_test a b ≡ true → a ≡ b
letters_same a b h = same_letter-true a b (ap (λ k. eqb a.id b.id && (k && eqb a.call b.call)) (sym (sameb-same_kind a.kind b.kind)) ∙ h)

-- an edge that the test of edges finds
pub edge_there : (keys : List (ℕ × Letter × ℕ)) (x : ℕ × Letter × ℕ) →
    list_any (λ y. (eqb x.0 y.0 && letter_test x.1 y.1) && eqb x.2 y.2) keys ≡ true → Member keys x
edge_there keys x h =
    any_member (λ (y z : ℕ × Letter × ℕ). (eqb z.0 y.0 && letter_test z.1 y.1) && eqb z.2 y.2) keys x
    (λ y e.
    let l = and_left _ _ e in
    let i : x.0 ≡ y.0 = eqb-true _ _ (and_left _ _ l) in
    let j : x.1 ≡ y.1 = letters_same _ _ (and_right _ _ l) in
    let k : x.2 ≡ y.2 = eqb-true _ _ (and_right _ _ e) in
    sym (λ n. (i n, j n, k n))) h

pub back_there : (keys : List (ℕ × ℕ × Letter × ℕ)) (x : ℕ × ℕ × Letter × ℕ) →
    list_any (λ y. ((eqb x.0 y.0 && eqb x.1 y.1) && letter_test x.2 y.2) && eqb x.3 y.3) keys ≡ true → Member keys x
back_there keys x h =
    any_member (λ (y z : ℕ × ℕ × Letter × ℕ). ((eqb z.0 y.0 && eqb z.1 y.1) && letter_test z.2 y.2) && eqb z.3 y.3) keys x
    (λ y e.
    let l = and_left _ _ e in
    let p = and_left _ _ l in
    let i : x.0 ≡ y.0 = eqb-true _ _ (and_left _ _ p) in
    let o : x.1 ≡ y.1 = eqb-true _ _ (and_right _ _ p) in
    let j : x.2 ≡ y.2 = letters_same _ _ (and_right _ _ l) in
    let k : x.3 ≡ y.3 = eqb-true _ _ (and_right _ _ e) in
    sym (λ n. (i n, o n, j n, k n))) h

pub one_edge : (name : ℕ → Option ℕ) (e x y : ℕ × Letter × ℕ) → IsNamedEdge name e x → IsNamedEdge name e y → x ≡ y
one_edge name e x y g h =
    let i : x.0 ≡ y.0 = same_some _ _ (sym g.0 ∙ h.0) in
    let j : x.1 ≡ y.1 = sym g.1 ∙ h.1 in
    let k : x.2 ≡ y.2 = same_some _ _ (sym g.2 ∙ h.2) in
    λ n. (i n, j n, k n)

pub one_back : (name : ℕ → Option ℕ) (e x y : ℕ × ℕ × Letter × ℕ) → IsNamedBack name e x → IsNamedBack name e y → x ≡ y
one_back name e x y g h =
    let i : x.0 ≡ y.0 = same_some _ _ (sym g.0 ∙ h.0) in
    let o : x.1 ≡ y.1 = same_some _ _ (sym g.1 ∙ h.1) in
    let j : x.2 ≡ y.2 = sym g.2 ∙ h.2 in
    let k : x.3 ≡ y.3 = same_some _ _ (sym g.3 ∙ h.3) in
    λ n. (i n, o n, j n, k n)

pub one_name : (name : ℕ → Option ℕ) (q x y : ℕ) → name q ≡ Some x → name q ≡ Some y → x ≡ y
one_name name q x y g h = same_some x y (sym g ∙ h)

pub not_named : (name : ℕ → Option ℕ) (q : ℕ) → name q ≡ None → (y : ℕ) → name q ≡ Some y → ⊥
not_named name q e y f = let g : None ≡ Some y = sym e ∙ f in cc
