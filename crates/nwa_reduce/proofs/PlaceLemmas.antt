-- Places that are written.
use Rattle.std.proofs.Common.{◌≡◌, ◌∙◌, ◌<◌, ◌≤◌, ◌+◌, ℕ, zero, suc, List, [], ◌∷◌, ◌++◌, Option, None, Some, length, take, get_or, set, slice_get, refl, sym, ap, subst, inl, inr, arith}
use Rattle.std.proofs.lemmas.Bool.{cases_eq}
use Rattle.std.proofs.lemmas.List.{take_more, take_all, length-take-le}
use Rattle.nwa_base.proofs.MemberLemmas.{member_split}
use Rattle.nwa_reduce.specs.Ties.Naming.{name_at, named, IsIndex}
use Rattle.nwa_reduce.proofs.ListLemmas.{get_front, get_last, only_member, same_some}

get_set_same : {X : Type 0} (xs : List X) (i : ℕ) (x y : X) → slice_get (set xs i x) i ≡ Some y → x ≡ y
get_set_same [] i x y e = let f : None ≡ Some y = e in cc
get_set_same (z ∷ xs) zero x y e = same_some x y e
get_set_same (z ∷ xs) (suc i) x y e = get_set_same xs i x y e

get_set_other : {X : Type 0} (xs : List X) (i q : ℕ) (x : X) → (i ≡ q → ⊥) → slice_get (set xs i x) q ≡ slice_get xs q
get_set_other [] i q x n = refl
get_set_other (z ∷ xs) zero zero x n = absurd (n refl)
get_set_other (z ∷ xs) zero (suc q) x n = refl
get_set_other (z ∷ xs) (suc i) zero x n = refl
get_set_other (z ∷ xs) (suc i) (suc q) x n = get_set_other xs i q x (λ e. n (ap suc e))

pub index_none : (xs : List ℕ) (names : List (Option ℕ)) → ((q : ℕ) → named names q ≡ None) → IsIndex (take 0 xs) names
index_none xs names n = record {
  named = λ p x g. let e : named names p ≡ Some x = ap name_at g in let f : None ≡ Some x = sym (n p) ∙ e in cc;
  unnamed = λ p g m. m;
}

index_put : (xs : List ℕ) (q : ℕ) (names : List (Option ℕ)) → IsIndex xs names → IsIndex (xs ++ q ∷ []) (set names q (Some (length xs)))
index_put xs q names h = record {
  named = λ p x g.
      elim (cases_eq q p) [
        | inl e ↦
            let f : Some (length xs) ≡ Some x =
            get_set_same names p (Some (length xs)) (Some x) (subst (λ (z : ℕ). slice_get (set names z (Some (length xs))) p ≡ Some (Some x)) e g) in
            let i : length xs ≡ x = same_some (length xs) x f in
            subst (λ (z : ℕ). slice_get (xs ++ q ∷ []) z ≡ Some p) i (subst (λ (z : ℕ). slice_get (xs ++ q ∷ []) (length xs) ≡ Some z) e (get_last xs q))
        | inr n ↦ get_front xs (q ∷ []) x p (h.named p x (sym (get_set_other names q p (Some (length xs)) n) ∙ g))
      ];
  unnamed = λ p g m.
      elim (cases_eq q p) [
        | inl e ↦
            let f : Some (length xs) ≡ None =
            get_set_same names p (Some (length xs)) None (subst (λ (z : ℕ). slice_get (set names z (Some (length xs))) p ≡ Some None) e g) in
            cc
        | inr n ↦
            elim (member_split xs (q ∷ []) p m) [
              | inl a ↦ h.unnamed p (sym (get_set_other names q p (Some (length xs)) n) ∙ g) a
              | inr b ↦ n (only_member q p b)
            ]
      ];
}

-- one place more
pub index_more : (xs : List ℕ) (i d : ℕ) (names new : List (Option ℕ)) → i < length xs → IsIndex (take i xs) names →
    new ≡ set names (get_or xs i d) (Some i) → IsIndex (take (i + 1) xs) new
index_more xs i d names new l h e =
    let n : length (take i xs) ≡ i = length-take-le i xs (omega arith) in
    subst (λ (f : List ℕ). IsIndex f new) (sym (take_more xs i d l))
    (subst (λ (z : List (Option ℕ)). IsIndex (take i xs ++ get_or xs i d ∷ []) z)
    (sym (e ∙ ap (λ (k : ℕ). set names (get_or xs i d) (Some k)) (sym n))) (index_put (take i xs) (get_or xs i d) names h))

pub index_all : (xs : List ℕ) (i : ℕ) (names : List (Option ℕ)) → length xs ≤ i → IsIndex (take i xs) names → IsIndex xs names
index_all xs i names l h = subst (λ (f : List ℕ). IsIndex f names) (take_all i xs l) h
