-- Tests of the elements of a list, as they are seen, along a loop; and elements that are kept.
use Rattle.std.proofs.Common.{◌≡◌, ◌∙◌, ℕ, zero, suc, ◌+◌, ◌<◌, ◌≤◌, Bool, true, false, cond, List, [], ◌∷◌, ◌++◌, map, length, take, get_or, refl, sym, ap, arith}
use Rattle.std.specs.Prelude.{◌&&◌, ◌||◌, filter}
use Rattle.std.specs.List.{list_any, list_all}
use Rattle.std.proofs.lemmas.List.{map_more, take_all, append-nil}
use Rattle.std.proofs.lemmas.List.Folds.{list_any-append, list_all-append}

module _ {X Y : Type 0} (p : Y → Bool) (f : X → Y) where
  pub any_next : (xs : List X) (i : ℕ) (d : X) → i < length xs → list_any p (map f (take i xs)) ≡ false → p (f (get_or xs i d)) ≡ false → list_any p (map f (take (i + 1) xs)) ≡ false
  any_next xs i d l h e =
      ap (list_any p) (map_more f xs i d l) ∙ list_any-append p (map f (take i xs)) (f (get_or xs i d) ∷ []) ∙ ap (λ b. b || (p (f (get_or xs i d)) || false)) h ∙ ap (λ b. b || false) e

  pub any_here : (xs : List X) (i : ℕ) (d : X) → i < length xs → p (f (get_or xs i d)) ≡ true → list_any p (map f xs) ≡ true
  any_here [] i d l e = absurd (omega (arith, l))
  any_here (x ∷ xs) zero d l e = ap (λ b. b || list_any p (map f xs)) e
  any_here (x ∷ xs) (suc i) d l e = ap (λ b. p (f x) || b) (any_here xs i d (omega (arith, l)) e) ∙ or_true (p (f x))
    where
      or_true : (b : Bool) → (b || true) ≡ true
      or_true true = refl
      or_true false = refl

  pub any_end : (xs : List X) (i : ℕ) → length xs ≤ i → list_any p (map f (take i xs)) ≡ false → list_any p (map f xs) ≡ false
  any_end xs i l h = ap (λ ys. list_any p (map f ys)) (sym (take_all i xs l)) ∙ h

  pub all_next : (xs : List X) (i : ℕ) (d : X) → i < length xs → list_all p (map f (take i xs)) ≡ true → p (f (get_or xs i d)) ≡ true → list_all p (map f (take (i + 1) xs)) ≡ true
  all_next xs i d l h e =
      ap (list_all p) (map_more f xs i d l) ∙ list_all-append p (map f (take i xs)) (f (get_or xs i d) ∷ []) ∙ ap (λ b. b && (p (f (get_or xs i d)) && true)) h ∙ ap (λ b. b && true) e

  pub all_here : (xs : List X) (i : ℕ) (d : X) → i < length xs → p (f (get_or xs i d)) ≡ false → list_all p (map f xs) ≡ false
  all_here [] i d l e = absurd (omega (arith, l))
  all_here (x ∷ xs) zero d l e = ap (λ b. b && list_all p (map f xs)) e
  all_here (x ∷ xs) (suc i) d l e = ap (λ b. p (f x) && b) (all_here xs i d (omega (arith, l)) e) ∙ and_false (p (f x))
    where
      and_false : (b : Bool) → (b && false) ≡ false
      and_false true = refl
      and_false false = refl

  pub all_end : (xs : List X) (i : ℕ) → length xs ≤ i → list_all p (map f (take i xs)) ≡ true → list_all p (map f xs) ≡ true
  all_end xs i l h = ap (λ ys. list_all p (map f ys)) (sym (take_all i xs l)) ∙ h

  filter_step : (b : Bool) (y : Y) (ys zs : List Y) → p y ≡ b → filter p (ys ++ zs) ≡ filter p ys ++ filter p zs → filter p ((y ∷ ys) ++ zs) ≡ filter p (y ∷ ys) ++ filter p zs
  filter_step true y ys zs e h =
      ap (λ b. cond b (y ∷ filter p (ys ++ zs)) (filter p (ys ++ zs))) e ∙ ap (λ ws. y ∷ ws) h ∙ ap (λ b. cond b (y ∷ filter p ys) (filter p ys) ++ filter p zs) (sym e)
  filter_step false y ys zs e h =
      ap (λ b. cond b (y ∷ filter p (ys ++ zs)) (filter p (ys ++ zs))) e ∙ h ∙ ap (λ b. cond b (y ∷ filter p ys) (filter p ys) ++ filter p zs) (sym e)

  filter-append : (ys zs : List Y) → filter p (ys ++ zs) ≡ filter p ys ++ filter p zs
  filter-append [] zs = refl
  filter-append (y ∷ ys) zs = filter_step (p y) y ys zs refl (filter-append ys zs)

  pub filter_kept : (xs : List X) (i : ℕ) (d : X) → i < length xs → p (f (get_or xs i d)) ≡ true → filter p (map f (take (i + 1) xs)) ≡ filter p (map f (take i xs)) ++ f (get_or xs i d) ∷ []
  filter_kept xs i d l e =
      ap (filter p) (map_more f xs i d l) ∙ filter-append (map f (take i xs)) (f (get_or xs i d) ∷ []) ∙
      ap (λ b. filter p (map f (take i xs)) ++ cond b (f (get_or xs i d) ∷ []) []) e

  pub filter_dropped : (xs : List X) (i : ℕ) (d : X) → i < length xs → p (f (get_or xs i d)) ≡ false → filter p (map f (take (i + 1) xs)) ≡ filter p (map f (take i xs))
  filter_dropped xs i d l e =
      ap (filter p) (map_more f xs i d l) ∙ filter-append (map f (take i xs)) (f (get_or xs i d) ∷ []) ∙
      ap (λ b. filter p (map f (take i xs)) ++ cond b (f (get_or xs i d) ∷ []) []) e ∙ append-nil (filter p (map f (take i xs)))
