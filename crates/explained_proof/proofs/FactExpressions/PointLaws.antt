-- Pair by pair comparison from a place on.
use Rattle.std.proofs.Common.{◌≡◌, ◌≢◌, ◌∙◌, ℕ, ◌+◌, ◌<◌, ◌≤◌, Bool, true, false, List, [], ◌∷◌, length, drop, get_or, refl, ap}
use Rattle.std.specs.Prelude.{◌&&◌}
use Rattle.std.proofs.lemmas.List.{drop_more, drop_all}
use lib.Pointwise.{pointwise, pointwise_long}

module _ {X Y : Type 0} (E : X → Y → Bool) where
  pub pointwise_more : (xs : List X) (ys : List Y) (i : ℕ) (d : X) (e : Y) → i < length xs → i < length ys →
      pointwise E (drop i xs) (drop i ys) ≡ (E (get_or xs i d) (get_or ys i e) && pointwise E (drop (i + 1) xs) (drop (i + 1) ys))
  pointwise_more xs ys i d e h k = ap (λ zs. pointwise E zs (drop i ys)) (drop_more xs i d h) ∙ ap (λ zs. pointwise E (get_or xs i d ∷ drop (i + 1) xs) zs) (drop_more ys i e k)

  pub pointwise_done : (xs : List X) (ys : List Y) (i : ℕ) → length xs ≤ i → length ys ≤ i → pointwise E (drop i xs) (drop i ys) ≡ true
  pointwise_done xs ys i h k = ap (λ zs. pointwise E zs (drop i ys)) (drop_all i xs h) ∙ ap (λ zs. pointwise E [] zs) (drop_all i ys k)

  pub pointwise_unlike : (xs : List X) (ys : List Y) → length xs ≢ length ys → pointwise E xs ys ≡ false
  pointwise_unlike xs ys n = by (pointwise E xs ys) refl
    where
      by : (b : Bool) → pointwise E xs ys ≡ b → b ≡ false
      by true h = absurd (n (pointwise_long E xs ys h))
      by false h = refl
