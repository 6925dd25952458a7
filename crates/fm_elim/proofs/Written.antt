-- A list whose members are rewritten in place, one after the other.
use Rattle.std.proofs.Common.{◌≡◌, ℕ, zero, suc, ◌+◌, ◌<◌, List, [], ◌∷◌, ◌++◌, map, take, drop, set, get_or, length, refl, subst, arith}
use Rattle.std.specs.List.{AllByRecursion}

-- the first members are images, and the rest is as it was
abbrev pub written : {X : Type 0} → (X → X) → ℕ → List X → List X
written f i xs = map f (take i xs) ++ drop i xs

-- the next member becomes its image
written_next : {X : Type 0} (f : X → X) (P : X → Type 0) (xs : List X) (i : ℕ) (d : X) → i < length (written f i xs) →
    P (get_or (written f i xs) i d) → AllByRecursion P (take i xs) →
    (set (written f i xs) i (f (get_or (written f i xs) i d)) ≡ written f (suc i) xs) × AllByRecursion P (take (suc i) xs)
written_next f P [] zero d l p h = absurd (omega arith)
written_next f P [] (suc i) d l p h = absurd (omega arith)
written_next f P (y ∷ xs) zero d l p h = (refl, (p, tt))
written_next f P (y ∷ xs) (suc i) d l p h =
    let r = written_next f P xs i d (omega arith) p h.1 in
    ((λ k. f y ∷ r.0 k), (h.0, r.1))

pub written_more : {X : Type 0} (f : X → X) (P : X → Type 0) (xs items : List X) (i : ℕ) (d y : X) → items ≡ written f i xs → i < length items →
    y ≡ f (get_or items i d) → P (get_or items i d) → AllByRecursion P (take i xs) →
    (set items i y ≡ written f (i + 1) xs) × AllByRecursion P (take (i + 1) xs)
written_more {X = X} f P xs items i d y e l w p h =
    let on : suc i ≡ i + 1 = omega arith in
    let r = written_next f P xs i d (subst (λ (zs : List X). i < length zs) e l) (subst (λ (zs : List X). P (get_or zs i d)) e p) h in
    subst (λ (n : ℕ). (set items i y ≡ written f n xs) × AllByRecursion P (take n xs)) on
    ((cc (e, w, r.0)), r.1)
