-- Lists of numbers in order.
use Rattle.std.proofs.Common.{◌≡◌, ◌<◌, ℕ, suc, List, [], ◌∷◌, refl, sym, subst, inl, inr, arith}
use Rattle.std.specs.List.{AllPairs}
use Rattle.std.specs.List.Sorted.{IsStrictlyIncreasing}
use Rattle.std.proofs.lemmas.List.Kept.{AllPairs-from_increasing}
use Rattle.nwa_base.specs.Members.{Member}
use Rattle.nwa_base.proofs.PairLemmas.{member_contains}
use Rattle.nwa_reduce.specs.Ties.Marks.{Ascends}

pairs_ascend : (xs : List ℕ) → AllPairs (λ x y. x < y) xs → Ascends xs
pairs_ascend [] h = tt
pairs_ascend (x ∷ xs) h = (
  λ k m. let c = member_contains xs k m in subst (λ (z : ℕ). x < z) c.2 (h 0 (suc c.0) k (omega arith) (omega (arith, c.1))),
  pairs_ascend xs (λ i j d l g. h (suc i) (suc j) d (omega arith) (omega arith)),
)

pub increasing_ascends : (xs : List ℕ) → IsStrictlyIncreasing xs → Ascends xs
increasing_ascends xs h = pairs_ascend xs (AllPairs-from_increasing xs h)

first_same : (x y : ℕ) (xs ys : List ℕ) → ((k : ℕ) → Member xs k → x < k) → ((k : ℕ) → Member ys k → y < k) → Member (y ∷ ys) x → Member (x ∷ xs) y → x ≡ y
first_same x y xs ys f g (inl e) h = sym e
first_same x y xs ys f g (inr m) (inl e) = e
first_same x y xs ys f g (inr m) (inr n) = absurd (let a : y < x = g x m in let b : x < y = f y n in omega arith)

rest_there : (x y : ℕ) (xs ys : List ℕ) → x ≡ y → ((k : ℕ) → Member xs k → x < k) → (k : ℕ) → Member xs k → Member (y ∷ ys) k → Member ys k
rest_there x y xs ys e f k m (inl i) = absurd (let a : x < k = f k m in omega arith)
rest_there x y xs ys e f k m (inr n) = n

-- lists in order that have the same members are equal
pub ascending_same : (xs ys : List ℕ) → Ascends xs → Ascends ys → ((k : ℕ) → Member xs k → Member ys k) → ((k : ℕ) → Member ys k → Member xs k) → xs ≡ ys
ascending_same [] [] a b f g = refl
ascending_same [] (y ∷ ys) a b f g = absurd (g y (inl refl))
ascending_same (x ∷ xs) [] a b f g = absurd (f x (inl refl))
ascending_same (x ∷ xs) (y ∷ ys) a b f g =
    let e = first_same x y xs ys a.0 b.0 (f x (inl refl)) (g y (inl refl)) in
    let r =
    ascending_same xs ys a.1 b.1 (λ k m. rest_there x y xs ys e a.0 k m (f k (inr m))) (λ k m. rest_there y x ys xs (sym e) b.0 k m (g k (inr m))) in
    λ i. e i ∷ r i
