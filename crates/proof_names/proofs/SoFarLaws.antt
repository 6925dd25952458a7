-- Lists whose members are related in pairs, at the start and at the end of the first.
use Rattle.std.proofs.Common.{◌≡◌, ℕ, ◌≤◌, List, [], length, map, Some, slice_get, ap, subst, arith}
use Rattle.std.proofs.lemmas.List.{length-map}
use Rattle.proof_names.specs.Pairs.{ArePaired}
use Rattle.proof_names.proofs.PairLaws.{SoFar}

none_there : {Y : Type 0} (k : ℕ) (y : Y) → slice_get [] k ≡ Some y → ⊥
none_there k y e = absurd (cc)

pub so_far_start : {X Y : Type 0} (R : ℕ → X → Y → Type 0) (xs : List X) (ys : List Y) → ys ≡ [] → SoFar R xs 0 ys
so_far_start {X} {Y} R xs ys e = record {
  count = ap (λ (l : List Y). length l) e;
  related = λ k x y p q. absurd (none_there k y (subst (λ (l : List Y). slice_get l k ≡ Some y) e q));
}

pub so_far_end : {X Y : Type 0} (R : ℕ → X → Y → Type 0) (xs : List X) (i : ℕ) (ys : List Y) → SoFar R xs i ys → length xs ≤ i → i ≤ length xs → ArePaired R xs ys
so_far_end R xs i ys h l m = record { count = let c = h.count in omega (arith, c, l, m); related = h.related }

pub mapped_end : {W X Y : Type 0} (f : W → X) (R : ℕ → X → Y → Type 0) (ws : List W) (i : ℕ) (ys : List Y) → SoFar R (map f ws) i ys → length ws ≤ i → i ≤ length ws →
    ArePaired R (map f ws) ys
mapped_end f R ws i ys h l m =
    let n = length-map ws f in
    so_far_end R (map f ws) i ys h (omega (arith, n, l)) (omega (arith, n, m))
