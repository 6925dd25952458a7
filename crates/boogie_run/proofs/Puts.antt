-- Values put into lists.
use Rattle.std.proofs.Common.{◌≡◌, ◌<◌, ◌≤◌, ℕ, zero, suc, ℤ, List, [], ◌∷◌, length, drop, slice_set, min, refl, ap, arith}
use Rattle.boogie_tree.specs.declared.tree.Column.{Column}
use Rattle.boogie_run.specs.Configurations.{Config}
use Rattle.boogie_run.specs.Steps.{put, all_put, all_written}

pub put_there : (zs : List ℤ) (n : ℕ) (v : ℤ) → n < length zs → put zs n v ≡ slice_set zs n v
put_there [] n v h = absurd (omega arith)
put_there (z ∷ zs) zero v h = refl
put_there (z ∷ zs) (suc n) v h = ap (λ (ys : List ℤ). z ∷ ys) (put_there zs n v (omega arith))

pub put_past : (zs : List ℤ) (n : ℕ) (v : ℤ) → length zs ≤ n → put zs n v ≡ zs
put_past [] n v h = refl
put_past (z ∷ zs) zero v h = absurd (omega arith)
put_past (z ∷ zs) (suc n) v h = ap (λ (ys : List ℤ). z ∷ ys) (put_past zs n v (omega arith))

pub ruleset puts = (put_there, put_past)

no_put : (zs : List ℤ) (ns : List ℕ) → all_put zs ns [] ≡ zs
no_put zs [] = refl
no_put zs (n ∷ ns) = refl

not_written : (c : Config) (xs : List Column) → all_written c xs [] ≡ c
not_written c [] = refl
not_written c (x ∷ xs) = refl

-- behind the last of the numbers, or of the values
pub all_put_done : (zs : List ℤ) (ns : List ℕ) (vs : List ℤ) (i : ℕ) → min (length ns) (length vs) ≤ i → all_put zs (drop i ns) (drop i vs) ≡ zs
all_put_done zs [] vs zero h = refl
all_put_done zs [] vs (suc i) h = refl
all_put_done zs (n ∷ ns) [] zero h = refl
all_put_done zs (n ∷ ns) [] (suc i) h = no_put zs (drop i ns)
all_put_done zs (n ∷ ns) (v ∷ vs) zero h = absurd (omega arith)
all_put_done zs (n ∷ ns) (v ∷ vs) (suc i) h = all_put_done zs ns vs i (omega arith)

-- the same of columns
pub all_written_done : (c : Config) (xs : List Column) (vs : List ℤ) (i : ℕ) → min (length xs) (length vs) ≤ i → all_written c (drop i xs) (drop i vs) ≡ c
all_written_done c [] vs zero h = refl
all_written_done c [] vs (suc i) h = refl
all_written_done c (x ∷ xs) [] zero h = refl
all_written_done c (x ∷ xs) [] (suc i) h = not_written c (drop i xs)
all_written_done c (x ∷ xs) (v ∷ vs) zero h = absurd (omega arith)
all_written_done c (x ∷ xs) (v ∷ vs) (suc i) h = all_written_done c xs vs i (omega arith)
