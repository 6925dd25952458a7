-- Lists without repetitions, and where their members stand.
use Rattle.std.proofs.Common.{◌≡◌, ◌∙◌, ◌⊎◌, ℕ, zero, suc, ◌+◌, ◌<◌, ◌≤◌, Bool, true, false, List, [], ◌∷◌, ◌++◌, length, take, drop, refl, sym, ap, subst, inl, inr, arith}
use Rattle.std.specs.Prelude.{map, slice_index, slice_set}
use Rattle.std.specs.List.{AllByRecursion}
use Rattle.std.proofs.Math.ListN.{length-set}
use Rattle.nwa_base.specs.Members.{Member}
use Rattle.letter_acts.specs.Frames.{added, places}
use Rattle.letter_acts.specs.Invariant.{AreDistinct}
use Rattle.path_rows.specs.Versions.{written_over}
use Rattle.letter_acts.specs.FrameRows.Rows.{columns_from}
use Rattle.letter_acts.proofs.FrameRows.RenamingLaws.{numbers_differ}

pub member_joined : (xs ys : List ℕ) (c : ℕ) → Member (xs ++ ys) c → Member xs c ⊎ Member ys c
member_joined [] ys c m = inr m
member_joined (x ∷ xs) ys c (inl e) = inl (inl e)
member_joined (x ∷ xs) ys c (inr m) = elim (member_joined xs ys c m) [ inl h ↦ inl (inr h) | inr h ↦ inr h ]

pub distinct_joined : (xs ys : List ℕ) → AreDistinct xs → AreDistinct ys → ((c : ℕ) → Member xs c → Member ys c → ⊥) → AreDistinct (xs ++ ys)
distinct_joined [] ys d e n = e
distinct_joined (x ∷ xs) ys d e n = (
  λ m. elim (member_joined xs ys x m) [ inl h ↦ d.0 h | inr h ↦ n x (inl refl) h ],
  distinct_joined xs ys d.1 e (λ c h k. n c (inr h) k),
)

-- ---- written versions

member_set : (xs : List ℕ) (i v c : ℕ) → Member (slice_set xs i v) c → (v ≡ c) ⊎ Member xs c
member_set [] i v c m = inr m
member_set (x ∷ xs) zero v c (inl e) = inl e
member_set (x ∷ xs) zero v c (inr m) = inr (inr m)
member_set (x ∷ xs) (suc i) v c (inl e) = inr (inl e)
member_set (x ∷ xs) (suc i) v c (inr m) = elim (member_set xs i v c m) [ inl e ↦ inl e | inr h ↦ inr (inr h) ]

distinct_set : (xs : List ℕ) (i v : ℕ) → AreDistinct xs → (Member xs v → ⊥) → AreDistinct (slice_set xs i v)
distinct_set [] i v d n = d
distinct_set (x ∷ xs) zero v d n = ((λ m. n (inr m)), d.1)
distinct_set (x ∷ xs) (suc i) v d n = (
  λ m. elim (member_set xs i v x m) [ inl e ↦ n (inl (sym e)) | inr h ↦ d.0 h ],
  distinct_set xs i v d.1 (λ m. n (inr m)),
)

pub distinct_written : (here cs news : List ℕ) → AreDistinct here → AreDistinct news → ((c : ℕ) → Member here c → Member news c → ⊥) → AreDistinct (written_over here cs news)
distinct_written here [] news d e n = d
distinct_written here (c ∷ cs) [] d e n = d
distinct_written here (c ∷ cs) (v ∷ vs) d e n =
    distinct_written (slice_set here c v) cs vs (distinct_set here c v d (λ m. n v m (inl refl))) e.1
    (λ x m k. elim (member_set here c v x m) [ inl f ↦ e.0 (subst (Member vs) (sym f) k) | inr h ↦ n x h (inr k) ])

pub length_written : (here cs news : List ℕ) → length (written_over here cs news) ≡ length here
length_written here [] news = refl
length_written here (c ∷ cs) [] = refl
length_written here (c ∷ cs) (v ∷ vs) = length_written (slice_set here c v) cs vs ∙ length-set here c v

set_cases : (xs : List ℕ) (i v j : ℕ) → (slice_index (slice_set xs i v) j ≡ v) ⊎ (slice_index (slice_set xs i v) j ≡ slice_index xs j)
set_cases [] i v j = inr refl
set_cases (x ∷ xs) zero v zero = inl refl
set_cases (x ∷ xs) zero v (suc j) = inr refl
set_cases (x ∷ xs) (suc i) v zero = inr refl
set_cases (x ∷ xs) (suc i) v (suc j) = set_cases xs i v j

-- what stands at a place is new, or it is as before
pub written_cases : (here cs news : List ℕ) (j : ℕ) → Member news (slice_index (written_over here cs news) j) ⊎ (slice_index (written_over here cs news) j ≡ slice_index here j)
written_cases here [] news j = inr refl
written_cases here (c ∷ cs) [] j = inr refl
written_cases here (c ∷ cs) (v ∷ vs) j = elim (written_cases (slice_set here c v) cs vs j) [
  | inl m ↦ inl (inr m)
  | inr e ↦ elim (set_cases here c v j) [ inl f ↦ inl (inl (sym (e ∙ f))) | inr f ↦ inr (e ∙ f) ]
]

-- ---- parts of lists

-- x stands in the list at a place from low on and below high
pub record StandsAt (xs : List ℕ) (low : ℕ) (x : ℕ) : Type 0 where
  pub at : ℕ
  pub from_low : low ≤ at
  pub within : at < length xs
  pub there : slice_index xs at ≡ x

pub place_of : (xs : List ℕ) (x : ℕ) → Member xs x → StandsAt xs 0 x
place_of [] x m = absurd m
place_of (y ∷ ys) x (inl e) = record { at = 0; from_low = omega arith; within = omega arith; there = e }
place_of (y ∷ ys) x (inr m) =
    let r = place_of ys x m in
    let w = r.within in
    record { at = suc r.at; from_low = omega arith; within = omega (arith, w); there = r.there }

pub taken_at : (n : ℕ) (xs : List ℕ) (x : ℕ) → Member (take n xs) x → (j : ℕ) × (j < n) × (j < length xs) × (slice_index xs j ≡ x)
taken_at zero xs x m = absurd m
taken_at (suc n) [] x m = absurd m
taken_at (suc n) (y ∷ ys) x (inl e) = (0, omega arith, omega arith, e)
taken_at (suc n) (y ∷ ys) x (inr m) =
    let r = taken_at n ys x m in
    let a = r.1 in
    let b = r.2 in
    (suc r.0, omega (arith, a), omega (arith, b), r.3)

pub dropped_at : (n : ℕ) (xs : List ℕ) (x : ℕ) → Member (drop n xs) x → StandsAt xs n x
dropped_at zero xs x m = place_of xs x m
dropped_at (suc n) [] x m = absurd m
dropped_at (suc n) (y ∷ ys) x m =
    let r = dropped_at n ys x m in
    let a = r.from_low in
    let b = r.within in
    record { at = suc r.at; from_low = omega (arith, a); within = omega (arith, b); there = r.there }

pub distinct_taken : (n : ℕ) (xs : List ℕ) → AreDistinct xs → AreDistinct (take n xs)
distinct_taken zero xs d = tt
distinct_taken (suc n) [] d = tt
distinct_taken (suc n) (x ∷ xs) d = (λ m. d.0 (taken_in n xs x m), distinct_taken n xs d.1)
  where
    taken_in : (n : ℕ) (xs : List ℕ) (c : ℕ) → Member (take n xs) c → Member xs c
    taken_in zero xs c m = absurd m
    taken_in (suc n) [] c m = m
    taken_in (suc n) (y ∷ ys) c (inl e) = inl e
    taken_in (suc n) (y ∷ ys) c (inr m) = inr (taken_in n ys c m)

pub distinct_dropped : (n : ℕ) (xs : List ℕ) → AreDistinct xs → AreDistinct (drop n xs)
distinct_dropped zero xs d = d
distinct_dropped (suc n) [] d = tt
distinct_dropped (suc n) (x ∷ xs) d = distinct_dropped n xs d.1

pub index_left : (xs ys : List ℕ) (c : ℕ) → c < length xs → slice_index (xs ++ ys) c ≡ slice_index xs c
index_left [] ys c l = absurd (omega arith)
index_left (x ∷ xs) ys zero l = refl
index_left (x ∷ xs) ys (suc c) l = index_left xs ys c (omega arith)

pub index_right : (xs ys : List ℕ) (c k : ℕ) → c ≡ length xs + k → slice_index (xs ++ ys) c ≡ slice_index ys k
index_right [] ys c k e = ap (slice_index ys) (let i : c ≡ k = omega (arith, e) in i)
index_right (x ∷ xs) ys zero k e = absurd (omega (arith, e))
index_right (x ∷ xs) ys (suc c) k e = index_right xs ys c k (omega (arith, e))

pub index_taken : (n : ℕ) (xs : List ℕ) (c : ℕ) → c < n → slice_index (take n xs) c ≡ slice_index xs c
index_taken zero xs c l = absurd (omega arith)
index_taken (suc n) [] c l = refl
index_taken (suc n) (x ∷ xs) zero l = refl
index_taken (suc n) (x ∷ xs) (suc c) l = index_taken n xs c (omega arith)

pub index_dropped : (n : ℕ) (xs : List ℕ) (c k : ℕ) → c ≡ n + k → slice_index (drop n xs) k ≡ slice_index xs c
index_dropped zero xs c k e = ap (slice_index xs) (let i : k ≡ c = omega (arith, e) in i)
index_dropped (suc n) [] c k e = refl
index_dropped (suc n) (x ∷ xs) zero k e = absurd (omega (arith, e))
index_dropped (suc n) (x ∷ xs) (suc c) k e = index_dropped n xs c k (omega (arith, e))

-- ---- columns one after the other

pub columns_within : (n k c : ℕ) → Member (columns_from n k) c → (n ≤ c) × (c < n + k)
columns_within n zero c m = absurd m
columns_within n (suc k) c m = elim m [
  | inl e ↦ (omega (arith, e), omega (arith, e))
  | inr h ↦ (let w = columns_within (suc n) k c h in let a = w.0 in let b = w.1 in (omega (arith, a), omega (arith, b)))
]

pub columns_distinct : (n k : ℕ) → AreDistinct (columns_from n k)
columns_distinct n zero = tt
columns_distinct n (suc k) = (λ m. (let w = columns_within (suc n) k n m in let a = w.0 in omega (arith, a)), columns_distinct (suc n) k)

pub columns_at : (n k i : ℕ) → i < k → slice_index (columns_from n k) i ≡ n + i
columns_at n zero i l = absurd (omega arith)
columns_at n (suc k) zero l = omega arith
columns_at n (suc k) (suc i) l = columns_at (suc n) k i (omega arith) ∙ (let e : suc n + i ≡ n + suc i = omega arith in e)

-- ---- places that pass a test

pub places_from : {X : Type 0} (test : X → Bool) (n : ℕ) (xs : List X) (c : ℕ) → Member (places test n xs) c → n ≤ c
places_from test n [] c m = absurd m
places_from test n (x ∷ xs) c m = by_test (test x) m (places_from test (suc n) xs c)
  where
    by_test : (b : Bool) → Member (added b n (places test (suc n) xs)) c → (Member (places test (suc n) xs) c → suc n ≤ c) → n ≤ c
    by_test true (inl e) f = omega (arith, e)
    by_test true (inr m) f = let k = f m in omega (arith, k)
    by_test false m f = let k = f m in omega (arith, k)

pub places_distinct : {X : Type 0} (test : X → Bool) (n : ℕ) (xs : List X) → AreDistinct (places test n xs)
places_distinct test n [] = tt
places_distinct test n (x ∷ xs) = by_test (test x) (places_distinct test (suc n) xs)
  where
    by_test : (b : Bool) → AreDistinct (places test (suc n) xs) → AreDistinct (added b n (places test (suc n) xs))
    by_test true d = ((λ m. (let k = places_from test (suc n) xs n m in omega (arith, k))), d)
    by_test false d = d

-- distinct places of a list without repetitions
pub indexed_member : (xs is : List ℕ) (x : ℕ) → Member (map (slice_index xs) is) x → (i : ℕ) × Member is i × (slice_index xs i ≡ x)
indexed_member xs [] x m = absurd m
indexed_member xs (i ∷ is) x (inl e) = (i, inl refl, e)
indexed_member xs (i ∷ is) x (inr m) = let r = indexed_member xs is x m in (r.0, inr r.1, r.2)

all_of : (P : ℕ → Type 0) (xs : List ℕ) (x : ℕ) → Member xs x → AllByRecursion P xs → P x
all_of P [] x m h = absurd m
all_of P (y ∷ ys) x (inl e) h = subst P e h.0
all_of P (y ∷ ys) x (inr m) h = all_of P ys x m h.1

pub distinct_indexed : (xs is : List ℕ) → AreDistinct xs → AreDistinct is → AllByRecursion (λ i. i < length xs) is → AreDistinct (map (slice_index xs) is)
distinct_indexed xs [] d e w = tt
distinct_indexed xs (i ∷ is) d e w = (
  λ m.
      let r = indexed_member xs is (slice_index xs i) m in
      let k : r.0 ≡ i = numbers_differ xs d r.0 i (all_of (λ j. j < length xs) is r.0 r.1 w.1) w.0 r.2 in
      e.0 (subst (Member is) k r.1),
  distinct_indexed xs is d e.1 w.1,
)

pub member_below : (n : ℕ) (xs : List ℕ) (x : ℕ) → Member xs x → AllByRecursion (λ c. c < n) xs → x < n
member_below n xs x m h = all_of (λ c. c < n) xs x m h

pub index_below : (n : ℕ) (xs : List ℕ) (i : ℕ) → i < length xs → AllByRecursion (λ c. c < n) xs → slice_index xs i < n
index_below n [] i l h = absurd (omega arith)
index_below n (x ∷ xs) zero l h = h.0
index_below n (x ∷ xs) (suc i) l h = index_below n xs i (omega arith) h.1
