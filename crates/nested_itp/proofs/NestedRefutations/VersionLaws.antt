-- The versions that the columns of an inside letter's system stand for.
use Rattle.std.proofs.Common.{◌≡◌, ◌∙◌, ◌⊎◌, inl, inr, ℕ, zero, suc, ◌+◌, ◌<◌, List, [], ◌∷◌, ◌++◌, length, refl, sym, ap, subst, arith}
use Rattle.std.specs.Prelude.{slice_index, slice_set}
use Rattle.std.specs.List.{AllByRecursion}
use Rattle.std.proofs.lemmas.Bool.{eq-eqb, ne_eqb, cases_eq}
use Rattle.nwa_base.specs.Members.{Member}
use Rattle.letter_acts.specs.Invariant.{AreDistinct}
use Rattle.path_rows.specs.Versions.{written_over}
use Rattle.letter_acts.specs.FrameRows.Rows.{columns_from}
use Rattle.triple_rows.specs.Systems.{after_column}
use Rattle.nested_itp.proofs.NestedRefutations.ContentLaws.{DiffersBelow}
use Rattle.nested_itp.proofs.NestedRefutations.NamesLaws.{index_member}

pub index_left : (xs ys : List ℕ) (j : ℕ) → j < length xs → slice_index (xs ++ ys) j ≡ slice_index xs j
index_left [] ys j l = absurd (omega (arith, l))
index_left (x ∷ xs) ys zero l = refl
index_left (x ∷ xs) ys (suc j) l = index_left xs ys j (omega (arith, l))

pub index_right : (xs ys : List ℕ) (j : ℕ) → slice_index (xs ++ ys) (length xs + j) ≡ slice_index ys j
index_right [] ys j = ap (slice_index ys) (let e : 0 + j ≡ j = omega arith in e)
index_right (x ∷ xs) ys j = ap (slice_index (x ∷ (xs ++ ys))) (let e : suc (length xs) + j ≡ suc (length xs + j) = omega arith in e) ∙ index_right xs ys j

pub columns_at : (n k i : ℕ) → i < k → slice_index (columns_from n k) i ≡ n + i
columns_at n zero i l = absurd (omega (arith, l))
columns_at n (suc k) zero l = omega arith
columns_at n (suc k) (suc i) l = columns_at (suc n) k i (omega (arith, l)) ∙ (let e : suc n + i ≡ n + suc i = omega arith in e)

pub columns_count : (n k : ℕ) → length (columns_from n k) ≡ k
columns_count n zero = refl
columns_count n (suc k) = ap suc (columns_count (suc n) k)

-- the members of a list without repetition are told apart by their places
pub places_differ : (xs : List ℕ) → AreDistinct xs → DiffersBelow (length xs) (slice_index xs)
places_differ [] d i j l m e = absurd (omega (arith, l))
places_differ (x ∷ xs) d zero zero l m e = refl
places_differ (x ∷ xs) d zero (suc j) l m e = absurd (d.0 (subst (Member xs) (sym e) (index_member xs j (omega (arith, m)))))
places_differ (x ∷ xs) d (suc i) zero l m e = absurd (d.0 (subst (Member xs) e (index_member xs i (omega (arith, l)))))
places_differ (x ∷ xs) d (suc i) (suc j) l m e = ap suc (places_differ xs d.1 i j (omega (arith, l)) (omega (arith, m)) e)

below_at : (n : ℕ) (xs : List ℕ) (j : ℕ) → AllByRecursion (λ c. c < n) xs → j < length xs → slice_index xs j < n
below_at n [] j h l = absurd (omega (arith, l))
below_at n (x ∷ xs) zero h l = h.0
below_at n (x ∷ xs) (suc j) h l = below_at n xs j h.1 (omega (arith, l))

pub split_at : (n j : ℕ) → (j < n) ⊎ ((i : ℕ) × (j ≡ n + i))
split_at zero j = inr (j, omega arith)
split_at (suc n) zero = inl (omega arith)
split_at (suc n) (suc j) = by_rest (split_at n j)
  where
    by_rest : (j < n) ⊎ ((i : ℕ) × (j ≡ n + i)) → (suc j < suc n) ⊎ ((i : ℕ) × (suc j ≡ suc n + i))
    by_rest (inl l) = inl (omega (arith, l))
    by_rest (inr h) = inr (h.0, (let e = h.1 in omega (arith, e)))

-- the versions of a frame and new ones are told apart
pub names_differ : (here : List ℕ) (made count : ℕ) → AreDistinct here → AllByRecursion (λ c. c < made) here → DiffersBelow (length here + count) (slice_index (here ++ columns_from made count))
names_differ here made count d below i j l m e = by_parts (split_at (length here) i) (split_at (length here) j)
  where
    new_at : (k p : ℕ) → k ≡ length here + p → k < length here + count → slice_index (here ++ columns_from made count) k ≡ made + p
    new_at k p q b = ap (slice_index (here ++ columns_from made count)) q ∙ index_right here (columns_from made count) p ∙ columns_at made count p (omega (arith, q, b))

    by_parts : (i < length here) ⊎ ((k : ℕ) × (i ≡ length here + k)) → (j < length here) ⊎ ((k : ℕ) × (j ≡ length here + k)) → i ≡ j
    by_parts (inl a) (inl b) = places_differ here d i j a b (sym (index_left here (columns_from made count) i a) ∙ e ∙ index_left here (columns_from made count) j b)
    by_parts (inl a) (inr b) =
        let x : slice_index here i < made = below_at made here i below a in
        let y : slice_index here i ≡ made + b.0 = sym (index_left here (columns_from made count) i a) ∙ e ∙ new_at j b.0 b.1 m in
        absurd (omega (arith, x, y))
    by_parts (inr a) (inl b) =
        let x : slice_index here j < made = below_at made here j below b in
        let y : slice_index here j ≡ made + a.0 = sym (index_left here (columns_from made count) j b) ∙ sym e ∙ new_at i a.0 a.1 l in
        absurd (omega (arith, x, y))
    by_parts (inr a) (inr b) =
        let y : made + a.0 ≡ made + b.0 = sym (new_at i a.0 a.1 l) ∙ e ∙ new_at j b.0 b.1 m in
        let p = a.1 in
        let q = b.1 in
        omega (arith, y, p, q)

-- ---- the state after it

-- a column that is written stands at one of the new ones, in its place; any other as before
pub record AfterAt (n first : ℕ) (written : List ℕ) (here news : List ℕ) (c : ℕ) : Type 0 where
  pub place : ℕ
  pub is_written : place < length written
  pub column : after_column 0 first written c ≡ first + place
  pub version : slice_index (written_over here written news) c ≡ slice_index news place

pub record StaysAt (first : ℕ) (written : List ℕ) (here news : List ℕ) (c : ℕ) : Type 0 where
  pub absent : Member written c → ⊥
  pub column : after_column 0 first written c ≡ c
  pub version : slice_index (written_over here written news) c ≡ slice_index here c

set_other : (xs : List ℕ) (c d v : ℕ) → (c ≡ d → ⊥) → slice_index (slice_set xs c v) d ≡ slice_index xs d
set_other [] c d v n = refl
set_other (x ∷ xs) zero zero v n = absurd (n refl)
set_other (x ∷ xs) zero (suc d) v n = refl
set_other (x ∷ xs) (suc c) zero v n = refl
set_other (x ∷ xs) (suc c) (suc d) v n = set_other xs c d v (λ (e : c ≡ d). n (ap suc e))

pub set_same : (xs : List ℕ) (c v : ℕ) → c < length xs → slice_index (slice_set xs c v) c ≡ v
set_same [] c v l = absurd (omega (arith, l))
set_same (x ∷ xs) zero v l = refl
set_same (x ∷ xs) (suc c) v l = set_same xs c v (omega (arith, l))

pub set_count : (xs : List ℕ) (c v : ℕ) → length (slice_set xs c v) ≡ length xs
set_count [] c v = refl
set_count (x ∷ xs) zero v = refl
set_count (x ∷ xs) (suc c) v = ap suc (set_count xs c v)

-- what is not written stays
pub written_absent : (here cs news : List ℕ) (c : ℕ) → (Member cs c → ⊥) → slice_index (written_over here cs news) c ≡ slice_index here c
written_absent here [] news c n = refl
written_absent here (d ∷ cs) [] c n = refl
written_absent here (d ∷ cs) (v ∷ news) c n =
    written_absent (slice_set here d v) cs news c (λ m. n (inr m)) ∙ set_other here d c v (λ (e : d ≡ c). n (inl e))

pub after_absent : (base first : ℕ) (written : List ℕ) (c : ℕ) → (Member written c → ⊥) → after_column base first written c ≡ base + c
after_absent base first [] c n = refl
after_absent base first (d ∷ ds) c n = rw (ne_eqb d c (λ (e : d ≡ c). n (inl e))) (after_absent base (suc first) ds c (λ m. n (inr m)))

pub after_cases : (n first : ℕ) (written here news : List ℕ) (c : ℕ) → AreDistinct written → length news ≡ length written → c < length here →
    AfterAt n first written here news c ⊎ StaysAt first written here news c
after_cases n first [] here news c d e l = inr (record { absent = λ m. m; column = omega arith; version = refl })
after_cases n first (w ∷ written) here [] c d e l = absurd (omega (arith, e))
after_cases n first (w ∷ written) here (v ∷ news) c d e l =
    by_column (cases_eq w c) (after_cases n (suc first) written (slice_set here w v) news c d.1 (omega (arith, e)) (let k = set_count here w v in omega (arith, l, k)))
  where
    by_column : (w ≡ c) ⊎ (w ≡ c → ⊥) → AfterAt n (suc first) written (slice_set here w v) news c ⊎ StaysAt (suc first) written (slice_set here w v) news c →
        AfterAt n first (w ∷ written) here (v ∷ news) c ⊎ StaysAt first (w ∷ written) here (v ∷ news) c
    by_column (inl q) h = inl (record {
      place = 0;
      is_written = omega arith;
      column = rw (eq-eqb w c q) (omega arith);
      version = written_absent (slice_set here w v) written news c (λ m. d.0 (subst (Member written) (sym q) m)) ∙
          ap (slice_index (slice_set here w v)) (sym q) ∙ set_same here w v (omega (arith, l, q));
    })
    by_column (inr q) (inl h) =
        let p = h.is_written in
        inl (record {
          place = suc h.place;
          is_written = omega (arith, p);
          column = rw (ne_eqb w c q) (h.column ∙ (let k : suc first + h.place ≡ first + suc h.place = omega arith in k));
          version = h.version;
        })
    by_column (inr q) (inr h) = inr (record {
      absent = λ m. missing m;
      column = rw (ne_eqb w c q) h.column;
      version = h.version ∙ set_other here w c v q;
    })
      where
        missing : (w ≡ c) ⊎ Member written c → ⊥
        missing (inl k) = q k
        missing (inr k) = h.absent k
