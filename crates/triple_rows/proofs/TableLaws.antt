-- Tables of columns, and lists over frames read from the front.
use Rattle.std.proofs.Common.{◌≡◌, ◌∙◌, ◌⊎◌, ℕ, zero, suc, ◌+◌, ◌-◌, ◌<◌, ◌≤◌, Bool, List, [], ◌∷◌, ◌++◌, length, length-append, take, drop, get_or, nat_eq, refl, sym, ap, subst, inl, inr, arith, append_assoc, Some}
use Rattle.std.specs.Prelude.{slice_index, slice_get, slice_set, if◌then◌else◌}
use Rattle.std.specs.List.{AllByRecursion}
use Rattle.std.proofs.Math.ListN.{length-set}
use Rattle.std.proofs.lemmas.Bool.{eq-eqb, ne_eqb}
use Rattle.std.proofs.lemmas.List.{take_more, drop_more, take_all, take-append-drop, length-take-le}
use Rattle.nwa_base.specs.Members.{Member}
use Rattle.letter_acts.specs.Invariant.{AreDistinct}
use Rattle.letter_acts.proofs.ListLemmas.{below_or_from, same_or_not}
use Rattle.triple_rows.specs.Systems.{after_column, call_column}
use Rattle.triple_rows.specs.Ties.Tables.{IsTable}
use Rattle.letter_acts.specs.FrameRows.Rows.{columns_from}
use Rattle.triple_rows.proofs.ListLaws.{within, place_of_member}
use Rattle.triple_rows.proofs.BackLaws.{call_first, call_second, call_helper}
use Rattle.triple_rows.proofs.StateLaws.{after_written, after_other, written_or_not}

-- the list has the number `to c` at each place c below n
pub record HasColumns (n : ℕ) (to : ℕ → ℕ) (columns : List ℕ) : Type 0 where
  pub count : length columns ≡ n
  pub value : (c : ℕ) → c < n → slice_index columns c ≡ to c

-- ---- so many numbers from one on

length-columns_from : (n k : ℕ) → length (columns_from n k) ≡ k
length-columns_from n zero = refl
length-columns_from n (suc k) = ap suc (length-columns_from (suc n) k)

columns_at : (n k i : ℕ) → i < k → slice_index (columns_from n k) i ≡ n + i
columns_at n zero i l = absurd (omega arith)
columns_at n (suc k) zero l = omega arith
columns_at n (suc k) (suc i) l = columns_at (suc n) k i (omega arith) ∙ (let e : suc n + i ≡ n + suc i = omega arith in e)

columns_within : (n k c : ℕ) → Member (columns_from n k) c → (n ≤ c) × (c < n + k)
columns_within n zero c m = absurd m
columns_within n (suc k) c m = elim m [
  | inl e ↦ (omega (arith, e), omega (arith, e))
  | inr h ↦ (let w = columns_within (suc n) k c h in let a = w.0 in let b = w.1 in (omega (arith, a), omega (arith, b)))
]

columns_distinct : (n k : ℕ) → AreDistinct (columns_from n k)
columns_distinct n zero = tt
columns_distinct n (suc k) = (λ m. (let w = columns_within (suc n) k n m in let a = w.0 in omega (arith, a)), columns_distinct (suc n) k)

pub shifted_table : (n k : ℕ) (columns : List ℕ) → columns ≡ columns_from n k → IsTable k (λ c. n + c) columns
shifted_table n k columns e = subst (IsTable k (λ c. n + c)) (sym e) (record {
  count = length-columns_from n k;
  value = λ c l. columns_at n k c l;
  differ = columns_distinct n k;
})

-- ---- tables that differ

index_of_place : (xs : List ℕ) (i x : ℕ) → slice_get xs i ≡ Some x → slice_index xs i ≡ x
index_of_place [] i x e = absurd (cc)
index_of_place (y ∷ xs) zero x e = let k : y ≡ x = cc in k
index_of_place (y ∷ xs) (suc i) x e = index_of_place xs i x e

distinct_from : (xs : List ℕ) → ((i j : ℕ) → i < length xs → j < length xs → slice_index xs i ≡ slice_index xs j → i ≡ j) → AreDistinct xs
distinct_from [] h = tt
distinct_from (x ∷ xs) h = (
  λ m.
      let p = place_of_member xs x m in
      let e : slice_index xs p.0 ≡ x = index_of_place xs p.0 x p.1 in
      let l : p.0 < length xs = within xs p.0 x p.1 in
      let k = h 0 (suc p.0) (omega arith) (omega (arith, l)) (sym e) in
      absurd (omega (arith, k)),
  distinct_from xs (λ i j l k e. (let r = h (suc i) (suc j) (omega (arith, l)) (omega (arith, k)) e in omega (arith, r))),
)

table_from : (n : ℕ) (to : ℕ → ℕ) (columns : List ℕ) → HasColumns n to columns → ((c d : ℕ) → c < n → d < n → to c ≡ to d → c ≡ d) → IsTable n to columns
table_from n to columns h f = record {
  count = h.count;
  value = h.value;
  differ = distinct_from columns (λ i j l k e.
      let n = h.count in
      f i j (omega (arith, n, l)) (omega (arith, n, k)) (sym (h.value i (omega (arith, n, l))) ∙ e ∙ h.value j (omega (arith, n, k))));
}

-- ---- the state after

after_differs : (base first n : ℕ) (written : List ℕ) → AreDistinct written → base + n ≤ first → (c d : ℕ) → c < n → d < n →
    after_column base first written c ≡ after_column base first written d → c ≡ d
after_differs base first n written u l c d lc ld e = by_places (written_or_not written c) (written_or_not written d)
  where
    by_places : ((i : ℕ) × (slice_get written i ≡ Some c)) ⊎ (Member written c → ⊥) → ((i : ℕ) × (slice_get written i ≡ Some d)) ⊎ (Member written d → ⊥) → c ≡ d
    by_places (inl p) (inl q) =
        let a = after_written base first written p.0 (first + p.0) c u p.1 refl in
        let b = after_written base first written q.0 (first + q.0) d u q.1 refl in
        let i : p.0 ≡ q.0 = omega (arith, a, b, e) in
        sym (index_of_place written p.0 c p.1) ∙ ap (slice_index written) i ∙ index_of_place written q.0 d q.1
    by_places (inl p) (inr q) =
        let a = after_written base first written p.0 (first + p.0) c u p.1 refl in
        let b = after_other base first written d q in
        absurd (omega (arith, a, b, e, l, ld))
    by_places (inr p) (inl q) =
        let a = after_other base first written c p in
        let b = after_written base first written q.0 (first + q.0) d u q.1 refl in
        absurd (omega (arith, a, b, e, l, lc))
    by_places (inr p) (inr q) =
        let a = after_other base first written c p in
        let b = after_other base first written d q in
        omega (arith, a, b, e)

after_last : (base first : ℕ) (xs : List ℕ) (d c : ℕ) → (d ≡ c → ⊥) → after_column base first (xs ++ d ∷ []) c ≡ after_column base first xs c
after_last base first [] d c n = ap (λ (b : Bool). if b then first else base + c) (ne_eqb d c n)
after_last base first (x ∷ xs) d c n = ap (λ (k : ℕ). if nat_eq x c then first else k) (after_last base (suc first) xs d c n)

after_here : (base first : ℕ) (xs : List ℕ) (d : ℕ) → (Member xs d → ⊥) → after_column base first (xs ++ d ∷ []) d ≡ first + length xs
after_here base first [] d n = ap (λ (b : Bool). if b then first else base + d) (eq-eqb d d refl) ∙ (let e : first ≡ first + 0 = omega arith in e)
after_here base first (x ∷ xs) d n =
    ap (λ (b : Bool). if b then first else after_column base (suc first) (xs ++ d ∷ []) d) (ne_eqb x d (λ e. n (inl e))) ∙
    after_here base (suc first) xs d (λ m. n (inr m)) ∙ (let e : suc first + length xs ≡ first + suc (length xs) = omega arith in e)

distinct_front : (xs ys : List ℕ) (d : ℕ) → AreDistinct (xs ++ d ∷ ys) → Member xs d → ⊥
distinct_front [] ys d u m = m
distinct_front (x ∷ xs) ys d u m = elim m [
  | inl e ↦ u.0 (stands xs ys d x e)
  | inr h ↦ distinct_front xs ys d u.1 h
]
  where
    stands : (xs ys : List ℕ) (d x : ℕ) → x ≡ d → Member (xs ++ d ∷ ys) x
    stands [] ys d x e = inl (sym e)
    stands (z ∷ xs) ys d x e = inr (stands xs ys d x e)

set_here : (xs : List ℕ) (d v : ℕ) → d < length xs → slice_index (slice_set xs d v) d ≡ v
set_here [] d v l = absurd (omega arith)
set_here (x ∷ xs) zero v l = refl
set_here (x ∷ xs) (suc d) v l = set_here xs d v (omega arith)

set_other : (xs : List ℕ) (d v c : ℕ) → (d ≡ c → ⊥) → slice_index (slice_set xs d v) c ≡ slice_index xs c
set_other [] d v c n = refl
set_other (x ∷ xs) zero v zero n = absurd (n refl)
set_other (x ∷ xs) zero v (suc c) n = refl
set_other (x ∷ xs) (suc d) v zero n = refl
set_other (x ∷ xs) (suc d) v (suc c) n = set_other xs d v c (λ e. n (ap suc e))

pub after_next : (base first n i : ℕ) (written columns : List ℕ) → AreDistinct written → i < length written → AllByRecursion (λ c. c < n) written →
    HasColumns n (after_column base first (take i written)) columns →
    HasColumns n (after_column base first (take (i + 1) written)) (slice_set columns (get_or written i 0) (first + i))
after_next base first n i written columns u l w h =
    let d = get_or written i 0 in
    let t : take (i + 1) written ≡ take i written ++ d ∷ [] = take_more written i 0 l in
    let count = h.count in
    let split : take i written ++ d ∷ drop (i + 1) written ≡ written = ap (λ (xs : List ℕ). take i written ++ xs) (sym (drop_more written i 0 l)) ∙ take-append-drop i written in
    let absent : Member (take i written) d → ⊥ = distinct_front (take i written) (drop (i + 1) written) d (subst AreDistinct (sym split) u) in
    let below : d < n = number_below written i l w in
    let many : length (take i written) ≡ i = length-take-le i written (omega (arith, l)) in
    subst (λ (xs : List ℕ). HasColumns n (after_column base first xs) (slice_set columns d (first + i))) (sym t) (record {
      count = length-set columns d (first + i) ∙ count;
      value = λ c k. elim (same_or_not d c) [
        | inl e ↦
            ap (slice_index (slice_set columns d (first + i))) (sym e) ∙ set_here columns d (first + i) (omega (arith, count, below)) ∙
            (let q : first + i ≡ first + length (take i written) = omega (arith, many) in q) ∙
            sym (ap (after_column base first (take i written ++ d ∷ [])) (sym e) ∙ after_here base first (take i written) d absent)
        | inr f ↦ set_other columns d (first + i) c f ∙ h.value c k ∙ sym (after_last base first (take i written) d c f)
      ];
    })
  where
    number_below : (xs : List ℕ) (i : ℕ) → i < length xs → AllByRecursion (λ c. c < n) xs → get_or xs i 0 < n
    number_below [] i l w = absurd (omega arith)
    number_below (x ∷ xs) zero l w = w.0
    number_below (x ∷ xs) (suc i) l w = number_below xs i (omega arith) w.1

pub after_ends : (base first n i : ℕ) (written columns : List ℕ) → AreDistinct written → base + n ≤ first → length written ≤ i →
    HasColumns n (after_column base first (take i written)) columns → IsTable n (after_column base first written) columns
after_ends base first n i written columns u b l h =
    table_from n (after_column base first written) columns
    (subst (λ (xs : List ℕ). HasColumns n (after_column base first xs) columns) (take_all i written l) h)
    (after_differs base first n written u b)

-- ---- the columns of a call's rows

index_left : (xs ys : List ℕ) (c : ℕ) → c < length xs → slice_index (xs ++ ys) c ≡ slice_index xs c
index_left [] ys c l = absurd (omega arith)
index_left (x ∷ xs) ys zero l = refl
index_left (x ∷ xs) ys (suc c) l = index_left xs ys c (omega arith)

index_right : (xs ys : List ℕ) (c k : ℕ) → c ≡ length xs + k → slice_index (xs ++ ys) c ≡ slice_index ys k
index_right [] ys c k e = ap (slice_index ys) (let i : c ≡ k = omega (arith, e) in i)
index_right (x ∷ xs) ys zero k e = absurd (omega (arith, e))
index_right (x ∷ xs) ys (suc c) k e = index_right xs ys c k (omega (arith, e))

-- where a column of the call's rows stands
call_cases : (m n w c : ℕ) → ((c < n) × (call_column m n w c ≡ m + c)) ⊎ (((n ≤ c) × (c < n + m) × (call_column m n w c ≡ c - n)) ⊎ ((n + m ≤ c) × (call_column m n w c ≡ c + w)))
call_cases m n w c = elim (below_or_from c n) [
  | inl l ↦ inl (l, call_first m n w c l)
  | inr h ↦
      (let e = h.1 in
      let g : n ≤ c = omega (arith, e) in
      elim (below_or_from c (n + m)) [
        | inl l ↦ inr (inl (g, l, call_second m n w c g l))
        | inr k ↦ (let f = k.1 in let b : n + m ≤ c = omega (arith, f) in inr (inr (b, call_helper m n w c b)))
      ])
]

call_differs : (m n w c d : ℕ) → call_column m n w c ≡ call_column m n w d → c ≡ d
call_differs m n w c d e = by_places (call_cases m n w c) (call_cases m n w d)
  where
    by_places : ((c < n) × (call_column m n w c ≡ m + c)) ⊎ (((n ≤ c) × (c < n + m) × (call_column m n w c ≡ c - n)) ⊎ ((n + m ≤ c) × (call_column m n w c ≡ c + w))) →
        ((d < n) × (call_column m n w d ≡ m + d)) ⊎ (((n ≤ d) × (d < n + m) × (call_column m n w d ≡ d - n)) ⊎ ((n + m ≤ d) × (call_column m n w d ≡ d + w))) → c ≡ d
    by_places (inl p) (inl q) = let a = p.1 in let b = q.1 in omega (arith, a, b, e)
    by_places (inl p) (inr (inl q)) = let a = p.1 in let b = q.2 in let f = q.1 in let g = q.0 in absurd (omega (arith, a, b, e, f, g))
    by_places (inl p) (inr (inr q)) = let a = p.1 in let b = q.1 in let f = p.0 in let g = q.0 in absurd (omega (arith, a, b, e, f, g))
    by_places (inr (inl p)) (inl q) = let a = p.2 in let b = q.1 in let f = p.1 in let g = p.0 in absurd (omega (arith, a, b, e, f, g))
    by_places (inr (inl p)) (inr (inl q)) = let a = p.2 in let b = q.2 in let f = p.0 in let g = q.0 in omega (arith, a, b, e, f, g)
    by_places (inr (inl p)) (inr (inr q)) = let a = p.2 in let b = q.1 in let f = p.1 in let g = q.0 in absurd (omega (arith, a, b, e, f, g))
    by_places (inr (inr p)) (inl q) = let a = p.1 in let b = q.1 in let f = p.0 in let g = q.0 in absurd (omega (arith, a, b, e, f, g))
    by_places (inr (inr p)) (inr (inl q)) = let a = p.1 in let b = q.2 in let f = p.0 in let g = q.1 in absurd (omega (arith, a, b, e, f, g))
    by_places (inr (inr p)) (inr (inr q)) = let a = p.1 in let b = q.1 in omega (arith, a, b, e)

-- the three stretches that the table of the call's rows is made of
abbrev call_stretches : ℕ → ℕ → ℕ → ℕ → List ℕ
call_stretches m n w h = columns_from m n ++ (columns_from 0 m ++ columns_from (m + n + w) h)

call_value : (m n w h c : ℕ) → c < n + m + h → slice_index (call_stretches m n w h) c ≡ call_column m n w c
call_value m n w h c l = by_place (call_cases m n w c)
  where
    by_place : ((c < n) × (call_column m n w c ≡ m + c)) ⊎ (((n ≤ c) × (c < n + m) × (call_column m n w c ≡ c - n)) ⊎ ((n + m ≤ c) × (call_column m n w c ≡ c + w))) →
        slice_index (call_stretches m n w h) c ≡ call_column m n w c
    by_place (inl p) =
        let x = length-columns_from m n in
        let f = p.0 in
        index_left (columns_from m n) (columns_from 0 m ++ columns_from (m + n + w) h) c (omega (arith, x, f)) ∙ columns_at m n c p.0 ∙ sym p.1
    by_place (inr (inl p)) =
        let x = length-columns_from m n in
        let y = length-columns_from 0 m in
        let f = p.0 in
        let g = p.1 in
        index_right (columns_from m n) (columns_from 0 m ++ columns_from (m + n + w) h) c (c - n) (omega (arith, x, f)) ∙
        index_left (columns_from 0 m) (columns_from (m + n + w) h) (c - n) (omega (arith, y, f, g)) ∙ columns_at 0 m (c - n) (omega (arith, f, g)) ∙
        (let k : 0 + (c - n) ≡ c - n = omega arith in k) ∙ sym p.2
    by_place (inr (inr p)) =
        let x = length-columns_from m n in
        let y = length-columns_from 0 m in
        let f = p.0 in
        index_right (columns_from m n) (columns_from 0 m ++ columns_from (m + n + w) h) c (c - n) (omega (arith, x, f)) ∙
        index_right (columns_from 0 m) (columns_from (m + n + w) h) (c - n) (c - n - m) (omega (arith, y, f)) ∙ columns_at (m + n + w) h (c - n - m) (omega (arith, f, l)) ∙
        (let k : m + n + w + (c - n - m) ≡ c + w = omega (arith, f) in k) ∙ sym p.1

pub call_table : (m n w h : ℕ) (first second columns : List ℕ) → first ≡ columns_from m n → second ≡ first ++ columns_from 0 m → columns ≡ second ++ columns_from (m + n + w) h →
    IsTable (n + m + h) (call_column m n w) columns
call_table m n w h first second columns e f g =
    let k : columns ≡ call_stretches m n w h =
    g ∙ ap (λ (xs : List ℕ). xs ++ columns_from (m + n + w) h) (f ∙ ap (λ (xs : List ℕ). xs ++ columns_from 0 m) e) ∙
    append_assoc (columns_from m n) (columns_from 0 m) (columns_from (m + n + w) h) in
    subst (IsTable (n + m + h) (call_column m n w)) (sym k)
    (table_from (n + m + h) (call_column m n w) (call_stretches m n w h)
    (record {
      count =
          let x = length-columns_from m n in
          let y = length-columns_from 0 m in
          let z = length-columns_from (m + n + w) h in
          let p = length-append (columns_from m n) (columns_from 0 m ++ columns_from (m + n + w) h) in
          let q = length-append (columns_from 0 m) (columns_from (m + n + w) h) in
          omega (arith, x, y, z, p, q);
      value = λ c l. call_value m n w h c l;
    })
    (λ c d lc ld q. call_differs m n w c d q))
