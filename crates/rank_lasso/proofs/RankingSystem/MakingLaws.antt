-- The lists that the rows of a ranking system are made of, from the front: what one step more adds.
use Rattle.std.proofs.Common.{◌≡◌, ◌∙◌, ℕ, zero, suc, ◌+◌, ◌<◌, ◌≤◌, Bool, true, false, ℤ, pos, negsuc, neg_ℤ, List, [], ◌∷◌, ◌++◌, length, drop, get_or, nat_eq, if◌then◌else◌, refl, sym, ap, arith, add-one, drop-cons, append_assoc, append-nil}
use Rattle.std.specs.Prelude.{map}
use Rattle.std.proofs.lemmas.List.{map-append}
use Rattle.math_facts.specs.Terms.{coefficient, opposite}
use Rattle.lin_rows.specs.Rows.{LinearRow, AscendsFrom}
use Rattle.lin_rows.proofs.Ascending.{coefficient_below, coefficient_first, coefficient_rest}
use Rattle.letter_acts.specs.FrameRows.Rows.{columns_from}
use Rattle.letter_acts.proofs.FrameRows.LoopLaws.{counted_next}
use Rattle.rank_lasso.specs.RankingSystem.RankingSystem.{weighted, across, standing_at, first_coefficient, signs_of, signs}

-- what is left behind a step
pub dropped : {X : Type 0} (i : ℕ) (xs : List X) → length xs ≤ i → drop i xs ≡ []
dropped zero [] l = refl
dropped (suc i) [] l = refl
dropped zero (x ∷ xs) l = absurd (omega (arith, l))
dropped (suc i) (x ∷ xs) l = dropped i xs (omega (arith, l))

pub split_at : {X : Type 0} (xs : List X) (i : ℕ) (d : X) → i < length xs → drop i xs ≡ get_or xs i d ∷ drop (i + 1) xs
split_at {X} xs i d l = rw (add-one, drop-cons xs i d) refl

-- ---- weighted numbers

pub weighted_next : {X : Type 0} (f : X → ℤ) (first : ℕ) (xs : List X) (i : ℕ) (d : X) (now new whole : List (ℕ × ℤ)) (z : ℤ) → i < length xs →
    now ++ weighted (first + i) (map f (drop i xs)) ≡ whole → new ≡ now ++ (first + i, z) ∷ [] → z ≡ f (get_or xs i d) →
    new ++ weighted (first + (i + 1)) (map f (drop (i + 1) xs)) ≡ whole
weighted_next {X} f first xs i d now new whole z l h e g =
    let rest : List (ℕ × ℤ) = weighted (suc (first + i)) (map f (drop (i + 1) xs)) in
    ap (λ (k : ℕ). new ++ weighted k (map f (drop (i + 1) xs))) (let n : first + (i + 1) ≡ suc (first + i) = omega arith in n) ∙
    ap (λ (v : List (ℕ × ℤ)). v ++ rest) e ∙ append_assoc now ((first + i, z) ∷ []) rest ∙
    ap (λ (y : ℤ). now ++ (first + i, y) ∷ rest) g ∙ ap (λ (v : List X). now ++ weighted (first + i) (map f v)) (sym (split_at xs i d l)) ∙ h

pub weighted_ends : {X : Type 0} (f : X → ℤ) (first : ℕ) (xs : List X) (i : ℕ) (now whole : List (ℕ × ℤ)) → length xs ≤ i →
    now ++ weighted (first + i) (map f (drop i xs)) ≡ whole → now ≡ whole
weighted_ends {X} f first xs i now whole l h =
    sym (append-nil now) ∙ ap (λ (v : List X). now ++ weighted (first + i) (map f v)) (sym (dropped i xs l)) ∙ h

-- the factor 1, and the factor -1
pub standing_less : (n c : ℕ) (versions : List ℕ) → weighted n (map (λ v. if nat_eq v c then negsuc 0 else pos 0) versions) ≡ opposite (standing_at n c versions)
standing_less n c [] = refl
standing_less n c (v ∷ versions) =
    ap (λ (z : ℤ). (n, z) ∷ weighted (suc n) (map (λ v. if nat_eq v c then negsuc 0 else pos 0) versions)) (by_test (nat_eq v c)) ∙
    ap (λ (l : List (ℕ × ℤ)). (n, neg_ℤ (if nat_eq v c then pos 1 else pos 0)) ∷ l) (standing_less (suc n) c versions)
  where
    by_test : (b : Bool) → (if b then negsuc 0 else pos 0) ≡ neg_ℤ (if b then pos 1 else pos 0)
    by_test true = refl
    by_test false = refl

-- what the row of a column is made of
pub falls_given : (rows : List LinearRow) (before after : List ℕ) (c : ℕ) (one two three : List (ℕ × ℤ)) → one ≡ weighted 0 (across c rows) →
    two ≡ one ++ standing_at (first_coefficient rows) c before → three ≡ two ++ weighted (first_coefficient rows) (map (λ v. if nat_eq v c then negsuc 0 else pos 0) after) →
    three ≡ weighted 0 (across c rows) ++ (standing_at (first_coefficient rows) c before ++ opposite (standing_at (first_coefficient rows) c after))
falls_given rows before after c one two three e f g =
    let a : List (ℕ × ℤ) = weighted 0 (across c rows) in
    let x : List (ℕ × ℤ) = standing_at (first_coefficient rows) c before in
    let y : List (ℕ × ℤ) = opposite (standing_at (first_coefficient rows) c after) in
    g ∙ ap (λ (v : List (ℕ × ℤ)). two ++ v) (standing_less (first_coefficient rows) c after) ∙
    ap (λ (v : List (ℕ × ℤ)). v ++ y) (f ∙ ap (λ (v : List (ℕ × ℤ)). v ++ x) e) ∙ append_assoc a x y

-- ---- rows

one_column : (i : ℕ) → columns_from 0 (i + 1) ≡ columns_from 0 i ++ i ∷ []
one_column i = let e : columns_from 0 i ++ i ∷ [] ≡ columns_from 0 (i + 1) = counted_next 0 i [] (columns_from 0 i) (columns_from 0 i ++ i ∷ []) refl (ap (λ (k : ℕ). columns_from 0 i ++ k ∷ []) (let z : i ≡ 0 + i = omega arith in z)) in sym e

-- the row of the next column
pub column_next : (f : ℕ → LinearRow) (i : ℕ) (start now new : List LinearRow) (r : LinearRow) → now ≡ start ++ map f (columns_from 0 i) → new ≡ now ++ r ∷ [] → r ≡ f i →
    new ≡ start ++ map f (columns_from 0 (i + 1))
column_next f i start now new r h e g =
    let more : map f (columns_from 0 (i + 1)) ≡ map f (columns_from 0 i) ++ f i ∷ [] = ap (map f) (one_column i) ∙ map-append f (columns_from 0 i) (i ∷ []) in
    e ∙ ap (λ (v : List LinearRow). v ++ r ∷ []) h ∙ append_assoc start (map f (columns_from 0 i)) (r ∷ []) ∙
    ap (λ (q : LinearRow). start ++ (map f (columns_from 0 i) ++ q ∷ [])) g ∙ sym (ap (λ (v : List LinearRow). start ++ v) more)

-- rows that are made in three parts
pub rows_made : (falls bounded ends one two three : List LinearRow) → one ≡ falls → two ≡ one ++ bounded → three ≡ two ++ ends → three ≡ falls ++ (bounded ++ ends)
rows_made falls bounded ends one two three e f g =
    g ∙ ap (λ (v : List LinearRow). v ++ ends) (f ∙ ap (λ (v : List LinearRow). v ++ bounded) e) ∙ append_assoc falls bounded ends

-- the signs of the next row
pub signs_next : (j : ℕ) (rows : List LinearRow) (i : ℕ) (d : LinearRow) (now new whole : List LinearRow) → i < length rows →
    now ++ signs i (j + i) (drop i rows) ≡ whole → new ≡ now ++ signs_of (get_or rows i d).kind i (j + i) → new ++ signs (i + 1) (j + (i + 1)) (drop (i + 1) rows) ≡ whole
signs_next j rows i d now new whole l h e =
    let rest : List LinearRow = signs (suc i) (suc (j + i)) (drop (i + 1) rows) in
    ap (λ (k : ℕ). new ++ signs k (j + (i + 1)) (drop (i + 1) rows)) (let n : i + 1 ≡ suc i = omega arith in n) ∙
    ap (λ (k : ℕ). new ++ signs (suc i) k (drop (i + 1) rows)) (let n : j + (i + 1) ≡ suc (j + i) = omega arith in n) ∙
    ap (λ (v : List LinearRow). v ++ rest) e ∙ append_assoc now (signs_of (get_or rows i d).kind i (j + i)) rest ∙
    ap (λ (v : List LinearRow). now ++ signs i (j + i) v) (sym (split_at rows i d l)) ∙ h

pub signs_end : (j : ℕ) (rows : List LinearRow) (i : ℕ) (now whole : List LinearRow) → length rows ≤ i → now ++ signs i (j + i) (drop i rows) ≡ whole → now ≡ whole
signs_end j rows i now whole l h = sym (append-nil now) ∙ ap (λ (v : List LinearRow). now ++ signs i (j + i) v) (sym (dropped i rows l)) ∙ h

-- ---- terms that ascend, by their columns

ascends_sorted : (low : ℕ) (ts : List (ℕ × ℤ)) → AscendsFrom low ts → (i : ℕ) (d : ℕ × ℤ) → i < length ts → low ≤ (get_or ts i d).0
ascends_sorted low [] a i d l = absurd (omega (arith, l))
ascends_sorted low (t ∷ ts) a zero d l = a.0
ascends_sorted low (t ∷ ts) a (suc i) d l =
    let h = ascends_sorted (t.0 + 1) ts a.1 i d (omega (arith, l)) in
    let k = a.0 in omega (arith, h, k)

-- a term at a place has the coefficient of its column
pub at_place : (low : ℕ) (ts : List (ℕ × ℤ)) (c i : ℕ) (d : ℕ × ℤ) → AscendsFrom low ts → i < length ts → (get_or ts i d).0 ≡ c → (get_or ts i d).1 ≡ coefficient c ts
at_place low [] c i d a l e = absurd (omega (arith, l))
at_place low (t ∷ ts) c zero d a l e = sym (coefficient_first c t ts a.1 e)
at_place low (t ∷ ts) c (suc i) d a l e =
    let m : t.0 + 1 ≤ (get_or ts i d).0 = ascends_sorted (t.0 + 1) ts a.1 i d (omega (arith, l)) in
    at_place (t.0 + 1) ts c i d a.1 (omega (arith, l)) e ∙ sym (coefficient_rest c t ts (λ (k : t.0 ≡ c). omega (arith, m, e, k)))

-- a column between the terms before a place and those from there on stands in none
pub none_at : (low : ℕ) (ts : List (ℕ × ℤ)) (c i : ℕ) (d : ℕ × ℤ) → AscendsFrom low ts → ((k : ℕ) (d : ℕ × ℤ) → k < i → k < length ts → (get_or ts k d).0 < c) →
    ((k : ℕ) (d : ℕ × ℤ) → i ≤ k → k < length ts → c ≤ (get_or ts k d).0) → (i < length ts → (get_or ts i d).0 ≡ c → ⊥) → pos 0 ≡ coefficient c ts
none_at low [] c i d a f g n = refl
none_at low (t ∷ ts) c zero d a f g n =
    let l : c ≤ t.0 = g zero t (omega arith) (omega arith) in
    let m : t.0 ≡ c → ⊥ = n (omega arith) in
    sym (coefficient_below t.0 c (t ∷ ts) ((let h : t.0 ≤ t.0 = omega arith in h), a.1) (below c t.0 l m))
  where
    below : (x y : ℕ) → x ≤ y → (y ≡ x → ⊥) → x < y
    below x y l m = omega (arith, l, m)
none_at low (t ∷ ts) c (suc i) d a f g n =
    let l : t.0 < c = f zero t (omega arith) (omega arith) in
    none_at (t.0 + 1) ts c i d a.1 (λ k d m p. f (suc k) d (omega (arith, m)) (omega (arith, p))) (λ k d m p. g (suc k) d (omega (arith, m)) (omega (arith, p)))
    (λ m. n (omega (arith, m))) ∙ sym (coefficient_rest c t ts (λ (e : t.0 ≡ c). omega (arith, e, l)))

-- the terms are in the order of their columns
pub ascends_by : (low : ℕ) (ts : List (ℕ × ℤ)) → AscendsFrom low ts → (i j : ℕ) (d : ℕ × ℤ) → i ≤ j → j < length ts → (get_or ts i d).0 ≤ (get_or ts j d).0
ascends_by low [] a i j d l m = absurd (omega (arith, m))
ascends_by low (t ∷ ts) a zero zero d l m = omega arith
ascends_by low (t ∷ ts) a zero (suc j) d l m =
    let h = ascends_sorted (t.0 + 1) ts a.1 j d (omega (arith, m)) in omega (arith, h)
ascends_by low (t ∷ ts) a (suc i) zero d l m = absurd (omega (arith, l))
ascends_by low (t ∷ ts) a (suc i) (suc j) d l m = ascends_by (t.0 + 1) ts a.1 i j d (omega (arith, l)) (omega (arith, m))
