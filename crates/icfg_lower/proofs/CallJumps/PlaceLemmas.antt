-- Places of numbers in lists.
use Rattle.std.proofs.Common.{◌≡◌, ◌⊎◌, inl, inr, ℕ, zero, suc, ◌+◌, ◌<◌, ◌≤◌, min, Bool, true, false, ◌||◌, nat_eq, List, [], ◌∷◌, ◌++◌, length, get_or, take, drop, Option, None, Some, if◌then◌else◌, refl, sym, ◌∙◌, ap, arith}
use Rattle.std.specs.Prelude.{slice_get, is_some}
use Rattle.std.proofs.Math.Seq.{drop-cons}
use Rattle.std.specs.Option.{option_map}
use Rattle.boogie_tree.specs.declared.tree.Ty.{Ty}
use Rattle.boogie_tree.specs.declared.tree.VarInfo.{VarInfo}
use Rattle.lowered_graph.specs.LoweredSteps.Edges.{found_from, typed_column, left_if, result_at, results_at}
use Rattle.letter_acts.specs.Reading.{is_listed}
use Rattle.icfg_lower.specs.CallJumps.Ties.Stands.{left_column}

-- a place counted from k on
pub found_later : (k : ℕ) (ms : List ℕ) (n : ℕ) → found_from k ms n ≡ option_map (λ i. k + i) (found_from 0 ms n)
found_later k [] n = refl
found_later k (m ∷ ms) n = by_test (nat_eq m n) (found_later (suc k) ms n) (found_later 1 ms n)
  where
    again : (o : Option ℕ) → option_map (λ i. suc k + i) o ≡ option_map (λ i. k + i) (option_map (λ i. 1 + i) o)
    again None = refl
    again (Some i) = let e : suc k + i ≡ k + (1 + i) = omega arith in ap Some e

    by_test : (b : Bool) → found_from (suc k) ms n ≡ option_map (λ i. suc k + i) (found_from 0 ms n) → found_from 1 ms n ≡ option_map (λ i. 1 + i) (found_from 0 ms n) →
        (if b then Some k else found_from (suc k) ms n) ≡ option_map (λ i. k + i) (if b then Some 0 else found_from 1 ms n)
    by_test true h g = let e : k ≡ k + 0 = omega arith in ap Some e
    by_test false h g = h ∙ again (found_from 0 ms n) ∙ ap (option_map (λ i. k + i)) (sym g)

-- a place is inside
pub found_inside : (k : ℕ) (ms : List ℕ) (n i : ℕ) → found_from k ms n ≡ Some i → (k ≤ i) × (i < k + length ms)
found_inside k [] n i h = absurd (cc)
found_inside k (m ∷ ms) n i h = by_test (nat_eq m n) (λ e. found_inside (suc k) ms n i e) h
  where
    by_test : (b : Bool) → (found_from (suc k) ms n ≡ Some i → (suc k ≤ i) × (i < suc k + length ms)) → (if b then Some k else found_from (suc k) ms n) ≡ Some i →
        (k ≤ i) × (i < k + suc (length ms))
    by_test true r e = let f : k ≡ i = cc in (omega arith, omega arith)
    by_test false r e = let g = r e in (omega arith, omega arith)

-- a number that stands in a list has a place there
pub found_where_in : (k : ℕ) (ms : List ℕ) (n : ℕ) → is_listed ms n ≡ true → (i : ℕ) × (found_from k ms n ≡ Some i)
found_where_in k [] n h = absurd (cc)
found_where_in k (m ∷ ms) n h = by_test (nat_eq m n) (λ e. found_where_in (suc k) ms n e) h
  where
    by_test : (b : Bool) → (is_listed ms n ≡ true → (i : ℕ) × (found_from (suc k) ms n ≡ Some i)) → (b || is_listed ms n) ≡ true →
        (i : ℕ) × ((if b then Some k else found_from (suc k) ms n) ≡ Some i)
    by_test true r e = (k, refl)
    by_test false r e = r e

pub in_append : (ms ns : List ℕ) (n : ℕ) → (is_listed ms n ≡ true) ⊎ (is_listed ns n ≡ true) → is_listed (ms ++ ns) n ≡ true
in_append [] ns n (inl h) = absurd (cc)
in_append [] ns n (inr h) = h
in_append (m ∷ ms) ns n h = by_test (nat_eq m n) (λ e. in_append ms ns n e) h
  where
    by_test : (b : Bool) → ((is_listed ms n ≡ true) ⊎ (is_listed ns n ≡ true) → is_listed (ms ++ ns) n ≡ true) → ((b || is_listed ms n) ≡ true) ⊎ (is_listed ns n ≡ true) → (b || is_listed (ms ++ ns) n) ≡ true
    by_test true r e = refl
    by_test false r e = r e

-- a number stands in a list where it has a place there
pub in_where_found : (k : ℕ) (ms : List ℕ) (n : ℕ) → is_listed ms n ≡ is_some (found_from k ms n)
in_where_found k [] n = refl
in_where_found k (m ∷ ms) n = by_test (nat_eq m n) (in_where_found (suc k) ms n)
  where
    by_test : (b : Bool) → is_listed ms n ≡ is_some (found_from (suc k) ms n) → (b || is_listed ms n) ≡ is_some (if b then Some k else found_from (suc k) ms n)
    by_test true r = refl
    by_test false r = r

-- the number at a place, where it is found
pub found_there : (ms : List ℕ) (n i x : ℕ) → i < length ms → x ≡ get_or ms i x → nat_eq x n ≡ true → found_from i (drop i ms) n ≡ found_from 0 ms n → Some i ≡ found_from 0 ms n
found_there ms n i x l e t h =
    let k : drop i ms ≡ x ∷ drop (suc i) ms = drop-cons ms i x l ∙ (λ j. sym e j ∷ drop (suc i) ms) in
    let f : found_from i (x ∷ drop (suc i) ms) n ≡ Some i = (rw t refl) in
    sym f ∙ (λ j. found_from i (sym k j) n) ∙ h

-- where a modified global is left
pub left_is : (globals : List VarInfo) (base n place column : ℕ) (v : VarInfo) (o h : Option ℕ) → o ≡ Some place → slice_get globals n ≡ Some v → column ≡ left_column base place h →
    Some (column, v.ty) ≡ left_if globals base n o h
left_is globals base n place column v o h e f g =
    (λ j. Some (g j, v.ty)) ∙ (λ j. typed_column (left_column base place h) (sym f j)) ∙ by_helper h ∙ (λ j. left_if globals base n (sym e j) h)
  where
    by_helper : (p : Option ℕ) → typed_column (left_column base place p) (slice_get globals n) ≡ left_if globals base n (Some place) p
    by_helper None = refl
    by_helper (Some c) = refl

pub unlisted : (globals : List VarInfo) (base n : ℕ) (o h : Option ℕ) → slice_get globals n ≡ None → None ≡ left_if globals base n o h
unlisted globals base n None h e = refl
unlisted globals base n (Some k) None e = λ j. typed_column (base + k) (sym e j)
unlisted globals base n (Some k) (Some c) e = λ j. typed_column c (sym e j)

pub helper_column : (helpers : ℕ) (ms : List ℕ) (n i base place : ℕ) → found_from 0 ms n ≡ Some i → helpers + i ≡ left_column base place (found_from helpers ms n)
helper_column helpers ms n i base place e = sym (ap (left_column base place) (found_later helpers ms n ∙ ap (option_map (λ z. helpers + z)) e))

pub written_column : (helpers : ℕ) (ms : List ℕ) (n base place : ℕ) → found_from 0 ms n ≡ None → base + place ≡ left_column base place (found_from helpers ms n)
written_column helpers ms n base place e = sym (ap (left_column base place) (found_later helpers ms n ∙ ap (option_map (λ z. helpers + z)) e))

-- the results of the first targets
pub results_taken : (base : ℕ) (written targets : List ℕ) (vs : List VarInfo) (n : ℕ) → (length targets ≤ n) ⊎ (length vs ≤ n) →
    results_at base written (take n targets) (take n vs) ≡ results_at base written targets vs
results_taken base written [] vs zero l = refl
results_taken base written [] vs (suc n) l = refl
results_taken base written (t ∷ ts) [] zero l = refl
results_taken base written (t ∷ ts) [] (suc n) l = refl
results_taken base written (t ∷ ts) (v ∷ vs) zero (inl l) = absurd (omega arith)
results_taken base written (t ∷ ts) (v ∷ vs) zero (inr l) = absurd (omega arith)
results_taken base written (t ∷ ts) (v ∷ vs) (suc n) (inl l) = ap (λ (rs : List (ℕ × Ty)). result_at base written t v ∷ rs) (results_taken base written ts vs n (inl (omega arith)))
results_taken base written (t ∷ ts) (v ∷ vs) (suc n) (inr l) = ap (λ (rs : List (ℕ × Ty)). result_at base written t v ∷ rs) (results_taken base written ts vs n (inr (omega arith)))

-- one result more
pub one_result_more : (base : ℕ) (written targets : List ℕ) (vs : List VarInfo) (n t : ℕ) (v : VarInfo) → n < length targets → n < length vs → t ≡ get_or targets n t → v ≡ get_or vs n v →
    results_at base written (take (n + 1) targets) (take (n + 1) vs) ≡ results_at base written (take n targets) (take n vs) ++ result_at base written t v ∷ []
one_result_more base written [] vs n t v l m e f = absurd (omega arith)
one_result_more base written (s ∷ ss) [] n t v l m e f = absurd (omega arith)
one_result_more base written (s ∷ ss) (u ∷ us) zero t v l m e f = λ j. result_at base written (sym e j) (sym f j) ∷ []
one_result_more base written (s ∷ ss) (u ∷ us) (suc n) t v l m e f =
    let i : suc n + 1 ≡ suc (n + 1) = omega arith in
    (λ j. results_at base written (take (i j) (s ∷ ss)) (take (i j) (u ∷ us)))
    ∙ ap (λ (rs : List (ℕ × Ty)). result_at base written s u ∷ rs) (one_result_more base written ss us n t v (omega arith) (omega arith) e f)

pub get_or-inside : (xs : List ℕ) (n a b : ℕ) → n < length xs → get_or xs n a ≡ get_or xs n b
get_or-inside [] n a b l = absurd (omega arith)
get_or-inside (x ∷ xs) zero a b l = refl
get_or-inside (x ∷ xs) (suc n) a b l = get_or-inside xs n a b (omega arith)

pub one_ends : (a b n : ℕ) → min a b ≤ n → (a ≤ n) ⊎ (b ≤ n)
one_ends a b n l = grind arith

-- what a lookup gives
pub got_is : {X : Type 0} (xs : List X) (n : ℕ) (x : X) → n < length xs → x ≡ get_or xs n x → slice_get xs n ≡ Some x
got_is [] n x l e = absurd (omega arith)
got_is (y ∷ ys) zero x l e = λ j. Some (sym e j)
got_is (y ∷ ys) (suc n) x l e = got_is ys n x (omega arith) e
