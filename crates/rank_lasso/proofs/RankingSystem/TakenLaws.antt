-- What the rank at a point is made of: the numbers that are not 0 with their places, and bounds that are added up.
use Rattle.std.proofs.Common.{◌≡◌, ◌∙◌, ℕ, zero, suc, ◌+◌, ◌<◌, ◌≤◌, Bool, true, false, ℤ, pos, negsuc, ◌+ℤ◌, ◌-ℤ◌, ◌*ℤ◌, neg_ℤ, List, [], ◌∷◌, ◌++◌, length, take, drop, get_or, if◌then◌else◌, refl, sym, ap, subst, arith, append_assoc, append-nil, rules, FitsSigned}
use Rattle.std.specs.Prelude.{map, slice_index}
use Rattle.std.specs.Int.{w128}
use Rattle.std.specs.List.{AllByRecursion}
use Rattle.std.proofs.lemmas.Bool.{eqb-true, ne_eqb, false≢true}
use Rattle.std.proofs.lemmas.Int.{ints}
use Rattle.std.proofs.lemmas.List.{length-map}
use Rattle.math_facts.specs.Fits.{Fits}
use Rattle.math_facts.specs.Terms.{dot, opposite}
use Rattle.math_facts.proofs.Whole.{product_comm, product_zero_right}
use Rattle.lin_rows.specs.Rows.{LinearRow}
use Rattle.lin_rows.specs.Sums.{is_zero, led_by, summed}
use Rattle.lin_rows.specs.Points.{point_of, DotFits, HasSum}
use Rattle.lin_rows.specs.Combinations.{row_at, RunFits}
use Rattle.lin_rows.proofs.PointLemmas.{get_or-point_of}
use Rattle.letter_acts.specs.FrameRows.Rows.{columns_from}
use Rattle.rank_lasso.specs.LassoTurns.Claims.{at_versions}
use Rattle.rank_lasso.specs.RankingSystem.RankingSystem.{weighted, values_from, taken_by}
use Rattle.rank_lasso.proofs.RankingSystem.LeafLaws.{terms_from, summed_weighted, paired, dot_weighted, rows_listed}
use Rattle.rank_lasso.proofs.RankingSystem.SystemLaws.{weighted_below}
use Rattle.rank_lasso.proofs.RankingSystem.MakingLaws.{split_at, dropped}

-- ---- the numbers that are not 0

zero_is : (z : ℤ) → z ≡ pos 0 → is_zero z ≡ true
zero_is z e = ap is_zero e

zero_was : (z : ℤ) → is_zero z ≡ true → z ≡ pos 0
zero_was (pos n) h = ap pos (eqb-true n 0 h)
zero_was (negsuc n) h = absurd (false≢true h)

led : (n : ℕ) (z : ℤ) (ts : List (ℕ × ℤ)) (b : Bool) → is_zero z ≡ b → led_by n z ts ≡ (if b then ts else (n, z) ∷ ts)
led n z ts b e = ap (λ (c : Bool). if c then ts else (n, z) ∷ ts) e

not_zero : (z : ℤ) → (z ≡ pos 0 → ⊥) → is_zero z ≡ false
not_zero (pos n) h = ne_eqb n 0 (λ e. h (ap pos e))
not_zero (negsuc n) h = refl

terms_split : (xs : List ℤ) (i : ℕ) → i < length xs → terms_from i (drop i xs) ≡ led_by i (get_or xs i (pos 0)) (terms_from (i + 1) (drop (i + 1) xs))
terms_split xs i l =
    ap (terms_from i) (split_at xs i (pos 0) l) ∙
    ap (λ (k : ℕ). led_by i (get_or xs i (pos 0)) (terms_from k (drop (i + 1) xs))) (let n : suc i ≡ i + 1 = omega arith in n)

pub terms_taken : (xs : List ℤ) (i : ℕ) (now new whole : List (ℕ × ℤ)) → i < length xs → now ++ terms_from i (drop i xs) ≡ whole → (get_or xs i (pos 0) ≡ pos 0 → ⊥) →
    new ≡ now ++ (i, get_or xs i (pos 0)) ∷ [] → new ++ terms_from (i + 1) (drop (i + 1) xs) ≡ whole
terms_taken xs i now new whole l h n e =
    let z : ℤ = get_or xs i (pos 0) in
    let rest : List (ℕ × ℤ) = terms_from (i + 1) (drop (i + 1) xs) in
    ap (λ (v : List (ℕ × ℤ)). v ++ rest) e ∙ append_assoc now ((i, z) ∷ []) rest ∙
    ap (λ (v : List (ℕ × ℤ)). now ++ v) (sym (terms_split xs i l ∙ led i z rest false (not_zero z n))) ∙ h

pub terms_passed : (xs : List ℤ) (i : ℕ) (now whole : List (ℕ × ℤ)) → i < length xs → now ++ terms_from i (drop i xs) ≡ whole → get_or xs i (pos 0) ≡ pos 0 →
    now ++ terms_from (i + 1) (drop (i + 1) xs) ≡ whole
terms_passed xs i now whole l h n =
    let z : ℤ = get_or xs i (pos 0) in
    let rest : List (ℕ × ℤ) = terms_from (i + 1) (drop (i + 1) xs) in
    ap (λ (v : List (ℕ × ℤ)). now ++ v) (sym (terms_split xs i l ∙ led i z rest true (zero_is z n))) ∙ h

pub terms_end : (xs : List ℤ) (i : ℕ) (now : List (ℕ × ℤ)) → length xs ≤ i → now ++ terms_from i (drop i xs) ≡ terms_from 0 xs → now ≡ summed (weighted 0 xs)
terms_end xs i now l h =
    sym (append-nil now) ∙ ap (λ (v : List ℤ). now ++ terms_from i v) (sym (dropped i xs l)) ∙ h ∙ sym (summed_weighted 0 xs)

-- ---- the values of some unknowns

pub values_are : (xs : List ℤ) (o k : ℕ) → o + k ≤ length xs → values_from (point_of xs) o k ≡ take k (drop o xs)
values_are xs o zero l = refl
values_are xs o (suc k) l =
    let r : values_from (point_of xs) (suc o) k ≡ take k (drop (o + 1) xs) =
    values_are xs (suc o) k (omega (arith, l)) ∙ ap (λ (n : ℕ). take k (drop n xs)) (let n : suc o ≡ o + 1 = omega arith in n) in
    ap (λ (z : ℤ). z ∷ values_from (point_of xs) (suc o) k) (sym (get_or-point_of xs o (pos 0) (omega (arith, l)))) ∙
    ap (λ (v : List ℤ). get_or xs o (pos 0) ∷ v) r ∙ sym (ap (take (suc k)) (split_at xs o (pos 0) (omega (arith, l))))

-- values that are listed are those of the point that they make
own_values : (front xs : List ℤ) (n : ℕ) → n ≡ length front → map (point_of (front ++ xs)) (columns_from n (length xs)) ≡ xs
own_values front [] n e = refl
own_values front (x ∷ xs) n e =
    let here : point_of (front ++ x ∷ xs) n ≡ x = ap (point_of (front ++ x ∷ xs)) e ∙ behind front in
    let rest : map (point_of (front ++ x ∷ xs)) (columns_from (suc n) (length xs)) ≡ xs =
    subst (λ (v : List ℤ). map (point_of v) (columns_from (suc n) (length xs)) ≡ xs) (append_assoc front (x ∷ []) xs)
    (own_values (front ++ x ∷ []) xs (suc n) (ap suc e ∙ sym (longer front))) in
    cc
  where
    behind : (front : List ℤ) → point_of (front ++ x ∷ xs) (length front) ≡ x
    behind [] = refl
    behind (y ∷ front) = behind front

    longer : (front : List ℤ) → length (front ++ x ∷ []) ≡ suc (length front)
    longer [] = refl
    longer (y ∷ front) = ap suc (longer front)

-- ---- bounds that are added up

-- a leaf whose running sums of bounds fit adds them up with its multipliers
run_dot : (all : List LinearRow) (point : ℕ → ℤ) (n : ℕ) (bs zs : List ℤ) (sum : ℤ) (tail : List (ℕ × ℤ)) → length zs ≡ length bs →
    map (λ i. (row_at all i).bound) (columns_from n (length bs)) ≡ bs → map point (columns_from n (length zs)) ≡ zs → Fits sum →
    RunFits (λ r. r.bound) all sum (terms_from n zs ++ tail) → DotFits point sum (weighted n bs)
run_dot all point n [] zs sum tail l b p f h = tt
run_dot all point n (x ∷ bs) [] sum tail l b p f h = absurd (omega (arith, l))
run_dot all point n (x ∷ bs) (z ∷ zs) sum tail l b p f h =
    by_test (λ s g k. run_dot all point (suc n) bs zs s tail (omega (arith, l)) (ap (drop 1) b) (ap (drop 1) p) g k) (is_zero z) refl h
  where
    bound_is : (row_at all n).bound ≡ x
    bound_is = ap (λ (v : List ℤ). get_or v 0 (pos 0)) b

    value_is : point n ≡ z
    value_is = ap (λ (v : List ℤ). get_or v 0 (pos 0)) p

    product_is : x *ℤ point n ≡ z *ℤ (row_at all n).bound
    product_is = ap (λ (y : ℤ). x *ℤ y) value_is ∙ product_comm x z ∙ ap (λ (y : ℤ). z *ℤ y) (sym bound_is)

    nothing : Fits (pos 0)
    nothing = omega arith

    by_test : ((s : ℤ) → Fits s → RunFits (λ r. r.bound) all s (terms_from (suc n) zs ++ tail) → DotFits point s (weighted (suc n) bs)) → (c : Bool) → is_zero z ≡ c →
        RunFits (λ r. r.bound) all sum ((if c then terms_from (suc n) zs else (n, z) ∷ terms_from (suc n) zs) ++ tail) → DotFits point sum ((n, x) ∷ weighted (suc n) bs)
    by_test rest true e k =
        let zero : x *ℤ point n ≡ pos 0 = ap (λ (y : ℤ). x *ℤ y) (value_is ∙ zero_was z e) ∙ product_zero_right x in
        let same : sum ≡ sum +ℤ (x *ℤ point n) = omega (arith, ints, zero) in
        (subst Fits (sym zero) nothing, subst Fits same f, subst (λ (s : ℤ). DotFits point s (weighted (suc n) bs)) same (rest sum f k))
    by_test rest false e k =
        let same : sum +ℤ (z *ℤ (row_at all n).bound) ≡ sum +ℤ (x *ℤ point n) = ap (λ (y : ℤ). sum +ℤ y) (sym product_is) in (
          subst Fits (sym product_is) k.0,
          subst Fits same k.1,
          subst (λ (s : ℤ). DotFits point s (weighted (suc n) bs)) same (rest (sum +ℤ (z *ℤ (row_at all n).bound)) k.1 k.2),
        )

pub bounds_run : (rows : List LinearRow) (last : LinearRow) (zs : List ℤ) (m : ℤ) → length zs ≡ length rows →
    RunFits (λ r. r.bound) (rows ++ last ∷ []) (pos 0) (summed (weighted 0 zs) ++ (length rows, m) ∷ []) → DotFits (point_of zs) (pos 0) (weighted 0 (map (λ r. r.bound) rows))
bounds_run rows last zs m l h =
    let bs : List ℤ = map (λ r. r.bound) rows in
    let k : length bs ≡ length rows = length-map rows (λ r. r.bound) in
    run_dot (rows ++ last ∷ []) (point_of zs) 0 bs zs (pos 0) ((length rows, m) ∷ []) (l ∙ sym k)
    (ap (λ (n : ℕ). map (λ i. (row_at (rows ++ last ∷ []) i).bound) (columns_from 0 n)) k ∙ rows_listed (λ r. r.bound) [] rows (last ∷ []) 0 refl)
    (own_values [] zs 0 refl) (let f : Fits (pos 0) = omega arith in f)
    (subst (λ (v : List (ℕ × ℤ)). RunFits (λ r. r.bound) (rows ++ last ∷ []) (pos 0) (v ++ (length rows, m) ∷ [])) (summed_weighted 0 zs) h)

-- a sum whose running sums fit fits
pub dot_fits : (point : ℕ → ℤ) (sum : ℤ) (ts : List (ℕ × ℤ)) → Fits sum → DotFits point sum ts → Fits (sum +ℤ dot point ts)
dot_fits point sum [] f h = subst Fits (let e : sum ≡ sum +ℤ pos 0 = omega (arith, ints) in e) f
dot_fits point sum (t ∷ ts) f h =
    subst Fits (let e : (sum +ℤ (t.1 *ℤ point t.0)) +ℤ dot point ts ≡ sum +ℤ ((t.1 *ℤ point t.0) +ℤ dot point ts) = omega (arith, ints) in e)
    (dot_fits point (sum +ℤ (t.1 *ℤ point t.0)) ts h.1 h.2)

-- the sum of the bounds, by multipliers that are values of the unknowns from o on
pub bounds_sum : (p : ℕ → ℤ) (o : ℕ) (bs zs : List ℤ) → length zs ≡ length bs → zs ≡ values_from p o (length bs) → dot (point_of zs) (weighted 0 bs) ≡ dot p (weighted o bs)
bounds_sum p o bs zs l e =
    dot_weighted (point_of zs) 0 bs ∙ ap (λ (k : ℕ). paired bs (map (point_of zs) (columns_from 0 k))) (sym l) ∙
    ap (paired bs) (own_values [] zs 0 refl ∙ e) ∙ sym (dot_weighted p o bs)

-- a sum that is told fits, and so does its opposite
pub sum_fits : (values : List ℤ) (ts : List (ℕ × ℤ)) (sum : ℤ) → HasSum values ts → sum ≡ dot (point_of values) ts → Fits sum
sum_fits values ts sum h e =
    subst Fits (let z : pos 0 +ℤ dot (point_of values) ts ≡ sum = omega (arith, ints, e) in z) (dot_fits (point_of values) (pos 0) ts (let f : Fits (pos 0) = omega arith in f) h.fits)

pub negated_fits : (z : ℤ) → Fits z → Fits (pos 0 -ℤ z)
negated_fits z f = omega (arith, ints)

pub negated_is_kept : (z : ℤ) → Fits z → FitsSigned w128 (pos 0 -ℤ z)
negated_is_kept z f = search (rules, ints)

pub negated_is : (z y : ℤ) → z ≡ y → pos 0 -ℤ z ≡ neg_ℤ y
negated_is z y e = omega (arith, ints, e)

-- bounds have a sum at as many multipliers where the products and running sums fit
pub has_sum : (zs bs : List ℤ) → length zs ≡ length bs → DotFits (point_of zs) (pos 0) (weighted 0 bs) → HasSum zs (weighted 0 bs)
has_sum zs bs l h = record { below = weighted_below 0 (length zs) bs (omega (arith, l)); fits = h }

-- ---- the row that says that the rank does not fall

pub falls_next : (after : List ℕ) (terms : List (ℕ × ℤ)) (i : ℕ) (now new whole : List (ℕ × ℤ)) (c : ℕ) (z : ℤ) → i < length terms →
    now ++ opposite (at_versions after (drop i terms)) ≡ whole → new ≡ now ++ (c, z) ∷ [] → c ≡ slice_index after (get_or terms i (0, pos 0)).0 →
    z ≡ pos 0 -ℤ (get_or terms i (0, pos 0)).1 → new ++ opposite (at_versions after (drop (i + 1) terms)) ≡ whole
falls_next after terms i now new whole c z l h e f g =
    let t : ℕ × ℤ = get_or terms i (0, pos 0) in
    let rest : List (ℕ × ℤ) = opposite (at_versions after (drop (i + 1) terms)) in
    ap (λ (v : List (ℕ × ℤ)). v ++ rest) e ∙ append_assoc now ((c, z) ∷ []) rest ∙ ap (λ (k : ℕ). now ++ (k, z) ∷ rest) f ∙
    ap (λ (y : ℤ). now ++ (slice_index after t.0, y) ∷ rest) (g ∙ negated_is t.1 t.1 refl) ∙
    ap (λ (v : List (ℕ × ℤ)). now ++ opposite (at_versions after v)) (sym (split_at terms i (0, pos 0) l)) ∙ h

pub falls_end : (after : List ℕ) (terms : List (ℕ × ℤ)) (i : ℕ) (now whole : List (ℕ × ℤ)) → length terms ≤ i →
    now ++ opposite (at_versions after (drop i terms)) ≡ whole → now ≡ whole
falls_end after terms i now whole l h =
    sym (append-nil now) ∙ ap (λ (v : List (ℕ × ℤ)). now ++ opposite (at_versions after v)) (sym (dropped i terms l)) ∙ h

pub fits_at : (a b : List (ℕ × ℤ)) (i : ℕ) (d : ℕ × ℤ) → AllByRecursion (λ t. Fits t.1) (a ++ b) → i < length a → Fits (get_or a i d).1
fits_at [] b i d h l = absurd (omega (arith, l))
fits_at (t ∷ a) b zero d h l = h.0
fits_at (t ∷ a) b (suc i) d h l = fits_at a b i d h.1 (omega (arith, l))

-- ---- how often

pub taken_itself : (g : ℕ) → (g ≡ 0 → ⊥) → taken_by g ≡ g
taken_itself zero n = absurd (n refl)
taken_itself (suc g) n = refl
