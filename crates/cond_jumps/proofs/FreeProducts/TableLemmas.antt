-- The tables by which the code makes letters.
use Rattle.std.proofs.Common.{◌≡◌, ◌⊎◌, inl, inr, ℕ, zero, suc, ◌+◌, ◌-◌, ◌<◌, ◌≤◌, Bool, true, false, not, ◌&&◌, ◌||◌, nat_eq, ℤ, List, [], ◌∷◌, ◌++◌, length, get_or, replicate, Option, None, Some, if◌then◌else◌, refl, ap, sym, ◌∙◌, arith}
use Rattle.std.specs.Prelude.{slice_set}
use Rattle.std.specs.List.{list_any}
use Rattle.std.specs.Option.{is_some}
use Rattle.std.proofs.lemmas.Bool.{cases_lt, or_parts, or_from, lt-ltb, le-ltb, eq-eqb, ne_eqb, eqb-true, both_ways}
use Rattle.lin_rows.specs.Rows.{LinearRow}
use Rattle.cond_jumps.specs.Frames.{or_else}
use Rattle.cond_jumps.specs.FreeProducts.Letters.{ProductSpan, is_product_column, is_helper_column, names_any, tie_of, if_helper, product_of, plain_rows, is_left_out, staying, is_of_product}
use Rattle.cond_jumps.specs.FreeProducts.LetterView.{tabulated, tied_by, cleared, cleared_rows, numbered, placed}
use Rattle.cond_jumps.proofs.FreeProducts.SpanLemmas.{inside, no_product}
use Rattle.cond_jumps.proofs.FreeProducts.NarrowLemmas.{staying-append, all_staying}

-- ---- tables

pub length-tabulated : {X : Type 0} (f : ℕ → X) (n k : ℕ) → length (tabulated f n k) ≡ k
length-tabulated f n zero = refl
length-tabulated f n (suc k) = ap suc (length-tabulated f (suc n) k)

pub same_table : {X : Type 0} (f g : ℕ → X) (n k : ℕ) → ((c : ℕ) → n ≤ c → c < n + k → f c ≡ g c) → tabulated f n k ≡ tabulated g n k
same_table f g n zero h = refl
same_table f g n (suc k) h =
    let x = h n (omega arith) (omega arith) in
    let y = same_table f g (suc n) k (λ c l u. h c (omega arith) (omega arith)) in
    λ i. x i ∷ y i

pub replicated : {X : Type 0} (x : X) (n k : ℕ) → replicate k x ≡ tabulated (λ (c : ℕ). x) n k
replicated x n zero = refl
replicated x n (suc k) = ap (λ xs. x ∷ xs) (replicated x (suc n) k)

-- one entry more
pub pushed_table : {X : Type 0} (f : ℕ → X) (n k : ℕ) (x : X) → x ≡ f (n + k) → tabulated f n k ++ x ∷ [] ≡ tabulated f n (suc k)
pushed_table f n zero x e = let z : n + 0 ≡ n = omega arith in ap (λ y. y ∷ []) (e ∙ ap f z)
pushed_table f n (suc k) x e = let z : n + suc k ≡ suc n + k = omega arith in ap (λ ys. f n ∷ ys) (pushed_table f (suc n) k x (e ∙ ap f z))

pub get-tabulated : {X : Type 0} (f : ℕ → X) (n k i c : ℕ) (d : X) → i < k → c ≡ n + i → get_or (tabulated f n k) i d ≡ f c
get-tabulated f n zero i c d l e = absurd (omega arith)
get-tabulated f n (suc k) zero c d l e = let g : n ≡ c = omega (arith, e) in ap f g
get-tabulated f n (suc k) (suc i) c d l e = get-tabulated f (suc n) k i c d (omega arith) (omega (arith, e))

-- a table with another entry at one place
pub set-tabulated : {X : Type 0} (f : ℕ → X) (x : X) (n k i m : ℕ) → m ≡ n + i → slice_set (tabulated f n k) i x ≡ tabulated (λ c. if nat_eq m c then x else f c) n k
set-tabulated f x n zero i m e = refl
set-tabulated {X} f x n (suc k) zero m e =
    let g : m ≡ n = omega (arith, e) in
    let y : x ≡ (if nat_eq m n then x else f n) = ap (λ (b : Bool). if b then x else f n) (sym (eq-eqb m n g)) in
    let z : tabulated f (suc n) k ≡ tabulated (λ c. if nat_eq m c then x else f c) (suc n) k =
    same_table f (λ c. if nat_eq m c then x else f c) (suc n) k (λ c l u. ap (λ (b : Bool). if b then x else f c) (sym (ne_eqb m c (λ q. omega (arith, g, q))))) in
    λ i. y i ∷ z i
set-tabulated {X} f x n (suc k) (suc i) m e =
    let y : f n ≡ (if nat_eq m n then x else f n) = ap (λ (b : Bool). if b then x else f n) (sym (ne_eqb m n (λ q. omega (arith, e, q)))) in
    let z = set-tabulated f x (suc n) k i m (omega (arith, e)) in
    λ j. y j ∷ z j

-- ---- which product a helper has

pub tied_by_products : (s : ProductSpan) (rows : List LinearRow) (ps : List (Option ℕ)) → ps ≡ tabulated (product_of s rows) s.base (s.top - s.base) → (c : ℕ) → tied_by s ps c ≡ product_of s rows c
tied_by_products s rows ps e c = by_test (is_helper_column s c) refl
  where
    by_test : (b : Bool) → is_helper_column s c ≡ b → (if b then get_or ps (c - s.base) None else None) ≡ product_of s rows c
    by_test false f = sym (no_product s rows c f)
    by_test true f =
        let p = inside s.base s.top c f in
        let l = p.0 in
        let u = p.1 in
        ap (λ (qs : List (Option ℕ)). get_or qs (c - s.base) None) e ∙
        get-tabulated (product_of s rows) s.base (s.top - s.base) (c - s.base) c None (omega (arith, l, u)) (omega (arith, l))

-- a row in front: its tie is the first
pub product_step : (s : ProductSpan) (r : LinearRow) (rows : List LinearRow) (o : Option (ℕ × ℕ)) → tie_of s r ≡ o → (n k : ℕ) →
    tabulated (product_of s (r ∷ rows)) n k ≡ tabulated (λ c. or_else (if_helper c o) (product_of s rows c)) n k
product_step s r rows o e n k =
    same_table (product_of s (r ∷ rows)) (λ c. or_else (if_helper c o) (product_of s rows c)) n k (λ c l u. ap (λ (x : Option (ℕ × ℕ)). or_else (if_helper c x) (product_of s rows c)) e)

pub tied_step : (s : ProductSpan) (rows : List LinearRow) (p h n k : ℕ) → n ≤ h →
    slice_set (tabulated (product_of s rows) n k) (h - n) (Some p) ≡ tabulated (λ c. or_else (if_helper c (Some (p, h))) (product_of s rows c)) n k
tied_step s rows p h n k l =
    set-tabulated (product_of s rows) (Some p) n k (h - n) h (omega (arith, l)) ∙
    same_table (λ c. if nat_eq h c then Some p else product_of s rows c) (λ c. or_else (if_helper c (Some (p, h))) (product_of s rows c)) n k (λ c a b. by_test (nat_eq h c) (product_of s rows c))
  where
    by_test : (b : Bool) (o : Option ℕ) → (if b then Some p else o) ≡ or_else (if b then Some p else None) o
    by_test true o = refl
    by_test false o = refl

-- ---- which columns are left out

pub cleared_table : (f : ℕ → Bool) (ts : List (ℕ × ℤ)) (k : ℕ) → cleared ts (tabulated f 0 k) ≡ tabulated (λ c. not (list_any (λ (t : ℕ × ℤ). nat_eq c t.0) ts) && f c) 0 k
cleared_table f [] k = refl
cleared_table f (t ∷ ts) k =
    ap (cleared ts) (set-tabulated f false 0 k t.0 t.0 (omega arith)) ∙ cleared_table (λ c. if nat_eq t.0 c then false else f c) ts k ∙
    same_table (λ c. not (list_any (λ (u : ℕ × ℤ). nat_eq c u.0) ts) && (if nat_eq t.0 c then false else f c)) (λ c. not (list_any (λ (u : ℕ × ℤ). nat_eq c u.0) (t ∷ ts)) && f c) 0 k
    (λ c l u. swapped c ∙ by_test (nat_eq c t.0) (list_any (λ (u : ℕ × ℤ). nat_eq c u.0) ts) (f c))
  where
    swapped : (c : ℕ) → (not (list_any (λ (u : ℕ × ℤ). nat_eq c u.0) ts) && (if nat_eq t.0 c then false else f c)) ≡ (not (list_any (λ (u : ℕ × ℤ). nat_eq c u.0) ts) && (if nat_eq c t.0 then false else f c))
    swapped c = ap (λ (b : Bool). not (list_any (λ (u : ℕ × ℤ). nat_eq c u.0) ts) && (if b then false else f c)) (both (nat_eq t.0 c) (nat_eq c t.0) refl refl)
      where
        both : (x y : Bool) → nat_eq t.0 c ≡ x → nat_eq c t.0 ≡ y → x ≡ y
        both true true e g = refl
        both false false e g = refl
        both true false e g = absurd (both_ways (nat_eq c t.0) g (eq-eqb c t.0 (sym (eqb-true t.0 c e))))
        both false true e g = absurd (both_ways (nat_eq t.0 c) e (eq-eqb t.0 c (sym (eqb-true c t.0 g))))

    by_test : (x y z : Bool) → (not y && (if x then false else z)) ≡ (not (x || y) && z)
    by_test true true z = refl
    by_test true false z = refl
    by_test false true z = refl
    by_test false false z = refl

pub cleared_rows_table : (s : ProductSpan) (f : ℕ → Bool) (rows : List LinearRow) (k : ℕ) →
    cleared_rows s rows (tabulated f 0 k) ≡ tabulated (λ c. not (list_any (names_any (nat_eq c)) (plain_rows s rows)) && f c) 0 k
cleared_rows_table s f [] k = refl
cleared_rows_table s f (r ∷ rows) k =
    by_test (names_any (is_product_column s) r) (cleared_rows_table s f rows k) (cleared_rows_table s (λ c. not (names_any (nat_eq c) r) && f c) rows k)
  where
    by_test : (b : Bool) → cleared_rows s rows (tabulated f 0 k) ≡ tabulated (λ c. not (list_any (names_any (nat_eq c)) (plain_rows s rows)) && f c) 0 k →
        cleared_rows s rows (tabulated (λ c. not (names_any (nat_eq c) r) && f c) 0 k) ≡ tabulated (λ c. not (list_any (names_any (nat_eq c)) (plain_rows s rows)) && (not (names_any (nat_eq c) r) && f c)) 0 k →
        cleared_rows s rows (if b then tabulated f 0 k else cleared r.terms (tabulated f 0 k)) ≡
        tabulated (λ c. not (list_any (names_any (nat_eq c)) (if not b then r ∷ plain_rows s rows else plain_rows s rows)) && f c) 0 k
    by_test true g h = g
    by_test false g h =
        ap (cleared_rows s rows) (cleared_table f r.terms k) ∙ h ∙
        same_table (λ c. not (list_any (names_any (nat_eq c)) (plain_rows s rows)) && (not (names_any (nat_eq c) r) && f c)) (λ c. not (list_any (names_any (nat_eq c)) (r ∷ plain_rows s rows)) && f c) 0 k
        (λ c l u. joined (names_any (nat_eq c) r) (list_any (names_any (nat_eq c)) (plain_rows s rows)) (f c))
      where
        joined : (x y z : Bool) → (not y && (not x && z)) ≡ (not (x || y) && z)
        joined true true z = refl
        joined true false z = refl
        joined false true z = refl
        joined false false z = refl

-- a row that names no product names no product's column
plain_silent : (s : ProductSpan) (rows : List LinearRow) (c : ℕ) → is_product_column s c ≡ true → list_any (names_any (nat_eq c)) (plain_rows s rows) ≡ false
plain_silent s [] c e = refl
plain_silent s (r ∷ rows) c e = by_test (names_any (is_product_column s) r) refl (plain_silent s rows c e)
  where
    silent : (ts : List (ℕ × ℤ)) → list_any (λ (t : ℕ × ℤ). is_product_column s t.0) ts ≡ false → list_any (λ (t : ℕ × ℤ). nat_eq c t.0) ts ≡ false
    silent [] f = refl
    silent (t ∷ ts) f =
        let p = or_parts (is_product_column s t.0) (list_any (λ (t : ℕ × ℤ). is_product_column s t.0) ts) f in
        or_from (nat_eq c t.0) (list_any (λ (t : ℕ × ℤ). nat_eq c t.0) ts) (other (nat_eq c t.0) refl t.0 p.0) (silent ts p.1)
      where
        other : (b : Bool) → nat_eq c t.0 ≡ b → (d : ℕ) → is_product_column s t.0 ≡ false → b ≡ false
        other false g d h = refl
        other true g d h = absurd (both_ways (is_product_column s c) (ap (is_product_column s) (eqb-true c t.0 g) ∙ h) e)

    by_test : (b : Bool) → names_any (is_product_column s) r ≡ b → list_any (names_any (nat_eq c)) (plain_rows s rows) ≡ false →
        list_any (names_any (nat_eq c)) (if not b then r ∷ plain_rows s rows else plain_rows s rows) ≡ false
    by_test true f h = h
    by_test false f h = or_from (names_any (nat_eq c) r) (list_any (names_any (nat_eq c)) (plain_rows s rows)) (silent r.terms f) h

-- the columns that are left out: those of products and the tied helpers, less those that rows without products name
pub left_out_table : (s : ProductSpan) (rows : List LinearRow) (ps : List (Option ℕ)) → ps ≡ tabulated (product_of s rows) s.base (s.top - s.base) → (k : ℕ) →
    cleared_rows s rows (tabulated (λ c. is_product_column s c || is_some (tied_by s ps c)) 0 k) ≡ tabulated (is_left_out s rows) 0 k
left_out_table s rows ps e k =
    cleared_rows_table s (λ c. is_product_column s c || is_some (tied_by s ps c)) rows k ∙
    same_table (λ c. not (list_any (names_any (nat_eq c)) (plain_rows s rows)) && (is_product_column s c || is_some (tied_by s ps c))) (is_left_out s rows) 0 k
    (λ c l u. ap (λ (o : Option ℕ). not (list_any (names_any (nat_eq c)) (plain_rows s rows)) && (is_product_column s c || is_some o)) (tied_by_products s rows ps e c) ∙
    by_tests (is_product_column s c) (list_any (names_any (nat_eq c)) (plain_rows s rows)) (is_some (product_of s rows c)) (λ f. plain_silent s rows c f))
  where
    by_tests : (x y z : Bool) → (x ≡ true → y ≡ false) → (not y && (x || z)) ≡ (x || (z && not y))
    by_tests true true z h = absurd (let f : true ≡ false = h refl in cc)
    by_tests true false z h = refl
    by_tests false true true h = refl
    by_tests false true false h = refl
    by_tests false false true h = refl
    by_tests false false false h = refl

-- ---- exact rows

pub exact_by : (s : ProductSpan) (rows : List LinearRow) (ps : List (Option ℕ)) → ps ≡ tabulated (product_of s rows) s.base (s.top - s.base) → (r : LinearRow) →
    names_any (λ c. is_product_column s c || is_some (tied_by s ps c)) r ≡ names_any (is_of_product s rows) r
exact_by s rows ps e r = λ i. names_any (λ c. is_product_column s c || is_some (tied_by_products s rows ps e c i)) r

-- ---- the numbers of the columns that stay

pub numbered_table : (f : ℕ → Bool) (n m k : ℕ) → numbered m (tabulated f n k) ≡ tabulated (λ c. m + staying f n (c - n)) n (suc k)
numbered_table f n m zero =
    let d : n - n ≡ 0 = omega arith in
    let z : m ≡ m + staying f n (n - n) = (let g : staying f n (n - n) ≡ 0 = ap (staying f n) d in omega (arith, g)) in
    λ i. z i ∷ []
numbered_table f n m (suc k) =
    let d : n - n ≡ 0 = omega arith in
    let z : m ≡ m + staying f n (n - n) = (let g : staying f n (n - n) ≡ 0 = ap (staying f n) d in omega (arith, g)) in
    let y = by_test (f n) refl (numbered_table f (suc n) m k) (numbered_table f (suc n) (suc m) k) in
    λ i. z i ∷ y i
  where
    by_test : (b : Bool) → f n ≡ b → numbered m (tabulated f (suc n) k) ≡ tabulated (λ c. m + staying f (suc n) (c - suc n)) (suc n) (suc k) →
        numbered (suc m) (tabulated f (suc n) k) ≡ tabulated (λ c. suc m + staying f (suc n) (c - suc n)) (suc n) (suc k) →
        numbered (if b then m else suc m) (tabulated f (suc n) k) ≡ tabulated (λ c. m + staying f n (c - n)) (suc n) (suc k)
    by_test true e g h =
        g ∙ same_table (λ c. m + staying f (suc n) (c - suc n)) (λ c. m + staying f n (c - n)) (suc n) (suc k)
        (λ c l u.
        let q : c - n ≡ suc (c - suc n) = omega (arith, l) in
        let r : staying f n (c - n) ≡ staying f (suc n) (c - suc n) =
        ap (staying f n) q ∙ ap (λ (t : Bool). if t then staying f (suc n) (c - suc n) else suc (staying f (suc n) (c - suc n))) e in
        omega (arith, r))
    by_test false e g h =
        h ∙ same_table (λ c. suc m + staying f (suc n) (c - suc n)) (λ c. m + staying f n (c - n)) (suc n) (suc k)
        (λ c l u.
        let q : c - n ≡ suc (c - suc n) = omega (arith, l) in
        let r : staying f n (c - n) ≡ suc (staying f (suc n) (c - suc n)) =
        ap (staying f n) q ∙ ap (λ (t : Bool). if t then staying f (suc n) (c - suc n) else suc (staying f (suc n) (c - suc n))) e in
        omega (arith, r))

-- the table of all columns
pub places_are : (f : ℕ → Bool) (k : ℕ) (out : List Bool) (places : List ℕ) → places ≡ numbered 0 out → out ≡ tabulated f 0 k → places ≡ tabulated (staying f 0) 0 (suc k)
places_are f k out places e g =
    e ∙ ap (numbered 0) g ∙ numbered_table f 0 0 k ∙
    same_table (λ c. 0 + staying f 0 (c - 0)) (staying f 0) 0 (suc k) (λ c l u. let q : c - 0 ≡ c = omega arith in let r : staying f 0 (c - 0) ≡ staying f 0 c = ap (staying f 0) q in omega (arith, r))

pub placed_is : (f : ℕ → Bool) (k : ℕ) (places : List ℕ) → places ≡ tabulated (staying f 0) 0 (suc k) → ((c : ℕ) → k ≤ c → f c ≡ false) → (c : ℕ) → placed places c ≡ staying f 0 c
placed_is f k places e h c =
    let l : length places ≡ suc k = ap length e ∙ length-tabulated (staying f 0) 0 (suc k) in
    by_cases (cases_lt c (suc k)) l
  where
    by_cases : (c < suc k) ⊎ (suc k ≤ c) → length places ≡ suc k → placed places c ≡ staying f 0 c
    by_cases (inl q) l =
        ap (λ (b : Bool). if b then get_or places c 0 else get_or places (length places - 1) 0 + (c - (length places - 1))) (lt-ltb c (length places) (omega (arith, q, l))) ∙
        ap (λ (zs : List ℕ). get_or zs c 0) e ∙ get-tabulated (staying f 0) 0 (suc k) c c 0 q (omega arith)
    by_cases (inr q) l =
        let last : length places - 1 ≡ k = omega (arith, l) in
        let x : get_or places (length places - 1) 0 ≡ staying f 0 k =
        ap (λ (j : ℕ). get_or places j 0) last ∙ ap (λ (zs : List ℕ). get_or zs k 0) e ∙ get-tabulated (staying f 0) 0 (suc k) k k 0 (omega arith) (omega arith) in
        let z : c ≡ k + (c - k) = omega (arith, q) in
        let a : staying f 0 (k + (c - k)) ≡ staying f 0 k + staying f k (c - k) = staying-append f 0 k k (c - k) (omega arith) in
        let b : staying f k (c - k) ≡ c - k = all_staying f k (c - k) (λ d l u. h d l) in
        let y : staying f 0 c ≡ staying f 0 (k + (c - k)) = ap (staying f 0) z in
        ap (λ (b : Bool). if b then get_or places c 0 else get_or places (length places - 1) 0 + (c - (length places - 1))) (le-ltb c (length places) (omega (arith, q, l))) ∙
        omega (arith, last, x, a, b, y)
