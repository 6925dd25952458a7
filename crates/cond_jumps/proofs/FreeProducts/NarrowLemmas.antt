-- Letters without products are the conjunctions themselves, and the rows of any letter stay in its width.
use Rattle.std.proofs.Common.{◌≡◌, ℕ, zero, suc, ◌+◌, ◌-◌, ◌<◌, ◌≤◌, Bool, true, false, not, ◌&&◌, nat_lt, nat_eq, ℤ, List, [], ◌∷◌, map, Option, None, Some, filter, if◌then◌else◌, refl, ap, ◌∙◌, arith}
use Rattle.std.specs.List.{AllByRecursion, list_all, list_any}
use Rattle.std.specs.Option.{is_some}
use Rattle.std.proofs.lemmas.Bool.{and_from, and_left, or_from, or_left, not_from_false, not_from_true, ltb-false, le-ltb, both_ways}
use Rattle.math_facts.specs.Terms.{IsBelow}
use Rattle.lin_rows.specs.Rows.{LinearRow, RowsBelow}
use Rattle.cond_jumps.specs.Conjunctions.{Conjunction}
use Rattle.cond_jumps.specs.Frames.{or_else}
use Rattle.cond_jumps.specs.FreeProducts.Letters.{ProductSpan, is_between, is_product_column, names_any, tie_of, if_helper, product_of, plain_rows, is_left_out, staying, renumbered, is_tie, is_of_product, is_exact, span_over}
use Rattle.cond_jumps.specs.FreeProducts.LetterLaws.{PlainLetters, LettersAreNarrow}
use Rattle.cond_jumps.proofs.FreeProducts.SpanLemmas.{below_low, from_high, is_inside, tie_parts, other_stays, product_goes, plain_stay, all_filtered}

-- ---- how many columns stay

pub staying-append : (out : ℕ → Bool) (n m a b : ℕ) → m ≡ n + a → staying out n (a + b) ≡ staying out n a + staying out m b
staying-append out n m zero b e =
    let z : 0 + b ≡ b = omega arith in
    let g : n ≡ m = omega (arith, e) in
    let k : staying out n (0 + b) ≡ staying out m b = (λ i. staying out (g i) (z i)) in
    omega (arith, k)
staying-append out n m (suc a) b e =
    let z : suc a + b ≡ suc (a + b) = omega arith in
    ap (staying out n) z ∙ by_test (out n) (staying-append out (suc n) m a b (omega (arith, e)))
  where
    by_test : (t : Bool) → staying out (suc n) (a + b) ≡ staying out (suc n) a + staying out m b →
        (if t then staying out (suc n) (a + b) else suc (staying out (suc n) (a + b))) ≡ (if t then staying out (suc n) a else suc (staying out (suc n) a)) + staying out m b
    by_test true h = h
    by_test false h = omega (arith, h)

pub all_staying : (out : ℕ → Bool) (n k : ℕ) → ((c : ℕ) → n ≤ c → c < n + k → out c ≡ false) → staying out n k ≡ k
all_staying out n zero h = refl
all_staying out n (suc k) h =
    ap (λ (b : Bool). if b then staying out (suc n) k else suc (staying out (suc n) k)) (h n (omega arith) (omega arith)) ∙
    ap suc (all_staying out (suc n) k (λ c l u. h c (omega arith) (omega arith)))

pub none_staying : (out : ℕ → Bool) (n k : ℕ) → ((c : ℕ) → n ≤ c → c < n + k → out c ≡ true) → staying out n k ≡ 0
none_staying out n zero h = refl
none_staying out n (suc k) h =
    ap (λ (b : Bool). if b then staying out (suc n) k else suc (staying out (suc n) k)) (h n (omega arith) (omega arith)) ∙
    none_staying out (suc n) k (λ c l u. h c (omega arith) (omega arith))

-- a column that stays has a number below that of all
pub staying_below : (out : ℕ → Bool) (c top : ℕ) → c < top → out c ≡ false → staying out 0 c < staying out 0 top
staying_below out c top l e =
    let d : ℕ = top - suc c in
    let z : top ≡ c + suc d = omega (arith, l) in
    let a : staying out 0 (c + suc d) ≡ staying out 0 c + staying out c (suc d) = staying-append out 0 c c (suc d) (omega arith) in
    let b : staying out c (suc d) ≡ suc (staying out (suc c) d) = ap (λ (b : Bool). if b then staying out (suc c) d else suc (staying out (suc c) d)) e in
    let f : staying out 0 top ≡ staying out 0 (c + suc d) = ap (staying out 0) z in
    omega (arith, a, b, f)

-- ---- no products

no_product_column : (low high c : ℕ) → high ≡ low → is_between low high c ≡ false
no_product_column low high c e = by_test (nat_lt c low) refl
  where
    by_test : (b : Bool) → nat_lt c low ≡ b → (not b && nat_lt c high) ≡ false
    by_test true f = refl
    by_test false f = let l : low ≤ c = ltb-false c low f in le-ltb c high (omega (arith, e, l))

no_tie : (s : ProductSpan) → ((c : ℕ) → is_product_column s c ≡ false) → (r : LinearRow) → tie_of s r ≡ None
no_tie s h r = by_tie (tie_of s r) refl
  where
    by_tie : (o : Option (ℕ × ℕ)) → tie_of s r ≡ o → o ≡ None
    by_tie None e = refl
    by_tie (Some x) e = absurd (both_ways (is_product_column s x.0) (h x.0) (tie_parts s r x e).product)

nothing_tied : (s : ProductSpan) → ((c : ℕ) → is_product_column s c ≡ false) → (rows : List LinearRow) (c : ℕ) → product_of s rows c ≡ None
nothing_tied s h [] c = refl
nothing_tied s h (r ∷ rows) c = ap (λ (o : Option (ℕ × ℕ)). or_else (if_helper c o) (product_of s rows c)) (no_tie s h r) ∙ nothing_tied s h rows c

none_of : (test : ℕ → Bool) → ((c : ℕ) → test c ≡ false) → (ts : List (ℕ × ℤ)) → list_any (λ (t : ℕ × ℤ). test t.0) ts ≡ false
none_of test h [] = refl
none_of test h (t ∷ ts) = or_from (test t.0) (list_any (λ (t : ℕ × ℤ). test t.0) ts) (h t.0) (none_of test h ts)

same_terms : (out : ℕ → Bool) → ((c : ℕ) → out c ≡ false) → (ts : List (ℕ × ℤ)) → map (λ (t : ℕ × ℤ). (staying out 0 t.0, t.1)) ts ≡ ts
same_terms out h [] = refl
same_terms out h (t ∷ ts) =
    let e : staying out 0 t.0 ≡ t.0 = all_staying out 0 t.0 (λ c l u. h c) in
    let f = same_terms out h ts in
    λ i. (e i, t.1) ∷ f i

same_rows : (out test : ℕ → Bool) → ((c : ℕ) → out c ≡ false) → ((c : ℕ) → test c ≡ false) → (rows : List LinearRow) →
    map (renumbered out) (filter (λ (r : LinearRow). not (names_any test r)) rows) ≡ rows
same_rows out test h k [] = refl
same_rows out test h k (r ∷ rows) =
    let e : not (names_any test r) ≡ true = not_from_false (names_any test r) (none_of test k r.terms) in
    let f : renumbered out r ≡ r = (λ i. record { terms = same_terms out h r.terms i; kind = r.kind; bound = r.bound }) in
    let g = same_rows out test h k rows in
    let all : List LinearRow = filter (λ (r : LinearRow). not (names_any test r)) rows in
    ap (λ (b : Bool). map (renumbered out) (if b then r ∷ all else all)) e ∙ (λ i. f i ∷ g i)

all_exact : (s : ProductSpan) (given rows : List LinearRow) → ((c : ℕ) → is_of_product s given c ≡ false) → list_all (is_exact s given) rows ≡ true
all_exact s given [] h = refl
all_exact s given (r ∷ rows) h =
    and_from (is_exact s given r) (list_all (is_exact s given) rows)
    (or_left (not (names_any (is_of_product s given) r)) (is_tie s given (tie_of s r)) (not_from_false (names_any (is_of_product s given) r) (none_of (is_of_product s given) h r.terms)))
    (all_exact s given rows h)

pub plain_letters : PlainLetters
plain_letters low more c =
    let s : ProductSpan = span_over low 0 more c in
    let none : (d : ℕ) → is_product_column s d ≡ false = (λ d. no_product_column s.low s.high d (omega arith)) in
    let untied : (d : ℕ) → is_some (product_of s c.rows d) ≡ false = (λ d. ap is_some (nothing_tied s none c.rows d)) in
    let out : (d : ℕ) → is_left_out s c.rows d ≡ false =
    (λ d. or_from (is_product_column s d) (is_some (product_of s c.rows d) && not (list_any (names_any (nat_eq d)) (plain_rows s c.rows))) (none d)
    (and_left (is_some (product_of s c.rows d)) (not (list_any (names_any (nat_eq d)) (plain_rows s c.rows))) (untied d))) in
    let rows_are = same_rows (is_left_out s c.rows) (is_product_column s) out none c.rows in
    let helpers_are : staying (is_left_out s c.rows) s.base c.helpers ≡ c.helpers = all_staying (is_left_out s c.rows) s.base c.helpers (λ d l u. out d) in
    let mark_is : not (list_all (is_exact s c.rows) c.rows) ≡ false =
    not_from_true (list_all (is_exact s c.rows) c.rows) (all_exact s c.rows c.rows (λ d. or_from (is_product_column s d) (is_some (product_of s c.rows d)) (none d) (untied d))) in
    λ i. record { plain = record { rows = rows_are i; helpers = helpers_are i }; coarse = mark_is i }

-- ---- the width of a letter

-- how many columns a letter has, the helpers behind those of the frame and the further ones
letter_width : (low count more : ℕ) (c : Conjunction) →
    let s : ProductSpan = span_over low count more c in
    staying (is_left_out s c.rows) 0 s.top ≡ (low + more) + staying (is_left_out s c.rows) s.base c.helpers
letter_width low count more c =
    let s : ProductSpan = span_over low count more c in
    let out : ℕ → Bool = is_left_out s c.rows in
    let front : staying out 0 low ≡ low =
    all_staying out 0 low (λ d l u. other_stays s c.rows d (below_low s.low s.high d (omega arith)) (below_low s.base s.top d (omega arith))) in
    let gone : staying out low count ≡ 0 = none_staying out low count (λ d l u. product_goes s c.rows d (is_inside s.low s.high d l u)) in
    let further : staying out (low + count) more ≡ more =
    all_staying out (low + count) more (λ d l u. other_stays s c.rows d (from_high s.low s.high d l) (below_low s.base s.top d u)) in
    let a : staying out 0 s.top ≡ staying out 0 s.base + staying out s.base c.helpers = staying-append out 0 s.base s.base c.helpers (omega arith) in
    let b : staying out 0 s.base ≡ staying out 0 s.high + staying out s.high more = staying-append out 0 s.high s.high more (omega arith) in
    let d : staying out 0 s.high ≡ staying out 0 low + staying out low count = staying-append out 0 low low count (omega arith) in
    omega (arith, front, gone, further, a, b, d)

narrow_terms : (out : ℕ → Bool) (top width : ℕ) (ts : List (ℕ × ℤ)) → staying out 0 top ≡ width → IsBelow top ts → AllByRecursion (λ (t : ℕ × ℤ). out t.0 ≡ false) ts →
    IsBelow width (map (λ (t : ℕ × ℤ). (staying out 0 t.0, t.1)) ts)
narrow_terms out top width [] e h k = tt
narrow_terms out top width (t ∷ ts) e h k =
    ((let l : staying out 0 t.0 < staying out 0 top = staying_below out t.0 top h.0 k.0 in omega (arith, l, e)), narrow_terms out top width ts e h.1 k.1)

narrow_rows : (out : ℕ → Bool) (top width : ℕ) (rows : List LinearRow) → staying out 0 top ≡ width → RowsBelow top rows →
    AllByRecursion (λ (r : LinearRow). AllByRecursion (λ (t : ℕ × ℤ). out t.0 ≡ false) r.terms) rows → RowsBelow width (map (renumbered out) rows)
narrow_rows out top width [] e h k = tt
narrow_rows out top width (r ∷ rows) e h k = (narrow_terms out top width r.terms e h.0 k.0, narrow_rows out top width rows e h.1 k.1)

pub letters_are_narrow : LettersAreNarrow
letters_are_narrow low count more c h =
    let s : ProductSpan = span_over low count more c in
    narrow_rows (is_left_out s c.rows) s.top ((low + more) + staying (is_left_out s c.rows) s.base c.helpers) (plain_rows s c.rows) (letter_width low count more c)
    (all_filtered (λ (r : LinearRow). IsBelow s.top r.terms) (λ (r : LinearRow). not (names_any (is_product_column s) r)) c.rows h)
    (plain_stay s c.rows)
