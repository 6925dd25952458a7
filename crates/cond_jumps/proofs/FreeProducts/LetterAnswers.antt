-- What the code's tables make of rows and conjunctions.
use Rattle.std.proofs.Common.{◌≡◌, ℕ, zero, suc, ◌+◌, ◌-◌, ◌<◌, ◌≤◌, Bool, true, false, not, ◌||◌, eqb, ℤ, List, [], ◌∷◌, ◌++◌, map, length, append-nil, take, drop, set, get_or, replicate, Option, None, Some, if◌then◌else◌, refl, ap, sym, ◌∙◌, subst, arith}
use Rattle.std.specs.Prelude.{slice_set}
use Rattle.std.specs.List.{AllByRecursion, list_all}
use Rattle.std.specs.Option.{is_some, option_eq}
use Rattle.std.proofs.Math.ListN.{length-set}
use Rattle.std.proofs.lemmas.Bool.{or_left, not_from_false}
use Rattle.math_facts.specs.Fits.{Fits}
use Rattle.lin_rows.specs.declared.types.RowKind.{RowKind}
use Rattle.lin_rows.specs.Rows.{LinearRow, AscendsFrom, IsCoefficient, IsRow}
use Rattle.lin_rows.specs.Sums.{summed, row_of, SumsFit}
use Rattle.lin_rows.proofs.RowLemmas.{summed_of_terms}
use Rattle.cond_jumps.specs.Conjunctions.{Conjunction}
use Rattle.cond_jumps.specs.Ties.Totals.{AreTotals}
use Rattle.cond_jumps.proofs.TotalLemmas.{totals_sums_fit}
use Rattle.cond_jumps.specs.FreeProducts.Letters.{MarkedConjunction, ProductSpan, is_product_column, names_any, tie_of, product_of, plain_rows, is_left_out, staying, renumbered, is_number, is_tie, is_of_product, is_exact, letter_within}
use Rattle.cond_jumps.specs.FreeProducts.LetterView.{IsSpanOf, tabulated, tied_by, cleared, cleared_rows, numbered, placed, placed_terms, placed_row}
use Rattle.cond_jumps.proofs.FreeProducts.SpanLemmas.{inside, tie_parts, from_high, other_stays, plain_stay, all_from}
use Rattle.cond_jumps.proofs.FreeProducts.NarrowLemmas.{staying-append, staying_below}
use Rattle.cond_jumps.proofs.FreeProducts.TableLemmas.{length-tabulated, pushed_table, get-tabulated, left_out_table, replicated, tied_by_products, product_step, tied_step, exact_by, places_are, placed_is}

-- ---- exact rows

pub exact_none : (s : ProductSpan) (rows : List LinearRow) (ps : List (Option ℕ)) → ps ≡ tabulated (product_of s rows) s.base (s.top - s.base) → (r : LinearRow) →
    names_any (λ c. is_product_column s c || is_some (tied_by s ps c)) r ≡ false → true ≡ is_exact s rows r
exact_none s rows ps e r f =
    sym (or_left (not (names_any (is_of_product s rows) r)) (is_tie s rows (tie_of s r)) (not_from_false (names_any (is_of_product s rows) r) (sym (exact_by s rows ps e r) ∙ f)))

same_number : (found : Option ℕ) (p : ℕ) → option_eq eqb found (Some p) ≡ is_number p found
same_number None p = refl
same_number (Some m) p = refl

pub exact_tie : (s : ProductSpan) (rows : List LinearRow) (ps : List (Option ℕ)) → ps ≡ tabulated (product_of s rows) s.base (s.top - s.base) → (r : LinearRow) (p h : ℕ) (found : Option ℕ) (b : Bool) →
    names_any (λ c. is_product_column s c || is_some (tied_by s ps c)) r ≡ true → tie_of s r ≡ Some (p, h) → found ≡ tied_by s ps h → b ≡ option_eq eqb found (Some p) → b ≡ is_exact s rows r
exact_tie s rows ps e r p h found b f g k q =
    q ∙ same_number found p ∙ ap (is_number p) (k ∙ tied_by_products s rows ps e h) ∙
    sym (ap (λ (n : Bool). not n || is_tie s rows (tie_of s r)) (sym (exact_by s rows ps e r) ∙ f) ∙ ap (is_tie s rows) g)

pub exact_untied : (s : ProductSpan) (rows : List LinearRow) (ps : List (Option ℕ)) → ps ≡ tabulated (product_of s rows) s.base (s.top - s.base) → (r : LinearRow) →
    names_any (λ c. is_product_column s c || is_some (tied_by s ps c)) r ≡ true → tie_of s r ≡ None → false ≡ is_exact s rows r
exact_untied s rows ps e r f g =
    sym (ap (λ (n : Bool). not n || is_tie s rows (tie_of s r)) (sym (exact_by s rows ps e r) ∙ f) ∙ ap (is_tie s rows) g)

-- ---- the table of products

drop_all : {X : Type 0} (xs : List X) → drop (length xs) xs ≡ []
drop_all [] = refl
drop_all (x ∷ xs) = drop_all xs

drop_at : {X : Type 0} (xs : List X) (n : ℕ) (x : X) → n < length xs → x ≡ get_or xs n x → drop n xs ≡ x ∷ drop (suc n) xs
drop_at [] n x l e = absurd (omega arith)
drop_at (y ∷ ys) zero x l e = ap (λ z. z ∷ ys) (sym e)
drop_at (y ∷ ys) (suc n) x l e = drop_at ys n x (omega arith) e

-- one more that is not tied
pub untied_more : {X : Type 0} (x : X) (xs : List X) → xs ≡ replicate (length xs) x → xs ++ x ∷ [] ≡ replicate (length (xs ++ x ∷ [])) x
untied_more x xs e =
    ap (λ ys. ys ++ x ∷ []) e ∙ pushed x (length xs) ∙ ap (λ (k : ℕ). replicate k x) (sym (longer xs x))
  where
    pushed : {X : Type 0} (x : X) (k : ℕ) → replicate k x ++ x ∷ [] ≡ replicate (suc k) x
    pushed x zero = refl
    pushed x (suc k) = ap (λ ys. x ∷ ys) (pushed x k)

    longer : {X : Type 0} (xs : List X) (x : X) → length (xs ++ x ∷ []) ≡ suc (length xs)
    longer [] x = refl
    longer (y ∷ ys) x = ap suc (longer ys x)

pub products_begin : (s : ProductSpan) (rows : List LinearRow) (items : List (Option ℕ)) (n k : ℕ) → items ≡ replicate k None → items ≡ tabulated (product_of s (drop (length rows) rows)) n k
products_begin s rows items n k e = e ∙ replicated None n k ∙ ap (λ (rs : List LinearRow). tabulated (product_of s rs) n k) (sym (drop_all rows))

pub helper_index : (s : ProductSpan) (r : LinearRow) (p h : ℕ) (rows : List LinearRow) (items : List (Option ℕ)) → tie_of s r ≡ Some (p, h) → items ≡ tabulated (product_of s rows) s.base (s.top - s.base) →
    h - s.base < length items
helper_index s r p h rows items e f =
    let q = inside s.base s.top h (tie_parts s r (p, h) e).helper in
    let l = q.0 in
    let u = q.1 in
    let k : length items ≡ s.top - s.base = ap length f ∙ length-tabulated (product_of s rows) s.base (s.top - s.base) in
    omega (arith, l, u, k)

pub products_turn : (s : ProductSpan) (rows : List LinearRow) (place : ℕ) (r : LinearRow) (items : List (Option ℕ)) (p h : ℕ) → 0 < place → place ≤ length rows → r ≡ get_or rows (place - 1) r →
    items ≡ tabulated (product_of s (drop place rows)) s.base (s.top - s.base) → tie_of s r ≡ Some (p, h) →
    set items (h - s.base) (Some p) ≡ tabulated (product_of s (drop (place - 1) rows)) s.base (s.top - s.base)
products_turn s rows place r items p h l m g e f =
    let k : ℕ = s.top - s.base in
    let n : suc (place - 1) ≡ place = omega (arith, l) in
    let d : drop (place - 1) rows ≡ r ∷ drop place rows = drop_at rows (place - 1) r (omega (arith, l, m)) g ∙ ap (λ (j : ℕ). r ∷ drop j rows) n in
    let low = (inside s.base s.top h (tie_parts s r (p, h) f).helper).0 in
    ap (λ (zs : List (Option ℕ)). set zs (h - s.base) (Some p)) e ∙ tied_step s (drop place rows) p h s.base k low ∙
    sym (product_step s r (drop place rows) (Some (p, h)) f s.base k) ∙ ap (λ (rs : List LinearRow). tabulated (product_of s rs) s.base k) (sym d)

-- ---- renumbered rows

fits_of : (ts : List (ℕ × ℤ)) → AllByRecursion IsCoefficient ts → AllByRecursion (λ (t : ℕ × ℤ). Fits t.1) ts
fits_of [] h = tt
fits_of (t ∷ ts) h = (h.0.fits, fits_of ts h.1)

pub placed_made : (places : List ℕ) (r made : LinearRow) (us ts gs : List (ℕ × ℤ)) (kind : RowKind) (bound : ℤ) → IsRow (placed_row places r) → made ≡ row_of us kind bound → us ≡ ts →
    ts ≡ placed_terms places gs → gs ≡ r.terms → kind ≡ r.kind → bound ≡ r.bound → made ≡ placed_row places r
placed_made places r made us ts gs kind bound v m e f g h i =
    let a : us ≡ placed_terms places r.terms = e ∙ f ∙ ap (placed_terms places) g in
    let b : summed us ≡ placed_terms places r.terms = ap summed a ∙ summed_of_terms (placed_row places r) v in
    m ∙ (λ j. record { terms = b j; kind = h j; bound = i j })

pub placed_sums_fit : (places : List ℕ) (r : LinearRow) (us ts gs : List (ℕ × ℤ)) (bound : ℤ) → IsRow (placed_row places r) → us ≡ ts → ts ≡ placed_terms places gs → gs ≡ r.terms → bound ≡ r.bound → SumsFit us bound
placed_sums_fit places r us ts gs bound v e f g b =
    let ms : List (ℕ × ℤ) = placed_terms places r.terms in
    let h : AreTotals ms ms = record { ascends = v.ascends; fit = fits_of ms v.coefficients; same = λ c. refl } in
    let i : us ≡ ms = e ∙ f ∙ ap (placed_terms places) g in
    subst (λ (l : List (ℕ × ℤ)). SumsFit l bound) (sym i) (totals_sums_fit ms ms bound h (subst Fits (sym b) v.bound_fits))

-- ---- rows over what stays are rows

staying_more : (out : ℕ → Bool) (a b : ℕ) → a ≤ b → staying out 0 a ≤ staying out 0 b
staying_more out a b l =
    let z : b ≡ a + (b - a) = omega (arith, l) in
    let e : staying out 0 (a + (b - a)) ≡ staying out 0 a + staying out a (b - a) = staying-append out 0 a a (b - a) (omega arith) in
    let f : staying out 0 b ≡ staying out 0 (a + (b - a)) = ap (staying out 0) z in
    omega (arith, e, f)

ascends_renumbered : (out : ℕ → Bool) (c d : ℕ) (ts : List (ℕ × ℤ)) → d ≤ staying out 0 c → AllByRecursion (λ (t : ℕ × ℤ). out t.0 ≡ false) ts → AscendsFrom c ts →
    AscendsFrom d (map (λ (t : ℕ × ℤ). (staying out 0 t.0, t.1)) ts)
ascends_renumbered out c d [] l h a = tt
ascends_renumbered out c d (t ∷ ts) l h a =
    let m : staying out 0 c ≤ staying out 0 t.0 = staying_more out c t.0 a.0 in
    let n : staying out 0 t.0 < staying out 0 (t.0 + 1) = staying_below out t.0 (t.0 + 1) (omega arith) h.0 in
    (omega (arith, l, m), ascends_renumbered out (t.0 + 1) (staying out 0 t.0 + 1) ts (omega (arith, n)) h.1 a.1)

coefficients_renumbered : (out : ℕ → Bool) (ts : List (ℕ × ℤ)) → AllByRecursion IsCoefficient ts → AllByRecursion IsCoefficient (map (λ (t : ℕ × ℤ). (staying out 0 t.0, t.1)) ts)
coefficients_renumbered out [] h = tt
coefficients_renumbered out (t ∷ ts) h = (record { is_not_zero = h.0.is_not_zero; fits = h.0.fits }, coefficients_renumbered out ts h.1)

pub renumbered_valid : (out : ℕ → Bool) (r : LinearRow) → IsRow r → AllByRecursion (λ (t : ℕ × ℤ). out t.0 ≡ false) r.terms → IsRow (renumbered out r)
renumbered_valid out r v h =
    record { ascends = ascends_renumbered out 0 0 r.terms (omega arith) h v.ascends; coefficients = coefficients_renumbered out r.terms v.coefficients; bound_fits = v.bound_fits }

-- ---- the letter

places_stay : (s : ProductSpan) (rows : List LinearRow) (helpers : ℕ) → IsSpanOf s helpers → (out : List Bool) (places : List ℕ) → out ≡ tabulated (is_left_out s rows) 0 s.top → places ≡ numbered 0 out →
    (c : ℕ) → placed places c ≡ staying (is_left_out s rows) 0 c
places_stay s rows helpers h out places e f =
    let b = h.before in
    let t = h.end in
    placed_is (is_left_out s rows) s.top places (places_are (is_left_out s rows) s.top out places f e)
    (λ c l. other_stays s rows c (from_high s.low s.high c (omega (arith, b, t, l))) (from_high s.base s.top c l))

pub placed_rows : (s : ProductSpan) (rows : List LinearRow) (helpers : ℕ) → IsSpanOf s helpers → (out : List Bool) (places : List ℕ) → out ≡ tabulated (is_left_out s rows) 0 s.top → places ≡ numbered 0 out →
    ◌≡◌ {A = LinearRow → LinearRow} (placed_row places) (renumbered (is_left_out s rows))
placed_rows s rows helpers h out places e f =
    λ i r. record { terms = map (λ (t : ℕ × ℤ). (places_stay s rows helpers h out places e f t.0 i, t.1)) r.terms; kind = r.kind; bound = r.bound }

pub kept_valid : (s : ProductSpan) (rows : List LinearRow) (helpers : ℕ) → IsSpanOf s helpers → (out : List Bool) (places : List ℕ) → out ≡ tabulated (is_left_out s rows) 0 s.top → places ≡ numbered 0 out →
    AllByRecursion (λ (r : LinearRow). IsRow r → IsRow (placed_row places r)) (plain_rows s rows)
kept_valid s rows helpers h out places e f =
    all_from (λ (r : LinearRow). AllByRecursion (λ (t : ℕ × ℤ). is_left_out s rows t.0 ≡ false) r.terms) (λ (r : LinearRow). IsRow r → IsRow (placed_row places r)) (plain_rows s rows)
    (λ r k v. subst (λ (g : LinearRow → LinearRow). IsRow (g r)) (sym (placed_rows s rows helpers h out places e f)) (renumbered_valid (is_left_out s rows) r v k)) (plain_stay s rows)

pub place_length : (s : ProductSpan) (rows : List LinearRow) (out : List Bool) (places : List ℕ) → out ≡ tabulated (is_left_out s rows) 0 s.top → places ≡ numbered 0 out → length places ≡ suc s.top
place_length s rows out places e f =
    ap length (places_are (is_left_out s rows) s.top out places f e) ∙ length-tabulated (staying (is_left_out s rows) 0) 0 (suc s.top)

-- the number of helpers that stay
pub helpers_are : (s : ProductSpan) (rows : List LinearRow) (helpers : ℕ) → IsSpanOf s helpers → (out : List Bool) (places : List ℕ) → out ≡ tabulated (is_left_out s rows) 0 s.top → places ≡ numbered 0 out →
    (a b : ℕ) → a ≡ get_or places s.top a → b ≡ get_or places s.base b → a ≡ b + staying (is_left_out s rows) s.base helpers
helpers_are s rows helpers h out places e f a b g k =
    let all : places ≡ tabulated (staying (is_left_out s rows) 0) 0 (suc s.top) = places_are (is_left_out s rows) s.top out places f e in
    let t = h.end in
    let x : a ≡ staying (is_left_out s rows) 0 s.top =
    g ∙ ap (λ (zs : List ℕ). get_or zs s.top a) all ∙ get-tabulated (staying (is_left_out s rows) 0) 0 (suc s.top) s.top s.top a (omega arith) (omega arith) in
    let y : b ≡ staying (is_left_out s rows) 0 s.base =
    k ∙ ap (λ (zs : List ℕ). get_or zs s.base b) all ∙ get-tabulated (staying (is_left_out s rows) 0) 0 (suc s.top) s.base s.base b (omega (arith, t)) (omega arith) in
    let z : staying (is_left_out s rows) 0 (s.base + helpers) ≡ staying (is_left_out s rows) 0 s.base + staying (is_left_out s rows) s.base helpers =
    staying-append (is_left_out s rows) 0 s.base s.base helpers (omega arith) in
    let w : staying (is_left_out s rows) 0 s.top ≡ staying (is_left_out s rows) 0 (s.base + helpers) = ap (staying (is_left_out s rows) 0) t in
    omega (arith, x, y, z, w)

pub letter_made : (s : ProductSpan) (c : Conjunction) → IsSpanOf s c.helpers → (out : List Bool) (places : List ℕ) → out ≡ tabulated (is_left_out s c.rows) 0 s.top → places ≡ numbered 0 out →
    (kept : List LinearRow) (helpers : ℕ) (exact : Bool) → kept ≡ map (placed_row places) (plain_rows s c.rows) → helpers ≡ staying (is_left_out s c.rows) s.base c.helpers → exact ≡ list_all (is_exact s c.rows) c.rows →
    ◌≡◌ {A = MarkedConjunction} (record { plain = record { rows = kept; helpers = helpers }; coarse = not exact }) (letter_within s c)
letter_made s c h out places e f kept helpers exact k l m =
    let r : kept ≡ map (renumbered (is_left_out s c.rows)) (plain_rows s c.rows) =
    k ∙ ap (λ (g : LinearRow → LinearRow). map g (plain_rows s c.rows)) (placed_rows s c.rows c.helpers h out places e f) in
    λ i. record { plain = record { rows = r i; helpers = l i }; coarse = not (m i) }

-- the letter of rows that are those of a conjunction
pub letter_of_rows : (s : ProductSpan) (c : Conjunction) (rows : List LinearRow) → rows ≡ c.rows → IsSpanOf s c.helpers → (out : List Bool) (places : List ℕ) → out ≡ tabulated (is_left_out s rows) 0 s.top → places ≡ numbered 0 out →
    (kept : List LinearRow) (helpers : ℕ) (exact : Bool) → kept ≡ map (placed_row places) (plain_rows s rows) → helpers ≡ staying (is_left_out s rows) s.base c.helpers → exact ≡ list_all (is_exact s rows) rows →
    ◌≡◌ {A = MarkedConjunction} (record { plain = record { rows = kept; helpers = helpers }; coarse = not exact }) (letter_within s c)
letter_of_rows s c rows q h out places e f kept helpers exact k l m =
    letter_made s (record { rows = rows; helpers = c.helpers }) h out places e f kept helpers exact k l m ∙ (λ i. letter_within s (record { rows = q i; helpers = c.helpers }))

-- ---- tables that grow, and slices that are written

pub table_turn : {X : Type 0} (f : ℕ → X) (k : ℕ) (x : X) (items new : List X) → items ≡ tabulated f 0 k → new ≡ items ++ x ∷ [] → x ≡ f k → new ≡ tabulated f 0 (k + 1)
table_turn f k x items new e g h =
    let z : k ≡ 0 + k = omega arith in
    let y : suc k ≡ k + 1 = omega arith in
    g ∙ ap (λ ys. ys ++ x ∷ []) e ∙ pushed_table f 0 k x (h ∙ ap f z) ∙ ap (tabulated f 0) y

length-cleared : (ts : List (ℕ × ℤ)) (out : List Bool) → length (cleared ts out) ≡ length out
length-cleared [] out = refl
length-cleared (t ∷ ts) out = length-cleared ts (slice_set out t.0 false) ∙ length-set out t.0 false

length-cleared_rows : (s : ProductSpan) (rows : List LinearRow) (out : List Bool) → length (cleared_rows s rows out) ≡ length out
length-cleared_rows s [] out = refl
length-cleared_rows s (r ∷ rows) out =
    length-cleared_rows s rows (if names_any (is_product_column s) r then out else cleared r.terms out) ∙ by_test (names_any (is_product_column s) r) (length-cleared r.terms out)
  where
    by_test : (b : Bool) → length (cleared r.terms out) ≡ length out → length (if b then out else cleared r.terms out) ≡ length out
    by_test true h = refl
    by_test false h = h

drop_past : {X : Type 0} (xs : List X) (n : ℕ) → length xs ≤ n → drop n xs ≡ []
drop_past [] zero l = refl
drop_past [] (suc n) l = refl
drop_past (x ∷ xs) zero l = absurd (omega arith)
drop_past (x ∷ xs) (suc n) l = drop_past xs n (omega arith)

take_whole : {X : Type 0} (xs : List X) (n : ℕ) → length xs ≤ n → take n xs ≡ xs
take_whole [] zero l = refl
take_whole [] (suc n) l = refl
take_whole (x ∷ xs) zero l = absurd (omega arith)
take_whole (x ∷ xs) (suc n) l = ap (λ ys. x ∷ ys) (take_whole xs n (omega arith))

-- a vector whose slice was written
written_back : {X : Type 0} (len : ℕ) (new old : List X) → len ≡ length old → length new ≡ length old → take len (new ++ drop (length new) old) ≡ new
written_back len new old e f =
    ap (λ ys. take len (new ++ ys)) (drop_past old (length new) (omega (arith, f))) ∙ ap (take len) (append-nil new) ∙ take_whole new len (omega (arith, e, f))

pub left_out_end : (s : ProductSpan) (rows : List LinearRow) (ps : List (Option ℕ)) → ps ≡ tabulated (product_of s rows) s.base (s.top - s.base) → (len k : ℕ) (given old new : List Bool) → len ≡ length old →
    old ≡ tabulated (λ c. is_product_column s c || is_some (tied_by s ps c)) 0 k → given ≡ old → new ≡ cleared_rows s rows given → k ≡ s.top →
    take len (new ++ drop (length new) old) ≡ tabulated (is_left_out s rows) 0 s.top
left_out_end s rows ps e len k given old new l f g h t =
    let a : new ≡ cleared_rows s rows old = h ∙ ap (cleared_rows s rows) g in
    let b : length new ≡ length old = ap length a ∙ length-cleared_rows s rows old in
    written_back len new old l b ∙ a ∙ ap (cleared_rows s rows) f ∙ left_out_table s rows ps e k ∙ ap (tabulated (is_left_out s rows) 0) t
