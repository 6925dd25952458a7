-- What the letter of a conjunction is worth: it follows from the conjunction, and leads to it where it is exact.
use Rattle.std.proofs.Common.{◌≡◌, ◌⊎◌, inl, inr, ℕ, ◌+◌, ◌<◌, ◌-◌, Bool, true, false, not, ◌&&◌, ◌||◌, nat_eq, ℤ, pos, negsuc, ◌+ℤ◌, ◌*ℤ◌, List, [], ◌∷◌, ◌++◌, map, length, length-append, append-nil, Option, None, Some, refl, ap, sym, ◌∙◌, subst, arith}
use Rattle.std.specs.List.{AllByRecursion, list_all, list_any}
use Rattle.std.specs.Option.{is_some}
use Rattle.std.proofs.lemmas.Bool.{and_parts, and_from, or_parts, or_from, or_left, or_right, not_from_false, true≢false, false≢true, eqb-true, both_ways}
use Rattle.std.proofs.lemmas.Int.{ints}
use Rattle.math_facts.proofs.Whole.{distrib_right, product_zero_left}
use Rattle.math_facts.specs.Terms.{dot}
use Rattle.lin_rows.specs.declared.types.RowKind.{RowKind}
use Rattle.lin_rows.specs.declared.types.RowKind.TheVariants.{Le, Eq}
use Rattle.lin_rows.specs.Rows.{LinearRow, Holds, Stands}
use Rattle.lin_rows.specs.Sums.{is_zero}
use Rattle.lin_rows.specs.Points.{point_of}
use Rattle.letter_acts.proofs.PointLemmas.{point_of-left, point_of-right}
use Rattle.cond_jumps.specs.Conjunctions.{Conjunction}
use Rattle.cond_jumps.specs.FreeProducts.Letters.{ProductSpan, is_product_column, is_helper_column, names_any, tie_of, product_of, plain_rows, is_left_out, staying, renumbered, is_number, is_tie, is_of_product, is_exact, span_over}
use Rattle.cond_jumps.specs.FreeProducts.LetterLaws.{LettersFollow, ExactLettersLead}
use Rattle.cond_jumps.proofs.FreeProducts.Squeezing.{squeezed, spread, squeezed-append, all_stay, none_stays, length-squeezed, length-spread, squeezed-spread, point_of-spread, dot-renumbered}
use Rattle.cond_jumps.proofs.FreeProducts.SpanLemmas.{below_low, from_high, is_inside, inside, IsTied, tie_parts, tie_names, other_stays, product_goes, plain_stay, filter_passes, all_filtered, filtered_each, all_from, all_both}

-- ---- the columns of values, products and further values

-- where the products and the helpers stand behind these values
abbrev span_at : List ℤ → List ℤ → List ℤ → Conjunction → ProductSpan
span_at values products news c = span_over (length values) (length products) (length news) c

-- what is left out of them is the products
squeezed_front : (values products news : List ℤ) (c : Conjunction) →
    squeezed (is_left_out (span_at values products news c) c.rows) 0 ((values ++ products) ++ news) ≡ values ++ news
squeezed_front values products news c =
    let s : ProductSpan = span_at values products news c in
    let out : ℕ → Bool = is_left_out s c.rows in
    let stay : squeezed out 0 values ≡ values =
    all_stay out 0 values (λ d l u. other_stays s c.rows d (below_low s.low s.high d (omega arith)) (below_low s.base s.top d (omega arith))) in
    let go : squeezed out s.low products ≡ [] = none_stays out s.low products (λ d l u. product_goes s c.rows d (is_inside s.low s.high d l u)) in
    let first : squeezed out 0 (values ++ products) ≡ values = squeezed-append out 0 s.low values products (omega arith) ∙ (λ i. stay i ++ go i) ∙ append-nil values in
    let second : squeezed out s.high news ≡ news =
    all_stay out s.high news (λ d l u. other_stays s c.rows d (from_high s.low s.high d l) (below_low s.base s.top d u)) in
    let e : length (values ++ products) ≡ s.high = length-append values products in
    squeezed-append out 0 s.high (values ++ products) news (omega (arith, e)) ∙ (λ i. first i ++ second i)

length_front : (values products news : List ℤ) → length ((values ++ products) ++ news) ≡ (length values + length products) + length news
length_front values products news =
    let e : length (values ++ products) ≡ length values + length products = length-append values products in
    let f : length ((values ++ products) ++ news) ≡ length (values ++ products) + length news = length-append (values ++ products) news in
    omega (arith, e, f)

-- the same with helpers behind them
squeezed_all : (values products news helpers : List ℤ) (c : Conjunction) →
    squeezed (is_left_out (span_at values products news c) c.rows) 0 (((values ++ products) ++ news) ++ helpers) ≡
    (values ++ news) ++ squeezed (is_left_out (span_at values products news c) c.rows) (span_at values products news c).base helpers
squeezed_all values products news helpers c =
    let s : ProductSpan = span_at values products news c in
    let out : ℕ → Bool = is_left_out s c.rows in
    let e : length ((values ++ products) ++ news) ≡ s.base = length_front values products news in
    squeezed-append out 0 s.base ((values ++ products) ++ news) helpers (omega (arith, e)) ∙
    ap (λ (vs : List ℤ). vs ++ squeezed out s.base helpers) (squeezed_front values products news c)

-- ---- rows over what stays

renumbered_holds : (out : ℕ → Bool) (vs : List ℤ) (r : LinearRow) → AllByRecursion (λ (t : ℕ × ℤ). out t.0 ≡ false) r.terms → Holds (point_of vs) r → Holds (point_of (squeezed out 0 vs)) (renumbered out r)
renumbered_holds out vs r h k = subst (λ (z : ℤ). Stands r.kind z r.bound) (sym (dot-renumbered out vs r.terms h)) k

renumbered_held : (out : ℕ → Bool) (vs : List ℤ) (r : LinearRow) → AllByRecursion (λ (t : ℕ × ℤ). out t.0 ≡ false) r.terms → Holds (point_of (squeezed out 0 vs)) (renumbered out r) → Holds (point_of vs) r
renumbered_held out vs r h k = subst (λ (z : ℤ). Stands r.kind z r.bound) (dot-renumbered out vs r.terms h) k

all_renumbered : (out : ℕ → Bool) (vs : List ℤ) (rows : List LinearRow) → AllByRecursion (λ (r : LinearRow). AllByRecursion (λ (t : ℕ × ℤ). out t.0 ≡ false) r.terms) rows →
    AllByRecursion (Holds (point_of vs)) rows → AllByRecursion (Holds (point_of (squeezed out 0 vs))) (map (renumbered out) rows)
all_renumbered out vs [] h k = tt
all_renumbered out vs (r ∷ rows) h k = (renumbered_holds out vs r h.0 k.0, all_renumbered out vs rows h.1 k.1)

all_held : (out : ℕ → Bool) (vs : List ℤ) (rows : List LinearRow) → AllByRecursion (λ (r : LinearRow). AllByRecursion (λ (t : ℕ × ℤ). out t.0 ≡ false) r.terms) rows →
    AllByRecursion (Holds (point_of (squeezed out 0 vs))) (map (renumbered out) rows) → AllByRecursion (Holds (point_of vs)) rows
all_held out vs [] h k = tt
all_held out vs (r ∷ rows) h k = (renumbered_held out vs r h.0 k.0, all_held out vs rows h.1 k.1)

-- ---- the letter follows

pub letters_follow : LettersFollow
letters_follow values products news c h =
    let s : ProductSpan = span_at values products news c in
    let out : ℕ → Bool = is_left_out s c.rows in
    let kept : AllByRecursion (Holds (point_of (((values ++ products) ++ news) ++ h.helpers))) (plain_rows s c.rows) =
    all_filtered (Holds (point_of (((values ++ products) ++ news) ++ h.helpers))) (λ (r : LinearRow). not (names_any (is_product_column s) r)) c.rows h.hold in
    let k : AllByRecursion (Holds (point_of (squeezed out 0 (((values ++ products) ++ news) ++ h.helpers)))) (map (renumbered out) (plain_rows s c.rows)) =
    all_renumbered out (((values ++ products) ++ news) ++ h.helpers) (plain_rows s c.rows) (plain_stay s c.rows) kept in
    record {
      helpers = squeezed out s.base h.helpers;
      as_many = length-squeezed out s.base h.helpers ∙ ap (staying out s.base) h.as_many;
      hold = subst (λ (vs : List ℤ). AllByRecursion (Holds (point_of vs)) (map (renumbered out) (plain_rows s c.rows))) (squeezed_all values products news h.helpers c) k;
    }

-- ---- an exact letter leads

zero_is : (z : ℤ) → is_zero z ≡ true → z ≡ pos 0
zero_is (pos n) e = ap pos (eqb-true n 0 e)
zero_is (negsuc n) e = absurd (false≢true e)

true_of_not : (b : Bool) → not b ≡ false → b ≡ true
true_of_not true h = refl
true_of_not false h = absurd (true≢false h)

false_of_not : (b : Bool) → not b ≡ true → b ≡ false
false_of_not true h = absurd (false≢true h)
false_of_not false h = refl

each_passes : {X : Type 0} (test : X → Bool) (xs : List X) → list_all test xs ≡ true → AllByRecursion (λ x. test x ≡ true) xs
each_passes test [] e = tt
each_passes test (x ∷ xs) e = let p = and_parts (test x) (list_all test xs) e in (p.0, each_passes test xs p.1)

-- a row with a tie says which product its helper has
record IsTieRow (s : ProductSpan) (rows : List LinearRow) (r : LinearRow) : Type 0 where
  pub pair : ℕ × ℕ
  pub tied : IsTied s r pair
  pub product : product_of s rows pair.1 ≡ Some pair.0

number_is : (n : ℕ) (o : Option ℕ) → is_number n o ≡ true → o ≡ Some n
number_is n None e = absurd (false≢true e)
number_is n (Some m) e = ap Some (eqb-true m n e)

tie_row : (s : ProductSpan) (rows : List LinearRow) (r : LinearRow) → is_tie s rows (tie_of s r) ≡ true → IsTieRow s rows r
tie_row s rows r e = by_tie (tie_of s r) refl e
  where
    by_tie : (o : Option (ℕ × ℕ)) → tie_of s r ≡ o → is_tie s rows o ≡ true → IsTieRow s rows r
    by_tie None f g = absurd (false≢true g)
    by_tie (Some x) f g = record { pair = x; tied = tie_parts s r x f; product = number_is x.0 (product_of s rows x.1) g }

-- an exact row names nothing of a product, or is a tie
exact_cases : (s : ProductSpan) (rows : List LinearRow) (r : LinearRow) → is_exact s rows r ≡ true → (names_any (is_of_product s rows) r ≡ false) ⊎ IsTieRow s rows r
exact_cases s rows r e = by_test (names_any (is_of_product s rows) r) refl e
  where
    by_test : (b : Bool) → names_any (is_of_product s rows) r ≡ b → (not b || is_tie s rows (tie_of s r)) ≡ true → (names_any (is_of_product s rows) r ≡ false) ⊎ IsTieRow s rows r
    by_test false f g = inl f
    by_test true f g = inr (tie_row s rows r g)

-- terms that name no column that passes one test name none that passes a stronger one
named_less : (f g : ℕ → Bool) (ts : List (ℕ × ℤ)) → ((c : ℕ) → f c ≡ true → g c ≡ true) → list_any (λ (t : ℕ × ℤ). g t.0) ts ≡ false → list_any (λ (t : ℕ × ℤ). f t.0) ts ≡ false
named_less f g [] h e = refl
named_less f g (t ∷ ts) h e =
    let p = or_parts (g t.0) (list_any (λ (t : ℕ × ℤ). g t.0) ts) e in
    or_from (f t.0) (list_any (λ (t : ℕ × ℤ). f t.0) ts) (by_test (f t.0) refl p.0) (named_less f g ts h p.1)
  where
    by_test : (b : Bool) → f t.0 ≡ b → g t.0 ≡ false → b ≡ false
    by_test false k l = refl
    by_test true k l = absurd (both_ways (g t.0) l (h t.0 k))

-- where a column is a tied helper a row that names no product and is exact does not name it
plain_silent : (s : ProductSpan) (rows : List LinearRow) (c : ℕ) (r : LinearRow) → is_some (product_of s rows c) ≡ true → names_any (is_product_column s) r ≡ false → is_exact s rows r ≡ true →
    names_any (nat_eq c) r ≡ false
plain_silent s rows c r k f e = elim (exact_cases s rows r e) [
  | inl g ↦ named_less (nat_eq c) (is_of_product s rows) r.terms
      (λ d q. or_right (is_product_column s d) (is_some (product_of s rows d)) (ap (λ (d : ℕ). is_some (product_of s rows d)) (sym (eqb-true c d q)) ∙ k)) g
  | inr g ↦ absurd (both_ways (names_any (is_product_column s) r) f (tie_names s r g.pair g.tied))
]

none_any : {X : Type 0} (test : X → Bool) (xs : List X) → AllByRecursion (λ x. test x ≡ false) xs → list_any test xs ≡ false
none_any test [] h = refl
none_any test (x ∷ xs) h = or_from (test x) (list_any test xs) h.0 (none_any test xs h.1)

-- where each row is exact a tied helper is left out
tied_goes : (s : ProductSpan) (rows : List LinearRow) (c p : ℕ) → AllByRecursion (λ (r : LinearRow). is_exact s rows r ≡ true) rows → product_of s rows c ≡ Some p → is_left_out s rows c ≡ true
tied_goes s rows c p h e =
    let k : is_some (product_of s rows c) ≡ true = ap is_some e in
    let plain : AllByRecursion (λ (r : LinearRow). not (names_any (is_product_column s) r) ≡ true) (plain_rows s rows) = filter_passes (λ (r : LinearRow). not (names_any (is_product_column s) r)) rows in
    let exact : AllByRecursion (λ (r : LinearRow). is_exact s rows r ≡ true) (plain_rows s rows) =
    all_filtered (λ (r : LinearRow). is_exact s rows r ≡ true) (λ (r : LinearRow). not (names_any (is_product_column s) r)) rows h in
    let silent : list_any (names_any (nat_eq c)) (plain_rows s rows) ≡ false =
    none_any (names_any (nat_eq c)) (plain_rows s rows)
    (all_from (λ (r : LinearRow). (not (names_any (is_product_column s) r) ≡ true) × (is_exact s rows r ≡ true)) (λ (r : LinearRow). names_any (nat_eq c) r ≡ false) (plain_rows s rows)
    (λ r q. plain_silent s rows c r k (false_of_not (names_any (is_product_column s) r) q.0) q.1)
    (all_both (λ (r : LinearRow). not (names_any (is_product_column s) r) ≡ true) (λ (r : LinearRow). is_exact s rows r ≡ true) (plain_rows s rows) plain exact)) in
    or_right (is_product_column s c) (is_some (product_of s rows c) && not (list_any (names_any (nat_eq c)) (plain_rows s rows)))
    (and_from (is_some (product_of s rows c)) (not (list_any (names_any (nat_eq c)) (plain_rows s rows))) k (not_from_false (list_any (names_any (nat_eq c)) (plain_rows s rows)) silent))

-- what a helper is tied to, read at a point; 0 where it is tied to nothing
abbrev tied_value : (ℕ → ℤ) → Option ℕ → ℤ
tied_value point None = pos 0
tied_value point (Some p) = point p

zero_sum : (kind : RowKind) (bound a b z : ℤ) → is_zero (a +ℤ b) ≡ true → is_zero bound ≡ true → Stands kind ((a *ℤ z) +ℤ ((b *ℤ z) +ℤ pos 0)) bound
zero_sum kind bound a b z e f =
    let g : (a *ℤ z) +ℤ (b *ℤ z) ≡ pos 0 = sym (distrib_right a b z) ∙ ap (λ (m : ℤ). m *ℤ z) (zero_is (a +ℤ b) e) ∙ product_zero_left z in
    let k : bound ≡ pos 0 = zero_is bound f in
    let l : (a *ℤ z) +ℤ ((b *ℤ z) +ℤ pos 0) ≡ bound = omega (arith, ints, g, k) in
    by_kind kind l
  where
    by_kind : (kind : RowKind) → (a *ℤ z) +ℤ ((b *ℤ z) +ℤ pos 0) ≡ bound → Stands kind ((a *ℤ z) +ℤ ((b *ℤ z) +ℤ pos 0)) bound
    by_kind Le l = omega (arith, ints, l)
    by_kind Eq l = l

-- a tie holds where its helper has the value of its product
tie_holds : (s : ProductSpan) (r : LinearRow) (x : ℕ × ℕ) (point : ℕ → ℤ) → IsTied s r x → point x.1 ≡ point x.0 → Holds point r
tie_holds s r x point h e =
    let d : dot point r.terms ≡ (h.first *ℤ point x.0) +ℤ ((h.second *ℤ point x.0) +ℤ pos 0) =
    ap (dot point) h.terms_are ∙ ap (λ (z : ℤ). (h.first *ℤ point x.0) +ℤ ((h.second *ℤ z) +ℤ pos 0)) e in
    subst (λ (z : ℤ). Stands r.kind z r.bound) (sym d) (zero_sum r.kind r.bound h.first h.second (point x.0) h.opposite h.bound_is)

-- a column past the values, the products and further values
record IsHelperAt (values products news : List ℤ) (c : Conjunction) (d : ℕ) : Type 0 where
  pub index : ℕ
  pub inside : index < c.helpers
  pub at : d ≡ ((length values + length products) + length news) + index

helper_at : (values products news : List ℤ) (c : Conjunction) (d : ℕ) → is_helper_column (span_at values products news c) d ≡ true → IsHelperAt values products news c d
helper_at values products news c d e =
    let b : ℕ = (length values + length products) + length news in
    let k = inside b (b + c.helpers) d e in
    let l = k.0 in
    let u = k.1 in
    record { index = d - b; inside = omega (arith, l, u); at = omega (arith, l) }

-- the values of the products among all values, helpers behind them
products_read : (values products news helpers : List ℤ) (d : ℕ) → d < length values + length products → point_of (((values ++ products) ++ news) ++ helpers) d ≡ point_of (values ++ products) d
products_read values products news helpers d l =
    let e : length (values ++ products) ≡ length values + length products = length-append values products in
    let f : length ((values ++ products) ++ news) ≡ (length values + length products) + length news = length_front values products news in
    point_of-left ((values ++ products) ++ news) helpers d (omega (arith, f, l)) ∙ point_of-left (values ++ products) news d (omega (arith, e, l))

pub exact_letters_lead : ExactLettersLead
exact_letters_lead values products news c e h =
    let s : ProductSpan = span_at values products news c in
    let out : ℕ → Bool = is_left_out s c.rows in
    let point : ℕ → ℤ = λ d. tied_value (point_of (values ++ products)) (product_of s c.rows d) in
    let helpers : List ℤ = spread out point s.base c.helpers h.helpers in
    let front : List ℤ = (values ++ products) ++ news in
    let exact : AllByRecursion (λ (r : LinearRow). is_exact s c.rows r ≡ true) c.rows = each_passes (is_exact s c.rows) c.rows (true_of_not (list_all (is_exact s c.rows) c.rows) e) in
    let length_is : length front ≡ s.base = length_front values products news in
    let same : (values ++ news) ++ h.helpers ≡ squeezed out 0 (front ++ helpers) =
    sym (squeezed_all values products news helpers c ∙ ap (λ (vs : List ℤ). (values ++ news) ++ vs) (squeezed-spread out point s.base c.helpers h.helpers h.as_many)) in
    let kept : AllByRecursion (Holds (point_of (front ++ helpers))) (plain_rows s c.rows) =
    all_held out (front ++ helpers) (plain_rows s c.rows) (plain_stay s c.rows)
    (subst (λ (vs : List ℤ). AllByRecursion (Holds (point_of vs)) (map (renumbered out) (plain_rows s c.rows))) same h.hold) in
    let plain : AllByRecursion (λ (r : LinearRow). not (names_any (is_product_column s) r) ≡ true → Holds (point_of (front ++ helpers)) r) c.rows =
    filtered_each (Holds (point_of (front ++ helpers))) (λ (r : LinearRow). not (names_any (is_product_column s) r)) c.rows kept in
    let tied : (x : ℕ × ℕ) (r : LinearRow) → IsTied s r x → product_of s c.rows x.1 ≡ Some x.0 → point_of (front ++ helpers) x.1 ≡ point_of (front ++ helpers) x.0 =
    (λ x r t q.
    let at : IsHelperAt values products news c x.1 = helper_at values products news c x.1 t.helper in
    let place : x.1 ≡ length front + at.index = (let a = at.at in omega (arith, a, length_is)) in
    let low : x.0 < length values + length products = (inside s.low s.high x.0 t.product).1 in
    point_of-right front helpers x.1 at.index place ∙
    point_of-spread out point s.base c.helpers at.index x.1 h.helpers at.inside at.at (tied_goes s c.rows x.1 x.0 exact q) ∙
    ap (tied_value (point_of (values ++ products))) q ∙ sym (products_read values products news helpers x.0 low)) in
    record {
      helpers = helpers;
      as_many = length-spread out point s.base c.helpers h.helpers;
      hold =
          all_from (λ (r : LinearRow). (not (names_any (is_product_column s) r) ≡ true → Holds (point_of (front ++ helpers)) r) × (is_exact s c.rows r ≡ true)) (Holds (point_of (front ++ helpers))) c.rows
          (λ r k. elim (exact_cases s c.rows r k.1) [
            | inl g ↦ k.0 (not_from_false (names_any (is_product_column s) r)
                (named_less (is_product_column s) (is_of_product s c.rows) r.terms (λ d p. or_left (is_product_column s d) (is_some (product_of s c.rows d)) p) g))
            | inr g ↦ tie_holds s r g.pair (point_of (front ++ helpers)) g.tied (tied g.pair r g.tied g.product)
          ])
          (all_both (λ (r : LinearRow). not (names_any (is_product_column s) r) ≡ true → Holds (point_of (front ++ helpers)) r) (λ (r : LinearRow). is_exact s c.rows r ≡ true) c.rows plain exact);
    }
