-- The letter of a conjunction over a frame and products: a conjunction over the frame alone, and the mark that it allows more than the products do.
use Rattle.std.specs.Prelude.{ℕ, zero, suc, ◌+◌, ℤ, ◌+ℤ◌, Bool, false, not, ◌&&◌, ◌||◌, nat_lt, nat_eq, List, [], ◌∷◌, map, filter, Option, None, Some, if◌then◌else◌}
use Rattle.std.specs.List.{list_all, list_any}
use Rattle.std.specs.Option.{is_some}
use Rattle.lin_rows.specs.Rows.{LinearRow}
use Rattle.lin_rows.specs.Sums.{is_zero}
use Rattle.cond_jumps.specs.Conjunctions.{Conjunction}
use Rattle.cond_jumps.specs.Frames.{or_else}

pub record MarkedConjunction : Type 0 where
  pub plain : Conjunction
  pub coarse : Bool

-- of a conjunction's columns those of the products, from low to below high, and the helpers, from base to below top
pub record ProductSpan : Type 0 where
  pub low : ℕ
  pub high : ℕ
  pub base : ℕ
  pub top : ℕ

abbrev pub is_between : ℕ → ℕ → ℕ → Bool
is_between low high c = not (nat_lt c low) && nat_lt c high

abbrev pub is_product_column : ProductSpan → ℕ → Bool
is_product_column s c = is_between s.low s.high c

abbrev pub is_helper_column : ProductSpan → ℕ → Bool
is_helper_column s c = is_between s.base s.top c

-- a row names a column that passes the test
abbrev pub names_any : (ℕ → Bool) → LinearRow → Bool
names_any test r = list_any (λ t. test t.0) r.terms

-- ---- ties: rows over one product's column and one helper alone, which hold where both are equal

-- the two columns of terms whose coefficients are opposite
abbrev pub tied_terms : List (ℕ × ℤ) → Option (ℕ × ℕ)
tied_terms (t ∷ (u ∷ [])) = if is_zero (t.1 +ℤ u.1) then Some (t.0, u.0) else None
tied_terms ts = None

abbrev pub if_tied : ProductSpan → Option (ℕ × ℕ) → Option (ℕ × ℕ)
if_tied s None = None
if_tied s (Some x) = if is_product_column s x.0 && is_helper_column s x.1 then Some x else None

-- the product's column and the helper that a row ties
abbrev pub tie_of : ProductSpan → LinearRow → Option (ℕ × ℕ)
tie_of s r = if is_zero r.bound then if_tied s (tied_terms r.terms) else None

-- the product's column, where the tie is that of the helper c
abbrev pub if_helper : ℕ → Option (ℕ × ℕ) → Option ℕ
if_helper c None = None
if_helper c (Some x) = if nat_eq x.1 c then Some x.0 else None

-- the product's column that the first row with a tie of the helper c ties it to
abbrev pub product_of : ProductSpan → List LinearRow → ℕ → Option ℕ
product_of s [] c = None
product_of s (r ∷ rows) c = or_else (if_helper c (tie_of s r)) (product_of s rows c)

-- ---- what the letter keeps

-- the rows that name no product
abbrev pub plain_rows : ProductSpan → List LinearRow → List LinearRow
plain_rows s rows = filter (λ r. not (names_any (is_product_column s) r)) rows

-- a product's column, or a tied helper that no such row names
abbrev pub is_left_out : ProductSpan → List LinearRow → ℕ → Bool
is_left_out s rows c =
    is_product_column s c || (is_some (product_of s rows c) && not (list_any (names_any (nat_eq c)) (plain_rows s rows)))

-- how many of the k columns from n on stay
abbrev pub staying : (ℕ → Bool) → ℕ → ℕ → ℕ
staying out n zero = 0
staying out n (suc k) = if out n then staying out (suc n) k else suc (staying out (suc n) k)

-- the row, its columns renumbered as those stand that stay
abbrev pub renumbered : (ℕ → Bool) → LinearRow → LinearRow
renumbered out r = record { terms = map (λ t. (staying out 0 t.0, t.1)) r.terms; kind = r.kind; bound = r.bound }

-- ---- what the mark says

abbrev pub is_number : ℕ → Option ℕ → Bool
is_number n None = false
is_number n (Some m) = nat_eq m n

-- it is a tie, of a helper to the product that the first tie of that helper has
abbrev pub is_tie : ProductSpan → List LinearRow → Option (ℕ × ℕ) → Bool
is_tie s rows None = false
is_tie s rows (Some x) = is_number x.0 (product_of s rows x.1)

-- a product's column or a tied helper
abbrev pub is_of_product : ProductSpan → List LinearRow → ℕ → Bool
is_of_product s rows c = is_product_column s c || is_some (product_of s rows c)

-- the row names nothing of a product, or is a tie
abbrev pub is_exact : ProductSpan → List LinearRow → LinearRow → Bool
is_exact s rows r = not (names_any (is_of_product s rows) r) || is_tie s rows (tie_of s r)

-- ---- the letter

-- over so many columns of a frame, so many products and so many further columns: where the products and the helpers stand
abbrev pub span_over : ℕ → ℕ → ℕ → Conjunction → ProductSpan
span_over low count more c = record { low = low; high = low + count; base = (low + count) + more; top = ((low + count) + more) + c.helpers }

abbrev pub letter_within : ProductSpan → Conjunction → MarkedConjunction
letter_within s c =
    record {
      plain = record { rows = map (renumbered (is_left_out s c.rows)) (plain_rows s c.rows); helpers = staying (is_left_out s c.rows) s.base c.helpers };
      coarse = not (list_all (is_exact s c.rows) c.rows);
    }

-- the letter of a conjunction over so many columns of a frame, so many products, so many further columns, and its helpers
abbrev pub marked_letter : ℕ → ℕ → ℕ → Conjunction → MarkedConjunction
marked_letter low count more c = letter_within (span_over low count more c) c
