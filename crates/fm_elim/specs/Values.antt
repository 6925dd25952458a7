-- The value of an eliminated column, where the columns before it have values.
use Rattle.std.specs.Prelude.{ℕ, ℤ, pos, not, List, Option, None, Some, nat_eq, slice_index_or, if◌then◌else◌}
use Rattle.std.specs.List.{fold}
use Rattle.frac.specs.Fractions.{Fraction}
use Rattle.frac.specs.Sums.{SumFits, ComparisonFits}
use Rattle.fm_elim.specs.Quotients.{whole, fraction_plus, fraction_minus, fraction_times, fraction_over, FractionFits, MinusFits, is_less, nearest}
use Rattle.fm_elim.specs.Folds.{Where, FoldFits}
use Rattle.fm_elim.specs.Derivations.{DerivedRow, at}
use Rattle.fm_elim.specs.Columns.{SetAside, forced, bounded}

-- the value of a column; 0 past the last
abbrev pub value_at : List Fraction → ℕ → Fraction
value_at values c = slice_index_or values c (whole (pos 0))

-- ---- the sum of a row's terms but for the column

-- the product of a term
abbrev pub term_value : List Fraction → ℕ × ℤ → Fraction
term_value values t = fraction_times (whole t.1) (value_at values t.0)

-- a sum with the next term added, unless it is that of the column
abbrev pub with_term : ℕ → List Fraction → Fraction → ℕ × ℤ → Fraction
with_term k values sum t = if nat_eq t.0 k then sum else fraction_plus sum (term_value values t)

abbrev pub WithTermFits : ℕ → List Fraction → Fraction → ℕ × ℤ → Type 0
WithTermFits k values sum t = Where (not (nat_eq t.0 k)) (FractionFits (term_value values t) × SumFits sum (term_value values t))

-- the sum of all products, from 0, in ascending order
abbrev pub sum_of : ℕ → List Fraction → List (ℕ × ℤ) → Fraction
sum_of k values terms = fold (with_term k values) (whole (pos 0)) terms

abbrev pub SumOfFits : ℕ → List Fraction → List (ℕ × ℤ) → Type 0
SumOfFits k values terms = FoldFits (with_term k values) (WithTermFits k values) (whole (pos 0)) terms

-- ---- the end of the column's interval that one row sets

-- the bound less that sum, divided by the column's coefficient
abbrev pub end_of : ℕ → List Fraction → DerivedRow → Fraction
end_of k values r = fraction_over (fraction_minus (whole r.row.bound) (sum_of k values r.row.terms)) (whole (at k r))

pub record EndFits (k : ℕ) (values : List Fraction) (r : DerivedRow) : Type 0 where
  pub sum : SumOfFits k values r.row.terms
  pub rest : MinusFits (whole r.row.bound) (sum_of k values r.row.terms)
  pub quotient : FractionFits (end_of k values r)

-- ---- the interval

-- the greater of the best end so far and the next
abbrev pub greater_end : Option Fraction → Fraction → Fraction
greater_end None e = e
greater_end (Some best) e = if is_less best e then e else best

-- the less of them
abbrev pub less_end : Option Fraction → Fraction → Fraction
less_end None e = e
less_end (Some best) e = if is_less e best then e else best

-- the numbers of their comparison fit
abbrev pub GreaterFits : Option Fraction → Fraction → Type 0
GreaterFits None e = Unit {0}
GreaterFits (Some best) e = ComparisonFits best e

abbrev pub LessFits : Option Fraction → Fraction → Type 0
LessFits None e = Unit {0}
LessFits (Some best) e = ComparisonFits e best

abbrev pub raised : ℕ → List Fraction → Option Fraction → DerivedRow → Option Fraction
raised k values best r = Some (greater_end best (end_of k values r))

abbrev pub lowered_end : ℕ → List Fraction → Option Fraction → DerivedRow → Option Fraction
lowered_end k values best r = Some (less_end best (end_of k values r))

abbrev pub RaisedFits : ℕ → List Fraction → Option Fraction → DerivedRow → Type 0
RaisedFits k values best r = EndFits k values r × GreaterFits best (end_of k values r)

abbrev pub LoweredFits : ℕ → List Fraction → Option Fraction → DerivedRow → Type 0
LoweredFits k values best r = EndFits k values r × LessFits best (end_of k values r)

-- the greatest end that lower bounds set, and the least that upper bounds set
abbrev pub lower_end : ℕ → List Fraction → List DerivedRow → Option Fraction
lower_end k values rows = fold (raised k values) None rows

abbrev pub upper_end : ℕ → List Fraction → List DerivedRow → Option Fraction
upper_end k values rows = fold (lowered_end k values) None rows

-- ---- the value

-- what the equality forces, or the whole number nearest 0 in the interval, or its lower end
abbrev pub value_of : ℕ → List Fraction → SetAside → Fraction
value_of k values (forced e) = end_of k values e
value_of k values (bounded ls us) = nearest (lower_end k values ls) (upper_end k values us)

abbrev pub ValueFits : ℕ → List Fraction → SetAside → Type 0
ValueFits k values (forced e) = EndFits k values e
ValueFits k values (bounded ls us) =
    FoldFits (raised k values) (RaisedFits k values) None ls × FoldFits (lowered_end k values) (LoweredFits k values) None us
