-- The sums of the code as contracts see them.
use Rattle.std.specs.Prelude.{◌≡◌, ℕ, ◌+◌, ℤ, pos, neg_ℤ, Bool, true, false, List, [], ◌∷◌, ◌++◌, Result, MatchResult, Box}
use Rattle.std.specs.declared.alloc.Global.{Global}
use Rattle.std.specs.List.{list_all}
use Rattle.boogie_tree.specs.declared.tree.Op.{Op}
use Rattle.boogie_tree.specs.declared.tree.Op.TheVariants as ops
use Rattle.lin_rows.specs.Rows.{LinearRow}
use Rattle.cond_jumps.specs.declared.sums.Sum.{Sum}
use Rattle.cond_jumps.specs.declared.sums.Divided.{Divided}
use Rattle.cond_jumps.specs.declared.refusal.Refusal.{Refusal}
use Rattle.cond_jumps.specs.declared.refusal.Refusal.TheVariants.{TooBig}
use Rattle.cond_jumps.specs.Conjunctions.{row_fits}
use Rattle.cond_jumps.specs.Forms.{Linear, quotient_rows, over_quotient}
use Rattle.cond_jumps.specs.LongView.{long}
use Rattle.cond_jumps.specs.Ties.Totals.{terms_of}

abbrev pub sum_of : Sum → Linear
sum_of s = record { terms = terms_of s.terms.items; constant = long s.constant; rows = s.rows.items; helpers = s.helpers }

-- each number of the rows fits
abbrev pub rows_fit : List LinearRow → Bool
rows_fit rows = list_all row_fits rows

-- the sum, whose rows fit
pub record IsSumOf (x : Linear) (s : Sum) : Type 0 where
  pub seen : sum_of s ≡ x
  pub fit : rows_fit x.rows ≡ true

-- the sum, or the refusal that a number of its rows does not fit
abbrev pub IsSumAnswer : Linear → Result Sum Refusal → Type 0
IsSumAnswer x r = MatchResult r (IsSumOf x) (λ f. f ≡ TooBig → rows_fit x.rows ≡ false)

-- the same of a sum on the heap
abbrev pub IsBoxedAnswer : Linear → Result (Box Sum Global) Refusal → Type 0
IsBoxedAnswer x r = MatchResult r (λ s. IsSumOf x s.value) (λ f. f ≡ TooBig → rows_fit x.rows ≡ false)

-- a sum divided by k, its helpers numbered from a column on, and the rows of its quotient, which fit
pub record IsDivided (k : ℤ) (x : Linear) (next : ℕ) (d : Divided) : Type 0 where
  pub column : d.column ≡ next + x.helpers
  pub rest : terms_of d.rest.items ≡ x.terms ++ (next + x.helpers, neg_ℤ k) ∷ []
  pub constant : long d.constant ≡ x.constant
  pub rows : d.rows.items ≡ x.rows ++ quotient_rows k x (next + x.helpers)
  pub helpers : d.helpers ≡ x.helpers + 1
  pub fit : rows_fit (quotient_rows k x (next + x.helpers)) ≡ true

abbrev pub IsDivideAnswer : ℤ → Linear → ℕ → Result Divided Refusal → Type 0
IsDivideAnswer k x next r = MatchResult r (IsDivided k x next) (λ f. f ≡ TooBig → rows_fit (quotient_rows k x (next + x.helpers)) ≡ false)

-- the quotient or the remainder of a sum whose own rows fit, or the refusal that a number of the rows of its helper does not fit
abbrev pub part : Op → ℤ → Linear → ℕ → Linear
part ops.Div k x next = over_quotient k x (next + x.helpers) ((next + x.helpers, pos 1) ∷ []) (pos 0)
part op k x next = over_quotient k x (next + x.helpers) (x.terms ++ (next + x.helpers, neg_ℤ k) ∷ []) x.constant

abbrev pub IsPartAnswer : Op → ℤ → Linear → ℕ → Result (Box Sum Global) Refusal → Type 0
IsPartAnswer op k x next r =
    MatchResult r (λ s. (sum_of s.value ≡ part op k x next) × (rows_fit (quotient_rows k x (next + x.helpers)) ≡ true))
    (λ f. f ≡ TooBig → rows_fit (quotient_rows k x (next + x.helpers)) ≡ false)
