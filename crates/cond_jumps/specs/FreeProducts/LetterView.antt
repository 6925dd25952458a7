-- Letters of the code as contracts see them, and the tables by which it makes them.
use Rattle.std.specs.Prelude.{◌≡◌, ℕ, zero, suc, ◌+◌, ◌-◌, ◌≤◌, ℤ, Bool, false, nat_lt, List, [], ◌∷◌, map, length, get_or, Option, None, slice_set, if◌then◌else◌}
use Rattle.lin_rows.specs.Rows.{LinearRow}
use Rattle.cond_jumps.specs.Conjunctions.{Conjunction}
use Rattle.cond_jumps.specs.Conjs.{conjunction}
use Rattle.cond_jumps.specs.declared.free_products.ties.ProductSpan as code
use Rattle.cond_jumps.specs.declared.free_products.letters.MarkedConj.{MarkedConj}
use Rattle.cond_jumps.specs.FreeProducts.Letters.{MarkedConjunction, ProductSpan, is_product_column, is_helper_column, names_any}

abbrev pub seen : code.ProductSpan → ProductSpan
seen s = record { low = s.low; high = s.high; base = s.base; top = s.top }

-- the products stand before the helpers, which are so many
pub record IsSpanOf (s : ProductSpan) (helpers : ℕ) : Type 0 where
  pub before : s.high ≤ s.base
  pub end : s.top ≡ s.base + helpers

abbrev pub marked : MarkedConj → MarkedConjunction
marked c = record { plain = conjunction c.conj; coarse = c.coarse }

abbrev pub all_marked : List MarkedConj → List MarkedConjunction
all_marked cs = map marked cs

-- a conjunction without products as its own letter
abbrev pub exact_letter : Conjunction → MarkedConjunction
exact_letter c = record { plain = c; coarse = false }

-- what a function gives at the k numbers from n on
abbrev pub tabulated : {X : Type 0} → (ℕ → X) → ℕ → ℕ → List X
tabulated f n zero = []
tabulated f n (suc k) = f n ∷ tabulated f (suc n) k

-- the product to which a helper is tied, by a table from the first helper on
abbrev pub tied_by : ProductSpan → List (Option ℕ) → ℕ → Option ℕ
tied_by s ps c = if is_helper_column s c then get_or ps (c - s.base) None else None

-- the columns of these terms stay
abbrev pub cleared : List (ℕ × ℤ) → List Bool → List Bool
cleared [] out = out
cleared (t ∷ ts) out = cleared ts (slice_set out t.0 false)

-- the columns of the rows that name no product stay
abbrev pub cleared_rows : ProductSpan → List LinearRow → List Bool → List Bool
cleared_rows s [] out = out
cleared_rows s (r ∷ rows) out = cleared_rows s rows (if names_any (is_product_column s) r then out else cleared r.terms out)

-- the numbers of columns among those that stay, from n on, and behind them the number of the next
abbrev pub numbered : ℕ → List Bool → List ℕ
numbered n [] = n ∷ []
numbered n (b ∷ bs) = n ∷ numbered (if b then n else suc n) bs

-- the number of a column by that table; those past it all stay
abbrev pub placed : List ℕ → ℕ → ℕ
placed places c = if nat_lt c (length places) then get_or places c 0 else get_or places (length places - 1) 0 + (c - (length places - 1))

abbrev pub placed_terms : List ℕ → List (ℕ × ℤ) → List (ℕ × ℤ)
placed_terms places ts = map (λ t. (placed places t.0, t.1)) ts

abbrev pub placed_row : List ℕ → LinearRow → LinearRow
placed_row places r = record { terms = placed_terms places r.terms; kind = r.kind; bound = r.bound }
