-- The negation of an inequality: `a.x <= b` fails at a whole point exactly where `-a.x <= -b-1`.
use Rattle.std.specs.Prelude.{ℤ, negsuc, ◌-ℤ◌}
use Rattle.math_facts.specs.Terms.{opposite}
use Rattle.lin_rows.specs.declared.types.RowKind.TheVariants.{Le}
use Rattle.lin_rows.specs.Rows.{LinearRow}

-- one less than the opposite number
abbrev pub below_opposite : ℤ → ℤ
below_opposite b = negsuc 0 -ℤ b

-- the row with which exactly the other whole points are met
abbrev pub negated : LinearRow → LinearRow
negated r = record { terms = opposite r.terms; kind = Le; bound = below_opposite r.bound }
