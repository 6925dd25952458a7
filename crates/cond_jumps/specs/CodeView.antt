-- What the code finds, as contracts see it.
use Rattle.std.specs.Prelude.{◌≡◌, ◌<◌, length, slice_get, ℕ, ℤ, pos, ◌+ℤ◌, ◌-ℤ◌, ◌*ℤ◌, ◌++◌, unsigned_abs, Bool, true, false, Option, None, Some}
use Rattle.math_facts.specs.Terms.{scaled, opposite}
use Rattle.boogie_tree.specs.declared.tree.Op.{Op}
use Rattle.boogie_tree.specs.declared.tree.Op.TheVariants as ops
use Rattle.boogie_tree.specs.declared.tree.Column.{Column}
use Rattle.boogie_tree.specs.declared.tree.VarInfo.{VarInfo}
use Rattle.letter_acts.specs.Frames.{Columns}
use Rattle.cond_jumps.specs.declared.sums.Divisor.{Divisor}
use Rattle.cond_jumps.specs.declared.columns.Spot.{Spot}
use Rattle.cond_jumps.specs.Forms.{Linear, linear_over}
use Rattle.cond_jumps.specs.Frames.{place_from}
use Rattle.cond_jumps.specs.LongView.{long}

-- the divisor, or that there is none
abbrev pub IsDivisorFound : Option ℤ → Option Divisor → Type 0
IsDivisorFound None None = Unit {0}
IsDivisorFound None (Some d) = ⊥
IsDivisorFound (Some k) None = ⊥
IsDivisorFound (Some k) (Some d) = (long d.value ≡ k) × (long d.magnitude ≡ pos (unsigned_abs (long d.value)))

-- the place of a column and its type, or that it has none
abbrev pub IsPlaceFound : Option (ℕ × VarInfo) → Option Spot → Type 0
IsPlaceFound None None = Unit {0}
IsPlaceFound None (Some p) = ⊥
IsPlaceFound (Some x) None = ⊥
IsPlaceFound (Some x) (Some p) = (p.number ≡ x.0) × (p.ty ≡ x.1.ty)

-- the column was found at that place
abbrev pub FoundAt : Columns → Column → ℕ → Type 0
FoundAt columns c i = (i < length columns) × ((d : Column × VarInfo) → slice_get columns i ≡ Some d → place_from 0 columns c ≡ Some (i, d.1))

-- what `+`, `-` or `*` makes of two sums
abbrev pub combination : Op → ℤ → ℤ → Linear → Linear → Linear
combination ops.Add k l x y = linear_over x y (x.terms ++ y.terms) (x.constant +ℤ y.constant)
combination ops.Sub k l x y = linear_over x y (x.terms ++ opposite y.terms) (x.constant -ℤ y.constant)
combination op k l x y = linear_over x y (scaled k y.terms ++ scaled l x.terms) (((k *ℤ y.constant) +ℤ (l *ℤ x.constant)) -ℤ (k *ℤ l))

-- `+`, `-` or `*`
abbrev pub is_combination : Op → Bool
is_combination ops.Add = true
is_combination ops.Sub = true
is_combination ops.Mul = true
is_combination op = false

-- `div` or `mod`
abbrev pub is_division : Op → Bool
is_division ops.Div = true
is_division ops.Mod = true
is_division op = false
