-- Conditions that a run meets or breaks, and the values that it may choose.
use Rattle.std.specs.Prelude.{◌≡◌, ◌⊎◌, ℕ, ◌+◌, ℤ, pos, Bool, true, false, List, [], ◌∷◌, option_map, unwrap_or, slice_get}
use Rattle.std.specs.List.{AllByRecursion}
use Rattle.boogie_tree.specs.declared.tree.Ty.{Ty}
use Rattle.boogie_tree.specs.declared.tree.Ty.TheVariants as types
use Rattle.boogie_tree.specs.declared.tree.Column.{Column}
use Rattle.boogie_tree.specs.declared.tree.Column.TheVariants as columns
use Rattle.boogie_tree.specs.declared.tree.VarInfo.{VarInfo}
use Rattle.typed_tree.specs.TypedTree.{TypedExpression, TypedGuard, Any, Cond, TypedInvariant}
use Rattle.typed_tree.specs.Values.{State, value, value_is_zero}
use Rattle.typed_tree.specs.TypingRules.Counts.{one_if_plain}

abbrev pub IsMet : State → TypedExpression → Type 0
IsMet s e = value_is_zero (value s e) ≡ false

abbrev pub IsUnmet : State → TypedExpression → Type 0
IsUnmet s e = value_is_zero (value s e) ≡ true

abbrev pub AreMet : State → List TypedInvariant → Type 0
AreMet s is = AllByRecursion (λ i. IsMet s i.cond) is

-- The first of these conditions that is broken is not free, and is assertion n, where those that are not free are numbered from id.
abbrev pub Breaks : State → List TypedInvariant → ℕ → ℕ → Type 0
Breaks s [] id n = ⊥
Breaks s (i ∷ is) id n = (IsUnmet s i.cond × (i.free ≡ false) × (id ≡ n)) ⊎ (IsMet s i.cond × Breaks s is (id + one_if_plain i) n)

-- the guard lets a run go in, or past
abbrev pub Lets : State → TypedGuard → Bool → Type 0
Lets s Any goes_in = Unit {0}
Lets s (Cond e) true = IsMet s e
Lets s (Cond e) false = IsUnmet s e

-- a value of a type: that of a boolean is 0 or 1
abbrev pub IsOfType : Ty → ℤ → Type 0
IsOfType types.Int v = Unit {0}
IsOfType types.Bool v = (v ≡ pos 0) ⊎ (v ≡ pos 1)

-- one value of each type
abbrev pub AreOfTypes : List Ty → List ℤ → Type 0
AreOfTypes [] [] = Unit {0}
AreOfTypes (ty ∷ tys) (v ∷ vs) = IsOfType ty v × AreOfTypes tys vs
AreOfTypes tys vs = ⊥

-- the type of variable n; whole numbers where there is none
abbrev pub type_numbered : List VarInfo → ℕ → Ty
type_numbered vs n = unwrap_or (option_map (λ v. v.ty) (slice_get vs n)) types.Int

-- the type of a column, over these globals and locals
abbrev pub column_type : List VarInfo → List VarInfo → Column → Ty
column_type globals locals (columns.Global n) = type_numbered globals n
column_type globals locals (columns.Old n) = type_numbered globals n
column_type globals locals (columns.Local n) = type_numbered locals n
