-- What the definitions are worth.
use Rattle.std.specs.Prelude.{◌≡◌, ◌⊎◌, ℤ, pos, ◌+ℤ◌, ◌*ℤ◌, ◌≤ℤ◌, ◌<ℤ◌, unsigned_abs, Bool, true, false, List, [], ◌∷◌, Some}
use Rattle.boogie_tree.specs.declared.tree.Column.{Column}
use Rattle.boogie_tree.specs.declared.tree.Ty.TheVariants as types
use Rattle.boogie_tree.specs.declared.tree.VarInfo.{VarInfo}
use Rattle.typed_tree.specs.declared.fault.TypeFault.{TypeFault}
use Rattle.typed_tree.specs.TypedTree.{TypedExpression}
use Rattle.typed_tree.specs.Scope.{Scope, variable_at}
use Rattle.typed_tree.specs.Typing.{type_of}
use Rattle.typed_tree.specs.Values.{State, column_value, at_entry, value, value_is_zero, div_of, mod_of}
use Rattle.typed_tree.specs.AffineForm.{Form, form, is_affine, is_linear}
use Rattle.typed_tree.specs.KeptRules.{keeps_rules}
use Rattle.typed_tree.specs.BrokenRules.{IsBroken}

-- An expression with a broken rule does not keep the rules.
abbrev pub BrokenIsNotKept : Type 0
BrokenIsNotKept = (s : Scope) (e : TypedExpression) (f : TypeFault) → IsBroken s false e f → keeps_rules s false e ≡ false

-- the sum of coefficients times the values of their columns
abbrev pub sum_of : State → List (Column × ℤ) → ℤ
sum_of s [] = pos 0
sum_of s (t ∷ ts) = (t.1 *ℤ column_value s t.0) +ℤ sum_of s ts

-- the value of a form without quotients
abbrev pub form_value : State → Form → ℤ
form_value s a = sum_of s a.terms +ℤ a.constant

-- the state in which an expression is read at the procedure's entry or now
abbrev pub state_of : Bool → State → State
state_of true s = at_entry s
state_of false s = s

-- each fixed column has the value that it had at the procedure's entry
abbrev pub FixedStay : (Column → Bool) → State → Type 0
FixedStay fixed s = (c : Column) → fixed c ≡ true → column_value (at_entry s) c ≡ column_value s c

-- The form of a whole-number expression without `div` and `mod` has its value, wherever the constants have the values that they had at the procedure's entry.
abbrev pub FormIsValue : Type 0
FormIsValue =
    (fixed : Column → Bool) (old : Bool) (s : State) (e : TypedExpression) → FixedStay fixed s → is_affine e ≡ true → is_linear fixed old e ≡ true →
    value (state_of old s) e ≡ form_value s (form fixed old e)

abbrev pub IsTruth : ℤ → Type 0
IsTruth z = (z ≡ pos 0) ⊎ (z ≡ pos 1)

-- each boolean column that is seen holds a truth value, now and at the procedure's entry
abbrev pub BooleansHold : Scope → State → Type 0
BooleansHold c s = (d : Column) (v : VarInfo) → variable_at c d ≡ Some v → v.ty ≡ types.Bool → IsTruth (column_value s d) × IsTruth (column_value (at_entry s) d)

-- A boolean expression has a truth value.
abbrev pub TruthValues : Type 0
TruthValues = (c : Scope) (s : State) (e : TypedExpression) → BooleansHold c s → type_of c e ≡ Some types.Bool → IsTruth (value s e)

-- Division is Euclidean: a is k times the quotient and the remainder, which is from 0 to below the magnitude of k.
abbrev pub DivAndMod : Type 0
DivAndMod = (a k : ℤ) → value_is_zero k ≡ false → (a ≡ ((k *ℤ div_of a k) +ℤ mod_of a k)) × (pos 0 ≤ℤ mod_of a k) × (mod_of a k <ℤ pos (unsigned_abs k))
