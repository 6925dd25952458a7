-- The affine forms of whole-number expressions, exact: columns with a coefficient each, and a constant. Each `div`, each `mod` and each product of
-- two factors that are not constant is an atom of its own.
use Rattle.std.specs.Prelude.{◌^◌, ℤ, pos, negsuc, ◌+ℤ◌, ◌*ℤ◌, neg_ℤ, unsigned_abs, Bool, true, false, not, ◌&&◌, ◌||◌, nat_lt, nat_eq, List, [], ◌∷◌, ◌++◌, map, Option, None, Some, if◌then◌else◌}
use Rattle.std.specs.List.{list_all}
use Rattle.boogie_tree.specs.declared.tree.Op.{Op}
use Rattle.boogie_tree.specs.declared.tree.Op.TheVariants.{Add, Sub, Mul, Div, Mod}
use Rattle.boogie_tree.specs.declared.tree.Column.{Column}
use Rattle.boogie_tree.specs.declared.tree.Column.TheVariants as columns
use Rattle.typed_tree.specs.TypedTree.{TypedExpression, Lit, Truth, Var, Old, Not, Neg, Bin}

-- Columns ascend and no coefficient is 0; the coefficients of the atoms stand in text order.
pub record Form : Type 0 where
  pub terms : List (Column × ℤ)
  pub quotients : List ℤ
  pub constant : ℤ

abbrev pub form_is_zero : ℤ → Bool
form_is_zero z = nat_eq (unsigned_abs z) 0

-- the order of columns: globals, old values, locals, each by number
abbrev pub is_before : Column → Column → Bool
is_before (columns.Global a) (columns.Global b) = nat_lt a b
is_before (columns.Global a) other = true
is_before (columns.Old a) (columns.Global b) = false
is_before (columns.Old a) (columns.Old b) = nat_lt a b
is_before (columns.Old a) (columns.Local b) = true
is_before (columns.Local a) (columns.Local b) = nat_lt a b
is_before (columns.Local a) other = false

-- the term in front, unless its coefficient is 0
abbrev pub form_led_by : Column → ℤ → List (Column × ℤ) → List (Column × ℤ)
form_led_by c a ts = if form_is_zero a then ts else (c, a) ∷ ts

-- ascending terms with a added at the column c
abbrev pub form_added_at : Column → ℤ → List (Column × ℤ) → List (Column × ℤ)
form_added_at c a [] = form_led_by c a []
form_added_at c a (t ∷ ts) =
    if is_before c t.0 then form_led_by c a (t ∷ ts)
    else (if is_before t.0 c then t ∷ form_added_at c a ts else form_led_by c (t.1 +ℤ a) ts)

-- the terms of the second added to those of the first, one after the other: ascending by column, one term a column, none with the coefficient 0
abbrev pub added_to : List (Column × ℤ) → List (Column × ℤ) → List (Column × ℤ)
added_to ts [] = ts
added_to ts (u ∷ us) = added_to (form_added_at u.0 u.1 ts) us

abbrev pub form_number : ℤ → Form
form_number n = record { terms = []; quotients = []; constant = n }

abbrev pub once : Column → Form
once c = record { terms = (c, pos 1) ∷ []; quotients = []; constant = pos 0 }

-- one atom
abbrev pub form_quotient : Form
form_quotient = record { terms = []; quotients = pos 1 ∷ []; constant = pos 0 }

-- each number of a form times m, which is not 0
abbrev pub form_scaled : ℤ → Form → Form
form_scaled m b =
    record {
      terms = map (λ t. (t.0, m *ℤ t.1)) b.terms;
      quotients = map (λ q. m *ℤ q) b.quotients;
      constant = m *ℤ b.constant;
    }

-- m*b
abbrev pub form_times : ℤ → Form → Form
form_times m b = if form_is_zero m then form_number (pos 0) else form_scaled m b

-- a+b
abbrev pub form_plus : Form → Form → Form
form_plus a b =
    record {
      terms = added_to a.terms b.terms;
      quotients = a.quotients ++ b.quotients;
      constant = a.constant +ℤ b.constant;
    }

abbrev pub is_empty : {X : Type 0} → List X → Bool
is_empty [] = true
is_empty (x ∷ xs) = false

-- nothing but a constant
abbrev pub is_constant : Form → Bool
is_constant a = is_empty a.terms && is_empty a.quotients

-- a*b: one factor times the other, where one is constant; else one atom
abbrev pub product : Form → Form → Form
product a b = if is_constant a then form_times a.constant b else (if is_constant b then form_times b.constant a else form_quotient)

abbrev pub operation : Op → Form → Form → Form
operation Add a b = form_plus a b
operation Sub a b = form_plus a (form_times (negsuc 0) b)
operation Mul a b = product a b
operation Div a b = form_quotient
operation Mod a b = form_quotient
operation op a b = form_number (pos 0)

-- the column that is read, at the procedure's entry or now
abbrev pub read_at : Bool → Column → Column
read_at true (columns.Global n) = columns.Old n
read_at true c = c
read_at false c = c

-- the column by which a form names one that is read at the procedure's entry or now: `old` changes nothing of the fixed ones, the constants
abbrev pub form_column : (Column → Bool) → Bool → Column → Column
form_column fixed old c = if fixed c then c else read_at old c

-- the form of an expression that is read at the procedure's entry or now; 0 of what is no whole number
abbrev pub form : (Column → Bool) → Bool → TypedExpression → Form
form fixed old (Lit at n) = form_number n
form fixed old (Truth at b) = form_number (pos 0)
form fixed old (Var at c) = once (form_column fixed old c)
form fixed old (Old at e) = form fixed true e
form fixed old (Not at e) = form_number (pos 0)
form fixed old (Neg at e) = form_times (negsuc 0) (form fixed old e)
form fixed old (Bin at op a b) = operation op (form fixed old a) (form fixed old b)

-- a literal, or a literal after one `-`
abbrev pub divisor_of : TypedExpression → Option ℤ
divisor_of (Lit at n) = Some n
divisor_of (Neg at (Lit at1 n)) = Some (neg_ℤ n)
divisor_of e = None

abbrev pub is_divisor : Option ℤ → Bool
is_divisor None = false
is_divisor (Some k) = not (form_is_zero k)

-- the rule of an operator: a divisor is a literal other than 0, and one factor of a product is constant
abbrev pub is_linear_operation : (Column → Bool) → Bool → Op → TypedExpression → TypedExpression → Bool
is_linear_operation fixed old Mul a b = is_constant (form fixed old a) || is_constant (form fixed old b)
is_linear_operation fixed old Div a b = is_divisor (divisor_of b)
is_linear_operation fixed old Mod a b = is_divisor (divisor_of b)
is_linear_operation fixed old op a b = true

-- the rule of operators holds in each part
abbrev pub is_linear : (Column → Bool) → Bool → TypedExpression → Bool
is_linear fixed old (Old at e) = is_linear fixed true e
is_linear fixed old (Not at e) = is_linear fixed old e
is_linear fixed old (Neg at e) = is_linear fixed old e
is_linear fixed old (Bin at op a b) = is_linear fixed old a && (is_linear fixed old b && is_linear_operation fixed old op a b)
is_linear fixed old e = true

-- its magnitude is at most 2^127 - 1
abbrev pub fits : ℤ → Bool
fits z = nat_lt (unsigned_abs z) (2 ^ 127)

-- each number of the form fits
abbrev pub form_fits : Form → Bool
form_fits a = list_all (λ t. fits t.1) a.terms && (list_all fits a.quotients && fits a.constant)

-- the form of each part fits
abbrev pub forms_fit : (Column → Bool) → Bool → TypedExpression → Bool
forms_fit fixed old (Lit at n) = fits n
forms_fit fixed old (Truth at b) = true
forms_fit fixed old (Var at c) = true
forms_fit fixed old (Old at e) = forms_fit fixed true e
forms_fit fixed old (Not at e) = forms_fit fixed old e
forms_fit fixed old (Neg at e) = forms_fit fixed old e && form_fits (form fixed old (Neg at e))
forms_fit fixed old (Bin at op a b) = forms_fit fixed old a && (forms_fit fixed old b && form_fits (form fixed old (Bin at op a b)))

abbrev pub is_affine_operator : Op → Bool
is_affine_operator Add = true
is_affine_operator Sub = true
is_affine_operator Mul = true
is_affine_operator op = false

-- a whole-number expression without `div` and `mod`
abbrev pub is_affine : TypedExpression → Bool
is_affine (Lit at n) = true
is_affine (Truth at b) = false
is_affine (Var at c) = true
is_affine (Old at e) = is_affine e
is_affine (Not at e) = false
is_affine (Neg at e) = is_affine e
is_affine (Bin at op a b) = is_affine_operator op && (is_affine a && is_affine b)
