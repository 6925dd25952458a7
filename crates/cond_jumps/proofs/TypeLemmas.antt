-- What the type of an expression says of its parts.
use Rattle.std.proofs.Common.{◌≡◌, Bool, true, false, ◌&&◌, Option, None, Some, option_and_then, if◌then◌else◌, refl, sym, ap}
use Rattle.boogie_tree.specs.declared.tree.Op.{Op}
use Rattle.boogie_tree.specs.declared.tree.Op.TheVariants.{Iff, Implies, And, Or, Eq, Ne, Lt, Le, Gt, Ge, Add, Sub, Mul, Div, Mod}
use Rattle.boogie_tree.specs.declared.tree.Ty.{Ty}
use Rattle.boogie_tree.specs.declared.tree.Ty.TheVariants as types
use Rattle.boogie_tree.specs.declared.tree.Column.{Column}
use Rattle.boogie_tree.specs.declared.tree.Column.TheVariants as columns
use Rattle.typed_tree.specs.TypedTree.{TypedExpression, Lit, Truth, Var, Old, Not, Neg, Bin}
use Rattle.typed_tree.specs.Typing.{same_type, operation_type, only, is_some_of, result_type}
use Rattle.typed_tree.specs.AffineForm.{read_at}
use Rattle.typed_tree.specs.Values.{State, column_value, at_entry}
use Rattle.typed_tree.specs.Laws.{state_of}
use Rattle.cond_jumps.specs.Environments.{Environment, type_in}
use Rattle.cond_jumps.specs.Paths.{is_truth}

-- the types of two operands
pub record AreTyped (v : Environment) (old : Bool) (op : Op) (a b : TypedExpression) (r : Ty) : Type 0 where
  pub first : Ty
  pub second : Ty
  pub first_is : type_in v old a ≡ Some first
  pub second_is : type_in v old b ≡ Some second
  pub operation_is : operation_type op first second ≡ Some r

pub operands : (v : Environment) (old : Bool) (op : Op) (a b : TypedExpression) (r : Ty) →
    option_and_then (λ t. option_and_then (operation_type op t) (type_in v old b)) (type_in v old a) ≡ Some r → AreTyped v old op a b r
operands v old op a b r e = of_two (type_in v old a) (type_in v old b) refl refl e
  where
    of_two : (x y : Option Ty) → type_in v old a ≡ x → type_in v old b ≡ y →
        option_and_then (λ t. option_and_then (operation_type op t) y) x ≡ Some r → AreTyped v old op a b r
    of_two None y f g h = absurd (cc)
    of_two (Some t) None f g h = absurd (cc)
    of_two (Some t) (Some u) f g h = record { first = t; second = u; first_is = f; second_is = g; operation_is = h }

pub only_is : (wanted : Ty) (o : Option Ty) (r : Ty) → option_and_then (only wanted) o ≡ Some r → (o ≡ Some wanted) × (r ≡ wanted)
only_is wanted None r e = absurd (cc)
only_is types.Int (Some types.Int) r e = (refl, let f : r ≡ types.Int = cc in f)
only_is types.Int (Some types.Bool) r e = absurd (cc)
only_is types.Bool (Some types.Int) r e = absurd (cc)
only_is types.Bool (Some types.Bool) r e = (refl, let f : r ≡ types.Bool = cc in f)

pub not_both : types.Int ≡ types.Bool → ⊥
not_both e = cc

-- what an operation gives has the operator's type
pub operation_result : (op : Op) (t u r : Ty) → operation_type op t u ≡ Some r → r ≡ result_type op
operation_result op t u r e = of_test op r (same_type t u && _) e
  where
    of_test : (op : Op) (r : Ty) (b : Bool) → (if b then Some (result_type op) else None) ≡ Some r → r ≡ result_type op
    of_test op r true e = cc
    of_test op r false e = absurd (cc)

whole_operands : (t u r x : Ty) → (if same_type t u && same_type types.Int t then Some r else None) ≡ Some x → (t ≡ types.Int) × (u ≡ types.Int)
whole_operands types.Int types.Int r x e = (refl, refl)
whole_operands types.Int types.Bool r x e = absurd (cc)
whole_operands types.Bool types.Int r x e = absurd (cc)
whole_operands types.Bool types.Bool r x e = absurd (cc)

pub truth_operands : (t u r x : Ty) → (if same_type t u && same_type types.Bool t then Some r else None) ≡ Some x → (t ≡ types.Bool) × (u ≡ types.Bool)
truth_operands types.Int types.Int r x e = absurd (cc)
truth_operands types.Int types.Bool r x e = absurd (cc)
truth_operands types.Bool types.Int r x e = absurd (cc)
truth_operands types.Bool types.Bool r x e = (refl, refl)

pub like_operands : (t u r x : Ty) → (if same_type t u && true then Some r else None) ≡ Some x → u ≡ t
like_operands types.Int types.Int r x e = refl
like_operands types.Int types.Bool r x e = absurd (cc)
like_operands types.Bool types.Int r x e = absurd (cc)
like_operands types.Bool types.Bool r x e = refl

no_whole : (b : Bool) → (if b then Some types.Bool else None) ≡ Some types.Int → ⊥
no_whole true e = cc
no_whole false e = cc

-- `+`, `-`, `*`, `div` and `mod`
abbrev pub is_arithmetic : Op → Bool
is_arithmetic Add = true
is_arithmetic Sub = true
is_arithmetic Mul = true
is_arithmetic Div = true
is_arithmetic Mod = true
is_arithmetic op = false

-- an operation that gives a whole number is arithmetic, on whole numbers
pub whole_operation : (op : Op) (t u : Ty) → operation_type op t u ≡ Some types.Int → (is_arithmetic op ≡ true) × (t ≡ types.Int) × (u ≡ types.Int)
whole_operation Add t u e = let h = whole_operands t u types.Int types.Int e in (refl, h.0, h.1)
whole_operation Sub t u e = let h = whole_operands t u types.Int types.Int e in (refl, h.0, h.1)
whole_operation Mul t u e = let h = whole_operands t u types.Int types.Int e in (refl, h.0, h.1)
whole_operation Div t u e = let h = whole_operands t u types.Int types.Int e in (refl, h.0, h.1)
whole_operation Mod t u e = let h = whole_operands t u types.Int types.Int e in (refl, h.0, h.1)
whole_operation Iff t u e = absurd (no_whole (same_type t u && same_type types.Bool t) e)
whole_operation Implies t u e = absurd (no_whole (same_type t u && same_type types.Bool t) e)
whole_operation And t u e = absurd (no_whole (same_type t u && same_type types.Bool t) e)
whole_operation Or t u e = absurd (no_whole (same_type t u && same_type types.Bool t) e)
whole_operation Eq t u e = absurd (no_whole (same_type t u && true) e)
whole_operation Ne t u e = absurd (no_whole (same_type t u && true) e)
whole_operation Lt t u e = absurd (no_whole (same_type t u && same_type types.Int t) e)
whole_operation Le t u e = absurd (no_whole (same_type t u && same_type types.Int t) e)
whole_operation Gt t u e = absurd (no_whole (same_type t u && same_type types.Int t) e)
whole_operation Ge t u e = absurd (no_whole (same_type t u && same_type types.Int t) e)

-- both operands of an operation have one type
pub one_type : (op : Op) (t u r : Ty) → operation_type op t u ≡ Some r → u ≡ t
one_type op t u r e = by_types t u (λ b. b) e
  where
    by_types : (t u : Ty) (f : Bool → Bool) → operation_type op t u ≡ Some r → u ≡ t
    by_types types.Int types.Int f e = refl
    by_types types.Int types.Bool f e = absurd (cc)
    by_types types.Bool types.Int f e = absurd (cc)
    by_types types.Bool types.Bool f e = refl

-- whether an expression with a type is a truth value
pub truth_by_type : (v : Environment) (old : Bool) (e : TypedExpression) (t : Ty) → type_in v old e ≡ Some t → is_truth v old e ≡ same_type types.Bool t
truth_by_type v old (Lit at n) t h = let f : types.Int ≡ t = cc in ap (λ (u : Ty). same_type types.Bool u) f
truth_by_type v old (Truth at b) t h = let f : types.Bool ≡ t = cc in ap (λ (u : Ty). same_type types.Bool u) f
truth_by_type v old (Var at c) t h = ap (λ (o : Option Ty). is_some_of types.Bool o) h
truth_by_type v old (Old at e) t h = truth_by_type v true e t h
truth_by_type v old (Not at e) t h = ap (λ (u : Ty). same_type types.Bool u) (sym (only_is types.Bool (type_in v old e) t h).1)
truth_by_type v old (Neg at e) t h = ap (λ (u : Ty). same_type types.Bool u) (sym (only_is types.Int (type_in v old e) t h).1)
truth_by_type v old (Bin at op a b) t h =
    let o : AreTyped v old op a b t = operands v old op a b t h in
    ap (λ (u : Ty). same_type types.Bool u) (sym (operation_result op o.first o.second t o.operation_is))

-- ---- states read at entry or now

pub read_value : (old : Bool) (s : State) (c : Column) → column_value (state_of old s) c ≡ column_value s (read_at old c)
read_value true s (columns.Global n) = refl
read_value true s (columns.Old n) = refl
read_value true s (columns.Local n) = refl
read_value false s c = refl

pub entry_of : (old : Bool) (s : State) → at_entry (state_of old s) ≡ state_of true s
entry_of true s = refl
entry_of false s = refl
