-- The sum of a whole-number expression has its value.
use Rattle.std.proofs.Common.{◌≡◌, ℕ, ◌⊎◌, inl, inr, Bool, true, false, ◌||◌, ℤ, ◌*ℤ◌, neg_ℤ, Option, Some, not, refl, ap, sym, ◌∙◌, subst}
use Rattle.std.proofs.lemmas.Bool.{false≢true}
use Rattle.boogie_tree.specs.declared.tree.Op.{Op}
use Rattle.boogie_tree.specs.declared.tree.Op.TheVariants.{Iff, Implies, And, Or, Eq, Ne, Lt, Le, Gt, Ge, Add, Sub, Mul, Div, Mod}
use Rattle.boogie_tree.specs.declared.tree.Column.{Column}
use Rattle.boogie_tree.specs.declared.tree.Ty.TheVariants as types
use Rattle.typed_tree.specs.TypedTree.{TypedExpression, Lit, Truth, Var, Old, Not, Neg, Bin}
use Rattle.typed_tree.specs.Values.{State, value, value_is_zero, div_of, mod_of, operation_value}
use Rattle.typed_tree.specs.AffineForm.{Form, form, is_constant, is_divisor, divisor_of, read_at, is_linear, is_linear_operation}
use Rattle.typed_tree.specs.Laws.{state_of}
use Rattle.cond_jumps.specs.Forms.{Linears, linear_times, linear_divided, remaining}
use Rattle.cond_jumps.specs.Environments.{Environment, type_in}
use Rattle.cond_jumps.specs.Paths.{constant_of, linear_quotient, arithmetic, linear}
use Rattle.cond_jumps.specs.Worth.{IsSum, Shows}
use Rattle.cond_jumps.proofs.FormLemmas.{number_sum, negated_sum, plus_sum, minus_sum, times_sum}
use Rattle.cond_jumps.proofs.DivisionLemmas.{divided_sum, remaining_sum}
use Rattle.cond_jumps.proofs.ConstantLemmas.{IsFormOf, constant_is, form_of_value, linear_parts, form_constant}
use Rattle.cond_jumps.proofs.TypeLemmas.{AreTyped, operands, only_is, not_both, is_arithmetic, whole_operation, read_value, entry_of}

product_sum : (w : ℕ) (p : ℕ → ℤ) (s : State) (f g : Form) (a b : Linears) (u v : ℤ) → (is_constant f || is_constant g) ≡ true →
    IsFormOf s f u → IsFormOf s g v → IsSum w p a u → IsSum w p b v → IsSum w p (linear_times f.constant g.constant a b) (u *ℤ v)
product_sum w p s f g a b u v e i j h k = times_sum w p f.constant g.constant a b u v (by_test (is_constant f) refl) h k
  where
    by_test : (z : Bool) → is_constant f ≡ z → (u ≡ f.constant) ⊎ (v ≡ g.constant)
    by_test true t = inl (constant_is s f u t i)
    by_test false t = inr (constant_is s g v (sym (ap (λ (x : Bool). x || is_constant g) t) ∙ e) j)

-- a divisor is a literal other than 0
pub record IsDivisor (o : Option ℤ) (v : ℤ) : Type 0 where
  pub some : o ≡ Some v
  pub nonzero : value_is_zero v ≡ false

not_zero : (b : Bool) → not b ≡ true → b ≡ false
not_zero true e = absurd (false≢true e)
not_zero false e = refl

pub divisor_is : (s : State) (b : TypedExpression) → is_divisor (divisor_of b) ≡ true → IsDivisor (divisor_of b) (value s b)
divisor_is s (Lit at n) e = record { some = refl; nonzero = not_zero (value_is_zero n) e }
divisor_is s (Neg at (Lit at1 n)) e = record { some = refl; nonzero = not_zero (value_is_zero (neg_ℤ n)) e }
divisor_is s e h = absurd (false≢true h)

divided_by : (w : ℕ) (p : ℕ → ℤ) (o : Option ℤ) (a : Linears) (u v : ℤ) → IsDivisor o v → IsSum w p a u → IsSum w p (linear_quotient linear_divided o a) (div_of u v)
divided_by w p o a u v d h =
    let P : Option ℤ → Type 0 = λ x. IsSum w p (linear_quotient linear_divided x a) (div_of u v) in
    subst P (sym d.some) (divided_sum w p v a u d.nonzero h)

remaining_by : (w : ℕ) (p : ℕ → ℤ) (o : Option ℤ) (a : Linears) (u v : ℤ) → IsDivisor o v → IsSum w p a u → IsSum w p (linear_quotient remaining o a) (mod_of u v)
remaining_by w p o a u v d h =
    let P : Option ℤ → Type 0 = λ x. IsSum w p (linear_quotient remaining x a) (mod_of u v) in
    subst P (sym d.some) (remaining_sum w p v a u d.nonzero h)

arithmetic_sum : (g : Column → Bool) (w : ℕ) (p : ℕ → ℤ) (s t : State) (op : Op) (old : Bool) (e f : TypedExpression) (a b : Linears) (u : ℤ) → is_arithmetic op ≡ true →
    is_linear g old e ≡ true → is_linear g old f ≡ true → is_linear_operation g old op e f ≡ true → IsFormOf s (form g old e) u → IsFormOf s (form g old f) (value t f) → IsSum w p a u → IsSum w p b (value t f) →
    IsSum w p (arithmetic op (constant_of e) (constant_of f) (divisor_of f) a b) (operation_value op u (value t f))
arithmetic_sum g w p s t Add old e f a b u r m n l i j h k = plus_sum w p a b u (value t f) h k
arithmetic_sum g w p s t Sub old e f a b u r m n l i j h k = minus_sum w p a b u (value t f) h k
arithmetic_sum g w p s t Mul old e f a b u r m n l i j h k =
    let x = form_constant g old e m in
    let y = form_constant g old f n in
    let P : ℤ → ℤ → Type 0 = λ c d. IsSum w p (linear_times c d a b) (u *ℤ value t f) in
    let z : P (form g old e).constant (form g old f).constant = product_sum w p s (form g old e) (form g old f) a b u (value t f) l i j h k in
    subst (λ (c : ℤ). P c (constant_of f)) x (subst (λ (d : ℤ). P (form g old e).constant d) y z)
arithmetic_sum g w p s t Div old e f a b u r m n l i j h k = divided_by w p (divisor_of f) a u (value t f) (divisor_is t f l) h
arithmetic_sum g w p s t Mod old e f a b u r m n l i j h k = remaining_by w p (divisor_of f) a u (value t f) (divisor_is t f l) h
arithmetic_sum g w p s t Iff old e f a b u r m n l i j h k = absurd (false≢true r)
arithmetic_sum g w p s t Implies old e f a b u r m n l i j h k = absurd (false≢true r)
arithmetic_sum g w p s t And old e f a b u r m n l i j h k = absurd (false≢true r)
arithmetic_sum g w p s t Or old e f a b u r m n l i j h k = absurd (false≢true r)
arithmetic_sum g w p s t Eq old e f a b u r m n l i j h k = absurd (false≢true r)
arithmetic_sum g w p s t Ne old e f a b u r m n l i j h k = absurd (false≢true r)
arithmetic_sum g w p s t Lt old e f a b u r m n l i j h k = absurd (false≢true r)
arithmetic_sum g w p s t Le old e f a b u r m n l i j h k = absurd (false≢true r)
arithmetic_sum g w p s t Gt old e f a b u r m n l i j h k = absurd (false≢true r)
arithmetic_sum g w p s t Ge old e f a b u r m n l i j h k = absurd (false≢true r)

-- Where what stands for the columns has their values, the sum of a whole-number expression has its value.
pub linear_form : (w : ℕ) (p : ℕ → ℤ) (v : Environment) (s : State) → Shows w p v s → (old : Bool) (e : TypedExpression) →
    type_in v old e ≡ Some types.Int → is_linear v.fixed old e ≡ true → IsSum w p (linear v old e) (value (state_of old s) e)
linear_form w p v s h old (Lit at n) t l = number_sum w p n
linear_form w p v s h old (Truth at b) t l = absurd (cc)
linear_form w p v s h old (Var at c) t l = subst (IsSum w p (v.sum (read_at old c))) (sym (read_value old s c)) (h.sums (read_at old c) t)
linear_form w p v s h old (Old at e) t l =
    let P : State → Type 0 = λ z. IsSum w p (linear v true e) (value z e) in
    subst P (sym (entry_of old s)) (linear_form w p v s h true e t l)
linear_form w p v s h old (Not at e) t l = absurd (not_both (only_is types.Bool (type_in v old e) types.Int t).1)
linear_form w p v s h old (Neg at e) t l =
    negated_sum w p (linear v old e) (value (state_of old s) e) (linear_form w p v s h old e (only_is types.Int (type_in v old e) types.Int t).0 l)
linear_form w p v s h old (Bin at op a b) t l =
    let o : AreTyped v old op a b types.Int = operands v old op a b types.Int t in
    let k = whole_operation op o.first o.second o.operation_is in
    let d = linear_parts v.fixed old op a b l in
    let x : type_in v old a ≡ Some types.Int = o.first_is ∙ ap Some k.1 in
    let y : type_in v old b ≡ Some types.Int = o.second_is ∙ ap Some k.2 in
    arithmetic_sum v.fixed w p s (state_of old s) op old a b (linear v old a) (linear v old b) (value (state_of old s) a) k.0 d.0 d.1 d.2
    (form_of_value v old s a h.constants x d.0) (form_of_value v old s b h.constants y d.1)
    (linear_form w p v s h old a x d.0) (linear_form w p v s h old b y d.1)
