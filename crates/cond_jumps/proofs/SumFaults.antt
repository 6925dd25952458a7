-- What the code answers for a sum whose first operand is refused, or that is no sum.
use Rattle.std.proofs.Common.{◌≡◌, ℕ, ◌+◌, ℤ, pos, neg_ℤ, Bool, true, false, Option, None, Some, Result, Box, refl, sym, ap, subst, ◌∙◌}
use Rattle.std.specs.Result.{IsErrAnd}
use Rattle.std.specs.declared.alloc.Global.{Global}
use Rattle.std.proofs.lemmas.Bool.{false≢true}
use Rattle.math_facts.specs.Terms.{opposite}
use Rattle.boogie_tree.specs.declared.span.Span.{Span}
use Rattle.boogie_tree.specs.declared.tree.Op.{Op}
use Rattle.boogie_tree.specs.declared.tree.Op.TheVariants.{Iff, Implies, And, Or, Eq, Ne, Lt, Le, Gt, Ge, Add, Sub, Mul, Div, Mod}
use Rattle.boogie_tree.specs.declared.tree.VarInfo.{VarInfo}
use Rattle.typed_tree.specs.AffineForm.{divisor_of}
use Rattle.typed_tree.specs.TypedTree.{TypedExpression, Bin}
use Rattle.cond_jumps.specs.declared.refusal.Refusal.{Refusal}
use Rattle.cond_jumps.specs.declared.refusal.Refusal.TheVariants.{TooBig}
use Rattle.cond_jumps.specs.declared.sums.Divisor.{Divisor}
use Rattle.cond_jumps.specs.declared.sums.Sum.{Sum}
use Rattle.cond_jumps.specs.CodeView.{IsDivisorFound, is_combination, is_division}
use Rattle.cond_jumps.specs.Environments.{Environment}
use Rattle.cond_jumps.specs.Forms.{Linear, Linears, linear_number, linear_negated, quotient_rows}
use Rattle.cond_jumps.specs.Frames.{linear_at}
use Rattle.cond_jumps.specs.Paths.{arithmetic, constant_of, constant_operation, linear}
use Rattle.cond_jumps.specs.Ties.SumView.{sum_of, rows_fit, IsSumOf, IsBoxedAnswer}
use Rattle.cond_jumps.proofs.AnswerLemmas.{handed_on, first_refused, first_too_big}

-- what stands for a column has no rows, and so stands wherever helpers are numbered from
pub column_sum_is : (place : Option (ℕ × VarInfo)) (n : ℕ) (s : Sum) → sum_of s ≡ linear_at place 0 → IsSumOf (linear_at place n) s
column_sum_is None n s e = record { seen = e; fit = refl }
column_sum_is (Some x) n s e = record { seen = e; fit = refl }

-- the opposite of a sum
pub opposite_is : (a : Linears) (n : ℕ) (x s : Sum) → IsSumOf (a n) x → sum_of s ≡ record (sum_of x) { terms = opposite (sum_of x).terms; constant = neg_ℤ (sum_of x).constant } →
    IsSumOf (linear_negated a n) s
opposite_is a n x s h e = record { seen = e ∙ ap (λ (y : Linear). record y { terms = opposite y.terms; constant = neg_ℤ y.constant }) h.seen; fit = h.fit }

-- neither `+`, `-` and `*` nor `div` and `mod`
pub no_arithmetic : (op : Op) (k l : ℤ) (d : Option ℤ) (a b : Linears) → is_combination op ≡ false → is_division op ≡ false → arithmetic op k l d a b ≡ linear_number (pos 0)
no_arithmetic Add k l d a b h i = absurd (false≢true (sym h))
no_arithmetic Sub k l d a b h i = absurd (false≢true (sym h))
no_arithmetic Mul k l d a b h i = absurd (false≢true (sym h))
no_arithmetic Div k l d a b h i = absurd (false≢true (sym i))
no_arithmetic Mod k l d a b h i = absurd (false≢true (sym i))
no_arithmetic Iff k l d a b h i = refl
no_arithmetic Implies k l d a b h i = refl
no_arithmetic And k l d a b h i = refl
no_arithmetic Or k l d a b h i = refl
no_arithmetic Eq k l d a b h i = refl
no_arithmetic Ne k l d a b h i = refl
no_arithmetic Lt k l d a b h i = refl
no_arithmetic Le k l d a b h i = refl
no_arithmetic Gt k l d a b h i = refl
no_arithmetic Ge k l d a b h i = refl

-- `div` and `mod` by no divisor
no_divisor : (op : Op) (k l : ℤ) (d : Option ℤ) (a b : Linears) → is_division op ≡ true → IsDivisorFound d None → arithmetic op k l d a b ≡ linear_number (pos 0)
no_divisor Div k l None a b h i = refl
no_divisor Mod k l None a b h i = refl
no_divisor Div k l (Some z) a b h i = absurd i
no_divisor Mod k l (Some z) a b h i = absurd i
no_divisor Add k l d a b h i = absurd (false≢true h)
no_divisor Sub k l d a b h i = absurd (false≢true h)
no_divisor Mul k l d a b h i = absurd (false≢true h)
no_divisor Iff k l d a b h i = absurd (false≢true h)
no_divisor Implies k l d a b h i = absurd (false≢true h)
no_divisor And k l d a b h i = absurd (false≢true h)
no_divisor Or k l d a b h i = absurd (false≢true h)
no_divisor Eq k l d a b h i = absurd (false≢true h)
no_divisor Ne k l d a b h i = absurd (false≢true h)
no_divisor Lt k l d a b h i = absurd (false≢true h)
no_divisor Le k l d a b h i = absurd (false≢true h)
no_divisor Gt k l d a b h i = absurd (false≢true h)
no_divisor Ge k l d a b h i = absurd (false≢true h)

zero_is : (x : Linears) (n : ℕ) (r : Result (Box Sum Global) Refusal) → x ≡ linear_number (pos 0) → IsBoxedAnswer (linear_number (pos 0) 0) r → IsBoxedAnswer (x n) r
zero_is x n r e h = let P : Linears → Type 0 = λ z. IsBoxedAnswer (z n) r in subst P (sym e) h

-- no sum: 0
pub no_sum_answer : (v : Environment) (old : Bool) (at : Span) (op : Op) (e f : TypedExpression) (n : ℕ) (r : Result (Box Sum Global) Refusal) → is_combination op ≡ false →
    is_division op ≡ false → IsBoxedAnswer (linear_number (pos 0) 0) r → IsBoxedAnswer (linear v old (Bin at op e f) n) r
no_sum_answer v old at op e f n r h i z =
    zero_is (linear v old (Bin at op e f)) n r (no_arithmetic op (constant_of e) (constant_of f) (divisor_of f) (linear v old e) (linear v old f) h i) z

-- a division by no divisor: 0
pub no_quotient_answer : (v : Environment) (old : Bool) (at : Span) (op : Op) (e f d : TypedExpression) (n : ℕ) (r : Result (Box Sum Global) Refusal) → d ≡ f →
    is_division op ≡ true → IsDivisorFound (divisor_of d) None → IsBoxedAnswer (linear_number (pos 0) 0) r → IsBoxedAnswer (linear v old (Bin at op e f) n) r
no_quotient_answer v old at op e f d n r i h k z =
    let D : TypedExpression → Type 0 = λ y. IsDivisorFound (divisor_of y) None in
    zero_is (linear v old (Bin at op e f)) n r (no_divisor op (constant_of e) (constant_of f) (divisor_of f) (linear v old e) (linear v old f) h (subst D i k)) z

-- a row of the operand of `div` or `mod` does not fit
operand_refused : (op : Op) (k l : ℤ) (d : Option ℤ) (a b : Linears) (n : ℕ) (q : Divisor) → is_division op ≡ true → IsDivisorFound d (Some q) → rows_fit (a n).rows ≡ false →
    rows_fit (arithmetic op k l d a b n).rows ≡ false
operand_refused Div k l None a b n q h i f = absurd i
operand_refused Mod k l None a b n q h i f = absurd i
operand_refused Div k l (Some z) a b n q h i f = first_too_big (a n).rows (quotient_rows z (a n) (n + (a n).helpers)) f
operand_refused Mod k l (Some z) a b n q h i f = first_too_big (a n).rows (quotient_rows z (a n) (n + (a n).helpers)) f
operand_refused Add k l d a b n q h i f = absurd (false≢true h)
operand_refused Sub k l d a b n q h i f = absurd (false≢true h)
operand_refused Mul k l d a b n q h i f = absurd (false≢true h)
operand_refused Iff k l d a b n q h i f = absurd (false≢true h)
operand_refused Implies k l d a b n q h i f = absurd (false≢true h)
operand_refused And k l d a b n q h i f = absurd (false≢true h)
operand_refused Or k l d a b n q h i f = absurd (false≢true h)
operand_refused Eq k l d a b n q h i f = absurd (false≢true h)
operand_refused Ne k l d a b n q h i f = absurd (false≢true h)
operand_refused Lt k l d a b n q h i f = absurd (false≢true h)
operand_refused Le k l d a b n q h i f = absurd (false≢true h)
operand_refused Gt k l d a b n q h i f = absurd (false≢true h)
operand_refused Ge k l d a b n q h i f = absurd (false≢true h)

-- the first operand of `+`, `-` or `*` was refused
pub first_answer : (v : Environment) (old : Bool) (at : Span) (op : Op) (e f d : TypedExpression) (n : ℕ) (g : Refusal) (r : Result (Box Sum Global) Refusal) → d ≡ e → is_combination op ≡ true →
    (g ≡ TooBig → rows_fit (linear v old d n).rows ≡ false) → IsErrAnd r (λ h. h ≡ g) → IsBoxedAnswer (linear v old (Bin at op e f) n) r
first_answer v old at op e f d n g r i o h k =
    let P : TypedExpression → Type 0 = λ y. rows_fit (linear v old y n).rows ≡ false in
    handed_on (linear v old (Bin at op e f) n) r g k
    (λ t. first_refused op (constant_of e) (constant_of f) (divisor_of f) (linear v old e) (linear v old f) n o (subst P i (h t)))

-- the operand of `div` or `mod` was refused
pub operand_answer : (v : Environment) (old : Bool) (at : Span) (op : Op) (e f d1 d3 : TypedExpression) (n : ℕ) (q : Divisor) (g : Refusal) (r : Result (Box Sum Global) Refusal) → d1 ≡ f → d3 ≡ e →
    is_division op ≡ true → IsDivisorFound (divisor_of d1) (Some q) → (g ≡ TooBig → rows_fit (linear v old d3 n).rows ≡ false) → IsErrAnd r (λ h. h ≡ g) →
    IsBoxedAnswer (linear v old (Bin at op e f) n) r
operand_answer v old at op e f d1 d3 n q g r i j o d h k =
    let P : TypedExpression → Type 0 = λ y. rows_fit (linear v old y n).rows ≡ false in
    let D : TypedExpression → Type 0 = λ y. IsDivisorFound (divisor_of y) (Some q) in
    handed_on (linear v old (Bin at op e f) n) r g k
    (λ t. operand_refused op (constant_of e) (constant_of f) (divisor_of f) (linear v old e) (linear v old f) n q o (subst D i d) (subst P j (h t)))

-- no operation of constants
pub no_operation : (op : Op) (k l : ℤ) → (op ≡ Add → ⊥) → (op ≡ Sub → ⊥) → (op ≡ Mul → ⊥) → constant_operation op k l ≡ pos 0
no_operation Add k l a b c = absurd (a refl)
no_operation Sub k l a b c = absurd (b refl)
no_operation Mul k l a b c = absurd (c refl)
no_operation Div k l a b c = refl
no_operation Mod k l a b c = refl
no_operation Iff k l a b c = refl
no_operation Implies k l a b c = refl
no_operation And k l a b c = refl
no_operation Or k l a b c = refl
no_operation Eq k l a b c = refl
no_operation Ne k l a b c = refl
no_operation Lt k l a b c = refl
no_operation Le k l a b c = refl
no_operation Gt k l a b c = refl
no_operation Ge k l a b c = refl
