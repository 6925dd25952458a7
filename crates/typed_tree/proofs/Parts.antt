-- The parts of expressions, and where a rule is broken.
use Rattle.std.proofs.Common.{◌≡◌, inl, inr, Bool, true, false, ◌&&◌, ℤ, negsuc, Option, None, Some, Result, Ok, Err, Box, refl, ap, sym, ◌∙◌, subst}
use Rattle.std.specs.List.{list_all}
use Rattle.std.specs.Option.{option_map}
use Rattle.std.specs.declared.alloc.Global.{Global}
use Rattle.std.proofs.lemmas.Bool.{and_from, not-false, true≢false}
use Rattle.boogie_tree.specs.declared.span.Span.{Span}
use Rattle.boogie_tree.specs.declared.tree.Ty.TheVariants as types
use Rattle.boogie_tree.specs.declared.tree.Op.{Op}
use Rattle.boogie_tree.specs.declared.tree.Op.TheVariants.{Iff, Implies, And, Or, Eq, Ne, Lt, Le, Gt, Ge, Add, Sub, Mul, Div, Mod}
use Rattle.typed_tree.specs.declared.fault.TypeFault.{TypeFault}
use Rattle.typed_tree.specs.declared.fault.TypeFault.TheVariants as fault
use Rattle.typed_tree.specs.declared.typing.Part.{Part}
use Rattle.typed_tree.specs.TypedTree.{TypedExpression, Old, Not, Neg, Bin}
use Rattle.typed_tree.specs.Scope.{Scope, fixed}
use Rattle.typed_tree.specs.Typing.{operation_type}
use Rattle.typed_tree.specs.AffineForm.{Form, form, forms_fit, form_fits, fits, form_is_zero, divisor_of, is_divisor, form_times, operation}
use Rattle.typed_tree.specs.Divided.{is_divided, is_divided_operation}
use Rattle.typed_tree.specs.BrokenRules.{IsBroken, in_old, in_not, in_neg, in_left, in_right, no_truth, no_number, ill_typed, zero_divisor, no_literal, big_opposite, big_operation, IsFault, is_division}
use Rattle.typed_tree.specs.Ties.FormOrder.{terms_fit}
use Rattle.typed_tree.specs.Ties.FormView.{form_of, IsPart, IsPartFault, IsAnswer}
use Rattle.typed_tree.specs.Ties.BrokenOperation.{divisor_fault, zero_literal}

-- ---- faults of operands

pub old_fault : (s : Scope) (old : Bool) (at : Span) (e : TypedExpression) (f : TypeFault) → IsPartFault s true e f → IsPartFault s old (Old at e) f
old_fault s old at e f (inl m) = inl m
old_fault s old at e f (inr b) = inr (in_old old at e f b)

pub not_fault : (s : Scope) (old : Bool) (at : Span) (e : TypedExpression) (f : TypeFault) → IsPartFault s old e f → IsPartFault s old (Not at e) f
not_fault s old at e f (inl m) = inl m
not_fault s old at e f (inr b) = inr (in_not old at e f b)

pub neg_fault : (s : Scope) (old : Bool) (at : Span) (e : TypedExpression) (f : TypeFault) → IsPartFault s old e f → IsPartFault s old (Neg at e) f
neg_fault s old at e f (inl m) = inl m
neg_fault s old at e f (inr b) = inr (in_neg old at e f b)

pub left_fault : (s : Scope) (old : Bool) (at : Span) (op : Op) (a b : TypedExpression) (f : TypeFault) → IsPartFault s old a f → IsPartFault s old (Bin at op a b) f
left_fault s old at op a b f (inl m) = inl m
left_fault s old at op a b f (inr h) = inr (in_left old at op a b f h)

pub right_fault : (s : Scope) (old : Bool) (at : Span) (op : Op) (a b : TypedExpression) (f : TypeFault) → IsPartFault s old b f → IsPartFault s old (Bin at op a b) f
right_fault s old at op a b f (inl m) = inl m
right_fault s old at op a b f (inr h) = inr (in_right old at op a b f h)

-- ---- `old`

pub old_answer : (s : Scope) (old : Bool) (at : Span) (e : TypedExpression) (r : Result (Box Part Global) TypeFault) → s.old ≡ true → IsAnswer s true e r → IsAnswer s old (Old at e) r
old_answer s old at e (Ok p) h a = record { typed = rw h a.typed; divided = a.divided; fit = a.fit; seen = a.seen }
old_answer s old at e (Err f) h a = old_fault s old at e f a

-- ---- operations

form_of_parts : (s : Scope) (old : Bool) (op : Op) (a b : TypedExpression) (p q : Part) → IsPart s old a p → IsPart s old b q →
    operation op (form_of p.form) (form_of q.form) ≡ operation op (form (fixed s) old a) (form (fixed s) old b)
form_of_parts s old op a b p q h k = rw (h.seen, k.seen) refl

part_fits : (p : Part) → form_fits (form_of p.form) ≡ true
part_fits p = and_from (terms_fit p.form.terms.items) (list_all fits p.form.quotients.items && fits p.form.constant) p.form.terms_fit (and_from (list_all fits p.form.quotients.items) (fits p.form.constant) p.form.quotients_fit p.form.constant_fits)

pub operation_part : (s : Scope) (old : Bool) (at : Span) (op : Op) (a b : TypedExpression) (p q r : Part) → IsPart s old a p → IsPart s old b q →
    operation_type op p.ty q.ty ≡ Some r.ty → is_divided_operation op b ≡ true → form_of r.form ≡ operation op (form_of p.form) (form_of q.form) →
    IsPart s old (Bin at op a b) r
operation_part s old at op a b p q r h k t l e =
    let g : form_of r.form ≡ operation op (form (fixed s) old a) (form (fixed s) old b) = e ∙ form_of_parts s old op a b p q h k in
    record {
      typed = rw (h.typed, k.typed) t;
      divided = and_from (is_divided a) (is_divided b && is_divided_operation op b) h.divided (and_from (is_divided b) (is_divided_operation op b) k.divided l);
      fit = and_from (forms_fit (fixed s) old a) (forms_fit (fixed s) old b && form_fits (operation op (form (fixed s) old a) (form (fixed s) old b))) h.fit
          (and_from (forms_fit (fixed s) old b) (form_fits (operation op (form (fixed s) old a) (form (fixed s) old b))) k.fit (ap form_fits (sym g) ∙ part_fits r));
      seen = g;
    }

pub mismatched : (s : Scope) (old : Bool) (at : Span) (op : Op) (a b : TypedExpression) (p q : Part) → IsPart s old a p → IsPart s old b q →
    operation_type op p.ty q.ty ≡ None → IsPartFault s old (Bin at op a b) (fault.Mismatch at)
mismatched s old at op a b p q h k e = inr (ill_typed old at op a b p.ty q.ty h.typed k.typed e)

pub operation_big : (s : Scope) (old : Bool) (at : Span) (op : Op) (a b : TypedExpression) (p q : Part) → IsPart s old a p → IsPart s old b q →
    form_fits (operation op (form_of p.form) (form_of q.form)) ≡ false → IsPartFault s old (Bin at op a b) (fault.TooBig at)
operation_big s old at op a b p q h k e = inr (big_operation old at op a b (ap form_fits (sym (form_of_parts s old op a b p q h k)) ∙ e))

division_broken : (s : Scope) (old : Bool) (at : Span) (op : Op) (a b : TypedExpression) (o : Option ℤ) → is_division op ≡ true → divisor_of b ≡ o → is_divisor o ≡ false →
    IsBroken s old (Bin at op a b) (divisor_fault (option_map form_is_zero o) b)
division_broken s old at op a b None d e h = no_literal old at op a b d e
division_broken s old at op a b (Some k) d e h = zero_divisor old at op a b k d e (not-false (form_is_zero k) h)

operator_broken : (s : Scope) (old : Bool) (at : Span) (op : Op) (a b : TypedExpression) → is_divided_operation op b ≡ false →
    IsBroken s old (Bin at op a b) (divisor_fault (zero_literal b) b)
operator_broken s old at Div a b h = division_broken s old at Div a b (divisor_of b) refl refl h
operator_broken s old at Mod a b h = division_broken s old at Mod a b (divisor_of b) refl refl h
operator_broken s old at Iff a b h = absurd (true≢false h)
operator_broken s old at Implies a b h = absurd (true≢false h)
operator_broken s old at And a b h = absurd (true≢false h)
operator_broken s old at Or a b h = absurd (true≢false h)
operator_broken s old at Eq a b h = absurd (true≢false h)
operator_broken s old at Ne a b h = absurd (true≢false h)
operator_broken s old at Lt a b h = absurd (true≢false h)
operator_broken s old at Le a b h = absurd (true≢false h)
operator_broken s old at Gt a b h = absurd (true≢false h)
operator_broken s old at Ge a b h = absurd (true≢false h)
operator_broken s old at Add a b h = absurd (true≢false h)
operator_broken s old at Sub a b h = absurd (true≢false h)
operator_broken s old at Mul a b h = absurd (true≢false h)

pub rule_broken : (s : Scope) (old : Bool) (at : Span) (op : Op) (a b : TypedExpression) (f : TypeFault) →
    is_divided_operation op b ≡ false → f ≡ divisor_fault (zero_literal b) b → IsPartFault s old (Bin at op a b) f
rule_broken s old at op a b f e g = inr (subst (IsBroken s old (Bin at op a b)) (sym g) (operator_broken s old at op a b e))

-- ---- `!` and `-`

pub no_truth_part : (s : Scope) (old : Bool) (at : Span) (e : TypedExpression) (p : Part) → IsPart s old e p → p.ty ≡ types.Int → IsPartFault s old (Not at e) (fault.Mismatch at)
no_truth_part s old at e p h t = inr (no_truth old at e (h.typed ∙ ap Some t))

pub no_number_part : (s : Scope) (old : Bool) (at : Span) (e : TypedExpression) (p : Part) → IsPart s old e p → p.ty ≡ types.Bool → IsPartFault s old (Neg at e) (fault.Mismatch at)
no_number_part s old at e p h t = inr (no_number old at e (h.typed ∙ ap Some t))

pub negation_part : (s : Scope) (old : Bool) (at : Span) (e : TypedExpression) (p r : Part) → IsPart s old e p → p.ty ≡ types.Bool → r.ty ≡ types.Bool →
    form_of r.form ≡ form (fixed s) old (Not at e) → IsPart s old (Not at e) r
negation_part s old at e p r h t u f = record { typed = rw (h.typed, t, u) refl; divided = h.divided; fit = h.fit; seen = f }

pub opposite_part : (s : Scope) (old : Bool) (at : Span) (e : TypedExpression) (p r : Part) → IsPart s old e p → p.ty ≡ types.Int → r.ty ≡ types.Int →
    form_of r.form ≡ form_times (negsuc 0) (form_of p.form) → IsPart s old (Neg at e) r
opposite_part s old at e p r h t u f =
    let g : form_of r.form ≡ form_times (negsuc 0) (form (fixed s) old e) = f ∙ ap (form_times (negsuc 0)) h.seen in
    record {
      typed = rw (h.typed, t, u) refl;
      divided = h.divided;
      fit = and_from (forms_fit (fixed s) old e) (form_fits (form_times (negsuc 0) (form (fixed s) old e))) h.fit (ap form_fits (sym g) ∙ part_fits r);
      seen = g;
    }

pub opposite_big : (s : Scope) (old : Bool) (at : Span) (e : TypedExpression) (p : Part) → IsPart s old e p → form_fits (form_times (negsuc 0) (form_of p.form)) ≡ false →
    IsPartFault s old (Neg at e) (fault.TooBig at)
opposite_big s old at e p h f = inr (big_opposite old at e (ap (λ (a : Form). form_fits (form_times (negsuc 0) a)) (sym h.seen) ∙ f))

-- ---- the whole

broken_of : (s : Scope) (e : TypedExpression) (f : TypeFault) → IsPartFault s false e f → (f ≡ fault.Memory → ⊥) → IsBroken s false e f
broken_of s e f (inl m) n = absurd (n m)
broken_of s e f (inr b) n = b

pub whole_fault : (s : Scope) (e : TypedExpression) (f : TypeFault) → IsPartFault s false e f → IsFault s e f
whole_fault s e fault.Memory h = tt
whole_fault s e (fault.Unknown at) h = broken_of s e (fault.Unknown at) h (λ m. cc)
whole_fault s e (fault.Twice at) h = broken_of s e (fault.Twice at) h (λ m. cc)
whole_fault s e (fault.Mismatch at) h = broken_of s e (fault.Mismatch at) h (λ m. cc)
whole_fault s e (fault.NotAssignable at) h = broken_of s e (fault.NotAssignable at) h (λ m. cc)
whole_fault s e (fault.NotModified at) h = broken_of s e (fault.NotModified at) h (λ m. cc)
whole_fault s e fault.NoEntry h = broken_of s e fault.NoEntry h (λ m. cc)
whole_fault s e (fault.ZeroDivisor at) h = broken_of s e (fault.ZeroDivisor at) h (λ m. cc)
whole_fault s e (fault.NonLinear at) h = broken_of s e (fault.NonLinear at) h (λ m. cc)
whole_fault s e (fault.BadGoto at) h = broken_of s e (fault.BadGoto at) h (λ m. cc)
whole_fault s e (fault.TooBig at) h = broken_of s e (fault.TooBig at) h (λ m. cc)
