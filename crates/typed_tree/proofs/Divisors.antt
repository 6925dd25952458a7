-- Divisors: what their literal says.
use Rattle.std.proofs.Common.{◌≡◌, Bool, true, false, zero, suc, ℤ, pos, negsuc, neg_ℤ, Option, None, Some, refl, ap, sym, ◌∙◌, ◌^◌, of_z, arith}
use Rattle.std.specs.Int.{w128}
use Rattle.std.proofs.lemmas.Bool.{le-ltb}
use Rattle.std.specs.Option.{option_map}
use Rattle.boogie_tree.specs.declared.span.Span.{Span}
use Rattle.typed_tree.specs.declared.fault.TypeFault.{TypeFault}
use Rattle.typed_tree.specs.declared.fault.TypeFault.TheVariants as fault
use Rattle.typed_tree.specs.declared.types.TExpr.{TExpr}
use Rattle.typed_tree.specs.declared.types.TExprKind.{TExprKind}
use Rattle.typed_tree.specs.declared.types.TExprKind.TheVariants as kinds
use Rattle.typed_tree.specs.TypedTree.{TypedExpression}
use Rattle.typed_tree.specs.TypedView.{kind_view, expression}
use Rattle.typed_tree.specs.AffineForm.{form_is_zero, divisor_of, is_divisor, fits}
use Rattle.typed_tree.specs.BrokenRules.{expression_span}
use Rattle.typed_tree.specs.Ties.BrokenOperation.{zero_literal, divisor_fault}

pub is_zero_opposite : (z : ℤ) → form_is_zero (neg_ℤ z) ≡ form_is_zero z
is_zero_opposite (pos zero) = refl
is_zero_opposite (pos (suc n)) = refl
is_zero_opposite (negsuc n) = refl

kind_place : (s : Span) (k : TExprKind) → expression_span (kind_view s k) ≡ s
kind_place s (kinds.Lit n) = refl
kind_place s (kinds.Truth b) = refl
kind_place s (kinds.Var c) = refl
kind_place s (kinds.Old' p s1 k) = refl
kind_place s (kinds.Not' p s1 k) = refl
kind_place s (kinds.Neg' p s1 k) = refl
kind_place s (kinds.Bin' op p s1 a q s2 b) = refl

-- an expression stands where its tree says
pub place_seen : (e : TExpr) → expression_span (expression e) ≡ e.span
place_seen e = kind_place e.span e.kind

divisor_by : (o : Option ℤ) (r : Option Bool) → r ≡ option_map form_is_zero o → r ≡ Some false → is_divisor o ≡ true
divisor_by None r e f = absurd (cc)
divisor_by (Some k) r e f = let g : form_is_zero k ≡ false = cc in rw g refl

no_divisor_by : (o : Option ℤ) (r : Option Bool) → r ≡ option_map form_is_zero o → r ≡ Some true → is_divisor o ≡ false
no_divisor_by None r e f = refl
no_divisor_by (Some k) r e f = let g : form_is_zero k ≡ true = cc in rw g refl

nothing_by : (o : Option ℤ) (r : Option Bool) → r ≡ option_map form_is_zero o → r ≡ None → is_divisor o ≡ false
nothing_by None r e f = refl
nothing_by (Some k) r e f = absurd (cc)

pub is_divisor_seen : (e : TypedExpression) (r : Option Bool) → r ≡ zero_literal e → r ≡ Some false → is_divisor (divisor_of e) ≡ true
is_divisor_seen e = divisor_by (divisor_of e)

pub zero_seen : (e : TypedExpression) (r : Option Bool) → r ≡ zero_literal e → r ≡ Some true → is_divisor (divisor_of e) ≡ false
zero_seen e = no_divisor_by (divisor_of e)

pub no_literal_seen : (e : TypedExpression) (r : Option Bool) → r ≡ zero_literal e → r ≡ None → is_divisor (divisor_of e) ≡ false
no_literal_seen e = nothing_by (divisor_of e)

pub zero_fault : (e : TExpr) (r : Option Bool) → r ≡ zero_literal (expression e) → r ≡ Some true → fault.ZeroDivisor e.span ≡ divisor_fault (zero_literal (expression e)) (expression e)
zero_fault e r k f = rw (sym k ∙ f, place_seen e) refl

pub no_literal_fault : (e : TExpr) (r : Option Bool) → r ≡ zero_literal (expression e) → r ≡ None → fault.NonLinear e.span ≡ divisor_fault (zero_literal (expression e)) (expression e)
no_literal_fault e r k f = rw (sym k ∙ f, place_seen e) refl

-- the number whose opposite has no place in 128 bits does not fit
pub least_is_big : (z : ℤ) → of_z w128 z ≡ 2 ^ 127 → fits z ≡ false
least_is_big (pos n) e = le-ltb n (2 ^ 127) (omega arith)
least_is_big (negsuc n) e = le-ltb (suc n) (2 ^ 127) (omega arith)
