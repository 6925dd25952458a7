-- Where a rule is broken, an expression does not keep the rules.
use Rattle.std.proofs.Common.{◌≡◌, ◌⊎◌, inl, inr, Bool, true, false, not, ◌&&◌, Option, None, Some, Result, Err, option_and_then, if◌then◌else◌, refl, ap, sym, ◌∙◌}
use Rattle.std.specs.Option.{is_some, option_map}
use Rattle.std.proofs.lemmas.Bool.{and_parts, both_ways, false≢true}
use Rattle.boogie_tree.specs.declared.tree.Op.{Op}
use Rattle.boogie_tree.specs.declared.tree.Op.TheVariants.{Iff, Implies, And, Or, Eq, Ne, Lt, Le, Gt, Ge, Add, Sub, Mul, Div, Mod}
use Rattle.boogie_tree.specs.declared.tree.Ty.{Ty}
use Rattle.boogie_tree.specs.declared.tree.Ty.TheVariants as types
use Rattle.boogie_tree.specs.declared.tree.VarInfo.{VarInfo}
use Rattle.typed_tree.specs.declared.fault.TypeFault.{TypeFault}
use Rattle.typed_tree.specs.declared.fault.TypeFault.TheVariants as fault
use Rattle.typed_tree.specs.TypedTree.{TypedExpression, Neg, Bin}
use Rattle.typed_tree.specs.Scope.{Scope, fixed}
use Rattle.typed_tree.specs.Typing.{type_of, operation_type, only}
use Rattle.typed_tree.specs.AffineForm.{form, forms_fit, form_fits, fits, divisor_of, is_divisor}
use Rattle.typed_tree.specs.Divided.{is_divided, is_divided_operation}
use Rattle.typed_tree.specs.KeptRules.{keeps_rules}
use Rattle.typed_tree.specs.BrokenRules.{IsBroken, in_old, in_not, in_neg, in_left, in_right, unseen, misplaced, no_truth, no_number, ill_typed, zero_divisor, no_literal, big_literal, big_opposite, big_operation, is_division}
use Rattle.typed_tree.specs.Ties.FormView.{IsPartFault}

-- ---- a typed expression has typed operands

old_typed : (b : Bool) (o : Option Ty) → is_some (if b then o else None) ≡ true → is_some o ≡ true
old_typed true o e = e
old_typed false o e = absurd (false≢true e)

inner_typed : (t : Ty) (o : Option Ty) → is_some (option_and_then (only t) o) ≡ true → is_some o ≡ true
inner_typed t None e = e
inner_typed t (Some u) e = refl

left_typed : (op : Op) (o p : Option Ty) → is_some (option_and_then (λ t. option_and_then (operation_type op t) p) o) ≡ true → is_some o ≡ true
left_typed op None p e = e
left_typed op (Some t) p e = refl

right_typed : (op : Op) (o p : Option Ty) → is_some (option_and_then (λ t. option_and_then (operation_type op t) p) o) ≡ true → is_some p ≡ true
right_typed op None p e = absurd (false≢true e)
right_typed op (Some t) None e = e
right_typed op (Some t) (Some u) e = refl

-- ---- divisors

division_kept : (op : Op) (b : TypedExpression) → is_division op ≡ true → is_divided_operation op b ≡ true → is_divisor (divisor_of b) ≡ true
division_kept Div b d h = h
division_kept Mod b d h = h
division_kept Iff b d h = absurd (false≢true d)
division_kept Implies b d h = absurd (false≢true d)
division_kept And b d h = absurd (false≢true d)
division_kept Or b d h = absurd (false≢true d)
division_kept Eq b d h = absurd (false≢true d)
division_kept Ne b d h = absurd (false≢true d)
division_kept Lt b d h = absurd (false≢true d)
division_kept Le b d h = absurd (false≢true d)
division_kept Gt b d h = absurd (false≢true d)
division_kept Ge b d h = absurd (false≢true d)
division_kept Add b d h = absurd (false≢true d)
division_kept Sub b d h = absurd (false≢true d)
division_kept Mul b d h = absurd (false≢true d)

-- ---- no rule is broken where all are kept

none_broken : (s : Scope) (old : Bool) (e : TypedExpression) (f : TypeFault) → IsBroken s old e f →
    is_some (type_of s e) ≡ true → is_divided e ≡ true → forms_fit (fixed s) old e ≡ true → ⊥
none_broken s _ _ _ (in_old old at e f b) t l n = none_broken s true e f b (old_typed s.old (type_of s e) t) l n
none_broken s _ _ _ (in_not old at e f b) t l n = none_broken s old e f b (inner_typed types.Bool (type_of s e) t) l n
none_broken s _ _ _ (in_neg old at e f b) t l n =
    none_broken s old e f b (inner_typed types.Int (type_of s e) t) l (and_parts (forms_fit (fixed s) old e) (form_fits (form (fixed s) old (Neg at e))) n).0
none_broken s _ _ _ (in_left old at op a b f h) t l n =
    none_broken s old a f h (left_typed op (type_of s a) (type_of s b) t) (and_parts (is_divided a) (is_divided b && is_divided_operation op b) l).0
    (and_parts (forms_fit (fixed s) old a) (forms_fit (fixed s) old b && form_fits (form (fixed s) old (Bin at op a b))) n).0
none_broken s _ _ _ (in_right old at op a b f h) t l n =
    none_broken s old b f h (right_typed op (type_of s a) (type_of s b) t)
    (and_parts (is_divided b) (is_divided_operation op b) (and_parts (is_divided a) (is_divided b && is_divided_operation op b) l).1).0
    (and_parts (forms_fit (fixed s) old b) (form_fits (form (fixed s) old (Bin at op a b))) (and_parts (forms_fit (fixed s) old a) (forms_fit (fixed s) old b && form_fits (form (fixed s) old (Bin at op a b))) n).1).0
none_broken s _ _ _ (unseen old at c h) t l n = false≢true (ap (λ (o : Option VarInfo). is_some (option_map (λ v. v.ty) o)) (sym h) ∙ t)
none_broken s _ _ _ (misplaced old at e h) t l n = false≢true (ap (λ (b : Bool). is_some (if b then type_of s e else None)) (sym h) ∙ t)
none_broken s _ _ _ (no_truth old at e h) t l n = false≢true (ap (λ (o : Option Ty). is_some (option_and_then (only types.Bool) o)) (sym h) ∙ t)
none_broken s _ _ _ (no_number old at e h) t l n = false≢true (ap (λ (o : Option Ty). is_some (option_and_then (only types.Int) o)) (sym h) ∙ t)
none_broken s _ _ _ (ill_typed old at op a b u v h k w) t l n =
    let g : type_of s (Bin at op a b) ≡ None = rw (h, k) w in
    false≢true (sym (ap is_some g) ∙ t)
none_broken s _ _ _ (zero_divisor old at op a b k d h z) t l n =
    let p = division_kept op b d (and_parts (is_divided b) (is_divided_operation op b) (and_parts (is_divided a) (is_divided b && is_divided_operation op b) l).1).1 in
    false≢true (sym (ap is_divisor h ∙ ap not z) ∙ p)
none_broken s _ _ _ (no_literal old at op a b d h) t l n =
    let p = division_kept op b d (and_parts (is_divided b) (is_divided_operation op b) (and_parts (is_divided a) (is_divided b && is_divided_operation op b) l).1).1 in
    false≢true (sym (ap is_divisor h) ∙ p)
none_broken s _ _ _ (big_literal old at m h) t l n = both_ways (fits m) h n
none_broken s _ _ _ (big_opposite old at e h) t l n = both_ways (form_fits (form (fixed s) old (Neg at e))) h (and_parts (forms_fit (fixed s) old e) (form_fits (form (fixed s) old (Neg at e))) n).1
none_broken s _ _ _ (big_operation old at op a b h) t l n =
    both_ways (form_fits (form (fixed s) old (Bin at op a b))) h
    (and_parts (forms_fit (fixed s) old b) (form_fits (form (fixed s) old (Bin at op a b))) (and_parts (forms_fit (fixed s) old a) (forms_fit (fixed s) old b && form_fits (form (fixed s) old (Bin at op a b))) n).1).1

pub not_kept : (s : Scope) (old : Bool) (e : TypedExpression) (f : TypeFault) → IsBroken s old e f → keeps_rules s old e ≡ false
not_kept s old e f b = by_test (keeps_rules s old e) refl
  where
    by_test : (z : Bool) → keeps_rules s old e ≡ z → z ≡ false
    by_test false h = refl
    by_test true h =
        let p = and_parts (is_some (type_of s e)) (is_divided e && forms_fit (fixed s) old e) h in
        let q = and_parts (is_divided e) (forms_fit (fixed s) old e) p.1 in
        absurd (none_broken s old e f b p.0 q.0 q.1)

pub whole_only : {T : Type 0} (s : Scope) (e : TypedExpression) (f : TypeFault) → IsPartFault s false e f → (◌≡◌ {A = Result T TypeFault} (Err f) (Err fault.Memory)) ⊎ (keeps_rules s false e ≡ false)
whole_only s e f (inl m) = inl (ap Err m)
whole_only s e f (inr b) = inr (not_kept s false e f b)
