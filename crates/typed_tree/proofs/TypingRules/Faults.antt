-- Faults of parts are faults of the whole.
use Rattle.std.proofs.Common.{◌≡◌, ℕ, ◌<◌, length, get_or, map, ap, sym, ◌∙◌, arith, true, false, List, inl, inr, None, Some, Result, Ok, Err, slice_get, subst, Contains, refl}
use Rattle.std.proofs.lemmas.List.{get_or-map, length-map}
use Rattle.boogie_tree.specs.declared.tree.Ty.{Ty}
use Rattle.typed_tree.specs.declared.fault.TypeFault.{TypeFault}
use Rattle.typed_tree.specs.declared.fault.TypeFault.TheVariants as fault
use Rattle.boogie_tree.specs.declared.span.Span.{Span}
use Rattle.typed_tree.specs.declared.types.TExpr.{TExpr}
use Rattle.typed_tree.specs.declared.types.TExprKind.{TExprKind}
use Rattle.typed_tree.specs.declared.types.TExprKind.TheVariants as kinds
use Rattle.typed_tree.specs.TypedView.{expression, kind_view}
use Rattle.typed_tree.specs.Typing.{type_of, same_type}
use Rattle.typed_tree.specs.BrokenRules.{expression_span}
use Rattle.typed_tree.specs.KeptRules.{is_right, is_arithmetic}
use Rattle.typed_tree.specs.TypedTree.{TypedExpression, Cond, TypedProcedure, Call}
use Rattle.typed_tree.specs.Scope.{Scope, variable_at, fixed}
use Rattle.typed_tree.specs.BrokenRules.{IsFault, IsBroken}
use Rattle.boogie_tree.specs.declared.tree.Column.{Column}
use Rattle.boogie_tree.specs.declared.tree.Column.TheVariants as columns
use Rattle.boogie_tree.specs.declared.tree.VarInfo.{VarInfo}
use Rattle.std.specs.List.{list_all}
use Rattle.typed_tree.specs.TypingRules.Rules.{Context, all_differ, same_column, is_member, are_targets, is_call, is_statement}
use Rattle.typed_tree.specs.TypingRules.BrokenTyping.{IsValueBroken, inside, of_other_type, IsConditionBroken, IsGuardBroken, decided, IsTargetBroken, AreTargetsBroken, at_target, repeated, unlisted, IsCallBroken, modifies_more, IsStatementBroken, unknown_callee, returned, called}
use Rattle.typed_tree.specs.TypingRules.Ties.Judged.{IsFaultOf, IsOneBroken, one, Judges}

expression_fault : (s : Scope) (e : TypedExpression) (f : TypeFault) → IsFault s e f → IsFaultOf (IsBroken s false e) f
expression_fault s e (fault.Unknown at) h = inr h
expression_fault s e (fault.Twice at) h = inr h
expression_fault s e (fault.Mismatch at) h = inr h
expression_fault s e (fault.NotAssignable at) h = inr h
expression_fault s e (fault.NotModified at) h = inr h
expression_fault s e fault.NoEntry h = inr h
expression_fault s e (fault.ZeroDivisor at) h = inr h
expression_fault s e (fault.NonLinear at) h = inr h
expression_fault s e (fault.BadGoto at) h = inr h
expression_fault s e (fault.TooBig at) h = inr h
expression_fault s e fault.Memory h = inl refl

pub value_fault : (s : Scope) (t : Ty) (e : TypedExpression) (f : TypeFault) → IsFault s e f → IsFaultOf (IsValueBroken s t e) f
value_fault s t e f h = go (expression_fault s e f h)
  where
    go : IsFaultOf (IsBroken s false e) f → IsFaultOf (IsValueBroken s t e) f
    go (inl m) = inl m
    go (inr p) = inr (inside e f p)

place_of_kind : (s : Span) (k : TExprKind) → expression_span (kind_view s k) ≡ s
place_of_kind s (kinds.Lit n) = refl
place_of_kind s (kinds.Truth b) = refl
place_of_kind s (kinds.Var c) = refl
place_of_kind s (kinds.Old' p s1 k) = refl
place_of_kind s (kinds.Not' p s1 k) = refl
place_of_kind s (kinds.Neg' p s1 k) = refl
place_of_kind s (kinds.Bin' op p s1 a q s2 b) = refl

pub other_type : (s : Scope) (t u : Ty) (e : TExpr) → type_of s (expression e) ≡ Some u → same_type t u ≡ false →
    IsFaultOf (IsValueBroken s t (expression e)) (fault.Mismatch e.span)
other_type s t u e h n =
    subst (λ (at : Span). IsFaultOf (IsValueBroken s t (expression e)) (fault.Mismatch at)) (place_of_kind e.span e.kind)
    (inr (of_other_type (expression e) u h n))

pub guard_fault : (s : Scope) (e : TypedExpression) (f : TypeFault) → IsFaultOf (IsConditionBroken s e) f → IsFaultOf (IsGuardBroken s (Cond e)) f
guard_fault s e f (inl m) = inl m
guard_fault s e f (inr p) = inr (decided e f p)

-- a fault of one of the list
pub one_fault : {X : Type 0} (xs : List X) (Broken : X → TypeFault → Type 0) (x : X) (f : TypeFault) → Contains xs x → IsFaultOf (Broken x) f → IsFaultOf (IsOneBroken xs Broken) f
one_fault xs Broken x f m (inl e) = inl e
one_fault xs Broken x f m (inr p) = inr (one x f m p)

-- a fault of the element that a loop reads
pub item_fault : {X Y : Type 0} (v : X → Y) (xs : List X) (Broken : Y → TypeFault → Type 0) (i : ℕ) (x : X) (f : TypeFault) →
    i < length xs → x ≡ get_or xs i x → IsFaultOf (Broken (v x)) f → IsFaultOf (IsOneBroken (map v xs) Broken) f
item_fault v xs Broken i x f l e (inl m) = inl m
item_fault v xs Broken i x f l e (inr p) =
    inr (one (v x) f (i, omega (arith, length-map xs v), get_or-map v xs i x (v x) l ∙ ap v (sym e)) p)

pub element_fault : {X : Type 0} (xs : List X) (Broken : X → TypeFault → Type 0) (i : ℕ) (x : X) (f : TypeFault) →
    i < length xs → x ≡ get_or xs i x → IsFaultOf (Broken x) f → IsFaultOf (IsOneBroken xs Broken) f
element_fault xs Broken i x f l e (inl m) = inl m
element_fault xs Broken i x f l e (inr p) = inr (one x f (i, l, sym e) p)

pub written_fault : (k : Context) (at : Span) (cs : List Column) (f : TypeFault) → IsFaultOf (IsOneBroken cs (IsTargetBroken k at)) f →
    IsFaultOf (AreTargetsBroken k at cs) f
written_fault k at cs f (inl m) = inl m
written_fault k at cs f (inr (one c g m p)) = inr (at_target cs c g m p)

pub repeated_fault : (k : Context) (at : Span) (cs : List Column) → all_differ same_column cs ≡ false →
    IsFaultOf (AreTargetsBroken k at cs) (fault.Twice at)
repeated_fault k at cs h = inr (repeated cs h)

pub unlisted_fault : (k : Context) (at : Span) (c : Column) (n : ℕ) (v : VarInfo) → c ≡ columns.Global n →
    variable_at k.scope c ≡ Some v → is_member n k.modifies ≡ false → IsFaultOf (IsTargetBroken k at c) (fault.NotModified at)
unlisted_fault k at c n v e h m =
    subst (λ (d : Column). variable_at k.scope d ≡ Some v → IsFaultOf (IsTargetBroken k at d) (fault.NotModified at)) (sym e) (λ g. inr (unlisted n v g m)) h

-- ---- calls

pub modified_fault : (k : Context) (at : Span) (cs : List Column) (es : List TypedExpression) (p : TypedProcedure) (ns : List ℕ) → ns ≡ p.modifies →
    list_all (λ n. is_member n k.modifies) ns ≡ false → IsFaultOf (IsCallBroken k at cs es p) (fault.NotModified at)
modified_fault k at cs es p ns e h = inr (modifies_more cs es p (ap (list_all (λ n. is_member n k.modifies)) (sym e) ∙ h))

pub absent_fault : (k : Context) (at : Span) (cs : List Column) (n : ℕ) (es : List TypedExpression) → slice_get k.procs n ≡ None →
    IsFaultOf (IsStatementBroken k (Call at cs n es)) (fault.Unknown at)
absent_fault k at cs n es h = inr (unknown_callee k at cs n es h)

pub call_target_fault : (k : Context) (at : Span) (cs : List Column) (n : ℕ) (es : List TypedExpression) (f : TypeFault) → IsFaultOf (AreTargetsBroken k at cs) f →
    IsFaultOf (IsStatementBroken k (Call at cs n es)) f
call_target_fault k at cs n es f (inl m) = inl m
call_target_fault k at cs n es f (inr p) = inr (returned k at cs n es f p)

pub call_judged : {T : Type 0} (r : Result T TypeFault) (k : Context) (at : Span) (cs : List Column) (n : ℕ) (es : List TypedExpression) (p : TypedProcedure) →
    are_targets k cs ≡ true → slice_get k.procs n ≡ Some p → Judges r (is_call k cs es p) (IsCallBroken k at cs es p) →
    Judges r (is_statement k (Call at cs n es)) (IsStatementBroken k (Call at cs n es))
call_judged (Ok x) k at cs n es p t s h = rw (t, s) h
call_judged (Err f) k at cs n es p t s (inl m) = inl m
call_judged (Err f) k at cs n es p t s (inr b) = inr (called k at cs n es p f s b)

pub right_of : (s : Scope) (t u : Ty) (e : TypedExpression) → type_of s e ≡ Some u → same_type t u ≡ true → is_arithmetic (fixed s) false e ≡ true →
    is_right s t e ≡ true
right_of s t u e h n a = rw (h, n, a) refl
