-- Two lists that are read side by side.
use Rattle.std.proofs.Common.{◌≡◌, ℕ, ◌+◌, ◌<◌, ◌≤◌, Bool, true, false, List, ◌∷◌, length, drop, get_or, map, nat_eq, None, Some, refl, ap, sym, ◌∙◌, subst, arith, inl, inr, Contains}
use Rattle.std.specs.List.{zip}
use Rattle.std.proofs.lemmas.List.{get_or-map, length-map, drop_more, drop_all}
use Rattle.std.proofs.lemmas.Option.{same_Some, slice_get-get_or}
use Rattle.std.proofs.lemmas.Slice.Zip.{get_or-zip, length-zip}
use Rattle.std.proofs.lemmas.Bool.Decides.{nat_tests}
use Rattle.boogie_tree.specs.declared.span.Span.{Span}
use Rattle.boogie_tree.specs.declared.tree.Column.{Column}
use Rattle.boogie_tree.specs.declared.tree.VarInfo.{VarInfo}
use Rattle.typed_tree.specs.declared.fault.TypeFault.{TypeFault}
use Rattle.typed_tree.specs.declared.fault.TypeFault.TheVariants as fault
use Rattle.typed_tree.specs.declared.types.TExpr.{TExpr}
use Rattle.typed_tree.specs.TypedTree.{TypedExpression, TypedProcedure, Assign}
use Rattle.typed_tree.specs.TypedView.{expression}
use Rattle.typed_tree.specs.Scope.{Scope, variable_at}
use Rattle.typed_tree.specs.KeptRules.{is_right}
use Rattle.typed_tree.specs.TypingRules.Rules.{Context, arguments_agree, results_agree, values_agree, params_of, results_of, column_has}
use Rattle.typed_tree.specs.TypingRules.BrokenTyping.{IsValueBroken, IsCallBroken, argument, argument_count, result, result_count, IsStatementBroken, value, value_count, assigned, at_target, unseen}
use Rattle.typed_tree.specs.TypingRules.Ties.Judged.{IsFaultOf}

unlike : (m n : ℕ) → (m ≡ n → ⊥) → nat_eq m n ≡ false
unlike m n h = grind (arith, nat_tests)

zip_item : {A B : Type 0} (vs : List A) (bs : List B) (i : ℕ) (a : A) (b : B) → i < length vs → i < length bs → a ≡ get_or vs i a → b ≡ get_or bs i b →
    Contains (zip vs bs) (a, b)
zip_item vs bs i a b l m e f =
    let short : i < length (zip vs bs) = omega (arith, length-zip vs bs) in
    let x : get_or (zip vs bs) i (a, b) ≡ (get_or vs i a, get_or bs i b) = get_or-zip vs bs i (a, b) l m in
    (i, short, x ∙ ap (λ y. (y, get_or bs i b)) (sym e) ∙ ap (λ z. (a, z)) (sym f))

-- the element at a place, whatever stands past the end
any_default : {X : Type 0} (xs : List X) (i : ℕ) (d e : X) → i < length xs → get_or xs i d ≡ get_or xs i e
any_default xs i d e l = same_Some (get_or xs i d) (get_or xs i e) (sym (slice_get-get_or xs i d l) ∙ slice_get-get_or xs i e l)

expression_item : (es : List TExpr) (i : ℕ) (x : TExpr) → i < length es → x ≡ get_or es i x →
    expression x ≡ get_or (map expression es) i (expression x)
expression_item es i x l e = ap expression e ∙ sym (get_or-map expression es i x (expression x) l)

-- ---- arguments

pub argument_count_fault : (k : Context) (at : Span) (cs : List Column) (es : List TExpr) (p : TypedProcedure) (vs : List VarInfo) → vs ≡ params_of p →
    (length vs ≡ length es → ⊥) → IsFaultOf (IsCallBroken k at cs (map expression es) p) (fault.Mismatch at)
argument_count_fault k at cs es p vs e h =
    inr (argument_count cs (map expression es) p
    (subst (λ (n : ℕ). nat_eq (length (params_of p)) n ≡ false) (sym (length-map es expression))
    (subst (λ (xs : List VarInfo). nat_eq (length xs) (length es) ≡ false) e (unlike (length vs) (length es) h))))

pub argument_fault : (k : Context) (at : Span) (cs : List Column) (es : List TExpr) (p : TypedProcedure) (vs : List VarInfo) (i : ℕ) (v : VarInfo) (x : TExpr) (f : TypeFault) →
    vs ≡ params_of p → i < length vs → i < length es → v ≡ get_or vs i v → x ≡ get_or es i x →
    IsFaultOf (IsValueBroken k.scope v.ty (expression x)) f → IsFaultOf (IsCallBroken k at cs (map expression es) p) f
argument_fault k at cs es p vs i v x f e l m a b (inl d) = inl d
argument_fault k at cs es p vs i v x f e l m a b (inr h) =
    let short : i < length (map expression es) = omega (arith, length-map es expression) in
    inr (argument cs (map expression es) p v (expression x) f
    (subst (λ (xs : List VarInfo). Contains (zip xs (map expression es)) (v, expression x)) e
    (zip_item vs (map expression es) i v (expression x) l short a (expression_item es i x m b))) h)

front_of : {X : Type 0} (xs : List X) (i : ℕ) (x : X) → i < length xs → x ≡ get_or xs i x → drop i xs ≡ x ∷ drop (i + 1) xs
front_of xs i x l e = drop_more xs i x l ∙ ap (λ y. y ∷ drop (i + 1) xs) (sym e)

pub arguments_step : (s : Scope) (vs : List VarInfo) (es : List TExpr) (i : ℕ) (v : VarInfo) (x : TExpr) (b : Bool) →
    i < length vs → i < length es → v ≡ get_or vs i v → x ≡ get_or es i x → is_right s v.ty (expression x) ≡ true →
    arguments_agree s (drop i vs) (map expression (drop i es)) ≡ b → arguments_agree s (drop (i + 1) vs) (map expression (drop (i + 1) es)) ≡ b
arguments_step s vs es i v x b l m d e r h = rw (front_of vs i v l d, front_of es i x m e, r) at h

pub arguments_end : (s : Scope) (vs : List VarInfo) (es : List TExpr) (i : ℕ) → length vs ≤ i → length es ≤ i →
    arguments_agree s (drop i vs) (map expression (drop i es)) ≡ true
arguments_end s vs es i l m = rw (drop_all i vs l, drop_all i es m) refl

-- ---- results

pub result_count_fault : (k : Context) (at : Span) (cs : List Column) (es : List TypedExpression) (p : TypedProcedure) (vs : List VarInfo) → vs ≡ results_of p →
    (length vs ≡ length cs → ⊥) → IsFaultOf (IsCallBroken k at cs es p) (fault.Mismatch at)
result_count_fault k at cs es p vs e h =
    inr (result_count cs es p (subst (λ (xs : List VarInfo). nat_eq (length xs) (length cs) ≡ false) e (unlike (length vs) (length cs) h)))

pub result_fault : (k : Context) (at : Span) (cs : List Column) (es : List TypedExpression) (p : TypedProcedure) (vs : List VarInfo) (i : ℕ) (v : VarInfo) (d : Column) →
    vs ≡ results_of p → i < length vs → i < length cs → v ≡ get_or vs i v →
    column_has k.scope v.ty (get_or cs i d) ≡ false → IsFaultOf (IsCallBroken k at cs es p) (fault.Mismatch at)
result_fault k at cs es p vs i v d e l m a h =
    inr (result cs es p v (get_or cs i d)
    (subst (λ (xs : List VarInfo). Contains (zip xs cs) (v, get_or cs i d)) e (zip_item vs cs i v (get_or cs i d) l m a (any_default cs i d (get_or cs i d) m))) h)

pub results_step : (s : Scope) (vs : List VarInfo) (cs : List Column) (i : ℕ) (v : VarInfo) (d : Column) (b : Bool) →
    i < length vs → i < length cs → v ≡ get_or vs i v → column_has s v.ty (get_or cs i d) ≡ true →
    results_agree s (drop i vs) (drop i cs) ≡ b → results_agree s (drop (i + 1) vs) (drop (i + 1) cs) ≡ b
results_step s vs cs i v d b l m e r h = rw (front_of vs i v l e, drop_more cs i d m, r) at h

pub results_end : (s : Scope) (vs : List VarInfo) (cs : List Column) (i : ℕ) → length vs ≤ i → length cs ≤ i →
    results_agree s (drop i vs) (drop i cs) ≡ true
results_end s vs cs i l m = rw (drop_all i vs l, drop_all i cs m) refl

-- ---- values of an assignment

pub value_count_fault : (k : Context) (at : Span) (cs : List Column) (es : List TExpr) →
    (length cs ≡ length es → ⊥) → IsFaultOf (IsStatementBroken k (Assign at cs (map expression es))) (fault.Mismatch at)
value_count_fault k at cs es h =
    inr (value_count k at cs (map expression es)
    (subst (λ (n : ℕ). nat_eq (length cs) n ≡ false) (sym (length-map es expression)) (unlike (length cs) (length es) h)))

pub value_at_fault : (k : Context) (at : Span) (cs : List Column) (es : List TExpr) (i : ℕ) (d : Column) (v : VarInfo) (x : TExpr) (f : TypeFault) →
    i < length cs → i < length es → variable_at k.scope (get_or cs i d) ≡ Some v → x ≡ get_or es i x →
    IsFaultOf (IsValueBroken k.scope v.ty (expression x)) f → IsFaultOf (IsStatementBroken k (Assign at cs (map expression es))) f
value_at_fault k at cs es i d v x f l m a b (inl e) = inl e
value_at_fault k at cs es i d v x f l m a b (inr h) =
    let short : i < length (map expression es) = omega (arith, length-map es expression) in
    inr (value k at cs (map expression es) (get_or cs i d) (expression x) v f
    (zip_item cs (map expression es) i (get_or cs i d) (expression x) l short (any_default cs i d (get_or cs i d) l) (expression_item es i x m b)) a h)

pub unseen_value_fault : (k : Context) (at : Span) (cs : List Column) (es : List TExpr) (i : ℕ) (d : Column) →
    i < length cs → variable_at k.scope (get_or cs i d) ≡ None → IsFaultOf (IsStatementBroken k (Assign at cs (map expression es))) (fault.Unknown at)
unseen_value_fault k at cs es i d l h =
    inr (assigned k at cs (map expression es) (fault.Unknown at)
    (at_target cs (get_or cs i d) (fault.Unknown at) (i, l, any_default cs i (get_or cs i d) d l) (unseen (get_or cs i d) h)))

pub values_step : (s : Scope) (cs : List Column) (es : List TExpr) (i : ℕ) (d : Column) (v : VarInfo) (x : TExpr) (b : Bool) →
    i < length cs → i < length es → variable_at s (get_or cs i d) ≡ Some v → x ≡ get_or es i x → is_right s v.ty (expression x) ≡ true →
    values_agree s (drop i cs) (map expression (drop i es)) ≡ b → values_agree s (drop (i + 1) cs) (map expression (drop (i + 1) es)) ≡ b
values_step s cs es i d v x b l m a e r h = rw (drop_more cs i d l, front_of es i x m e, a, r) at h

pub values_end : (s : Scope) (cs : List Column) (es : List TExpr) (i : ℕ) → length cs ≤ i → length es ≤ i →
    values_agree s (drop i cs) (map expression (drop i es)) ≡ true
values_end s cs es i l m = rw (drop_all i cs l, drop_all i es m) refl
