-- Where a fault stands, the rules are not kept.
use Rattle.std.proofs.Common.{◌≡◌, ℕ, zero, suc, ◌+◌, Bool, true, false, not, ◌&&◌, List, [], ◌∷◌, length, nat_eq, slice_get, Option, None, Some, refl, ap, sym, ◌∙◌, subst, arith, Contains}
use Rattle.std.specs.List.{list_all, zip}
use Rattle.std.specs.Option.{is_some, option_and_then}
use Rattle.std.proofs.lemmas.Bool.{and_left, and_right, false≢true}
use Rattle.std.proofs.lemmas.Bool.Decides.{nat_tests}
use Rattle.boogie_tree.specs.declared.span.Span.{Span}
use Rattle.boogie_tree.specs.declared.tree.Ty.{Ty}
use Rattle.boogie_tree.specs.declared.tree.Ty.TheVariants as types
use Rattle.boogie_tree.specs.declared.tree.Column.{Column}
use Rattle.boogie_tree.specs.declared.tree.Column.TheVariants as columns
use Rattle.boogie_tree.specs.declared.tree.VarInfo.{VarInfo}
use Rattle.typed_tree.specs.declared.fault.TypeFault.{TypeFault}
use Rattle.typed_tree.specs.TypedTree.{TypedExpression, TypedGuard, TypedInvariant, TypedStatement, Havoc, Assign, Goto, TypedBlock, TypedSpecification, TypedProcedure, TypedProgram}
use Rattle.typed_tree.specs.Scope.{Scope, axiom_scope, variable_at, unless_hidden, fixed}
use Rattle.typed_tree.specs.Typing.{type_of, same_type, has_type, is_some_of}
use Rattle.typed_tree.specs.KeptRules.{is_right, is_arithmetic}
use Rattle.typed_tree.proofs.Broken.{not_kept}
use Rattle.typed_tree.specs.TypingRules.Rules.{Context, all_differ, is_member, same_column, meets, is_condition, is_guard, is_invariant, is_writable, are_targets, column_has, values_agree, arguments_agree, results_agree, params_of, results_of, is_call, within, looped, context_of, is_statement, is_block, is_body_if_any, is_specification, procedure_keeps_rules, keeps_typing}
use Rattle.typed_tree.specs.TypingRules.BrokenTyping as b

-- ---- lists

all_refuted : {X : Type 0} (p : X → Bool) (xs : List X) (x : X) → Contains xs x → p x ≡ false → list_all p xs ≡ false
all_refuted p [] x (n, l, e) h = absurd (omega arith)
all_refuted p (y ∷ xs) x (zero, l, e) h = and_left (p y) (list_all p xs) (ap p e ∙ h)
all_refuted p (y ∷ xs) x (suc n, l, e) h = and_right (p y) (list_all p xs) (all_refuted p xs x (n, omega arith, e) h)

-- ---- expressions

-- an expression that keeps the rules has a type, so one that has a given type and keeps the rules of arithmetic keeps the rules
typed_first : (o : Option Ty) (t : Ty) (q : Bool) → (is_some o && q) ≡ false → (is_some_of t o && q) ≡ false
typed_first None t q h = refl
typed_first (Some u) t q h = and_right (same_type t u) q h

pub value_refuted : (s : Scope) (t : Ty) (e : TypedExpression) (f : TypeFault) → b.IsValueBroken s t e f → is_right s t e ≡ false
value_refuted s t _ _ (b.inside e f h) = typed_first (type_of s e) t (is_arithmetic (fixed s) false e) (not_kept s false e f h)
value_refuted s t _ _ (b.of_other_type e u h n) = and_left (has_type s t e) (is_arithmetic (fixed s) false e) (ap (is_some_of t) h ∙ n)

pub condition_refuted : (s : Scope) (e : TypedExpression) (f : TypeFault) → b.IsConditionBroken s e f → is_condition s e ≡ false
condition_refuted s e f h = value_refuted s types.Bool e f h

guard_refuted : (s : Scope) (g : TypedGuard) (f : TypeFault) → b.IsGuardBroken s g f → is_guard s g ≡ false
guard_refuted s _ _ (b.decided e f h) = condition_refuted s e f h

-- ---- targets

hidden_never : (v : VarInfo) → unless_hidden true v ≡ None → ⊥
hidden_never v h = let x : true ≡ false = cc in false≢true (sym x)

seen_global : (o : Option VarInfo) (v : Bool) (m : Bool) → v ≡ true → option_and_then (unless_hidden v) o ≡ None → (meets (λ x. not x.constant) o && m) ≡ false
seen_global None v m t h = refl
seen_global (Some x) v m t h = absurd (hidden_never x (subst (λ (u : Bool). unless_hidden u x ≡ None) t h))

unseen_refuted : (k : Context) (c : Column) → k.scope.variables ≡ true → variable_at k.scope c ≡ None → is_writable k c ≡ false
unseen_refuted k (columns.Global n) t h = seen_global (slice_get k.scope.globals n) k.scope.variables (is_member n k.modifies) t h
unseen_refuted k (columns.Old n) t h = refl
unseen_refuted k (columns.Local n) t h = ap (meets (λ x. not x.constant)) h

constant_global : (o : Option VarInfo) (u m : Bool) (v : VarInfo) → option_and_then (unless_hidden u) o ≡ Some v → v.constant ≡ true →
    (meets (λ x. not x.constant) o && m) ≡ false
constant_global None u m v h e = refl
constant_global (Some x) true m v h e = let y : x ≡ v = cc in and_left (not x.constant) m (ap (λ (z : VarInfo). not z.constant) y ∙ ap not e)
constant_global (Some x) false m v h e = go x.constant refl
  where
    go : (q : Bool) → x.constant ≡ q → (not x.constant && m) ≡ false
    go true i = and_left (not x.constant) m (ap not i)
    go false i = absurd (false≢true (let z : false ≡ true = grind arith in z))

constant_refuted : (k : Context) (c : Column) (v : VarInfo) → variable_at k.scope c ≡ Some v → v.constant ≡ true → is_writable k c ≡ false
constant_refuted k (columns.Global n) v h e = constant_global (slice_get k.scope.globals n) k.scope.variables (is_member n k.modifies) v h e
constant_refuted k (columns.Old n) v h e = refl
constant_refuted k (columns.Local n) v h e = ap (meets (λ x. not x.constant)) h ∙ ap not e

target_refuted : (k : Context) (at : Span) (c : Column) (f : TypeFault) → k.scope.variables ≡ true → b.IsTargetBroken k at c f → is_writable k c ≡ false
target_refuted k at _ _ t (b.unseen c h) = unseen_refuted k c t h
target_refuted k at _ _ t (b.constant c v h e) = constant_refuted k c v h e
target_refuted k at _ _ t (b.unlisted n v h m) = and_right (meets (λ x. not x.constant) (slice_get k.scope.globals n)) (is_member n k.modifies) m

targets_refuted : (k : Context) (at : Span) (cs : List Column) (f : TypeFault) → k.scope.variables ≡ true → b.AreTargetsBroken k at cs f → are_targets k cs ≡ false
targets_refuted k at _ _ t (b.at_target cs c f m h) =
    and_left (list_all (is_writable k) cs) (all_differ same_column cs) (all_refuted (is_writable k) cs c m (target_refuted k at c f t h))
targets_refuted k at _ _ t (b.repeated cs h) = and_right (list_all (is_writable k) cs) (all_differ same_column cs) h

-- ---- two lists side by side

arguments_refuted : (s : Scope) (vs : List VarInfo) (es : List TypedExpression) (v : VarInfo) (e : TypedExpression) → Contains (zip vs es) (v, e) →
    is_right s v.ty e ≡ false → arguments_agree s vs es ≡ false
arguments_refuted s [] es v e (n, l, i) h = absurd (omega arith)
arguments_refuted s (x ∷ vs) [] v e (n, l, i) h = refl
arguments_refuted s (x ∷ vs) (y ∷ es) v e (zero, l, i) h =
    and_left (is_right s x.ty y) (arguments_agree s vs es) (ap (λ (p : VarInfo × TypedExpression). is_right s p.0.ty p.1) i ∙ h)
arguments_refuted s (x ∷ vs) (y ∷ es) v e (suc n, l, i) h =
    and_right (is_right s x.ty y) (arguments_agree s vs es) (arguments_refuted s vs es v e (n, omega arith, i) h)

results_refuted : (s : Scope) (vs : List VarInfo) (cs : List Column) (v : VarInfo) (c : Column) → Contains (zip vs cs) (v, c) →
    column_has s v.ty c ≡ false → results_agree s vs cs ≡ false
results_refuted s [] cs v c (n, l, i) h = absurd (omega arith)
results_refuted s (x ∷ vs) [] v c (n, l, i) h = refl
results_refuted s (x ∷ vs) (d ∷ cs) v c (zero, l, i) h =
    and_left (column_has s x.ty d) (results_agree s vs cs) (ap (λ (p : VarInfo × Column). column_has s p.0.ty p.1) i ∙ h)
results_refuted s (x ∷ vs) (d ∷ cs) v c (suc n, l, i) h =
    and_right (column_has s x.ty d) (results_agree s vs cs) (results_refuted s vs cs v c (n, omega arith, i) h)

values_refuted : (s : Scope) (cs : List Column) (es : List TypedExpression) (c : Column) (e : TypedExpression) (v : VarInfo) → Contains (zip cs es) (c, e) →
    variable_at s c ≡ Some v → is_right s v.ty e ≡ false → values_agree s cs es ≡ false
values_refuted s [] es c e v (n, l, i) g h = absurd (omega arith)
values_refuted s (d ∷ cs) [] c e v (n, l, i) g h = refl
values_refuted s (d ∷ cs) (y ∷ es) c e v (zero, l, i) g h =
    and_left (meets (λ w. is_right s w.ty y) (variable_at s d)) (values_agree s cs es)
    (ap (λ (p : Column × TypedExpression). meets (λ w. is_right s w.ty p.1) (variable_at s p.0)) i ∙ ap (meets (λ w. is_right s w.ty e)) g ∙ h)
values_refuted s (d ∷ cs) (y ∷ es) c e v (suc n, l, i) g h =
    and_right (meets (λ w. is_right s w.ty y) (variable_at s d)) (values_agree s cs es) (values_refuted s cs es c e v (n, omega arith, i) g h)

shorter : (m n : ℕ) → nat_eq (m + 1) (n + 1) ≡ false → nat_eq m n ≡ false
shorter m n h = grind (arith, nat_tests)

argument_count_refuted : (s : Scope) (vs : List VarInfo) (es : List TypedExpression) → nat_eq (length vs) (length es) ≡ false → arguments_agree s vs es ≡ false
argument_count_refuted s [] [] h = absurd (false≢true (sym h))
argument_count_refuted s [] (e ∷ es) h = refl
argument_count_refuted s (v ∷ vs) [] h = refl
argument_count_refuted s (v ∷ vs) (e ∷ es) h =
    and_right (is_right s v.ty e) (arguments_agree s vs es) (argument_count_refuted s vs es (grind (arith, nat_tests)))

result_count_refuted : (s : Scope) (vs : List VarInfo) (cs : List Column) → nat_eq (length vs) (length cs) ≡ false → results_agree s vs cs ≡ false
result_count_refuted s [] [] h = absurd (false≢true (sym h))
result_count_refuted s [] (c ∷ cs) h = refl
result_count_refuted s (v ∷ vs) [] h = refl
result_count_refuted s (v ∷ vs) (c ∷ cs) h =
    and_right (column_has s v.ty c) (results_agree s vs cs) (result_count_refuted s vs cs (grind (arith, nat_tests)))

value_count_refuted : (s : Scope) (cs : List Column) (es : List TypedExpression) → nat_eq (length cs) (length es) ≡ false → values_agree s cs es ≡ false
value_count_refuted s [] [] h = absurd (false≢true (sym h))
value_count_refuted s [] (e ∷ es) h = refl
value_count_refuted s (c ∷ cs) [] h = refl
value_count_refuted s (c ∷ cs) (e ∷ es) h =
    and_right (meets (λ w. is_right s w.ty e) (variable_at s c)) (values_agree s cs es) (value_count_refuted s cs es (grind (arith, nat_tests)))

-- ---- calls

call_refuted : (k : Context) (at : Span) (cs : List Column) (es : List TypedExpression) (p : TypedProcedure) (f : TypeFault) → b.IsCallBroken k at cs es p f → is_call k cs es p ≡ false
call_refuted k at _ _ _ _ (b.argument cs es p v e f m h) =
    and_left (arguments_agree k.scope (params_of p) es) (results_agree k.scope (results_of p) cs && list_all (λ n. is_member n k.modifies) p.modifies)
    (arguments_refuted k.scope (params_of p) es v e m (value_refuted k.scope v.ty e f h))
call_refuted k at _ _ _ _ (b.argument_count cs es p h) =
    and_left (arguments_agree k.scope (params_of p) es) (results_agree k.scope (results_of p) cs && list_all (λ n. is_member n k.modifies) p.modifies)
    (argument_count_refuted k.scope (params_of p) es h)
call_refuted k at _ _ _ _ (b.result cs es p v c m h) =
    and_right (arguments_agree k.scope (params_of p) es) (results_agree k.scope (results_of p) cs && list_all (λ n. is_member n k.modifies) p.modifies)
    (and_left (results_agree k.scope (results_of p) cs) (list_all (λ n. is_member n k.modifies) p.modifies) (results_refuted k.scope (results_of p) cs v c m h))
call_refuted k at _ _ _ _ (b.result_count cs es p h) =
    and_right (arguments_agree k.scope (params_of p) es) (results_agree k.scope (results_of p) cs && list_all (λ n. is_member n k.modifies) p.modifies)
    (and_left (results_agree k.scope (results_of p) cs) (list_all (λ n. is_member n k.modifies) p.modifies) (result_count_refuted k.scope (results_of p) cs h))
call_refuted k at _ _ _ _ (b.modifies_more cs es p h) =
    and_right (arguments_agree k.scope (params_of p) es) (results_agree k.scope (results_of p) cs && list_all (λ n. is_member n k.modifies) p.modifies)
    (and_right (results_agree k.scope (results_of p) cs) (list_all (λ n. is_member n k.modifies) p.modifies) h)

-- ---- statements

invariant_refuted : (s : Scope) (i : TypedInvariant) (f : TypeFault) → b.IsConditionBroken s i.cond f → is_invariant s i ≡ false
invariant_refuted s i f h = condition_refuted s i.cond f h

assign_refuted : (k : Context) (at : Span) (cs : List Column) (es : List TypedExpression) → (are_targets k cs && values_agree k.scope cs es) ≡ false →
    is_statement k (Assign at cs es) ≡ false
assign_refuted k at [] es h = refl
assign_refuted k at (c ∷ cs) es h = h

havoc_refuted : (k : Context) (at : Span) (cs : List Column) → are_targets k cs ≡ false → is_statement k (Havoc at cs) ≡ false
havoc_refuted k at [] h = refl
havoc_refuted k at (c ∷ cs) h = h

goto_refuted : (k : Context) (at : Span) (ns : List ℕ) → list_all (λ n. is_member n k.labels) ns ≡ false → is_statement k (Goto at ns) ≡ false
goto_refuted k at [] h = refl
goto_refuted k at (n ∷ ns) h = h

mutual
  statement_refuted : (k : Context) (s : TypedStatement) (f : TypeFault) → k.scope.variables ≡ true → b.IsStatementBroken k s f → is_statement k s ≡ false
  statement_refuted _ _ _ t (b.asserted k at e f h) = condition_refuted k.scope e f h
  statement_refuted _ _ _ t (b.assumed k at e f h) = condition_refuted k.scope e f h
  statement_refuted _ _ _ t (b.nothing_chosen k at) = refl
  statement_refuted _ _ _ t (b.chosen k at cs f h) = havoc_refuted k at cs (targets_refuted k at cs f t h)
  statement_refuted _ _ _ t (b.nothing_assigned k at es) = refl
  statement_refuted _ _ _ t (b.assigned k at cs es f h) =
      assign_refuted k at cs es (and_left (are_targets k cs) (values_agree k.scope cs es) (targets_refuted k at cs f t h))
  statement_refuted _ _ _ t (b.value_count k at cs es h) =
      assign_refuted k at cs es (and_right (are_targets k cs) (values_agree k.scope cs es) (value_count_refuted k.scope cs es h))
  statement_refuted _ _ _ t (b.value k at cs es c e v f m g h) =
      assign_refuted k at cs es (and_right (are_targets k cs) (values_agree k.scope cs es) (values_refuted k.scope cs es c e v m g (value_refuted k.scope v.ty e f h)))
  statement_refuted _ _ _ t (b.unknown_callee k at cs n es h) =
      and_right (are_targets k cs) (meets (is_call k cs es) (slice_get k.procs n)) (ap (meets (is_call k cs es)) h)
  statement_refuted _ _ _ t (b.returned k at cs n es f h) =
      and_left (are_targets k cs) (meets (is_call k cs es) (slice_get k.procs n)) (targets_refuted k at cs f t h)
  statement_refuted _ _ _ t (b.called k at cs n es p f g h) =
      and_right (are_targets k cs) (meets (is_call k cs es) (slice_get k.procs n)) (ap (meets (is_call k cs es)) g ∙ call_refuted k at cs es p f h)
  statement_refuted _ _ _ t (b.branched k at g x y f h) =
      and_left (is_guard k.scope g) (is_block (within k x) x && is_block (within k y) y) (guard_refuted k.scope g f h)
  statement_refuted _ _ _ t (b.in_then k at g x y f h) =
      and_right (is_guard k.scope g) (is_block (within k x) x && is_block (within k y) y)
      (and_left (is_block (within k x) x) (is_block (within k y) y) (block_refuted (within k x) x f t h))
  statement_refuted _ _ _ t (b.in_else k at g x y f h) =
      and_right (is_guard k.scope g) (is_block (within k x) x && is_block (within k y) y)
      (and_right (is_block (within k x) x) (is_block (within k y) y) (block_refuted (within k y) y f t h))
  statement_refuted _ _ _ t (b.looping k at g is y f h) =
      and_left (is_guard k.scope g) (list_all (is_invariant k.scope) is && is_block (within (looped k) y) y) (guard_refuted k.scope g f h)
  statement_refuted _ _ _ t (b.in_invariant k at g is y i f m h) =
      and_right (is_guard k.scope g) (list_all (is_invariant k.scope) is && is_block (within (looped k) y) y)
      (and_left (list_all (is_invariant k.scope) is) (is_block (within (looped k) y) y) (all_refuted (is_invariant k.scope) is i m (invariant_refuted k.scope i f h)))
  statement_refuted _ _ _ t (b.in_loop k at g is y f h) =
      and_right (is_guard k.scope g) (list_all (is_invariant k.scope) is && is_block (within (looped k) y) y)
      (and_right (list_all (is_invariant k.scope) is) (is_block (within (looped k) y) y) (block_refuted (within (looped k) y) y f t h))
  statement_refuted _ _ _ t (b.no_loop k at n h) = h
  statement_refuted _ _ _ t (b.nowhere k at) = refl
  statement_refuted _ _ _ t (b.unreachable k at ns h) = goto_refuted k at ns h

  block_refuted : (k : Context) (l : TypedBlock) (f : TypeFault) → k.scope.variables ≡ true → b.IsBlockBroken k l f → is_block k l ≡ false
  block_refuted _ _ _ t (b.first k s l f h) = and_left (is_statement k s) (is_block k l) (statement_refuted k s f t h)
  block_refuted _ _ _ t (b.later k s l f h) = and_right (is_statement k s) (is_block k l) (block_refuted k l f t h)

-- ---- programs

specification_refuted : (globals : List VarInfo) (p : TypedProcedure) (s : TypedSpecification) (f : TypeFault) → b.IsSpecificationBroken globals p s f → is_specification globals p s ≡ false
specification_refuted globals p _ _ (b.required i f h) = condition_refuted _ i.cond f h
specification_refuted globals p _ _ (b.ensured i f h) = condition_refuted _ i.cond f h

procedure_refuted : (globals : List VarInfo) (procs : List TypedProcedure) (p : TypedProcedure) (f : TypeFault) → b.IsProcedureBroken globals procs p f → procedure_keeps_rules globals procs p ≡ false
procedure_refuted globals procs _ _ (b.specified p s f m h) =
    and_left (list_all (is_specification globals p) p.specs) (is_body_if_any (context_of globals procs p) p.body)
    (all_refuted (is_specification globals p) p.specs s m (specification_refuted globals p s f h))
procedure_refuted globals procs _ _ (b.in_body p l f g h) =
    and_right (list_all (is_specification globals p) p.specs) (is_body_if_any (context_of globals procs p) p.body)
    (ap (is_body_if_any (context_of globals procs p)) g ∙ block_refuted (within (context_of globals procs p) l) l f refl h)

pub program_refuted : (t : TypedProgram) (f : TypeFault) → b.IsProgramBroken t f → keeps_typing t ≡ false
program_refuted t _ (b.axiomatic e f m h) =
    and_left (list_all (is_condition (axiom_scope t.globals)) t.axioms) (list_all (procedure_keeps_rules t.globals t.procs) t.procs)
    (all_refuted (is_condition (axiom_scope t.globals)) t.axioms e m (condition_refuted _ e f h))
program_refuted t _ (b.in_procedure p f m h) =
    and_right (list_all (is_condition (axiom_scope t.globals)) t.axioms) (list_all (procedure_keeps_rules t.globals t.procs) t.procs)
    (all_refuted (procedure_keeps_rules t.globals t.procs) t.procs p m (procedure_refuted t.globals t.procs p f h))
