-- What holds of every typed program.
use Rattle.std.proofs.Common.{◌≡◌, ℕ, zero, suc, ◌+◌, ◌-◌, ◌<◌, ◌≤◌, ◌^◌, inl, inr, Bool, true, false, not, ◌&&◌, List, [], ◌∷◌, length, take, drop, nat_lt, nat_le, slice_get, Option, None, Some, IsTrue, Contains, map, refl, ap, sym, ◌∙◌, subst, arith}
use Rattle.std.specs.List.{list_all}
use Rattle.std.proofs.lemmas.Bool.{and_parts, false≢true}
use Rattle.std.proofs.lemmas.Bool.Decides.{nat_tests}
use Rattle.std.proofs.lemmas.List.{length-take-le, length-drop}
use Rattle.std.proofs.lemmas.Option.{none-some, same_Some, slice_get_within, get_or_from_slice_get}
use Rattle.boogie_tree.specs.declared.tree.Column.{Column}
use Rattle.boogie_tree.specs.declared.tree.Column.TheVariants as columns
use Rattle.boogie_tree.specs.declared.tree.VarInfo.{VarInfo}
use Rattle.typed_tree.specs.TypedTree.{TypedExpression, TypedStatement, Havoc, Call, TypedBlock, TypedProcedure, TypedProgram}
use Rattle.typed_tree.specs.Scope.{Scope, axiom_scope}
use Rattle.typed_tree.specs.KeptRules.{is_right}
use Rattle.typed_tree.specs.TypingRules.Counts.{places, columns_fit, numbers_fit}
use Rattle.typed_tree.specs.TypingRules.Rules.{Context, all_differ, same_column, is_member, meets, is_condition, is_guard, is_invariant, is_writable, is_statement, is_block, is_body_if_any, is_specification, procedure_keeps_rules, keeps_typing, are_targets, is_call, arguments_agree, results_agree, column_has, params_of, results_of, within, looped, context_of}
use Rattle.typed_tree.specs.TypingRules.Shape.{are_names, are_arguments, is_shaped, is_shaped_block, params_if_any, block_labels, counts_from, are_locals, are_modified, is_body_shaped, is_procedure_shaped, has_shape}
use Rattle.typed_tree.specs.TypingRules.ValidProgram.{has_body, has_entry, is_typed, is_valid}
use Rattle.typed_tree.specs.TypingRules.Laws as law

-- ---- lists and tests

pub all_member : {X : Type 0} (p : X → Bool) (xs : List X) (x : X) → Contains xs x → list_all p xs ≡ true → p x ≡ true
all_member p [] x (n, l, e) h = absurd (omega arith)
all_member p (y ∷ xs) x (zero, l, e) h = sym (ap p e) ∙ (and_parts (p y) (list_all p xs) h).0
all_member p (y ∷ xs) x (suc n, l, e) h = all_member p xs x (n, omega arith, e) (and_parts (p y) (list_all p xs) h).1

at_contains : {X : Type 0} (xs : List X) (n : ℕ) (x : X) → slice_get xs n ≡ Some x → Contains xs x
at_contains xs n x h = (n, slice_get_within xs n x h, get_or_from_slice_get xs n x x h)

meets_some : {X : Type 0} (test : X → Bool) (o : Option X) → meets test o ≡ true → (x : X) × (o ≡ Some x) × (test x ≡ true)
meets_some test None h = absurd (false≢true h)
meets_some test (Some x) h = (x, refl, h)

below_of : (a b : ℕ) → nat_lt a b ≡ true → a < b
below_of a b h = grind (arith, nat_tests)

most_of : (a b : ℕ) → nat_le a b ≡ true → a ≤ b
most_of a b h = grind (arith, nat_tests)

not_of : (b : Bool) → not b ≡ true → b ≡ false
not_of true h = sym h
not_of false h = refl

-- ---- the parts of a valid program

module _ (t : TypedProgram) (valid : IsTrue (is_valid t)) where
  typed_part : is_typed t ≡ true
  typed_part = (and_parts (is_typed t) (numbers_fit t) valid).0

  fit_part : numbers_fit t ≡ true
  fit_part = (and_parts (is_typed t) (numbers_fit t) valid).1

  shape_part : has_shape t ≡ true
  shape_part = (and_parts (has_shape t) (keeps_typing t && has_entry t) typed_part).0

  rules_part : (keeps_typing t && has_entry t) ≡ true
  rules_part = (and_parts (has_shape t) (keeps_typing t && has_entry t) typed_part).1

  kept_part : keeps_typing t ≡ true
  kept_part = (and_parts (keeps_typing t) (has_entry t) rules_part).0

  entry_part : has_entry t ≡ true
  entry_part = (and_parts (keeps_typing t) (has_entry t) rules_part).1

  axioms_part : list_all (is_condition (axiom_scope t.globals)) t.axioms ≡ true
  axioms_part = (and_parts (list_all (is_condition (axiom_scope t.globals)) t.axioms) (list_all (procedure_keeps_rules t.globals t.procs) t.procs) kept_part).0

  procedure_kept : (p : TypedProcedure) → Contains t.procs p → procedure_keeps_rules t.globals t.procs p ≡ true
  procedure_kept p m =
      all_member (procedure_keeps_rules t.globals t.procs) t.procs p m
      (and_parts (list_all (is_condition (axiom_scope t.globals)) t.axioms) (list_all (procedure_keeps_rules t.globals t.procs) t.procs) kept_part).1

  procedure_shaped : (p : TypedProcedure) → Contains t.procs p → is_procedure_shaped t.globals t.procs p ≡ true
  procedure_shaped p m =
      let names : (are_names (map (λ q. q.name) t.procs) && list_all (is_procedure_shaped t.globals t.procs) t.procs) ≡ true =
      (and_parts (are_names (map (λ v. v.name) t.globals)) (are_names (map (λ q. q.name) t.procs) && list_all (is_procedure_shaped t.globals t.procs) t.procs) shape_part).1 in
      all_member (is_procedure_shaped t.globals t.procs) t.procs p m
      (and_parts (are_names (map (λ q. q.name) t.procs)) (list_all (is_procedure_shaped t.globals t.procs) t.procs) names).1

  procedure_rest : (p : TypedProcedure) → Contains t.procs p → (are_locals p && (are_modified t.globals p.modifies && is_body_shaped t.procs p.body)) ≡ true
  procedure_rest p m =
      (and_parts (are_names (map (λ v. v.name) p.locals)) (are_locals p && (are_modified t.globals p.modifies && is_body_shaped t.procs p.body)) (procedure_shaped p m)).1

  locals_shaped : (p : TypedProcedure) → Contains t.procs p → are_locals p ≡ true
  locals_shaped p m = (and_parts (are_locals p) (are_modified t.globals p.modifies && is_body_shaped t.procs p.body) (procedure_rest p m)).0

  body_shaped : (p : TypedProcedure) → Contains t.procs p → is_body_shaped t.procs p.body ≡ true
  body_shaped p m =
      (and_parts (are_modified t.globals p.modifies) (is_body_shaped t.procs p.body)
      (and_parts (are_locals p) (are_modified t.globals p.modifies && is_body_shaped t.procs p.body) (procedure_rest p m)).1).1

  body_parts : (p : TypedProcedure) (b : TypedBlock) → Contains t.procs p → p.body ≡ Some b → (counts_from 0 (block_labels b) ≡ true) × (is_shaped_block t.procs b ≡ true)
  body_parts p b m e =
      and_parts (counts_from 0 (block_labels b)) (is_shaped_block t.procs b)
      (subst (λ (o : Option TypedBlock). is_body_shaped t.procs o ≡ true) e (body_shaped p m))

  body_kept : (p : TypedProcedure) (b : TypedBlock) → Contains t.procs p → p.body ≡ Some b → is_block (within (context_of t.globals t.procs p) b) b ≡ true
  body_kept p b m e =
      subst (λ (o : Option TypedBlock). is_body_if_any (context_of t.globals t.procs p) o ≡ true) e
      (and_parts (list_all (is_specification t.globals p) p.specs) (is_body_if_any (context_of t.globals t.procs p) p.body) (procedure_kept p m)).1

-- ---- statements

stands_kept : (k : Context) (b : TypedBlock) (j : Context) (x : TypedStatement) → law.StandsIn k b j x → is_block k b ≡ true → is_statement j x ≡ true
stands_kept _ _ _ _ (law.here k s b) h = (and_parts (is_statement k s) (is_block k b) h).0
stands_kept _ _ _ _ (law.after k j s x b d) h = stands_kept k b j x d (and_parts (is_statement k s) (is_block k b) h).1
stands_kept _ _ _ _ (law.in_then k j at g a e b x d) h =
    let whole = (and_parts (is_guard k.scope g && (is_block (within k a) a && is_block (within k e) e)) (is_block k b) h).0 in
    let both = (and_parts (is_guard k.scope g) (is_block (within k a) a && is_block (within k e) e) whole).1 in
    stands_kept (within k a) a j x d (and_parts (is_block (within k a) a) (is_block (within k e) e) both).0
stands_kept _ _ _ _ (law.in_else k j at g a e b x d) h =
    let whole = (and_parts (is_guard k.scope g && (is_block (within k a) a && is_block (within k e) e)) (is_block k b) h).0 in
    let both = (and_parts (is_guard k.scope g) (is_block (within k a) a && is_block (within k e) e) whole).1 in
    stands_kept (within k e) e j x d (and_parts (is_block (within k a) a) (is_block (within k e) e) both).1
stands_kept _ _ _ _ (law.in_loop k j at g is a b x d) h =
    let whole = (and_parts (is_guard k.scope g && (list_all (is_invariant k.scope) is && is_block (within (looped k) a) a)) (is_block k b) h).0 in
    let both = (and_parts (is_guard k.scope g) (list_all (is_invariant k.scope) is && is_block (within (looped k) a) a) whole).1 in
    stands_kept (within (looped k) a) a j x d (and_parts (list_all (is_invariant k.scope) is) (is_block (within (looped k) a) a) both).1

stands_shaped : (procs : List TypedProcedure) (k : Context) (b : TypedBlock) (j : Context) (x : TypedStatement) → law.StandsIn k b j x →
    is_shaped_block procs b ≡ true → is_shaped procs x ≡ true
stands_shaped procs _ _ _ _ (law.here k s b) h = (and_parts (is_shaped procs s) (is_shaped_block procs b) h).0
stands_shaped procs _ _ _ _ (law.after k j s x b d) h = stands_shaped procs k b j x d (and_parts (is_shaped procs s) (is_shaped_block procs b) h).1
stands_shaped procs _ _ _ _ (law.in_then k j at g a e b x d) h =
    let both = (and_parts (is_shaped_block procs a && is_shaped_block procs e) (is_shaped_block procs b) h).0 in
    stands_shaped procs (within k a) a j x d (and_parts (is_shaped_block procs a) (is_shaped_block procs e) both).0
stands_shaped procs _ _ _ _ (law.in_else k j at g a e b x d) h =
    let both = (and_parts (is_shaped_block procs a && is_shaped_block procs e) (is_shaped_block procs b) h).0 in
    stands_shaped procs (within k e) e j x d (and_parts (is_shaped_block procs a) (is_shaped_block procs e) both).1
stands_shaped procs _ _ _ _ (law.in_loop k j at g is a b x d) h =
    stands_shaped procs (within (looped k) a) a j x d (and_parts (is_shaped_block procs a) (is_shaped_block procs b) h).0

-- what is seen, the procedures and what may be written are those of the whole body
abbrev SameFrame : Context → Context → Type 0
SameFrame k j = (j.scope ≡ k.scope) × (j.procs ≡ k.procs) × (j.modifies ≡ k.modifies)

stands_framed : (k : Context) (b : TypedBlock) (j : Context) (x : TypedStatement) → law.StandsIn k b j x → SameFrame k j
stands_framed _ _ _ _ (law.here k s b) = (refl, refl, refl)
stands_framed _ _ _ _ (law.after k j s x b d) = stands_framed k b j x d
stands_framed _ _ _ _ (law.in_then k j at g a e b x d) = stands_framed (within k a) a j x d
stands_framed _ _ _ _ (law.in_else k j at g a e b x d) = stands_framed (within k e) e j x d
stands_framed _ _ _ _ (law.in_loop k j at g is a b x d) = stands_framed (within (looped k) a) a j x d

pub statements : law.StatementsAreTyped
statements t p k s v (law.in_body b m e d) = (
  stands_kept (within (context_of t.globals t.procs p) b) b k s d (body_kept t v p b m e),
  stands_shaped t.procs (within (context_of t.globals t.procs p) b) b k s d (body_parts t v p b m e).1,
)

pub scopes : law.StatementsSeeLocals
scopes t p k s (law.in_body b m e d) = stands_framed (within (context_of t.globals t.procs p) b) b k s d

of_program : (t : TypedProgram) (p : TypedProcedure) (k : Context) (s : TypedStatement) → law.IsStatementOf t p k s → Contains t.procs p
of_program t p k s (law.in_body b m e d) = m

-- ---- declarations

pub axioms : law.AxiomsAreTyped
axioms t e v m = all_member (is_condition (axiom_scope t.globals)) t.axioms e m (axioms_part t v)

pub specifications : law.SpecificationsAreTyped
specifications t p s v m n =
    all_member (is_specification t.globals p) p.specs s n
    (and_parts (list_all (is_specification t.globals p) p.specs) (is_body_if_any (context_of t.globals t.procs p) p.body) (procedure_kept t v p m)).0

pub locals : law.LocalsAreEnough
locals t p v m =
    most_of (p.params + p.results) (length p.locals)
    (and_parts (nat_le (p.params + p.results) (length p.locals)) (list_all (λ x. x.constant) (params_of p) && list_all (λ x. not x.constant) (drop p.params p.locals)) (locals_shaped t v p m)).0

pub labels : law.LabelsCount
labels t p b v m e = (body_parts t v p b m e).0

pub entry : law.EntryHasBody
entry t v =
    let p = meets_some has_body (slice_get t.procs t.entry) (entry_part t v) in
    let b = meets_some (λ (c : TypedBlock). true) p.0.body p.2 in
    (p.0, b.0, p.1, b.1)

pub numbers : law.NumbersFit
numbers t v =
    let a = and_parts (nat_lt (places t) (2 ^ 32)) (nat_lt (length t.procs) (2 ^ 32) && list_all (columns_fit t.globals) t.procs) (fit_part t v) in
    let b = and_parts (nat_lt (length t.procs) (2 ^ 32)) (list_all (columns_fit t.globals) t.procs) a.1 in (
      below_of (places t) (2 ^ 32) a.0,
      below_of (length t.procs) (2 ^ 32) b.0,
      λ p m. below_of (length t.globals + (length t.globals + length p.locals)) (2 ^ 32) (all_member (columns_fit t.globals) t.procs p m b.1),
    )

-- ---- targets

-- a local that is no constant comes after the parameters
after_constants : (vs : List VarInfo) (m n : ℕ) (v : VarInfo) → list_all (λ x. x.constant) (take m vs) ≡ true → slice_get vs n ≡ Some v → v.constant ≡ false → m ≤ n
after_constants [] m n v h e f = absurd (none-some v e)
after_constants (w ∷ vs) zero n v h e f = omega arith
after_constants (w ∷ vs) (suc m) zero v h e f =
    absurd (false≢true (sym f ∙ ap (λ (x : VarInfo). x.constant) (sym (same_Some w v e)) ∙ (and_parts w.constant (list_all (λ x. x.constant) (take m vs)) h).0))
after_constants (w ∷ vs) (suc m) (suc n) v h e f =
    omega (arith, after_constants vs m n v (and_parts w.constant (list_all (λ x. x.constant) (take m vs)) h).1 e f)

pub targets : law.TargetsVary
targets t p k s (columns.Global n) v d w =
    let f = scopes t p k s d in
    let a = and_parts (meets (λ x. not x.constant) (slice_get k.scope.globals n)) (is_member n k.modifies) w in
    let x = meets_some (λ (y : VarInfo). not y.constant) (slice_get k.scope.globals n) a.0 in
    inl (n, x.0, refl, ap (λ (c : Scope). slice_get c.globals n) (sym f.0) ∙ x.1, not_of x.0.constant x.2, ap (is_member n) (sym f.2) ∙ a.1)
targets t p k s (columns.Old n) v d w = absurd (false≢true w)
targets t p k s (columns.Local n) v d w =
    let f = scopes t p k s d in
    let x = meets_some (λ (y : VarInfo). not y.constant) (slice_get k.scope.locals n) w in
    let e : slice_get p.locals n ≡ Some x.0 = ap (λ (c : Scope). slice_get c.locals n) (sym f.0) ∙ x.1 in
    let constant = and_parts (list_all (λ y. y.constant) (params_of p)) (list_all (λ y. not y.constant) (drop p.params p.locals))
    (and_parts (nat_le (p.params + p.results) (length p.locals)) (list_all (λ y. y.constant) (params_of p) && list_all (λ y. not y.constant) (drop p.params p.locals))
    (locals_shaped t v p (of_program t p k s d))).1 in
    inr (n, x.0, refl, e, not_of x.0.constant x.2, after_constants p.locals p.params n x.0 constant.0 e (not_of x.0.constant x.2))

pub havocs : law.HavocsChoose
havocs t p k at [] v d = absurd (false≢true (statements t p k (Havoc at []) v d).0)
havocs t p k at (c ∷ cs) v d = omega arith

-- ---- calls

arguments_count : (s : Scope) (vs : List VarInfo) (es : List TypedExpression) → arguments_agree s vs es ≡ true → length es ≡ length vs
arguments_count s [] [] h = refl
arguments_count s [] (e ∷ es) h = absurd (false≢true h)
arguments_count s (v ∷ vs) [] h = absurd (false≢true h)
arguments_count s (v ∷ vs) (e ∷ es) h = ap suc (arguments_count s vs es (and_parts (is_right s v.ty e) (arguments_agree s vs es) h).1)

results_count : (s : Scope) (vs : List VarInfo) (cs : List Column) → results_agree s vs cs ≡ true → length cs ≡ length vs
results_count s [] [] h = refl
results_count s [] (c ∷ cs) h = absurd (false≢true h)
results_count s (v ∷ vs) [] h = absurd (false≢true h)
results_count s (v ∷ vs) (c ∷ cs) h = ap suc (results_count s vs cs (and_parts (column_has s v.ty c) (results_agree s vs cs) h).1)

pub calls : law.CallsAgree
calls t p k at cs f es v d =
    let frame = scopes t p k (Call at cs f es) d in
    let held = statements t p k (Call at cs f es) v d in
    let a = and_parts (are_targets k cs) (meets (is_call k cs es) (slice_get k.procs f)) held.0 in
    let q = meets_some (is_call k cs es) (slice_get k.procs f) a.1 in
    let at_q : slice_get t.procs f ≡ Some q.0 = ap (λ (ps : List TypedProcedure). slice_get ps f) (sym frame.1) ∙ q.1 in
    let b = and_parts (arguments_agree k.scope (params_of q.0) es) (results_agree k.scope (results_of q.0) cs && list_all (λ n. is_member n k.modifies) q.0.modifies) q.2 in
    let c = and_parts (results_agree k.scope (results_of q.0) cs) (list_all (λ n. is_member n k.modifies) q.0.modifies) b.1 in
    let enough : q.0.params + q.0.results ≤ length q.0.locals = locals t q.0 v (at_contains t.procs f q.0 at_q) in
    let params : length (params_of q.0) ≡ q.0.params = length-take-le q.0.params q.0.locals (omega arith) in
    let rest : length (drop q.0.params q.0.locals) ≡ length q.0.locals - q.0.params = length-drop q.0.params q.0.locals in
    let results : length (results_of q.0) ≡ q.0.results = length-take-le q.0.results (drop q.0.params q.0.locals) (omega arith) in (
      q.0,
      at_q,
      arguments_count k.scope (params_of q.0) es b.0 ∙ params,
      results_count k.scope (results_of q.0) cs c.0 ∙ results,
      b.0,
      c.0,
      (and_parts (list_all (is_writable k) cs) (all_differ same_column cs) a.0).1,
      ap (λ (ms : List ℕ). list_all (λ n. is_member n ms) q.0.modifies) (sym frame.2) ∙ c.1,
      ap (λ (o : Option TypedProcedure). are_arguments (params_if_any o) es) (sym at_q) ∙ held.1,
    )
