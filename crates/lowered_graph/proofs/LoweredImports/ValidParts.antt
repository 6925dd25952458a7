-- What a valid program says of its procedures.
use Rattle.std.proofs.Common.{◌≡◌, inl, inr, ℕ, zero, suc, ◌+◌, ◌≤◌, Bool, true, false, not, ◌&&◌, ◌||◌, nat_eq, nat_le, cond, IsTrue, List, [], ◌∷◌, map, length, take, drop, Option, None, Some, slice_get, refl, sym, ap, subst, ◌∙◌, arith, eq-eqb}
use Rattle.std.specs.List.{AllByRecursion, list_all, list_any}
use Rattle.std.proofs.lemmas.Bool.{and_parts, false≢true}
use Rattle.std.proofs.lemmas.Bool.Decides.{nat_tests}
use Rattle.boogie_tree.specs.declared.tree.Column.{Column}
use Rattle.boogie_tree.specs.declared.tree.Column.TheVariants as columns
use Rattle.boogie_tree.specs.declared.tree.VarInfo.{VarInfo}
use Rattle.typed_tree.specs.TypedTree.{TypedInvariant, TypedBlock, TypedSpecification, Requires, Ensures, TypedProcedure, TypedProgram}
use Rattle.typed_tree.specs.Scope.{axiom_scope, requires_scope, body_scope}
use Rattle.nwa_base.specs.Members.{Member}
use Rattle.letter_acts.specs.Frames.{ConstantsFirst}
use Rattle.letter_acts.specs.Invariant.{AreDistinct}
use Rattle.typed_tree.specs.TypingRules.Counts.{numbers_fit}
use Rattle.typed_tree.specs.TypingRules.Rules.{all_differ, same_column, meets, is_condition, is_body_if_any, is_specification, procedure_keeps_rules, keeps_typing, params_of, context_of}
use Rattle.typed_tree.specs.TypingRules.Shape.{are_names, is_shaped_block, block_labels, counts_from, are_locals, are_modified, is_body_shaped, is_procedure_shaped, has_shape}
use Rattle.typed_tree.specs.TypingRules.ValidProgram.{has_entry, is_typed, is_valid}
use Rattle.boogie_run.specs.BoogiePoints.Actions.{plain_conditions, free_conditions, ensured_conditions}
use Rattle.lowered_graph.specs.LoweredSteps.Moves.{HasParameters}
use Rattle.lowered_graph.specs.LoweredImports.Imports.{IsModified}

-- ---- lists

pub all_at : {X : Type 0} (p : X → Bool) (xs : List X) (n : ℕ) (x : X) → list_all p xs ≡ true → slice_get xs n ≡ Some x → p x ≡ true
all_at p [] n x h e = cc
all_at p (y ∷ ys) zero x h e = let same : y ≡ x = cc in ap p (sym same) ∙ (and_parts (p y) (list_all p ys) h).0
all_at p (y ∷ ys) (suc n) x h e = all_at p ys n x (and_parts (p y) (list_all p ys) h).1 e

pub all_get : {X : Type 0} (P : X → Type 0) (xs : List X) (n : ℕ) (x : X) → AllByRecursion P xs → slice_get xs n ≡ Some x → P x
all_get P [] n x h e = absurd (cc)
all_get P (y ∷ ys) zero x h e = let same : y ≡ x = cc in subst P same h.0
all_get P (y ∷ ys) (suc n) x h e = all_get P ys n x h.1 e

pub meets_some : {X : Type 0} (test : X → Bool) (o : Option X) → meets test o ≡ true → (x : X) × (o ≡ Some x) × (test x ≡ true)
meets_some test None h = absurd (false≢true h)
meets_some test (Some x) h = (x, refl, h)

pub not_of : (b : Bool) → not b ≡ true → b ≡ false
not_of true h = sym h
not_of false h = refl

or_left : (a b : Bool) → a ≡ true → (a || b) ≡ true
or_left true b h = refl
or_left false b h = absurd (false≢true h)

or_right : (a b : Bool) → b ≡ true → (a || b) ≡ true
or_right true b h = refl
or_right false b h = h

any_member : {X : Type 0} (same : X → X → Bool) (itself : (x : X) → same x x ≡ true) (xs : List X) (x : X) → Member xs x → list_any (same x) xs ≡ true
any_member same itself [] x m = absurd m
any_member same itself (y ∷ ys) x (inl e) = or_left (same x y) (list_any (same x) ys) (ap (same x) e ∙ itself x)
any_member same itself (y ∷ ys) x (inr m) = or_right (same x y) (list_any (same x) ys) (any_member same itself ys x m)

pub distinct_of : {X : Type 0} (same : X → X → Bool) → ((x : X) → same x x ≡ true) → (xs : List X) → all_differ same xs ≡ true → AreDistinct xs
distinct_of same itself [] h = tt
distinct_of same itself (x ∷ xs) h =
    let parts = and_parts (not (list_any (same x) xs)) (all_differ same xs) h in
    (λ m. false≢true (sym (not_of (list_any (same x) xs) parts.0) ∙ any_member same itself xs x m), distinct_of same itself xs parts.1)

same_number : (n : ℕ) → nat_eq n n ≡ true
same_number n = eq-eqb n n refl

pub column_itself : (c : Column) → same_column c c ≡ true
column_itself (columns.Global n) = same_number n
column_itself (columns.Old n) = same_number n
column_itself (columns.Local n) = same_number n

most_of : (a b : ℕ) → nat_le a b ≡ true → a ≤ b
most_of a b h = grind (arith, nat_tests)

all_constant : (vs : List VarInfo) → list_all (λ v. v.constant) vs ≡ true → AllByRecursion (λ v. v.constant ≡ true) vs
all_constant [] h = tt
all_constant (v ∷ vs) h = let parts = and_parts v.constant (list_all (λ w. w.constant) vs) h in (parts.0, all_constant vs parts.1)

all_vary : (vs : List VarInfo) → list_all (λ v. not v.constant) vs ≡ true → AllByRecursion (λ v. v.constant ≡ false) vs
all_vary [] h = tt
all_vary (v ∷ vs) h = let parts = and_parts (not v.constant) (list_all (λ w. not w.constant) vs) h in (not_of v.constant parts.0, all_vary vs parts.1)

pub constants_first : (n : ℕ) (vs : List VarInfo) → AllByRecursion (λ v. v.constant ≡ true) (take n vs) → AllByRecursion (λ v. v.constant ≡ false) (drop n vs) → ConstantsFirst vs
constants_first zero [] h k = tt
constants_first zero (v ∷ vs) h k = (λ e. k.1, constants_first zero vs tt k.1)
constants_first (suc n) [] h k = tt
constants_first (suc n) (v ∷ vs) h k = (λ e. absurd (false≢true (sym e ∙ h.0)), constants_first n vs h.1 k)

-- ---- specifications

module _ (globals : List VarInfo) (p : TypedProcedure) where
  abbrev pub IsRequired : TypedInvariant → Type 0
  IsRequired i = is_condition (requires_scope globals (params_of p)) i.cond ≡ true

  abbrev pub IsEnsuring : TypedInvariant → Type 0
  IsEnsuring i = is_condition (body_scope globals (take (p.params + p.results) p.locals)) i.cond ≡ true

  unless_free : (b : Bool) (i : TypedInvariant) (is : List TypedInvariant) → IsRequired i → AllByRecursion IsRequired is → AllByRecursion IsRequired (cond b is (i ∷ is))
  unless_free true i is h k = k
  unless_free false i is h k = (h, k)

  if_free : (b : Bool) (i : TypedInvariant) (is : List TypedInvariant) → IsRequired i → AllByRecursion IsRequired is → AllByRecursion IsRequired (cond b (i ∷ is) is)
  if_free true i is h k = (h, k)
  if_free false i is h k = k

  pub plain_right : (ss : List TypedSpecification) → list_all (is_specification globals p) ss ≡ true → AllByRecursion IsRequired (plain_conditions ss)
  plain_right [] h = tt
  plain_right (Requires i ∷ ss) h =
      let parts = and_parts (is_specification globals p (Requires i)) (list_all (is_specification globals p) ss) h in
      unless_free i.free i (plain_conditions ss) parts.0 (plain_right ss parts.1)
  plain_right (Ensures i ∷ ss) h = plain_right ss (and_parts (is_specification globals p (Ensures i)) (list_all (is_specification globals p) ss) h).1

  pub free_right : (ss : List TypedSpecification) → list_all (is_specification globals p) ss ≡ true → AllByRecursion IsRequired (free_conditions ss)
  free_right [] h = tt
  free_right (Requires i ∷ ss) h =
      let parts = and_parts (is_specification globals p (Requires i)) (list_all (is_specification globals p) ss) h in
      if_free i.free i (free_conditions ss) parts.0 (free_right ss parts.1)
  free_right (Ensures i ∷ ss) h = free_right ss (and_parts (is_specification globals p (Ensures i)) (list_all (is_specification globals p) ss) h).1

  pub ensured_right : (ss : List TypedSpecification) → list_all (is_specification globals p) ss ≡ true → AllByRecursion IsEnsuring (ensured_conditions ss)
  ensured_right [] h = tt
  ensured_right (Requires i ∷ ss) h = ensured_right ss (and_parts (is_specification globals p (Requires i)) (list_all (is_specification globals p) ss) h).1
  ensured_right (Ensures i ∷ ss) h =
      let parts = and_parts (is_specification globals p (Ensures i)) (list_all (is_specification globals p) ss) h in
      (parts.0, ensured_right ss parts.1)

-- ---- procedures

modified_vary : (t : TypedProgram) (ns : List ℕ) → list_all (λ n. meets (λ v. not v.constant) (slice_get t.globals n)) ns ≡ true → AllByRecursion (IsModified t) ns
modified_vary t [] h = tt
modified_vary t (n ∷ ns) h =
    let parts = and_parts (meets (λ v. not v.constant) (slice_get t.globals n)) (list_all (λ m. meets (λ v. not v.constant) (slice_get t.globals m)) ns) h in
    let v = meets_some (λ (w : VarInfo). not w.constant) (slice_get t.globals n) parts.0 in
    (record { info = v.0; is = v.1; varies = not_of v.0.constant v.2 }, modified_vary t ns parts.1)

module _ (t : TypedProgram) (valid : IsTrue (is_valid t)) where
  typed_part : is_typed t ≡ true
  typed_part = (and_parts (is_typed t) (numbers_fit t) valid).0

  shape_part : has_shape t ≡ true
  shape_part = (and_parts (has_shape t) (keeps_typing t && has_entry t) typed_part).0

  rules_part : (keeps_typing t && has_entry t) ≡ true
  rules_part = (and_parts (has_shape t) (keeps_typing t && has_entry t) typed_part).1

  kept_part : keeps_typing t ≡ true
  kept_part = (and_parts (keeps_typing t) (has_entry t) rules_part).0

  pub axioms_right : list_all (is_condition (axiom_scope t.globals)) t.axioms ≡ true
  axioms_right = (and_parts (list_all (is_condition (axiom_scope t.globals)) t.axioms) (list_all (procedure_keeps_rules t.globals t.procs) t.procs) kept_part).0

  pub specifications_right : (n : ℕ) (p : TypedProcedure) → slice_get t.procs n ≡ Some p → list_all (is_specification t.globals p) p.specs ≡ true
  specifications_right n p e =
      let procedures = (and_parts (list_all (is_condition (axiom_scope t.globals)) t.axioms) (list_all (procedure_keeps_rules t.globals t.procs) t.procs) kept_part).1 in
      let whole = all_at (procedure_keeps_rules t.globals t.procs) t.procs n p procedures e in
      (and_parts (list_all (is_specification t.globals p) p.specs) (is_body_if_any (context_of t.globals t.procs p) p.body) whole).0

  procedure_rest : (n : ℕ) (p : TypedProcedure) → slice_get t.procs n ≡ Some p → (are_locals p && (are_modified t.globals p.modifies && is_body_shaped t.procs p.body)) ≡ true
  procedure_rest n p e =
      let names = (and_parts (are_names (map (λ v. v.name) t.globals)) (are_names (map (λ q. q.name) t.procs) && list_all (is_procedure_shaped t.globals t.procs) t.procs) shape_part).1 in
      let shaped = (and_parts (are_names (map (λ q. q.name) t.procs)) (list_all (is_procedure_shaped t.globals t.procs) t.procs) names).1 in
      let whole = all_at (is_procedure_shaped t.globals t.procs) t.procs n p shaped e in
      (and_parts (are_names (map (λ v. v.name) p.locals)) (are_locals p && (are_modified t.globals p.modifies && is_body_shaped t.procs p.body)) whole).1

  locals_part : (n : ℕ) (p : TypedProcedure) → slice_get t.procs n ≡ Some p → are_locals p ≡ true
  locals_part n p e = (and_parts (are_locals p) (are_modified t.globals p.modifies && is_body_shaped t.procs p.body) (procedure_rest n p e)).0

  modified_part : (n : ℕ) (p : TypedProcedure) → slice_get t.procs n ≡ Some p → (are_modified t.globals p.modifies ≡ true) × (is_body_shaped t.procs p.body ≡ true)
  modified_part n p e =
      and_parts (are_modified t.globals p.modifies) (is_body_shaped t.procs p.body)
      (and_parts (are_locals p) (are_modified t.globals p.modifies && is_body_shaped t.procs p.body) (procedure_rest n p e)).1

  pub enough_locals : (n : ℕ) (p : TypedProcedure) → slice_get t.procs n ≡ Some p → p.params + p.results ≤ length p.locals
  enough_locals n p e =
      most_of (p.params + p.results) (length p.locals)
      (and_parts (nat_le (p.params + p.results) (length p.locals)) (list_all (λ v. v.constant) (params_of p) && list_all (λ v. not v.constant) (drop p.params p.locals)) (locals_part n p e)).0

  pub has_parameters : (n : ℕ) (p : TypedProcedure) → slice_get t.procs n ≡ Some p → HasParameters p
  has_parameters n p e =
      let rest = (and_parts (nat_le (p.params + p.results) (length p.locals)) (list_all (λ v. v.constant) (params_of p) && list_all (λ v. not v.constant) (drop p.params p.locals)) (locals_part n p e)).1 in
      let parts = and_parts (list_all (λ v. v.constant) (params_of p)) (list_all (λ v. not v.constant) (drop p.params p.locals)) rest in
      record { constant = all_constant (take p.params p.locals) parts.0; vary = all_vary (drop p.params p.locals) parts.1 }

  pub modified_right : (n : ℕ) (p : TypedProcedure) → slice_get t.procs n ≡ Some p → AllByRecursion (IsModified t) p.modifies × AreDistinct p.modifies
  modified_right n p e =
      let parts = and_parts (list_all (λ m. meets (λ v. not v.constant) (slice_get t.globals m)) p.modifies) (all_differ nat_eq p.modifies) (modified_part n p e).0 in
      (modified_vary t p.modifies parts.0, distinct_of nat_eq same_number p.modifies parts.1)

  pub body_shaped : (n : ℕ) (p : TypedProcedure) (b : TypedBlock) → slice_get t.procs n ≡ Some p → p.body ≡ Some b → is_shaped_block t.procs b ≡ true
  body_shaped n p b e k =
      (and_parts (counts_from 0 (block_labels b)) (is_shaped_block t.procs b) (subst (λ (o : Option TypedBlock). is_body_shaped t.procs o ≡ true) k (modified_part n p e).1)).1
