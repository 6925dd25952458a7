-- What a valid program says of its procedures: columns, lists and bodies.
use Rattle.std.proofs.Common.{◌≡◌, ⊎_elim, ℕ, zero, suc, ◌+◌, ◌<◌, ◌≤◌, Bool, true, false, not, ◌&&◌, nat_eq, nat_le, cond, IsTrue, List, [], ◌∷◌, map, length, length-append, take, drop, Option, Some, slice_get, refl, ap, subst, arith}
use Rattle.std.specs.List.{AllByRecursion, list_all}
use Rattle.std.proofs.lemmas.Bool.{and_parts, false≢true}
use Rattle.std.proofs.lemmas.List.{length-map, length-take-le, length-drop}
use Rattle.std.proofs.lemmas.Option.{slice_get_within}
use Rattle.boogie_tree.specs.declared.tree.Ty.TheVariants as types
use Rattle.boogie_tree.specs.declared.tree.Column.TheVariants as columns
use Rattle.boogie_tree.specs.declared.tree.VarInfo.{VarInfo}
use Rattle.typed_tree.specs.TypedTree.{TypedExpression, TypedInvariant, TypedBlock, TypedSpecification, Requires, Ensures, TypedProcedure, TypedProgram}
use Rattle.typed_tree.specs.Scope.{axiom_scope, requires_scope, body_scope}
use Rattle.typed_tree.specs.TypingRules.Counts.{numbers_fit}
use Rattle.typed_tree.specs.TypingRules.Rules.{all_differ, meets, is_condition, is_body, is_body_if_any, is_specification, procedure_keeps_rules, keeps_typing, params_of, own_labels, within, context_of}
use Rattle.typed_tree.specs.TypingRules.Shape.{are_names, are_locals, are_modified, is_body_shaped, is_procedure_shaped, has_shape}
use Rattle.typed_tree.specs.TypingRules.ValidProgram.{has_body, has_entry, is_typed, is_valid}
use Rattle.boogie_run.specs.BoogiePoints.Actions.{plain_conditions, free_conditions, ensured_conditions, results_from, chosen_columns, start_conditions}
use Rattle.boogie_run.specs.RunDefaults.Acting.{IsVariable}
use Rattle.boogie_run.proofs.RunDefaults.Parts.{all_at, all_append, there, meets_some, at_most, in_either, own_in}
use Rattle.boogie_run.proofs.RunDefaults.Columns.{ReadsIn, right_reads, widened}
use Rattle.boogie_run.proofs.RunDefaults.Nesting.{IsNested}

-- ---- specifications

-- the condition reads so many locals alone
abbrev pub ConditionIn : TypedProgram → ℕ → TypedInvariant → Type 0
ConditionIn t l i = ReadsIn (length t.globals) l i.cond

if_plain : (P : TypedInvariant → Type 0) (b : Bool) (i : TypedInvariant) (is : List TypedInvariant) → P i → AllByRecursion P is → AllByRecursion P (cond b is (i ∷ is))
if_plain P true i is h k = k
if_plain P false i is h k = (h, k)

if_free : (P : TypedInvariant → Type 0) (b : Bool) (i : TypedInvariant) (is : List TypedInvariant) → P i → AllByRecursion P is → AllByRecursion P (cond b (i ∷ is) is)
if_free P true i is h k = (h, k)
if_free P false i is h k = k

module _ (t : TypedProgram) (p : TypedProcedure) where
  requires_read : (ss : List TypedSpecification) → list_all (is_specification t.globals p) ss ≡ true →
      AllByRecursion (ConditionIn t (length (params_of p))) (plain_conditions ss) × AllByRecursion (ConditionIn t (length (params_of p))) (free_conditions ss)
  requires_read [] h = (tt, tt)
  requires_read (Requires i ∷ ss) h =
      let parts = and_parts (is_specification t.globals p (Requires i)) (list_all (is_specification t.globals p) ss) h in
      let this = right_reads (requires_scope t.globals (params_of p)) types.Bool i.cond parts.0 in
      let rest = requires_read ss parts.1 in
      let P : TypedInvariant → Type 0 = ConditionIn t (length (params_of p)) in
      (if_plain P i.free i (plain_conditions ss) this rest.0, if_free P i.free i (free_conditions ss) this rest.1)
  requires_read (Ensures i ∷ ss) h = requires_read ss (and_parts (is_specification t.globals p (Ensures i)) (list_all (is_specification t.globals p) ss) h).1

  ensures_read : (ss : List TypedSpecification) → list_all (is_specification t.globals p) ss ≡ true →
      AllByRecursion (ConditionIn t (length (take (p.params + p.results) p.locals))) (ensured_conditions ss)
  ensures_read [] h = tt
  ensures_read (Requires i ∷ ss) h = ensures_read ss (and_parts (is_specification t.globals p (Requires i)) (list_all (is_specification t.globals p) ss) h).1
  ensures_read (Ensures i ∷ ss) h =
      let parts = and_parts (is_specification t.globals p (Ensures i)) (list_all (is_specification t.globals p) ss) h in
      (right_reads (body_scope t.globals (take (p.params + p.results) p.locals)) types.Bool i.cond parts.0, ensures_read ss parts.1)

conditions_of : (t : TypedProgram) (l m : ℕ) (is : List TypedInvariant) → l ≤ m → AllByRecursion (ConditionIn t l) is →
    AllByRecursion (ReadsIn (length t.globals) m) (map (λ (i : TypedInvariant). i.cond) is)
conditions_of t l m [] less h = tt
conditions_of t l m (i ∷ is) less h = (widened (length t.globals) l m i.cond less h.0, conditions_of t l m is less h.1)

axioms_read : (t : TypedProgram) (m : ℕ) (es : List TypedExpression) → list_all (is_condition (axiom_scope t.globals)) es ≡ true → AllByRecursion (ReadsIn (length t.globals) m) es
axioms_read t m [] h = tt
axioms_read t m (e ∷ es) h =
    let parts = and_parts (is_condition (axiom_scope t.globals) e) (list_all (is_condition (axiom_scope t.globals)) es) h in
    (widened (length t.globals) 0 m e (omega arith) (right_reads (axiom_scope t.globals) types.Bool e parts.0), axioms_read t m es parts.1)

-- ---- the columns that a call without body chooses

pub results_from_length : (n k : ℕ) → length (results_from n k) ≡ k
results_from_length n zero = refl
results_from_length n (suc k) = ap suc (results_from_length (n + 1) k)

pub chosen_length : (p : TypedProcedure) → length (chosen_columns p) ≡ length p.modifies + p.results
chosen_length p =
    omega (arith, length-append (map columns.Global p.modifies) (results_from p.params p.results), length-map p.modifies columns.Global, results_from_length p.params p.results)

results_are_variables : (gs ls : List VarInfo) (n k : ℕ) → n + k ≤ length ls → AllByRecursion (IsVariable gs ls) (results_from n k)
results_are_variables gs ls n zero h = tt
results_are_variables gs ls n (suc k) h = (there ls n (omega arith), results_are_variables gs ls (n + 1) k (omega arith))

globals_are_variables : (gs ls : List VarInfo) (ns : List ℕ) → AllByRecursion (λ (n : ℕ). n < length gs) ns → AllByRecursion (IsVariable gs ls) (map columns.Global ns)
globals_are_variables gs ls [] h = tt
globals_are_variables gs ls (n ∷ ns) h = (there gs n h.0, globals_are_variables gs ls ns h.1)

-- ---- procedures

modified_there : (gs : List VarInfo) (ns : List ℕ) → list_all (λ n. meets (λ v. not v.constant) (slice_get gs n)) ns ≡ true → AllByRecursion (λ (n : ℕ). n < length gs) ns
modified_there gs [] h = tt
modified_there gs (n ∷ ns) h =
    let parts = and_parts (meets (λ v. not v.constant) (slice_get gs n)) (list_all (λ m. meets (λ v. not v.constant) (slice_get gs m)) ns) h in
    let v = meets_some (λ (w : VarInfo). not w.constant) (slice_get gs n) parts.0 in
    (slice_get_within gs n v.0 v.1, modified_there gs ns parts.1)

module _ (t : TypedProgram) (valid : IsTrue (is_valid t)) where
  typed_part : is_typed t ≡ true
  typed_part = (and_parts (is_typed t) (numbers_fit t) valid).0

  shape_part : has_shape t ≡ true
  shape_part = (and_parts (has_shape t) (keeps_typing t && has_entry t) typed_part).0

  rules_part : (keeps_typing t && has_entry t) ≡ true
  rules_part = (and_parts (has_shape t) (keeps_typing t && has_entry t) typed_part).1

  kept_part : (list_all (is_condition (axiom_scope t.globals)) t.axioms && list_all (procedure_keeps_rules t.globals t.procs) t.procs) ≡ true
  kept_part = (and_parts (keeps_typing t) (has_entry t) rules_part).0

  pub entry_found : (p : TypedProcedure) × (b : TypedBlock) × (slice_get t.procs t.entry ≡ Some p) × (p.body ≡ Some b)
  entry_found =
      let p = meets_some has_body (slice_get t.procs t.entry) (and_parts (keeps_typing t) (has_entry t) rules_part).1 in
      let b = meets_some (λ (c : TypedBlock). true) p.0.body p.2 in
      (p.0, b.0, p.1, b.1)

  module _ (n : ℕ) (p : TypedProcedure) (found : slice_get t.procs n ≡ Some p) where
    procedure_kept : (list_all (is_specification t.globals p) p.specs && is_body_if_any (context_of t.globals t.procs p) p.body) ≡ true
    procedure_kept =
        all_at (procedure_keeps_rules t.globals t.procs) t.procs n p
        (and_parts (list_all (is_condition (axiom_scope t.globals)) t.axioms) (list_all (procedure_keeps_rules t.globals t.procs) t.procs) kept_part).1 found

    specified : list_all (is_specification t.globals p) p.specs ≡ true
    specified = (and_parts (list_all (is_specification t.globals p) p.specs) (is_body_if_any (context_of t.globals t.procs p) p.body) procedure_kept).0

    procedure_rest : (are_locals p && (are_modified t.globals p.modifies && is_body_shaped t.procs p.body)) ≡ true
    procedure_rest =
        let names = (and_parts (are_names (map (λ v. v.name) t.globals)) (are_names (map (λ r. r.name) t.procs) && list_all (is_procedure_shaped t.globals t.procs) t.procs) shape_part).1 in
        let shaped = (and_parts (are_names (map (λ r. r.name) t.procs)) (list_all (is_procedure_shaped t.globals t.procs) t.procs) names).1 in
        let whole = all_at (is_procedure_shaped t.globals t.procs) t.procs n p shaped found in
        (and_parts (are_names (map (λ v. v.name) p.locals)) (are_locals p && (are_modified t.globals p.modifies && is_body_shaped t.procs p.body)) whole).1

    -- the locals begin with the parameters and results
    pub enough : p.params + p.results ≤ length p.locals
    enough =
        let locals = (and_parts (are_locals p) (are_modified t.globals p.modifies && is_body_shaped t.procs p.body) procedure_rest).0 in
        at_most (p.params + p.results) (length p.locals) (and_parts (nat_le (p.params + p.results) (length p.locals)) (list_all (λ v. v.constant) (params_of p) && list_all (λ v. not v.constant) (drop p.params p.locals)) locals).0

    pub params_length : length (params_of p) ≡ p.params
    params_length = length-take-le p.params p.locals (omega (arith, enough))

    pub results_length : {X : Type 0} (zs : List X) → length zs ≡ length p.locals → length (take p.results (drop p.params zs)) ≡ p.results
    results_length zs e = length-take-le p.results (drop p.params zs) (omega (arith, enough, e, length-drop p.params zs))

    pub modified : AllByRecursion (λ (m : ℕ). m < length t.globals) p.modifies
    modified =
        let rest = (and_parts (are_locals p) (are_modified t.globals p.modifies && is_body_shaped t.procs p.body) procedure_rest).1 in
        let listed = (and_parts (are_modified t.globals p.modifies) (is_body_shaped t.procs p.body) rest).0 in
        modified_there t.globals p.modifies (and_parts (list_all (λ m. meets (λ v. not v.constant) (slice_get t.globals m)) p.modifies) (all_differ nat_eq p.modifies) listed).0

    pub chosen_are_variables : AllByRecursion (IsVariable t.globals p.locals) (chosen_columns p)
    chosen_are_variables =
        all_append (IsVariable t.globals p.locals) (map columns.Global p.modifies) (results_from p.params p.results)
        (globals_are_variables t.globals p.locals p.modifies modified) (results_are_variables t.globals p.locals p.params p.results enough)

    -- what specifications read
    pub plain_read : AllByRecursion (ConditionIn t p.params) (plain_conditions p.specs)
    plain_read = subst (λ (l : ℕ). AllByRecursion (ConditionIn t l) (plain_conditions p.specs)) params_length (requires_read t p p.specs specified).0

    pub free_read : AllByRecursion (ConditionIn t p.params) (free_conditions p.specs)
    free_read = subst (λ (l : ℕ). AllByRecursion (ConditionIn t l) (free_conditions p.specs)) params_length (requires_read t p p.specs specified).1

    pub ensured_read : AllByRecursion (ConditionIn t (p.params + p.results)) (ensured_conditions p.specs)
    ensured_read =
        subst (λ (l : ℕ). AllByRecursion (ConditionIn t l) (ensured_conditions p.specs)) (length-take-le (p.params + p.results) p.locals enough) (ensures_read t p p.specs specified)

    pub start_read : AllByRecursion (ReadsIn (length t.globals) (length p.locals)) (start_conditions t p)
    start_read =
        all_append (ReadsIn (length t.globals) (length p.locals)) t.axioms (map (λ (i : TypedInvariant). i.cond) (plain_conditions p.specs))
        (axioms_read t (length p.locals) t.axioms
        (and_parts (list_all (is_condition (axiom_scope t.globals)) t.axioms) (list_all (procedure_keeps_rules t.globals t.procs) t.procs) kept_part).0)
        (conditions_of t p.params (length p.locals) (plain_conditions p.specs) (omega (arith, enough)) plain_read)

    -- the body, as the one block that is still to do
    pub body_nested : (b : TypedBlock) → p.body ≡ Some b → IsNested t p b b false []
    body_nested b e =
        let kept : is_body (context_of t.globals t.procs p) b ≡ true =
        subst (λ (o : Option TypedBlock). is_body_if_any (context_of t.globals t.procs p) o ≡ true) e
        (and_parts (list_all (is_specification t.globals p) p.specs) (is_body_if_any (context_of t.globals t.procs p) p.body) procedure_kept).1 in
        record {
          context = within (context_of t.globals t.procs p) b;
          inside =
              record {
                scope = refl;
                procs = refl;
                labels = λ m h. ⊎_elim (λ i. own_in m b i) (λ i. absurd (false≢true i)) (in_either m (own_labels b) [] h);
              };
          kept = kept;
          loops = omega arith;
          own = λ m h. h;
          loop = tt;
        }
