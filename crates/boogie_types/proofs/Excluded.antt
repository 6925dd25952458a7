-- A program that breaks a rule is no typed program.
use Rattle.std.proofs.Common.{◌≡◌, ℕ, zero, suc, ◌+◌, Bool, true, false, cond, ◌&&◌, List, [], ◌∷◌, Option, None, Some, slice_get, bytes_eq, Contains, refl, ap, sym, ◌∙◌, subst, arith}
use Rattle.std.specs.Option.{option_and_then}
use Rattle.std.specs.List.{position_from}
use Rattle.std.proofs.lemmas.Bool.{and_left, and_right}
use Rattle.boogie_tree.specs.Tree.{Expression, Procedure, ProcedureBody, Declaration}
use Rattle.typed_tree.specs.declared.fault.TypeFault.{TypeFault}
use Rattle.typed_tree.specs.declared.fault.TypeFault.TheVariants as fault
use Rattle.typed_tree.specs.TypedTree.{TypedExpression, TypedBlock, TypedProcedure, TypedProgram}
use Rattle.typed_tree.specs.Scope.{axiom_scope}
use Rattle.typed_tree.specs.TypingRules.Rules.{meets, keeps_typing}
use Rattle.typed_tree.specs.TypingRules.Shape.{has_shape}
use Rattle.typed_tree.specs.TypingRules.ValidProgram.{has_body, has_entry, is_typed}
use Rattle.typed_tree.specs.TypingRules.BrokenTyping.{IsProgramBroken}
use Rattle.boogie_types.specs.Naming.{each, from_both, named, named_block}
use Rattle.boogie_types.specs.Sorted.{declared_globals, axioms_of, procedures_of, first_named, body_of}
use Rattle.boogie_types.specs.Resolved.{are_sets, are_implementations, body_place, named_specifications, named_modifies, named_body, procedure_of, named_procedure, program_of, named_program, entry_number, if_typed, resolved_program}
use Rattle.boogie_types.specs.BrokenNames.{IsRuleBroken, second_global, second_procedure, second_variable, second_label, second_implementation, second_body, unknown_implemented, not_repeated, in_axiom, in_procedure, in_typing, HasNoEntry, unknown_entry, no_body, IsTypeFault}
use Rattle.boogie_types.proofs.ShapeLists.{option_map_some, option_and_then_some, both_some, each_at}
use Rattle.boogie_types.proofs.ExcludedLists.{and_then_none, and_then_nothing, both_left_none, both_right_none, if_none, each_none}
use Rattle.boogie_types.proofs.ExcludedNames.{unknown_is_unnamed}
use Rattle.boogie_types.proofs.ExcludedProcedures.{procedure_misnamed_is_unnamed}
use Rattle.boogie_types.proofs.ExcludedSets.{second_global_breaks, second_procedure_breaks, second_variable_breaks, second_label_breaks, second_implementation_breaks, unknown_implemented_breaks, second_body_breaks, not_repeated_breaks}

-- ---- a part that is not named

module _ (ds : List Declaration) where
  abbrev named_axioms : Option (List TypedExpression)
  named_axioms = each (named (axiom_scope (declared_globals ds))) (axioms_of ds)

  abbrev named_procedures : Option (List TypedProcedure)
  named_procedures = each (named_procedure ds) (procedures_of ds)

  pub axiom_unnamed : (e : Expression) → Contains (axioms_of ds) e → named (axiom_scope (declared_globals ds)) e ≡ None → named_program ds ≡ None
  axiom_unnamed e c h = both_left_none (program_of ds) named_axioms named_procedures (each_none (named (axiom_scope (declared_globals ds))) (axioms_of ds) e c h)

  pub procedure_unnamed : (p : Procedure) → Contains (procedures_of ds) p → named_procedure ds p ≡ None → named_program ds ≡ None
  procedure_unnamed p c h = both_right_none (program_of ds) named_axioms named_procedures (each_none (named_procedure ds) (procedures_of ds) p c h)

-- ---- what excludes a typed program

module _ (ds : List Declaration) (entry : List ℕ) where
  abbrev with_entry : TypedProgram → Option TypedProgram
  with_entry t = option_and_then (if_typed t) (entry_number ds entry)

  abbrev are_well_sorted : Bool
  are_well_sorted = are_sets ds && are_implementations ds

  ill_sorted_excludes : are_well_sorted ≡ false → resolved_program ds entry ≡ None
  ill_sorted_excludes h = ap (λ (b : Bool). cond b (option_and_then with_entry (named_program ds)) None) h

  pub no_sets_exclude : are_sets ds ≡ false → resolved_program ds entry ≡ None
  no_sets_exclude h = ill_sorted_excludes (and_left (are_sets ds) (are_implementations ds) h)

  pub no_implementations_exclude : are_implementations ds ≡ false → resolved_program ds entry ≡ None
  no_implementations_exclude h = ill_sorted_excludes (and_right (are_sets ds) (are_implementations ds) h)

  pub unnamed_excludes : named_program ds ≡ None → resolved_program ds entry ≡ None
  unnamed_excludes h = if_none are_well_sorted (option_and_then with_entry (named_program ds)) (and_then_none with_entry (named_program ds) h)

  -- none, where the named program is typed with no entry
  untyped_excludes : ((t : TypedProgram) → named_program ds ≡ Some t → with_entry t ≡ None) → resolved_program ds entry ≡ None
  untyped_excludes h = if_none are_well_sorted (option_and_then with_entry (named_program ds)) (by_program (named_program ds) h)
    where
      by_program : (o : Option TypedProgram) → ((t : TypedProgram) → o ≡ Some t → with_entry t ≡ None) → option_and_then with_entry o ≡ None
      by_program None k = refl
      by_program (Some t) k = k t refl

-- ---- the typing rules

untyped_is_none : (t : TypedProgram) (n : ℕ) → is_typed (record t { entry = n }) ≡ false → if_typed t n ≡ None
untyped_is_none t n h = ap (λ (b : Bool). cond b (Some (record t { entry = n })) None) h

-- the rules do not look at the entry
pub ill_typed_is_none : (t : TypedProgram) (n : ℕ) → keeps_typing t ≡ false → if_typed t n ≡ None
ill_typed_is_none t n h =
    let u : TypedProgram = record t { entry = n } in
    untyped_is_none t n (and_right (has_shape u) (keeps_typing u && has_entry u) (and_left (keeps_typing u) (has_entry u) h))

pub entryless_is_none : (t : TypedProgram) (n : ℕ) → has_entry (record t { entry = n }) ≡ false → if_typed t n ≡ None
entryless_is_none t n h =
    let u : TypedProgram = record t { entry = n } in
    untyped_is_none t n (and_right (has_shape u) (keeps_typing u && has_entry u) (and_right (keeps_typing u) (has_entry u) h))

pub ill_typed_excludes : (ds : List Declaration) (entry : List ℕ) (t : TypedProgram) → named_program ds ≡ Some t → keeps_typing t ≡ false → resolved_program ds entry ≡ None
ill_typed_excludes ds entry t e h =
    let typed : option_and_then (if_typed t) (entry_number ds entry) ≡ None = and_then_nothing (if_typed t) (entry_number ds entry) (λ n. ill_typed_is_none t n h) in
    if_none (are_sets ds && are_implementations ds) (option_and_then (with_entry ds entry) (named_program ds))
    (ap (λ (o : Option TypedProgram). option_and_then (with_entry ds entry) o) e ∙ typed)

-- ---- the entry

-- the first procedure with a name stands at its number
first_at : (name : List ℕ) (i : ℕ) (ps : List Procedure) (n : ℕ) → position_from (λ p. bytes_eq name p.name.text) i ps ≡ Some n →
    (k : ℕ) × (n ≡ i + k) × (slice_get ps k ≡ first_named name ps)
first_at name i [] n e = cc
first_at name i (p ∷ ps) n e = by_head (bytes_eq name p.name.text) e (λ f. first_at name (i + 1) ps n f)
  where
    by_head : (b : Bool) → cond b (Some i) (position_from (λ q. bytes_eq name q.name.text) (i + 1) ps) ≡ Some n →
        (position_from (λ q. bytes_eq name q.name.text) (i + 1) ps ≡ Some n → (k : ℕ) × (n ≡ (i + 1) + k) × (slice_get ps k ≡ first_named name ps)) →
        (k : ℕ) × (n ≡ i + k) × (slice_get (p ∷ ps) k ≡ cond b (Some p) (first_named name ps))
    by_head true e rest = let m : i ≡ n = cc in (zero, omega (arith, m), refl)
    by_head false e rest = let r = rest e in (suc r.0, omega (arith, r.1), r.2)

pub entry_is_first : (ds : List Declaration) (entry : List ℕ) (n : ℕ) → entry_number ds entry ≡ Some n → slice_get (procedures_of ds) n ≡ first_named entry (procedures_of ds)
entry_is_first ds entry n e =
    let r = first_at entry 0 (procedures_of ds) n e in
    let m : n ≡ r.0 = omega (arith, r.1) in
    ap (slice_get (procedures_of ds)) m ∙ r.2

-- whether there is one
abbrev is_there : {X : Type 0} → Option X → Bool
is_there o = meets (λ x. true) o

body_kept : (ds : List Declaration) (p : Procedure) (b : Option ProcedureBody) (body : Option TypedBlock) → named_body ds p b ≡ Some body → is_there body ≡ is_there b
body_kept ds p None body e = let f : body ≡ None = cc in ap (λ (o : Option TypedBlock). is_there o) f
body_kept ds p (Some b) body e =
    let a = option_map_some (λ (c : TypedBlock). Some c) (named_block (body_place ds p b) None 0 b.stmts) body e in
    ap (λ (o : Option TypedBlock). is_there o) (sym a.2)

-- a named procedure has a body where the procedure has one
pub has_body_kept : (ds : List Declaration) (p : Procedure) (q : TypedProcedure) → named_procedure ds p ≡ Some q → has_body q ≡ is_there (body_of ds p)
has_body_kept ds p q e =
    let a = option_and_then_some (λ modifies. from_both (procedure_of ds p modifies) (named_specifications ds p p.specs) (named_body ds p (body_of ds p))) (named_modifies ds p) q e in
    let b = both_some (procedure_of ds p a.0) (named_specifications ds p p.specs) (named_body ds p (body_of ds p)) q a.2 in
    subst (λ (r : TypedProcedure). has_body r ≡ is_there (body_of ds p)) b.4 (body_kept ds p (body_of ds p) b.1 b.3)

-- the entry of a named program has a body where the procedure of that number has one
pub has_entry_kept : (ds : List Declaration) (t : TypedProgram) (n : ℕ) → named_program ds ≡ Some t →
    has_entry (record t { entry = n }) ≡ meets (λ p. is_there (body_of ds p)) (slice_get (procedures_of ds) n)
has_entry_kept ds t n e =
    let a = both_some (program_of ds) (named_axioms ds) (named_procedures ds) t e in
    let same : meets has_body (slice_get a.1 n) ≡ meets (λ p. is_there (body_of ds p)) (slice_get (procedures_of ds) n) =
    each_at (named_procedure ds) (λ (o : Option Procedure). meets (λ p. is_there (body_of ds p)) o) (λ (o : Option TypedProcedure). meets has_body o) refl (has_body_kept ds)
    (procedures_of ds) a.1 a.3 n in
    subst (λ (u : TypedProgram). meets has_body (slice_get u.procs n) ≡ meets (λ p. is_there (body_of ds p)) (slice_get (procedures_of ds) n)) a.4 same

bodiless_entry : (ds : List Declaration) (entry : List ℕ) (p : Procedure) → first_named entry (procedures_of ds) ≡ Some p → body_of ds p ≡ None →
    (t : TypedProgram) → named_program ds ≡ Some t → (o : Option ℕ) → entry_number ds entry ≡ o → option_and_then (if_typed t) o ≡ None
bodiless_entry ds entry p f h t e None k = refl
bodiless_entry ds entry p f h t e (Some n) k =
    entryless_is_none t n
    (has_entry_kept ds t n e
    ∙ ap (λ (o : Option Procedure). meets (λ q. is_there (body_of ds q)) o) (entry_is_first ds entry n k ∙ f) ∙ ap (λ (o : Option ProcedureBody). is_there o) h)

-- a program whose entry is no procedure with a body
pub no_entry_excludes : (ds : List Declaration) (entry : List ℕ) → HasNoEntry ds entry → resolved_program ds entry ≡ None
no_entry_excludes ds entry (unknown_entry e) = untyped_excludes ds entry (λ t d. and_then_none (if_typed t) (entry_number ds entry) e)
no_entry_excludes ds entry (no_body p f h) = untyped_excludes ds entry (λ t e. bodiless_entry ds entry p f h t e (entry_number ds entry) refl)

-- ---- the theorem

-- A broken rule leaves no typed program.
pub broken_rules_exclude : (ds : List Declaration) (entry : List ℕ) (f : TypeFault) → ((t : TypedProgram) (g : TypeFault) → IsProgramBroken t g → keeps_typing t ≡ false) →
    IsRuleBroken ds f → resolved_program ds entry ≡ None
broken_rules_exclude ds entry f law (second_global x h) = no_sets_exclude ds entry (second_global_breaks ds x h)
broken_rules_exclude ds entry f law (second_procedure x h) = no_sets_exclude ds entry (second_procedure_breaks ds x h)
broken_rules_exclude ds entry f law (second_variable p x c h) = no_sets_exclude ds entry (second_variable_breaks ds p x c h)
broken_rules_exclude ds entry f law (second_label p x c h) = no_sets_exclude ds entry (second_label_breaks ds p x c h)
broken_rules_exclude ds entry f law (second_implementation x h) = no_implementations_exclude ds entry (second_implementation_breaks ds x h)
broken_rules_exclude ds entry f law (second_body i p c e h) = no_implementations_exclude ds entry (second_body_breaks ds i p c e h)
broken_rules_exclude ds entry f law (unknown_implemented i c h) = no_implementations_exclude ds entry (unknown_implemented_breaks ds i c h)
broken_rules_exclude ds entry f law (not_repeated i p c e h) = no_implementations_exclude ds entry (not_repeated_breaks ds i p c e h)
broken_rules_exclude ds entry f law (in_axiom e g c h) =
    unnamed_excludes ds entry (axiom_unnamed ds e c (unknown_is_unnamed (axiom_scope (declared_globals ds)) e g h))
broken_rules_exclude ds entry f law (in_procedure p g c h) = unnamed_excludes ds entry (procedure_unnamed ds p c (procedure_misnamed_is_unnamed ds p g h))
broken_rules_exclude ds entry f law (in_typing t g e h) = ill_typed_excludes ds entry t e (law t g h)

-- A right fault leaves no typed program, unless it is want of memory.
pub type_faults_exclude : (ds : List Declaration) (entry : List ℕ) (f : TypeFault) → ((t : TypedProgram) (g : TypeFault) → IsProgramBroken t g → keeps_typing t ≡ false) →
    (f ≡ fault.Memory → ⊥) → IsTypeFault ds entry f → resolved_program ds entry ≡ None
type_faults_exclude ds entry fault.NoEntry law other h = no_entry_excludes ds entry h.1
type_faults_exclude ds entry fault.Memory law other h = absurd (other refl)
type_faults_exclude ds entry (fault.Unknown at) law other h = broken_rules_exclude ds entry (fault.Unknown at) law h
type_faults_exclude ds entry (fault.Twice at) law other h = broken_rules_exclude ds entry (fault.Twice at) law h
type_faults_exclude ds entry (fault.Mismatch at) law other h = broken_rules_exclude ds entry (fault.Mismatch at) law h
type_faults_exclude ds entry (fault.NotAssignable at) law other h = broken_rules_exclude ds entry (fault.NotAssignable at) law h
type_faults_exclude ds entry (fault.NotModified at) law other h = broken_rules_exclude ds entry (fault.NotModified at) law h
type_faults_exclude ds entry (fault.ZeroDivisor at) law other h = broken_rules_exclude ds entry (fault.ZeroDivisor at) law h
type_faults_exclude ds entry (fault.NonLinear at) law other h = broken_rules_exclude ds entry (fault.NonLinear at) law h
type_faults_exclude ds entry (fault.BadGoto at) law other h = broken_rules_exclude ds entry (fault.BadGoto at) law h
type_faults_exclude ds entry (fault.TooBig at) law other h = broken_rules_exclude ds entry (fault.TooBig at) law h
