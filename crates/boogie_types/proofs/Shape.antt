-- A program with its names replaced has the shape of a typed program.
use Rattle.std.proofs.Common.{◌≡◌, true, ◌&&◌, List, map, Some, ap, sym, ◌∙◌, subst}
use Rattle.std.specs.List.{list_all}
use Rattle.std.proofs.lemmas.Bool.{and_parts, and_from}
use Rattle.std.proofs.lemmas.List.Folds.{list_all-map}
use Rattle.boogie_tree.specs.Names.{is_name}
use Rattle.boogie_tree.specs.Tree.{Declaration, Procedure}
use Rattle.typed_tree.specs.TypedTree.{TypedProcedure, TypedProgram}
use Rattle.typed_tree.specs.Scope.{axiom_scope}
use Rattle.typed_tree.specs.TypingRules.Shape.{are_names, is_procedure_shaped, has_shape}
use Rattle.boogie_types.specs.Naming.{each, named}
use Rattle.boogie_types.specs.Ties.Numbers.{text_of}
use Rattle.boogie_types.specs.Sorted.{declared_globals, global_names, axioms_of, procedures_of, body_of}
use Rattle.boogie_types.specs.Resolved.{is_set, has_sets, are_sets, are_named, named_procedure, program_of, named_program}
use Rattle.boogie_types.proofs.ShapeLists.{both_some, each_all, each_map, all_both, map-map}
use Rattle.boogie_types.proofs.ShapeNames.{is_well_named, WellNamed, named_parts, texts_proper, are_names_from_set, global_texts, procedures_proper}
use Rattle.boogie_types.proofs.ShapeProcedures.{name_kept, callees_named, procedure_shaped}

-- the names of the procedures
procedure_texts : (ds : List Declaration) (procs : List TypedProcedure) → each (named_procedure ds) (procedures_of ds) ≡ Some procs →
    map (λ q. q.name) procs ≡ map text_of (map (λ p. p.name) (procedures_of ds))
procedure_texts ds procs e =
    each_map (named_procedure ds) (λ (p : Procedure). p.name.text) (λ (q : TypedProcedure). q.name) (name_kept ds) (procedures_of ds) procs e
    ∙ sym (map-map text_of (λ (p : Procedure). p.name) (procedures_of ds))

pub named_has_shape : (ds : List Declaration) (t : TypedProgram) → are_named ds ≡ true → are_sets ds ≡ true → named_program ds ≡ Some t → has_shape t ≡ true
named_has_shape ds t hn hs e =
    let a = both_some (program_of ds) (each (named (axiom_scope (declared_globals ds))) (axioms_of ds)) (each (named_procedure ds) (procedures_of ds)) t e in
    let w : WellNamed ds = named_parts ds hn in
    let d = and_parts (is_set (global_names ds)) (is_set (map (λ p. p.name) (procedures_of ds)) && list_all (λ p. has_sets p (body_of ds p)) (procedures_of ds)) hs in
    let c = and_parts (is_set (map (λ p. p.name) (procedures_of ds))) (list_all (λ p. has_sets p (body_of ds p)) (procedures_of ds)) d.1 in
    let globals : are_names (map (λ v. v.name) (declared_globals ds)) ≡ true = ap are_names (global_texts ds) ∙ are_names_from_set (global_names ds) w.globals d.0 in
    let names : are_names (map (λ q. q.name) a.1) ≡ true =
    ap are_names (procedure_texts ds a.1 a.3) ∙ are_names_from_set (map (λ p. p.name) (procedures_of ds)) (procedures_proper (procedures_of ds) w.procedures) c.0 in
    let procs : list_all (is_procedure_shaped (declared_globals ds) a.1) a.1 ≡ true =
    each_all (named_procedure ds) (λ p. is_well_named p && has_sets p (body_of ds p)) (is_procedure_shaped (declared_globals ds) a.1)
    (procedure_shaped ds a.1 (callees_named ds a.1 a.3) w.implementations) (procedures_of ds) a.1
    (all_both is_well_named (λ p. has_sets p (body_of ds p)) (procedures_of ds) w.procedures c.1) a.3 in
    subst (λ (u : TypedProgram). has_shape u ≡ true) a.4
    (and_from (are_names (map (λ v. v.name) (declared_globals ds))) (are_names (map (λ q. q.name) a.1) && list_all (is_procedure_shaped (declared_globals ds) a.1) a.1) globals
    (and_from (are_names (map (λ q. q.name) a.1)) (list_all (is_procedure_shaped (declared_globals ds) a.1) a.1) names procs))

-- the names of its procedures are names, since they are copied from the declarations
pub named_are_names : (ds : List Declaration) (t : TypedProgram) → are_named ds ≡ true → named_program ds ≡ Some t → list_all (λ p. is_name p.name) t.procs ≡ true
named_are_names ds t hn e =
    let a = both_some (program_of ds) (each (named (axiom_scope (declared_globals ds))) (axioms_of ds)) (each (named_procedure ds) (procedures_of ds)) t e in
    let w : WellNamed ds = named_parts ds hn in
    let names : list_all is_name (map (λ q. q.name) a.1) ≡ true =
    ap (list_all is_name) (procedure_texts ds a.1 a.3) ∙ texts_proper (map (λ p. p.name) (procedures_of ds)) (procedures_proper (procedures_of ds) w.procedures) in
    subst (λ (u : TypedProgram). list_all (λ p. is_name p.name) u.procs ≡ true) a.4 (sym (list_all-map is_name (λ (q : TypedProcedure). q.name) a.1) ∙ names)
