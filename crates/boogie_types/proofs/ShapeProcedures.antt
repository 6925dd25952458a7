-- A procedure with its names replaced has the shape that a procedure of a typed program has.
use Rattle.std.proofs.Common.{◌≡◌, ℕ, ◌+◌, ◌≤◌, true, false, not, ◌&&◌, nat_le, List, [], ◌∷◌, ◌++◌, map, take, drop, length, Option, None, Some, bytes_eq, refl, ap, ap₂, sym, ◌∙◌, subst, arith, append_assoc, length-append}
use Rattle.std.specs.List.{list_all}
use Rattle.std.proofs.Math.Seq.{take-append_seam, drop-append_seam}
use Rattle.std.proofs.lemmas.Bool.{and_parts, and_from, le-leb}
use Rattle.std.proofs.lemmas.List.{map-append, length-map}
use Rattle.boogie_tree.specs.declared.tree.Vary.{Vary}
use Rattle.boogie_tree.specs.declared.tree.VarInfo.{VarInfo}
use Rattle.boogie_tree.specs.Tree.{Declaration, Procedure, ProcedureBody}
use Rattle.typed_tree.specs.TypedTree.{TypedBlock, TypedSpecification, TypedProcedure}
use Rattle.boogie_tree.specs.Names.{is_name, is_spelled}
use Rattle.typed_tree.specs.TypingRules.Rules.{all_differ, params_of}
use Rattle.typed_tree.specs.TypingRules.Shape as shape
use Rattle.typed_tree.specs.TypingRules.Shape.{is_shaped_block, block_labels, counts_from, is_body_shaped, are_names, are_locals, are_modified, is_procedure_shaped}
use Rattle.boogie_types.specs.Meanings.{variable_info}
use Rattle.boogie_types.specs.Naming.{each, from_both, params_if_any, named_block}
use Rattle.boogie_types.specs.Sorted as sorted
use Rattle.boogie_types.specs.Sorted.{declared_globals, procedures_of, implementations_of, body_of, body_locals, declared_locals, variable_names, hidden_locals, labels_if_any}
use Rattle.boogie_types.specs.Ties.Numbers.{text_of}
use Rattle.boogie_types.specs.Resolved.{is_set, has_sets, body_place, named_specifications, named_modifies, named_body, hidden_count, procedure_of, named_procedure}
use Rattle.boogie_types.proofs.ShapeLists.{option_map_some, option_and_then_some, both_some, each_at, all_append, all_differ_append}
use Rattle.boogie_types.proofs.ShapeNames.{is_proper, is_well_named, texts_proper, texts_differ, spelled_names, local_texts, declared_proper}
use Rattle.boogie_types.proofs.ShapeHidden.{names_apart, hidden_differ, all_hidden_spelled, hidden_vary}
use Rattle.boogie_types.proofs.ShapeStatements.{AreCallees, block_fine}
use Rattle.boogie_types.proofs.ShapeLabels.{numbers_count}
use Rattle.boogie_types.proofs.ShapeModifies.{modifies_shaped}

-- ---- the names of the locals

-- proper names that differ, and those of hidden locals behind them
names_with_hidden : (ns : List (List ℕ)) (k : ℕ) → list_all is_name ns ≡ true → all_differ bytes_eq ns ≡ true → are_names (ns ++ map (λ v. v.name) (hidden_locals 1 k)) ≡ true
names_with_hidden ns k h d =
    let hidden : List (List ℕ) = map (λ v. v.name) (hidden_locals 1 k) in
    and_from (list_all is_spelled (ns ++ hidden)) (all_differ bytes_eq (ns ++ hidden))
    (all_append is_spelled ns hidden (spelled_names ns h) (all_hidden_spelled 1 k (omega arith)))
    (all_differ_append bytes_eq is_name ns hidden (λ x e. names_apart x 1 k e) h d (hidden_differ 1 k))

local_names : (p : Procedure) (b : Option ProcedureBody) (k : ℕ) → list_all is_proper (variable_names p b) ≡ true → is_set (variable_names p b) ≡ true →
    are_names (map (λ v. v.name) (declared_locals p b ++ hidden_locals 1 k)) ≡ true
local_names p b k h d =
    let name : VarInfo → List ℕ = λ v. v.name in
    let e : map name (declared_locals p b ++ hidden_locals 1 k) ≡ map text_of (variable_names p b) ++ map name (hidden_locals 1 k) =
    map-append name (declared_locals p b) (hidden_locals 1 k) ∙ ap (λ (ns : List (List ℕ)). ns ++ map name (hidden_locals 1 k)) (local_texts p b) in
    ap are_names e ∙ names_with_hidden (map text_of (variable_names p b)) k (texts_proper (variable_names p b) h) (texts_differ (variable_names p b) d)

-- ---- the parameters are constant, and no other local is

constants : (vs : List Vary) → list_all (λ v. v.constant) (map (variable_info true) vs) ≡ true
constants [] = refl
constants (v ∷ vs) = constants vs

no_constants : (vs : List Vary) → list_all (λ v. not v.constant) (map (variable_info false) vs) ≡ true
no_constants [] = refl
no_constants (v ∷ vs) = no_constants vs

take_front : {X : Type 0} (n : ℕ) (xs ys zs : List X) → length xs ≡ n → take n ((xs ++ ys) ++ zs) ≡ xs
take_front {X} n xs ys zs e =
    ap₂ (λ (k : ℕ) (l : List X). take k l) (sym e) (append_assoc xs ys zs) ∙ take-append_seam xs (ys ++ zs)

drop_front : {X : Type 0} (n : ℕ) (xs ys zs : List X) → length xs ≡ n → drop n ((xs ++ ys) ++ zs) ≡ ys ++ zs
drop_front {X} n xs ys zs e =
    ap₂ (λ (k : ℕ) (l : List X). drop k l) (sym e) (append_assoc xs ys zs) ∙ drop-append_seam xs (ys ++ zs)

params_kept : (p : Procedure) (b : Option ProcedureBody) (hs : List VarInfo) → take (length p.params) (declared_locals p b ++ hs) ≡ map (variable_info true) p.params
params_kept p b hs =
    take_front (length p.params) (map (variable_info true) p.params) (map (variable_info false) p.results ++ map (variable_info false) (body_locals b)) hs (length-map p.params (variable_info true))

others_kept : (p : Procedure) (b : Option ProcedureBody) (hs : List VarInfo) →
    drop (length p.params) (declared_locals p b ++ hs) ≡ (map (variable_info false) p.results ++ map (variable_info false) (body_locals b)) ++ hs
others_kept p b hs =
    drop_front (length p.params) (map (variable_info true) p.params) (map (variable_info false) p.results ++ map (variable_info false) (body_locals b)) hs (length-map p.params (variable_info true))

enough_locals : (p : Procedure) (b : Option ProcedureBody) (hs : List VarInfo) → length p.params + length p.results ≤ length (declared_locals p b ++ hs)
enough_locals p b hs =
    let ps = map (variable_info true) p.params in
    let rs = map (variable_info false) p.results in
    let ls = map (variable_info false) (body_locals b) in
    let e1 : length ps ≡ length p.params = length-map p.params (variable_info true) in
    let e2 : length rs ≡ length p.results = length-map p.results (variable_info false) in
    let e3 : length (declared_locals p b ++ hs) ≡ length (declared_locals p b) + length hs = length-append (declared_locals p b) hs in
    let e4 : length (declared_locals p b) ≡ length ps + length (rs ++ ls) = length-append ps (rs ++ ls) in
    let e5 : length (rs ++ ls) ≡ length rs + length ls = length-append rs ls in
    omega arith

locals_shaped : (ds : List Declaration) (p : Procedure) (modifies : List ℕ) (specs : List TypedSpecification) (body : Option TypedBlock) →
    are_locals (procedure_of ds p modifies specs body) ≡ true
locals_shaped ds p modifies specs body =
    let b = body_of ds p in
    let hs = hidden_locals 1 (hidden_count ds p (body_of ds p)) in
    let rs = map (variable_info false) p.results in
    let ls = map (variable_info false) (body_locals b) in
    let params : list_all (λ v. v.constant) (take (length p.params) (declared_locals p b ++ hs)) ≡ true =
    ap (λ (vs : List VarInfo). list_all (λ v. v.constant) vs) (params_kept p b hs) ∙ constants p.params in
    let rest : list_all (λ v. not v.constant) (drop (length p.params) (declared_locals p b ++ hs)) ≡ true =
    ap (λ (vs : List VarInfo). list_all (λ v. not v.constant) vs) (others_kept p b hs)
    ∙ all_append (λ v. not v.constant) (rs ++ ls) hs
    (all_append (λ v. not v.constant) rs ls (no_constants p.results) (no_constants (body_locals b))) (hidden_vary 1 (hidden_count ds p (body_of ds p))) in
    and_from (nat_le (length p.params + length p.results) (length (declared_locals p b ++ hs)))
    (list_all (λ v. v.constant) (take (length p.params) (declared_locals p b ++ hs)) && list_all (λ v. not v.constant) (drop (length p.params) (declared_locals p b ++ hs)))
    (le-leb (length p.params + length p.results) (length (declared_locals p b ++ hs)) (enough_locals p b hs))
    (and_from (list_all (λ v. v.constant) (take (length p.params) (declared_locals p b ++ hs))) (list_all (λ v. not v.constant) (drop (length p.params) (declared_locals p b ++ hs))) params rest)

-- ---- the body

body_shaped : (ds : List Declaration) (p : Procedure) (procs : List TypedProcedure) → AreCallees procs (procedures_of ds) → (b : Option ProcedureBody) (body : Option TypedBlock) →
    is_set (labels_if_any b) ≡ true → named_body ds p b ≡ Some body → is_body_shaped procs body ≡ true
body_shaped ds p procs callees None body d e = let f : body ≡ None = cc in rw f refl
body_shaped ds p procs callees (Some b) body d e =
    let a = option_map_some (λ (c : TypedBlock). Some c) (named_block (body_place ds p b) None 0 b.stmts) body e in
    let f = block_fine procs (body_place ds p b) callees None 0 b.stmts a.0 a.1 in
    subst (λ (o : Option TypedBlock). is_body_shaped procs o ≡ true) a.2
    (and_from (counts_from 0 (block_labels a.0)) (is_shaped_block procs a.0) (numbers_count 0 (sorted.block_labels b.stmts) (block_labels a.0) d f.labels) f.shaped)

-- ---- the procedure

-- the parts that a procedure is made from
record Parts (ds : List Declaration) (p : Procedure) (q : TypedProcedure) : Type 0 where
  modifies : List ℕ
  specs : List TypedSpecification
  body : Option TypedBlock
  modified : named_modifies ds p ≡ Some modifies
  bodied : named_body ds p (body_of ds p) ≡ Some body
  made : procedure_of ds p modifies specs body ≡ q

parts : (ds : List Declaration) (p : Procedure) (q : TypedProcedure) → named_procedure ds p ≡ Some q → Parts ds p q
parts ds p q e =
    let a = option_and_then_some (λ modifies. from_both (procedure_of ds p modifies) (named_specifications ds p p.specs) (named_body ds p (body_of ds p))) (named_modifies ds p) q e in
    let b = both_some (procedure_of ds p a.0) (named_specifications ds p p.specs) (named_body ds p (body_of ds p)) q a.2 in
    record { modifies = a.0; specs = b.0; body = b.1; modified = a.1; bodied = b.3; made = b.4 }

pub name_kept : (ds : List Declaration) (p : Procedure) (q : TypedProcedure) → named_procedure ds p ≡ Some q → q.name ≡ p.name.text
name_kept ds p q e = let a = parts ds p q e in subst (λ (r : TypedProcedure). r.name ≡ p.name.text) a.made refl

params_of_named : (ds : List Declaration) (p : Procedure) (q : TypedProcedure) → named_procedure ds p ≡ Some q → params_of q ≡ map (variable_info true) p.params
params_of_named ds p q e =
    let a = parts ds p q e in
    subst (λ (r : TypedProcedure). params_of r ≡ map (variable_info true) p.params) a.made
    (params_kept p (body_of ds p) (hidden_locals 1 (hidden_count ds p (body_of ds p))))

pub callees_named : (ds : List Declaration) (procs : List TypedProcedure) → each (named_procedure ds) (procedures_of ds) ≡ Some procs → AreCallees procs (procedures_of ds)
callees_named ds procs e =
    each_at (named_procedure ds) (λ (o : Option Procedure). map (variable_info true) (params_if_any o)) shape.params_if_any refl (params_of_named ds) (procedures_of ds) procs e

pub procedure_shaped : (ds : List Declaration) (procs : List TypedProcedure) → AreCallees procs (procedures_of ds) → list_all is_well_named (implementations_of ds) ≡ true →
    (p : Procedure) (q : TypedProcedure) → (is_well_named p && has_sets p (body_of ds p)) ≡ true → named_procedure ds p ≡ Some q → is_procedure_shaped (declared_globals ds) procs q ≡ true
procedure_shaped ds procs callees named p q h e =
    let a = parts ds p q e in
    let w = and_parts (is_well_named p) (has_sets p (body_of ds p)) h in
    let d = and_parts (is_set (variable_names p (body_of ds p))) (is_set (labels_if_any (body_of ds p))) w.1 in
    let r = procedure_of ds p a.modifies a.specs a.body in
    let names : are_names (map (λ v. v.name) r.locals) ≡ true = local_names p (body_of ds p) (hidden_count ds p (body_of ds p)) (declared_proper ds p named w.0) d.0 in
    let locals : are_locals r ≡ true = locals_shaped ds p a.modifies a.specs a.body in
    let modified : are_modified (declared_globals ds) a.modifies ≡ true = modifies_shaped ds p a.modifies a.modified in
    let body : is_body_shaped procs a.body ≡ true = body_shaped ds p procs callees (body_of ds p) a.body d.1 a.bodied in
    subst (λ (s : TypedProcedure). is_procedure_shaped (declared_globals ds) procs s ≡ true) a.made
    (and_from (are_names (map (λ v. v.name) r.locals)) (are_locals r && (are_modified (declared_globals ds) a.modifies && is_body_shaped procs a.body)) names
    (and_from (are_locals r) (are_modified (declared_globals ds) a.modifies && is_body_shaped procs a.body) locals
    (and_from (are_modified (declared_globals ds) a.modifies) (is_body_shaped procs a.body) modified body)))
