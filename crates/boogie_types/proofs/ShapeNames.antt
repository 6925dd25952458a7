-- The names of a program's constants, globals and procedures, and of the declared variables of a procedure: spelled as names, and different.
use Rattle.std.proofs.Common.{◌≡◌, ℕ, Bool, true, false, ◌&&◌, List, [], ◌∷◌, ◌++◌, map, Option, None, Some, option_and_then, bytes_eq, refl, ap, ap₂, sym, ◌∙◌, subst}
use Rattle.std.specs.List.{list_all}
use Rattle.std.specs.Option.{option_or}
use Rattle.std.proofs.lemmas.Bool.{and_parts, and_from, or_left, cond_both}
use Rattle.std.proofs.lemmas.List.{map-append}
use Rattle.std.proofs.lemmas.List.Folds.{list_all-map}
use Rattle.boogie_tree.specs.declared.tree.Name.{Name}
use Rattle.boogie_tree.specs.declared.tree.Vary.{Vary}
use Rattle.boogie_tree.specs.declared.tree.VarInfo.{VarInfo}
use Rattle.boogie_tree.specs.Tree.{Procedure, ProcedureBody, Declaration, Const, Global, Axiom, Declares, Implements}
use Rattle.boogie_tree.specs.Names.{is_name, is_made, is_spelled}
use Rattle.typed_tree.specs.TypingRules.Rules.{all_differ}
use Rattle.typed_tree.specs.TypingRules.Shape.{are_names}
use Rattle.boogie_types.specs.Meanings.{variable_info}
use Rattle.boogie_types.specs.Sorted.{declared_globals, global_names, procedures_of, implementations_of, first_named, body_of, body_locals, declared_locals, variable_names, procedure_names}
use Rattle.boogie_types.specs.Resolved.{is_set, are_named}
use Rattle.boogie_types.specs.Ties.Numbers.{text_of}
use Rattle.boogie_types.proofs.ShapeLists.{all_weaker, all_append_parts, all_append, all_differ-map}

-- a name that is spelled as a name
abbrev pub is_proper : Name → Bool
is_proper x = is_name x.text

pub texts_proper : (xs : List Name) → list_all is_proper xs ≡ true → list_all is_name (map text_of xs) ≡ true
texts_proper xs h = list_all-map is_name text_of xs ∙ h

pub texts_differ : (xs : List Name) → is_set xs ≡ true → all_differ bytes_eq (map text_of xs) ≡ true
texts_differ xs h = all_differ-map bytes_eq text_of xs ∙ h

pub spelled_names : (ns : List (List ℕ)) → list_all is_name ns ≡ true → list_all is_spelled ns ≡ true
spelled_names ns h = all_weaker is_name is_spelled (λ n e. or_left (is_name n) (is_made n) e) ns h

-- names that are spelled so, and a set
pub are_names_from_set : (xs : List Name) → list_all is_proper xs ≡ true → is_set xs ≡ true → are_names (map text_of xs) ≡ true
are_names_from_set xs h d =
    and_from (list_all is_spelled (map text_of xs)) (all_differ bytes_eq (map text_of xs)) (spelled_names (map text_of xs) (texts_proper xs h)) (texts_differ xs d)

-- ---- the constants and globals

pub global_texts : (ds : List Declaration) → map (λ v. v.name) (declared_globals ds) ≡ map text_of (global_names ds)
global_texts [] = refl
global_texts (Const x ∷ ds) = ap (λ (ns : List (List ℕ)). x.name.text ∷ ns) (global_texts ds)
global_texts (Global x ∷ ds) = ap (λ (ns : List (List ℕ)). x.name.text ∷ ns) (global_texts ds)
global_texts (Axiom at e ∷ ds) = global_texts ds
global_texts (Declares p ∷ ds) = global_texts ds
global_texts (Implements p ∷ ds) = global_texts ds

-- ---- what are_named says of the parts

-- the name of a procedure, and those that it declares
abbrev pub is_well_named : Procedure → Bool
is_well_named p = is_proper p.name && list_all is_proper (variable_names p p.body)

well_named : (ps : List Procedure) → list_all is_proper (procedure_names ps) ≡ true → list_all is_well_named ps ≡ true
well_named [] h = refl
well_named (p ∷ ps) h =
    let a = and_parts (is_proper p.name) (list_all is_proper (variable_names p p.body ++ procedure_names ps)) h in
    let b = all_append_parts is_proper (variable_names p p.body) (procedure_names ps) a.1 in
    and_from (is_well_named p) (list_all is_well_named ps) (and_from (is_proper p.name) (list_all is_proper (variable_names p p.body)) a.0 b.0) (well_named ps b.1)

-- the constants and globals, the procedures, and the implementations are well named
pub record WellNamed (ds : List Declaration) : Type 0 where
  pub globals : list_all is_proper (global_names ds) ≡ true
  pub procedures : list_all is_well_named (procedures_of ds) ≡ true
  pub implementations : list_all is_well_named (implementations_of ds) ≡ true

pub named_parts : (ds : List Declaration) → are_named ds ≡ true → WellNamed ds
named_parts ds h =
    let a = all_append_parts is_proper (global_names ds) (procedure_names (procedures_of ds) ++ procedure_names (implementations_of ds)) h in
    let b = all_append_parts is_proper (procedure_names (procedures_of ds)) (procedure_names (implementations_of ds)) a.1 in
    record { globals = a.0; procedures = well_named (procedures_of ds) b.0; implementations = well_named (implementations_of ds) b.1 }

pub procedures_proper : (ps : List Procedure) → list_all is_well_named ps ≡ true → list_all is_proper (map (λ p. p.name) ps) ≡ true
procedures_proper ps h =
    list_all-map is_proper (λ (p : Procedure). p.name) ps
    ∙ all_weaker is_well_named (λ p. is_proper p.name) (λ p e. (and_parts (is_proper p.name) (list_all is_proper (variable_names p p.body)) e).0) ps h

-- ---- the declared variables of a procedure

variable_texts : (constant : Bool) (vs : List Vary) → map (λ v. v.name) (map (variable_info constant) vs) ≡ map text_of (map (λ v. v.name) vs)
variable_texts constant [] = refl
variable_texts constant (v ∷ vs) = ap (λ (ns : List (List ℕ)). v.name.text ∷ ns) (variable_texts constant vs)

-- the texts of two lists joined
texts_append : (vs : List VarInfo) (ws : List VarInfo) (xs : List Vary) (ys : List Vary) → map (λ v. v.name) vs ≡ map text_of (map (λ v. v.name) xs) →
    map (λ v. v.name) ws ≡ map text_of (map (λ v. v.name) ys) → map (λ v. v.name) (vs ++ ws) ≡ map text_of (map (λ v. v.name) (xs ++ ys))
texts_append vs ws xs ys e f =
    let name : VarInfo → List ℕ = λ v. v.name in
    let named : Vary → Name = λ v. v.name in
    let a : map name (vs ++ ws) ≡ map text_of (map named xs) ++ map text_of (map named ys) = map-append name vs ws ∙ ap₂ (λ (l r : List (List ℕ)). l ++ r) e f in
    let b : map text_of (map named (xs ++ ys)) ≡ map text_of (map named xs) ++ map text_of (map named ys) =
    ap (λ (l : List Name). map text_of l) (map-append named xs ys) ∙ map-append text_of (map named xs) (map named ys) in
    a ∙ sym b

pub local_texts : (p : Procedure) (b : Option ProcedureBody) → map (λ v. v.name) (declared_locals p b) ≡ map text_of (variable_names p b)
local_texts p b =
    texts_append (map (variable_info true) p.params) (map (variable_info false) p.results ++ map (variable_info false) (body_locals b)) p.params (p.results ++ body_locals b)
    (variable_texts true p.params)
    (texts_append (map (variable_info false) p.results) (map (variable_info false) (body_locals b)) p.results (body_locals b)
    (variable_texts false p.results) (variable_texts false (body_locals b)))

-- the body that a procedure has, or its implementation, declares proper names
body_proper : (p : Procedure) (b : Option ProcedureBody) → list_all is_proper (variable_names p b) ≡ true →
    (list_all is_proper (map (λ v. v.name) p.params) ≡ true) × (list_all is_proper (map (λ v. v.name) p.results) ≡ true) × (list_all is_proper (map (λ v. v.name) (body_locals b)) ≡ true)
body_proper p b h =
    let named : Vary → Name = λ v. v.name in
    let e : list_all is_proper (map named p.params ++ map named (p.results ++ body_locals b)) ≡ true =
    subst (λ (l : List Name). list_all is_proper l ≡ true) (map-append named p.params (p.results ++ body_locals b)) h in
    let a = all_append_parts is_proper (map named p.params) (map named (p.results ++ body_locals b)) e in
    let f : list_all is_proper (map named p.results ++ map named (body_locals b)) ≡ true =
    subst (λ (l : List Name). list_all is_proper l ≡ true) (map-append named p.results (body_locals b)) a.1 in
    let c = all_append_parts is_proper (map named p.results) (map named (body_locals b)) f in
    (a.0, c.0, c.1)

variables_proper : (p : Procedure) (b : Option ProcedureBody) → list_all is_proper (map (λ v. v.name) p.params) ≡ true →
    list_all is_proper (map (λ v. v.name) p.results) ≡ true → list_all is_proper (map (λ v. v.name) (body_locals b)) ≡ true → list_all is_proper (variable_names p b) ≡ true
variables_proper p b hp hr hl =
    let named : Vary → Name = λ v. v.name in
    let f : list_all is_proper (map named (p.results ++ body_locals b)) ≡ true =
    subst (λ (l : List Name). list_all is_proper l ≡ true) (sym (map-append named p.results (body_locals b)))
    (all_append is_proper (map named p.results) (map named (body_locals b)) hr hl) in
    subst (λ (l : List Name). list_all is_proper l ≡ true) (sym (map-append named p.params (p.results ++ body_locals b)))
    (all_append is_proper (map named p.params) (map named (p.results ++ body_locals b)) hp f)

-- the implementation that is found declares proper names
implementation_proper : (name : List ℕ) (is : List Procedure) → list_all is_well_named is ≡ true →
    list_all is_proper (map (λ v. v.name) (body_locals (option_and_then (λ i. i.body) (first_named name is)))) ≡ true
implementation_proper name [] h = refl
implementation_proper name (i ∷ is) h =
    let a = and_parts (is_well_named i) (list_all is_well_named is) h in
    let b = and_parts (is_proper i.name) (list_all is_proper (variable_names i i.body)) a.0 in
    cond_both (bytes_eq name i.name.text) (Some i) (first_named name is)
    (λ o. list_all is_proper (map (λ v. v.name) (body_locals (option_and_then (λ i. i.body) o))) ≡ true)
    (λ e. (body_proper i i.body b.1).2) (λ e. implementation_proper name is a.1)

pub declared_proper : (ds : List Declaration) (p : Procedure) → list_all is_well_named (implementations_of ds) ≡ true → is_well_named p ≡ true →
    list_all is_proper (variable_names p (body_of ds p)) ≡ true
declared_proper ds p hi h =
    let b = and_parts (is_proper p.name) (list_all is_proper (variable_names p p.body)) h in
    let c = body_proper p p.body b.1 in
    variables_proper p (body_of ds p) c.0 c.1 (by p.body c.2)
  where
    by : (b : Option ProcedureBody) → list_all is_proper (map (λ v. v.name) (body_locals b)) ≡ true →
        list_all is_proper (map (λ v. v.name) (body_locals (option_or b (option_and_then (λ i. i.body) (first_named p.name.text (implementations_of ds)))))) ≡ true
    by None e = implementation_proper p.name.text (implementations_of ds) hi
    by (Some b) e = e
