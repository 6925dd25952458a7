-- The names of parsed programs are names, as typing asks.
use Rattle.std.proofs.Common.{◌≡◌, ℕ, Bool, true, false, not, ◌&&◌, List, [], ◌∷◌, ◌++◌, Option, None, Some, map, ap, refl, ◌∙◌}
use Rattle.std.proofs.lemmas.Bool.{and_from, false≢true}
use Rattle.std.proofs.lemmas.List.{map-append}
use Rattle.std.specs.List.{list_all}
use Rattle.boogie_tree.specs.declared.tree.Name.{Name}
use Rattle.boogie_tree.specs.declared.tree.Vary.{Vary}
use Rattle.boogie_tree.specs.Tree.{Declaration, Const, Global, Axiom, Declares, Implements, Procedure, ProcedureBody}
use Rattle.boogie_tree.specs.Names.{is_digit, is_name_byte, is_name}
use Rattle.boogie_parse.specs.Spelling.PrintedTokens.{IsFreeWord, AreSpellableVariables, IsSpellableBody, IsSpellableProcedure, IsSpellableProgram}
use Rattle.boogie_types.specs.Sorted.{global_names, procedures_of, implementations_of, procedure_names, variable_names, body_locals}
use Rattle.boogie_types.specs.Resolved.{are_named}
use Rattle.boogie_types.proofs.ShapeLists.{all_append}

-- a free word is a name
word_is : (w : List ℕ) → IsFreeWord w → is_name w ≡ true
word_is [] f = absurd (false≢true f.begins)
word_is (b ∷ bs) f = and_from (not (is_digit b)) (list_all is_name_byte (b ∷ bs)) f.begins f.bytes

abbrev IsNamed : Name → Bool
IsNamed x = is_name x.text

variables_are : (vs : List Vary) → AreSpellableVariables vs → list_all IsNamed (map (λ v. v.name) vs) ≡ true
variables_are [] h = refl
variables_are (v ∷ vs) h = and_from (IsNamed v.name) (list_all IsNamed (map (λ v. v.name) vs)) (word_is v.name.text h.0) (variables_are vs h.1)

body_are : (b : Option ProcedureBody) → IsSpellableBody b → list_all IsNamed (map (λ v. v.name) (body_locals b)) ≡ true
body_are None h = refl
body_are (Some b) h = variables_are b.locals h.0

-- the name of a procedure and those of its variables
procedure_is : (p : Procedure) → IsSpellableProcedure p → (rest : List Name) → list_all IsNamed rest ≡ true →
    list_all IsNamed (p.name ∷ (variable_names p p.body ++ rest)) ≡ true
procedure_is p s rest h =
    let locals = body_locals p.body in
    let N : List Vary → List Name = λ vs. map (λ v. v.name) vs in
    let e : N (p.params ++ (p.results ++ locals)) ≡ N p.params ++ (N p.results ++ N locals) =
    map-append (λ (v : Vary). v.name) p.params (p.results ++ locals) ∙ ap (λ (xs : List Name). N p.params ++ xs) (map-append (λ (v : Vary). v.name) p.results locals) in
    let all : list_all IsNamed (N p.params ++ (N p.results ++ N locals)) ≡ true =
    all_append IsNamed (N p.params) (N p.results ++ N locals) (variables_are p.params s.params)
    (all_append IsNamed (N p.results) (N locals) (variables_are p.results s.results) (body_are p.body s.body)) in
    let vars : list_all IsNamed (variable_names p p.body) ≡ true = ap (list_all IsNamed) e ∙ all in
    and_from (IsNamed p.name) (list_all IsNamed (variable_names p p.body ++ rest)) (word_is p.name.text s.name)
    (all_append IsNamed (variable_names p p.body) rest vars h)

globals_are : (ds : List Declaration) → IsSpellableProgram ds → list_all IsNamed (global_names ds) ≡ true
globals_are [] h = refl
globals_are (Const x ∷ ds) h = and_from (IsNamed x.name) (list_all IsNamed (global_names ds)) (word_is x.name.text h.0) (globals_are ds h.1)
globals_are (Global x ∷ ds) h = and_from (IsNamed x.name) (list_all IsNamed (global_names ds)) (word_is x.name.text h.0) (globals_are ds h.1)
globals_are (Axiom s e ∷ ds) h = globals_are ds h.1
globals_are (Declares p ∷ ds) h = globals_are ds h.1
globals_are (Implements p ∷ ds) h = globals_are ds h.1

procedures_are : (ds : List Declaration) → IsSpellableProgram ds → list_all IsNamed (procedure_names (procedures_of ds)) ≡ true
procedures_are [] h = refl
procedures_are (Const x ∷ ds) h = procedures_are ds h.1
procedures_are (Global x ∷ ds) h = procedures_are ds h.1
procedures_are (Axiom s e ∷ ds) h = procedures_are ds h.1
procedures_are (Declares p ∷ ds) h = procedure_is p h.0 (procedure_names (procedures_of ds)) (procedures_are ds h.1)
procedures_are (Implements p ∷ ds) h = procedures_are ds h.1

implementations_are : (ds : List Declaration) → IsSpellableProgram ds → list_all IsNamed (procedure_names (implementations_of ds)) ≡ true
implementations_are [] h = refl
implementations_are (Const x ∷ ds) h = implementations_are ds h.1
implementations_are (Global x ∷ ds) h = implementations_are ds h.1
implementations_are (Axiom s e ∷ ds) h = implementations_are ds h.1
implementations_are (Declares p ∷ ds) h = implementations_are ds h.1
implementations_are (Implements p ∷ ds) h = procedure_is p h.0 (procedure_names (implementations_of ds)) (implementations_are ds h.1)

-- the declared names of a spellable program are names
pub spellable_is_named : (ds : List Declaration) → IsSpellableProgram ds → are_named ds ≡ true
spellable_is_named ds h =
    all_append IsNamed (global_names ds) (procedure_names (procedures_of ds) ++ procedure_names (implementations_of ds)) (globals_are ds h)
    (all_append IsNamed (procedure_names (procedures_of ds)) (procedure_names (implementations_of ds)) (procedures_are ds h) (implementations_are ds h))
