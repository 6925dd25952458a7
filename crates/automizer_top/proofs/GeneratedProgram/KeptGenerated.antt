-- The generated program keeps the typing rules.
use Rattle.std.proofs.Common.{◌≡◌, ℕ, zero, suc, ◌+◌, ◌≤◌, ◌<◌, ◌^◌, Bool, true, false, ◌&&◌, List, [], ◌∷◌, ◌++◌, map, codes, Some, slice_get, refl, ap, ◌∙◌, arith}
use Rattle.std.specs.Prelude.{nat_lt}
use Rattle.std.specs.List.{list_all, list_any}
use Rattle.std.specs.Str.{bytes_eq}
use Rattle.std.proofs.lemmas.Bool.{and_from, or_left}
use Rattle.std.proofs.lemmas.Bool.Decides.{nat_tests}
use Rattle.boogie_tree.specs.declared.tree.Name.{Name}
use Rattle.boogie_tree.specs.declared.tree.VarInfo.{VarInfo}
use Rattle.boogie_tree.specs.Names.{is_name, is_spelled, is_made}
use Rattle.boogie_tree.specs.Tree.{Procedure, Declaration}
use Rattle.typed_tree.specs.TypedTree.{TypedProcedure, TypedProgram}
use Rattle.typed_tree.specs.Scope.{Scope}
use Rattle.typed_tree.specs.TypingRules.Rules.{all_differ, meets, is_call, procedure_keeps_rules, keeps_typing}
use Rattle.typed_tree.specs.TypingRules.Shape.{are_arguments, are_names, is_procedure_shaped, has_shape}
use Rattle.typed_tree.specs.TypingRules.ValidProgram.{has_entry, is_typed}
use Rattle.std.proofs.lemmas.List.Folds.{list_all-append}
use Rattle.boogie_types.specs.Sorted.{global_names, procedures_of, implementations_of, first_named, body_of, procedure_names, declared_names}
use Rattle.boogie_types.specs.Resolved.{is_set, has_sets, are_sets, implements, are_implementations, are_named, resolved_program}
use Rattle.automizer_top.specs.GeneratedProgram.Generated.{counter, link_name, link, is_positive, chain, main_procedure, generated}
use Rattle.automizer_top.specs.GeneratedProgram.Laws.{IsTyped}
use Rattle.automizer_top.proofs.GeneratedProgram.GeneratedNames.{link_named, names_of, procedures_differ}
use Rattle.automizer_top.proofs.GeneratedProgram.TypedGenerated.{counter_info, typed_main, typed_link, typed_chain, typed_generated, sorted_procedures, sorted_implementations, sorted_names, positive, generated_named}

-- ---- the names of the typed procedures

chain_names : (number rest : ℕ) → map (λ (p : TypedProcedure). p.name) (typed_chain number rest) ≡ map (λ (x : Name). x.text) (names_of (chain number rest))
unfolding chain typed_chain
chain_names number zero = refl
chain_names number (suc more) = ap (λ (xs : List (List ℕ)). (link_name number).text ∷ xs) (chain_names (number + 1) more)

texts_differ : (xs : List Name) → all_differ bytes_eq (map (λ (x : Name). x.text) xs) ≡ all_differ (λ (x y : Name). bytes_eq x.text y.text) xs
texts_differ [] = refl
texts_differ (x ∷ xs) = rw (any_same x xs, texts_differ xs) refl
  where
    any_same : (x : Name) (ys : List Name) → list_any (bytes_eq x.text) (map (λ (y : Name). y.text) ys) ≡ list_any (λ (y : Name). bytes_eq x.text y.text) ys
    any_same x [] = refl
    any_same x (y ∷ ys) = rw (any_same x ys) refl

chain_spelled : (number rest : ℕ) → number + rest ≤ 1000 → list_all is_spelled (map (λ (x : Name). x.text) (names_of (chain number rest))) ≡ true
unfolding chain
chain_spelled number zero l = refl
chain_spelled number (suc more) l =
    and_from (is_spelled (link_name number).text) (list_all is_spelled (map (λ (x : Name). x.text) (names_of (chain (number + 1) more))))
    (or_left (is_name (link_name number).text) (is_made (link_name number).text) (link_named number (omega arith))) (chain_spelled (number + 1) more (omega arith))

procs_named : (count : ℕ) → count ≤ 200 → are_names (map (λ (p : TypedProcedure). p.name) (typed_generated count).procs) ≡ true
procs_named count l =
    let xs : List Name = names_of (main_procedure ∷ chain 1 count) in
    let same : map (λ (p : TypedProcedure). p.name) (typed_generated count).procs ≡ map (λ (x : Name). x.text) xs = ap (λ (ys : List (List ℕ)). codes "main" ∷ ys) (chain_names 1 count) in
    ap are_names same
    ∙ and_from (list_all is_spelled (map (λ (x : Name). x.text) xs)) (all_differ bytes_eq (map (λ (x : Name). x.text) xs)) (chain_spelled 1 count (omega arith)) (texts_differ xs ∙ procedures_differ count l)

-- ---- the procedures that are called

typed_stands_from : (number rest j : ℕ) → j < rest → (b : Bool) × (slice_get (typed_chain number rest) j ≡ Some (typed_link b (number + j)))
unfolding typed_chain
typed_stands_from number zero j l = absurd (omega arith)
typed_stands_from number (suc rest) zero l = (is_positive rest, ap (λ n. Some (typed_link (is_positive rest) n)) (let z : number ≡ number + 0 = omega arith in z))
typed_stands_from number (suc rest) (suc j) l =
    let w = typed_stands_from (number + 1) rest j (omega arith) in
    (w.0, w.1 ∙ ap (λ n. Some (typed_link w.0 n)) (let z : (number + 1) + j ≡ number + suc j = omega arith in z))

-- the procedure with that number
pub typed_stands : (count k : ℕ) → 1 ≤ k → k ≤ count → (b : Bool) × (slice_get (typed_generated count).procs k ≡ Some (typed_link b k))
typed_stands count zero low high = absurd (omega arith)
typed_stands count (suc j) low high =
    let w = typed_stands_from 1 count j (omega arith) in
    (w.0, w.1 ∙ ap (λ n. Some (typed_link w.0 n)) (let z : 1 + j ≡ suc j = omega arith in z))

-- ---- the shape

no_arguments : (vs : List VarInfo) → are_arguments vs [] ≡ true
no_arguments [] = refl
no_arguments (v ∷ vs) = refl

link_shaped : (procs : List TypedProcedure) (b : Bool) (number : ℕ) → is_procedure_shaped (counter_info ∷ []) procs (typed_link b number) ≡ true
link_shaped procs true number = rw no_arguments refl
link_shaped procs false number = refl

main_shaped : (procs : List TypedProcedure) → is_procedure_shaped (counter_info ∷ []) procs typed_main ≡ true
main_shaped procs = rw no_arguments refl

chain_shaped : (procs : List TypedProcedure) (number rest : ℕ) → list_all (is_procedure_shaped (counter_info ∷ []) procs) (typed_chain number rest) ≡ true
unfolding typed_chain
chain_shaped procs number zero = refl
chain_shaped procs number (suc more) =
    and_from (is_procedure_shaped (counter_info ∷ []) procs (typed_link (is_positive more) number)) (list_all (is_procedure_shaped (counter_info ∷ []) procs) (typed_chain (number + 1) more))
    (link_shaped procs (is_positive more) number) (chain_shaped procs (number + 1) more)

shaped : (count : ℕ) → count ≤ 200 → has_shape (typed_generated count) ≡ true
shaped count l =
    let t : TypedProgram = typed_generated count in
    let all : list_all (is_procedure_shaped t.globals t.procs) t.procs ≡ true =
    and_from (is_procedure_shaped t.globals t.procs typed_main) (list_all (is_procedure_shaped t.globals t.procs) (typed_chain 1 count)) (main_shaped t.procs) (chain_shaped t.procs 1 count) in
    and_from (are_names (map (λ (p : TypedProcedure). p.name) t.procs)) (list_all (is_procedure_shaped t.globals t.procs) t.procs) (procs_named count l) all

-- ---- the typing rules

small : (number : ℕ) → number ≤ 1000 → nat_lt number (2 ^ 127) ≡ true
small number l = grind (arith, nat_tests)

-- a call of a procedure of the chain
called_well : (scope : Scope) (procs : List TypedProcedure) (k : ℕ) (b : Bool) → slice_get procs k ≡ Some (typed_link b k) →
    meets (is_call (record { scope = scope; procs = procs; modifies = 0 ∷ []; labels = []; loops = 0 }) [] []) (slice_get procs k) ≡ true
called_well scope procs k b e = ap (meets (is_call (record { scope = scope; procs = procs; modifies = 0 ∷ []; labels = []; loops = 0 }) [] [])) e

link_kept : (count number : ℕ) (b : Bool) → number ≤ count → count ≤ 200 → (b ≡ true → number + 1 ≤ count) →
    procedure_keeps_rules (counter_info ∷ []) (typed_generated count).procs (typed_link b number) ≡ true
link_kept count number false l m h = rw (small number (omega arith)) refl
link_kept count number true l m h =
    let w = typed_stands count (number + 1) (omega arith) (h refl) in
    rw (w.1, small number (omega arith)) refl

main_kept : (count : ℕ) → 1 ≤ count → count ≤ 200 → procedure_keeps_rules (counter_info ∷ []) (typed_generated count).procs typed_main ≡ true
main_kept count l m = let w = typed_stands count 1 (omega arith) l in rw w.1 refl

chain_kept : (count number rest : ℕ) → count ≤ 200 → number + rest ≤ count + 1 → list_all (procedure_keeps_rules (counter_info ∷ []) (typed_generated count).procs) (typed_chain number rest) ≡ true
unfolding typed_chain
chain_kept count number zero m l = refl
chain_kept count number (suc more) m l =
    and_from (procedure_keeps_rules (counter_info ∷ []) (typed_generated count).procs (typed_link (is_positive more) number)) (list_all (procedure_keeps_rules (counter_info ∷ []) (typed_generated count).procs) (typed_chain (number + 1) more))
    (link_kept count number (is_positive more) (omega arith) m (λ e. let p = positive more e in omega arith)) (chain_kept count (number + 1) more m (omega arith))

kept : (count : ℕ) → 1 ≤ count → count ≤ 200 → keeps_typing (typed_generated count) ≡ true
kept count l m =
    and_from (procedure_keeps_rules (counter_info ∷ []) (typed_generated count).procs typed_main) (list_all (procedure_keeps_rules (counter_info ∷ []) (typed_generated count).procs) (typed_chain 1 count))
    (main_kept count l m) (chain_kept count 1 count m (omega arith))

generated_typed : (count : ℕ) → 1 ≤ count → count ≤ 200 → is_typed (typed_generated count) ≡ true
generated_typed count l m =
    let t : TypedProgram = typed_generated count in
    and_from (has_shape t) (keeps_typing t && has_entry t) (shaped count m) (and_from (keeps_typing t) (has_entry t) (kept count l m) refl)

-- ---- the declarations

link_sets : (ds : List Declaration) (b : Bool) (number : ℕ) → has_sets (link b number) (body_of ds (link b number)) ≡ true
link_sets ds true number = refl
link_sets ds false number = refl

chain_sets : (ds : List Declaration) (number rest : ℕ) → list_all (λ p. has_sets p (body_of ds p)) (chain number rest) ≡ true
unfolding chain
chain_sets ds number zero = refl
chain_sets ds number (suc more) =
    and_from (has_sets (link (is_positive more) number) (body_of ds (link (is_positive more) number))) (list_all (λ p. has_sets p (body_of ds p)) (chain (number + 1) more))
    (link_sets ds (is_positive more) number) (chain_sets ds (number + 1) more)

procedures : (count : ℕ) → procedures_of (generated count) ≡ main_procedure ∷ chain 1 count
procedures count = sorted_procedures (main_procedure ∷ chain 1 count)

globals_named : (count : ℕ) → global_names (generated count) ≡ counter ∷ []
globals_named count = ap (λ (xs : List Name). counter ∷ xs) (sorted_names (main_procedure ∷ chain 1 count))

sets : (count : ℕ) → count ≤ 200 → are_sets (generated count) ≡ true
sets count m =
    let ds : List Declaration = generated count in
    let ps : List Procedure = main_procedure ∷ chain 1 count in
    let first : is_set (global_names ds) ≡ true = ap is_set (globals_named count) in
    let second : is_set (names_of (procedures_of ds)) ≡ true = ap (λ (qs : List Procedure). is_set (names_of qs)) (procedures count) ∙ procedures_differ count m in
    let third : list_all (λ (p : Procedure). has_sets p (body_of ds p)) (procedures_of ds) ≡ true = ap (list_all (λ (p : Procedure). has_sets p (body_of ds p))) (procedures count) ∙ chain_sets ds 1 count in
    and_from (is_set (global_names ds)) (is_set (names_of (procedures_of ds)) && list_all (λ (p : Procedure). has_sets p (body_of ds p)) (procedures_of ds)) first
    (and_from (is_set (names_of (procedures_of ds))) (list_all (λ (p : Procedure). has_sets p (body_of ds p)) (procedures_of ds)) second third)

-- what is implemented, of these implementations
abbrev are_implemented : List Declaration → List Procedure → Bool
are_implemented ds is = is_set (map (λ i. i.name) is) && list_all (λ i. meets (implements i) (first_named i.name.text (procedures_of ds))) is

implemented : (count : ℕ) → are_implementations (generated count) ≡ true
implemented count = ap (are_implemented (generated count)) (sorted_implementations (main_procedure ∷ chain 1 count))

-- the typed program that the generated program is
pub generated_resolved : (count : ℕ) → 1 ≤ count → count ≤ 200 → resolved_program (generated count) (codes "main") ≡ Some (typed_generated count)
generated_resolved count l m = rw (sets count m, implemented count, generated_named count m l, generated_typed count l m) refl

chain_words : (number rest : ℕ) → number + rest ≤ 1000 → list_all (λ (x : Name). is_name x.text) (procedure_names (chain number rest)) ≡ true
unfolding chain
chain_words number zero l = refl
chain_words number (suc more) l =
    and_from (is_name (link_name number).text) (list_all (λ (x : Name). is_name x.text) (procedure_names (chain (number + 1) more))) (link_named number (omega arith)) (chain_words (number + 1) more (omega arith))

words : (count : ℕ) → count ≤ 200 → are_named (generated count) ≡ true
words count m =
    let ds : List Declaration = generated count in
    let ps : List Procedure = main_procedure ∷ chain 1 count in
    let f : Name → Bool = λ x. is_name x.text in
    let procs : procedure_names (procedures_of ds) ≡ procedure_names ps = ap procedure_names (procedures count) in
    let none : procedure_names (implementations_of ds) ≡ [] = ap procedure_names (sorted_implementations ps) in
    let first : declared_names ds ≡ (counter ∷ []) ++ (procedure_names ps ++ []) = ap (λ (xs : List Name). xs ++ (procedure_names (procedures_of ds) ++ procedure_names (implementations_of ds))) (globals_named count)
    ∙ (ap (λ (xs : List Name). (counter ∷ []) ++ (xs ++ procedure_names (implementations_of ds))) procs ∙ ap (λ (xs : List Name). (counter ∷ []) ++ (procedure_names ps ++ xs)) none) in
    ap (list_all f) first ∙ (list_all-append f (procedure_names ps) [] ∙ and_from (list_all f (procedure_names ps)) true (chain_words 1 count (omega arith)) refl)

pub typed_so : (count : ℕ) → 1 ≤ count → count ≤ 200 → IsTyped count
typed_so count l m = (words count m, (typed_generated count, generated_resolved count l m))
