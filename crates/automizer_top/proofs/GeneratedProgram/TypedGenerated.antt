-- The generated program with its names replaced.
use Rattle.std.proofs.Common.{◌≡◌, ℕ, zero, suc, ◌+◌, ◌≤◌, pos, Bool, true, false, List, [], ◌∷◌, map, codes, Option, Some, refl, ap, ◌∙◌, arith}
use Rattle.std.specs.List.{position_from}
use Rattle.std.specs.Str.{bytes_eq}
use Rattle.boogie_tree.specs.declared.tree.Vary.{Vary}
use Rattle.boogie_tree.specs.declared.tree.Ty.TheVariants.{Int}
use Rattle.boogie_tree.specs.declared.tree.Op.TheVariants.{Add, Ge}
use Rattle.boogie_tree.specs.declared.tree.Column.{Column}
use Rattle.boogie_tree.specs.declared.tree.Column.TheVariants as columns
use Rattle.boogie_tree.specs.declared.tree.VarInfo.{VarInfo}
use Rattle.boogie_tree.specs.Tree.{Procedure, Declaration, Declares}
use Rattle.boogie_tree.specs.Places.{beginning}
use Rattle.typed_tree.specs.TypedTree as typed
use Rattle.typed_tree.specs.Scope.{axiom_scope}
use Rattle.typed_tree.specs.TypedTree.{TypedExpression, TypedStatement, TypedBlock, TypedProcedure, TypedProgram}
use Rattle.boogie_types.specs.Sorted.{declared_globals, global_names, axioms_of, procedures_of, implementations_of}
use Rattle.boogie_types.specs.Naming.{each, from_both, named, hidden_arguments}
use Rattle.boogie_types.specs.Resolved.{named_procedure, program_of, named_program}
use Rattle.automizer_top.specs.GeneratedProgram.Generated.{link_name, link, is_positive, chain, main_procedure, generated}
use Rattle.automizer_top.proofs.GeneratedProgram.GeneratedNames.{link_found}

-- ---- the typed tree

abbrev pub counter_info : VarInfo
counter_info = record { name = codes "g"; ty = Int; constant = false }

abbrev pub column : Column
column = columns.Global 0

abbrev pub typed_procedure : List ℕ → TypedBlock → TypedProcedure
typed_procedure x b = record { name = x; params = 0; results = 0; locals = []; modifies = 0 ∷ []; specs = []; body = Some b }

abbrev pub typed_becomes : TypedExpression → TypedStatement
typed_becomes e = typed.Assign beginning (column ∷ []) (e ∷ [])

-- the call of the procedure with that number; `main` has number 0
abbrev pub typed_calls : ℕ → TypedStatement
typed_calls number = typed.Call beginning [] number []

abbrev pub typed_main : TypedProcedure
typed_main = typed_procedure (codes "main") (typed.Then (typed_becomes (typed.Lit beginning (pos 0))) (typed.Then (typed_calls 1) typed.Empty))

abbrev pub typed_bound : ℕ → TypedBlock
typed_bound number = typed.Then (typed.Assert beginning (typed.Bin beginning Ge (typed.Var beginning column) (typed.Lit beginning (pos number)))) typed.Empty

abbrev pub typed_rest : Bool → ℕ → TypedBlock
typed_rest true number = typed.Then (typed_calls (number + 1)) (typed_bound number)
typed_rest false number = typed_bound number

abbrev pub typed_link : Bool → ℕ → TypedProcedure
typed_link next number =
    typed_procedure (link_name number).text (typed.Then (typed_becomes (typed.Bin beginning Add (typed.Var beginning column) (typed.Lit beginning (pos 1)))) (typed_rest next number))

unfoldable pub typed_chain : ℕ → ℕ → List TypedProcedure
typed_chain number zero = []
typed_chain number (suc more) = typed_link (is_positive more) number ∷ typed_chain (number + 1) more

abbrev pub typed_generated : ℕ → TypedProgram
typed_generated count = record { globals = counter_info ∷ []; axioms = []; procs = typed_main ∷ typed_chain 1 count; entry = 0 }

-- ---- sorting

pub sorted_procedures : (ps : List Procedure) → procedures_of (map Declares ps) ≡ ps
sorted_procedures [] = refl
sorted_procedures (p ∷ ps) = ap (λ (qs : List Procedure). p ∷ qs) (sorted_procedures ps)

pub sorted_implementations : (ps : List Procedure) → implementations_of (map Declares ps) ≡ []
sorted_implementations [] = refl
sorted_implementations (p ∷ ps) = sorted_implementations ps

pub sorted_globals : (ps : List Procedure) → declared_globals (map Declares ps) ≡ []
sorted_globals [] = refl
sorted_globals (p ∷ ps) = sorted_globals ps

pub sorted_names : (ps : List Procedure) → global_names (map Declares ps) ≡ []
sorted_names [] = refl
sorted_names (p ∷ ps) = sorted_names ps

pub sorted_axioms : (ps : List Procedure) → axioms_of (map Declares ps) ≡ []
sorted_axioms [] = refl
sorted_axioms (p ∷ ps) = sorted_axioms ps

-- ---- calls

no_hidden : (vs : List Vary) → hidden_arguments vs [] ≡ []
no_hidden [] = refl
no_hidden (v ∷ vs) = refl

each_cons : {X Y : Type 0} (f : X → Option Y) (x : X) (xs : List X) (y : Y) (ys : List Y) → f x ≡ Some y → each f xs ≡ Some ys → each f (x ∷ xs) ≡ Some (y ∷ ys)
each_cons f x xs y ys g h = rw (g, h) refl

-- ---- procedures

abbrev pub declarations : ℕ → List Declaration
declarations count = generated count

chain_sorted : (count : ℕ) → procedures_of (generated count) ≡ main_procedure ∷ chain 1 count
chain_sorted count = sorted_procedures (main_procedure ∷ chain 1 count)

number_found : (count k : ℕ) → count ≤ 200 → 1 ≤ k → k ≤ count → position_from (λ q. bytes_eq (link_name k).text q.name.text) 0 (procedures_of (generated count)) ≡ Some k
number_found count k m low high = ap (λ ps. position_from (λ q. bytes_eq (link_name k).text q.name.text) 0 ps) (chain_sorted count) ∙ link_found count k m low high

last_named : (count number : ℕ) → named_procedure (generated count) (link false number) ≡ Some (typed_link false number)
last_named count number = refl

next_named : (count number : ℕ) → count ≤ 200 → number + 1 ≤ count → named_procedure (generated count) (link true number) ≡ Some (typed_link true number)
next_named count number m l = simp no_hidden (rw (number_found count (number + 1) m (omega arith) l) (simp no_hidden))

pub main_named : (count : ℕ) → count ≤ 200 → 1 ≤ count → named_procedure (generated count) main_procedure ≡ Some typed_main
main_named count m l = simp no_hidden (rw (number_found count 1 m (omega arith) l) (simp no_hidden))

-- a procedure of a chain of so many calls the next one where there is one
link_named : (count number : ℕ) (next : Bool) → count ≤ 200 → (next ≡ true → number + 1 ≤ count) → named_procedure (generated count) (link next number) ≡ Some (typed_link next number)
link_named count number true m l = next_named count number m (l refl)
link_named count number false m l = last_named count number

pub positive : (n : ℕ) → is_positive n ≡ true → 1 ≤ n
positive zero e = cc
positive (suc n) e = omega arith

chain_named : (count number rest : ℕ) → count ≤ 200 → number + rest ≤ count + 1 → each (named_procedure (generated count)) (chain number rest) ≡ Some (typed_chain number rest)
unfolding chain typed_chain
chain_named count number zero m l = refl
chain_named count number (suc more) m l =
    each_cons (named_procedure (generated count)) (link (is_positive more) number) (chain (number + 1) more) (typed_link (is_positive more) number) (typed_chain (number + 1) more)
    (link_named count number (is_positive more) m (λ e. let p = positive more e in omega arith)) (chain_named count (number + 1) more m (omega arith))

-- the program with its names replaced
pub generated_named : (count : ℕ) → count ≤ 200 → 1 ≤ count → named_program (generated count) ≡ Some (typed_generated count)
generated_named count m l =
    let ps : List Procedure = main_procedure ∷ chain 1 count in
    let all : each (named_procedure (generated count)) ps ≡ Some (typed_main ∷ typed_chain 1 count) =
    each_cons (named_procedure (generated count)) main_procedure (chain 1 count) typed_main (typed_chain 1 count) (main_named count m l) (chain_named count 1 count m (omega arith)) in
    let ds : List Declaration = generated count in
    let axioms : each (named (axiom_scope (declared_globals ds))) (axioms_of ds) ≡ Some [] = ap (each (named (axiom_scope (declared_globals ds)))) (sorted_axioms ps) in
    let procs : each (named_procedure ds) (procedures_of ds) ≡ Some (typed_main ∷ typed_chain 1 count) = ap (each (named_procedure ds)) (chain_sorted count) ∙ all in
    let globals : declared_globals ds ≡ counter_info ∷ [] = ap (λ (gs : List VarInfo). counter_info ∷ gs) (sorted_globals ps) in
    let first : named_program ds ≡ from_both (program_of ds) (Some []) (each (named_procedure ds) (procedures_of ds)) = ap (λ (o : Option (List TypedExpression)). from_both (program_of ds) o (each (named_procedure ds) (procedures_of ds))) axioms in
    let second : from_both (program_of ds) (Some []) (each (named_procedure ds) (procedures_of ds)) ≡ Some (program_of ds [] (typed_main ∷ typed_chain 1 count)) = ap (λ (o : Option (List TypedProcedure)). from_both (program_of ds) (Some []) o) procs in
    first ∙ (second ∙ ap (λ (gs : List VarInfo). Some (let t : TypedProgram = record { globals = gs; axioms = []; procs = typed_main ∷ typed_chain 1 count; entry = 0 } in t)) globals)
