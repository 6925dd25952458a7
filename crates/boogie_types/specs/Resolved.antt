-- The typed program that a program is: its names replaced, where the typing rules hold.
use Rattle.std.specs.Prelude.{ℕ, Bool, true, false, ◌&&◌, List, [], ◌∷◌, ◌++◌, map, length, Option, None, Some, option_and_then, if◌then◌else◌, slice_get}
use Rattle.std.specs.Option.{option_map, is_none}
use Rattle.std.specs.List.{list_all, position_from}
use Rattle.std.specs.Str.{bytes_eq}
use Rattle.boogie_tree.specs.declared.tree.Name.{Name}
use Rattle.boogie_tree.specs.declared.tree.Vary.{Vary}
use Rattle.boogie_tree.specs.Tree as tree
use Rattle.boogie_tree.specs.Tree.{Declaration, Procedure, ProcedureBody, Specification}
use Rattle.typed_tree.specs.TypedTree as typed
use Rattle.typed_tree.specs.TypedTree.{TypedBlock, TypedSpecification, TypedProcedure, TypedProgram}
use Rattle.typed_tree.specs.Scope.{axiom_scope, requires_scope, body_scope}
use Rattle.boogie_types.specs.Meanings.{variable_info, number_from}
use Rattle.typed_tree.specs.Typing.{same_type}
use Rattle.boogie_types.specs.Sorted.{declared_globals, global_names, axioms_of, procedures_of, implementations_of, first_named, body_of, declared_locals, variable_names, hidden_locals, block_labels, labels_if_any, modified_in, firsts, declared_names}
use Rattle.boogie_types.specs.Naming.{each, from_both, named, named_invariant, named_block, hidden_in_block, NamingPlace}
use Rattle.boogie_tree.specs.declared.tree.VarInfo.{VarInfo}
use Rattle.boogie_tree.specs.Names.{is_name}
use Rattle.typed_tree.specs.TypingRules.Rules.{all_differ, meets}
use Rattle.typed_tree.specs.TypingRules.ValidProgram.{is_typed}

-- no name stands twice
abbrev pub is_set : List Name → Bool
is_set xs = all_differ (λ x y. bytes_eq x.text y.text) xs

-- no variable and no label of a procedure with that body stands twice
abbrev pub has_sets : Procedure → Option ProcedureBody → Bool
has_sets p b = is_set (variable_names p b) && is_set (labels_if_any b)

-- the sets of names are sets: constants and globals, procedures, and in each procedure the variables and the labels
abbrev pub are_sets : List Declaration → Bool
are_sets ds =
    is_set (global_names ds)
    && (is_set (map (λ p. p.name) (procedures_of ds)) && list_all (λ p. has_sets p (body_of ds p)) (procedures_of ds))

-- the declared names are names
abbrev pub are_named : List Declaration → Bool
are_named ds = list_all (λ x. is_name x.text) (declared_names ds)

-- of the same name and type
abbrev pub same_variable : Vary → Vary → Bool
same_variable v w = bytes_eq v.name.text w.name.text && same_type v.ty w.ty

abbrev pub same_variables : List Vary → List Vary → Bool
same_variables [] [] = true
same_variables [] (w ∷ ws) = false
same_variables (v ∷ vs) [] = false
same_variables (v ∷ vs) (w ∷ ws) = same_variable v w && same_variables vs ws

-- It repeats the parameters and results of the procedure.
abbrev pub repeats : Procedure → Procedure → Bool
repeats i p = same_variables i.params p.params && same_variables i.results p.results

-- an implementation of the procedure, which has no body of its own
abbrev pub implements : Procedure → Procedure → Bool
implements i p = is_none p.body && repeats i p

-- Each implements a procedure, and no two the same.
abbrev pub are_implementations : List Declaration → Bool
are_implementations ds =
    is_set (map (λ i. i.name) (implementations_of ds))
    && list_all (λ i. meets (implements i) (first_named i.name.text (procedures_of ds))) (implementations_of ds)

-- the place at which the statements of a body begin
abbrev pub body_place : List Declaration → Procedure → ProcedureBody → NamingPlace
body_place ds p b =
    record {
      scope = body_scope (declared_globals ds) (declared_locals p (Some b));
      procs = procedures_of ds;
      declared = length (declared_locals p (Some b));
      labels = map (λ x. x.text) (block_labels b.stmts);
      loops = [];
    }

-- the specifications that are no modifies lists, with names replaced
abbrev pub named_specifications : List Declaration → Procedure → List Specification → Option (List TypedSpecification)
named_specifications ds p [] = Some []
named_specifications ds p (tree.Requires i ∷ ss) =
    from_both (λ t ts. typed.Requires t ∷ ts)
    (named_invariant (requires_scope (declared_globals ds) (map (variable_info true) p.params)) i) (named_specifications ds p ss)
named_specifications ds p (tree.Ensures i ∷ ss) =
    from_both (λ t ts. typed.Ensures t ∷ ts)
    (named_invariant (body_scope (declared_globals ds) (declared_locals p None)) i) (named_specifications ds p ss)
named_specifications ds p (tree.Modifies xs ∷ ss) = named_specifications ds p ss

-- the number of a global that is no constant
abbrev pub unless_constant : List VarInfo → ℕ → Option ℕ
unless_constant globals n = option_and_then (λ v. if v.constant then None else Some n) (slice_get globals n)

-- the number of the global with that name, unless it is a constant
abbrev pub modified_number : List VarInfo → List ℕ → Option ℕ
modified_number globals name = option_and_then (unless_constant globals) (number_from 0 name globals)

-- the numbers of the modified globals, each once
abbrev pub named_modifies : List Declaration → Procedure → Option (List ℕ)
named_modifies ds p = option_map (firsts []) (each (λ x. modified_number (declared_globals ds) x.text) (modified_in p.specs))

abbrev pub named_body : List Declaration → Procedure → Option ProcedureBody → Option (Option TypedBlock)
named_body ds p None = Some None
named_body ds p (Some b) = option_map Some (named_block (body_place ds p b) None 0 b.stmts)

-- how many hidden locals a body needs
abbrev pub hidden_count : List Declaration → Procedure → Option ProcedureBody → ℕ
hidden_count ds p None = 0
hidden_count ds p (Some b) = hidden_in_block (body_place ds p b) b.stmts

-- a procedure of these parts; its hidden locals come last
abbrev pub procedure_of : List Declaration → Procedure → List ℕ → List TypedSpecification → Option TypedBlock → TypedProcedure
procedure_of ds p modifies specs body =
    record {
      name = p.name.text;
      params = length p.params;
      results = length p.results;
      locals = declared_locals p (body_of ds p) ++ hidden_locals 1 (hidden_count ds p (body_of ds p));
      modifies = modifies;
      specs = specs;
      body = body;
    }

abbrev pub named_procedure : List Declaration → Procedure → Option TypedProcedure
named_procedure ds p =
    option_and_then (λ modifies. from_both (procedure_of ds p modifies) (named_specifications ds p p.specs) (named_body ds p (body_of ds p)))
    (named_modifies ds p)

abbrev pub program_of : List Declaration → List typed.TypedExpression → List TypedProcedure → TypedProgram
program_of ds axioms procs = record { globals = declared_globals ds; axioms = axioms; procs = procs; entry = 0 }

-- a program with its names replaced, its entry left open
abbrev pub named_program : List Declaration → Option TypedProgram
named_program ds =
    from_both (program_of ds) (each (named (axiom_scope (declared_globals ds))) (axioms_of ds)) (each (named_procedure ds) (procedures_of ds))

-- the number of the entry procedure
abbrev pub entry_number : List Declaration → List ℕ → Option ℕ
entry_number ds entry = position_from (λ p. bytes_eq entry p.name.text) 0 (procedures_of ds)

-- with that entry, where the typing rules hold
abbrev pub if_typed : TypedProgram → ℕ → Option TypedProgram
if_typed t n = if is_typed (record t { entry = n }) then Some (record t { entry = n }) else None

-- the typed program that a program is; none where a rule is broken
abbrev pub resolved_program : List Declaration → List ℕ → Option TypedProgram
resolved_program ds entry =
    if are_sets ds && are_implementations ds
    then option_and_then (λ t. option_and_then (if_typed t) (entry_number ds entry)) (named_program ds)
    else None
