-- The variables of a procedure, put together list by list.
use Rattle.std.proofs.Common.{◌≡◌, ℕ, ◌≤◌, true, false, List, ◌++◌, map, take, length, Option, append_assoc, ap, sym, ◌∙◌}
use Rattle.std.specs.List.{take-map}
use Rattle.std.proofs.lemmas.List.{map-append, length-take-le}
use Rattle.boogie_tree.specs.declared.tree.Name.{Name}
use Rattle.boogie_tree.specs.declared.tree.Vary.{Vary}
use Rattle.boogie_tree.specs.declared.tree.VarInfo.{VarInfo}
use Rattle.boogie_tree.specs.Tree.{Procedure, ProcedureBody}
use Rattle.boogie_types.specs.Meanings.{variable_info}
use Rattle.boogie_types.specs.Ties.Numbers.{info_names, texts}
use Rattle.boogie_types.specs.Sorted.{body_locals, declared_locals, variable_names}
use Rattle.boogie_types.proofs.ShapeNames.{local_texts}

names_joined : (ps rs ls : List Vary) → (map (λ v. v.name) ps ++ map (λ v. v.name) rs) ++ map (λ v. v.name) ls ≡ map (λ v. v.name) (ps ++ (rs ++ ls))
names_joined ps rs ls =
    append_assoc (map (λ v. v.name) ps) (map (λ v. v.name) rs) (map (λ v. v.name) ls)
    ∙ sym (map-append (λ v. v.name) ps (rs ++ ls) ∙ ap (λ (xs : List Name). map (λ v. v.name) ps ++ xs) (map-append (λ v. v.name) rs ls))

-- the names of the parameters, then of the results, then of the declared locals
pub names_are : (p : Procedure) (b : Option ProcedureBody) (one two all : List Name) → one ≡ map (λ v. v.name) p.params → two ≡ one ++ map (λ v. v.name) p.results →
    all ≡ two ++ map (λ v. v.name) (body_locals b) → all ≡ variable_names p b
names_are p b one two all e f g =
    g ∙ ap (λ (xs : List Name). xs ++ map (λ v. v.name) (body_locals b)) (f ∙ ap (λ (xs : List Name). xs ++ map (λ v. v.name) p.results) e)
    ∙ names_joined p.params p.results (body_locals b)

-- and what is known of them
pub infos_are : (p : Procedure) (b : Option ProcedureBody) (one two all : List VarInfo) → one ≡ map (variable_info true) p.params → two ≡ one ++ map (variable_info false) p.results →
    all ≡ two ++ map (variable_info false) (body_locals b) → all ≡ declared_locals p b
infos_are p b one two all e f g =
    g ∙ ap (λ (xs : List VarInfo). xs ++ map (variable_info false) (body_locals b)) (f ∙ ap (λ (xs : List VarInfo). xs ++ map (variable_info false) p.results) e)
    ∙ append_assoc (map (variable_info true) p.params) (map (variable_info false) p.results) (map (variable_info false) (body_locals b))

-- the numbered names are those of the locals
pub names_of_locals : (p : Procedure) (b : Option ProcedureBody) → texts (variable_names p b) ≡ info_names (declared_locals p b)
names_of_locals p b = sym (local_texts p b)

-- ---- the first of the locals

-- the names of the first are the first of the names
names_first : (k : ℕ) (ns : List (List ℕ)) (vs : List VarInfo) → ns ≡ info_names vs → take k ns ≡ info_names (take k vs)
names_first k ns vs e = ap (take k) e ∙ take-map (λ v. v.name) k vs

-- the names of the first locals are the first of the names
pub first_seen : (k : ℕ) (ns : List (List ℕ)) (vs : List VarInfo) → ns ≡ info_names vs → k ≤ length vs → take (length (take k vs)) ns ≡ info_names (take k vs)
first_seen k ns vs e l = ap (λ (n : ℕ). take n ns) (length-take-le k vs l) ∙ names_first k ns vs e
