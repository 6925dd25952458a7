-- A procedure with a name that means nothing is not named.
use Rattle.std.proofs.Common.{◌≡◌, ℕ, true, List, [], ◌∷◌, map, Option, None, Some, ⊎_elim, Contains, ap, ◌∙◌}
use Rattle.boogie_tree.specs.declared.tree.Name.{Name}
use Rattle.boogie_tree.specs.Tree.{Invariant, Specification, Requires, Ensures, Modifies, Procedure, Declaration}
use Rattle.typed_tree.specs.declared.fault.TypeFault.{TypeFault}
use Rattle.typed_tree.specs.TypedTree as typed
use Rattle.typed_tree.specs.TypedTree.{TypedInvariant, TypedBlock, TypedSpecification, TypedProcedure}
use Rattle.typed_tree.specs.Scope.{requires_scope, body_scope}
use Rattle.boogie_types.specs.Meanings.{number_from, variable_info}
use Rattle.boogie_types.specs.Sorted.{declared_globals, body_of, declared_locals, modified_in, firsts}
use Rattle.boogie_types.specs.Naming.{each, from_both, named_invariant, named_block}
use Rattle.boogie_types.specs.Resolved.{body_place, named_specifications, unless_constant, modified_number, named_modifies, named_body, procedure_of, named_procedure}
use Rattle.boogie_types.specs.BrokenNames.{IsProcedureMisnamed, unknown_modified, constant_modified, required, ensured, in_body}
use Rattle.boogie_types.proofs.ExcludedLists.{option_map_none, and_then_none, and_then_nothing, both_left_none, both_right_none, no_member, member_cases, each_none}
use Rattle.boogie_types.proofs.ExcludedNames.{invariant_is_unnamed}
use Rattle.boogie_types.proofs.ExcludedStatements.{misnamed_block_is_unnamed}

-- ---- specifications

abbrev with_requires : TypedInvariant → List TypedSpecification → List TypedSpecification
with_requires t ts = typed.Requires t ∷ ts

abbrev with_ensures : TypedInvariant → List TypedSpecification → List TypedSpecification
with_ensures t ts = typed.Ensures t ∷ ts

module _ (ds : List Declaration) (p : Procedure) where
  -- the specifications behind one are not named
  behind : (s : Specification) (ss : List Specification) → named_specifications ds p ss ≡ None → named_specifications ds p (s ∷ ss) ≡ None
  behind (Requires i) ss h =
      both_right_none with_requires (named_invariant (requires_scope (declared_globals ds) (map (variable_info true) p.params)) i) (named_specifications ds p ss) h
  behind (Ensures i) ss h = both_right_none with_ensures (named_invariant (body_scope (declared_globals ds) (declared_locals p None)) i) (named_specifications ds p ss) h
  behind (Modifies xs) ss h = h

  -- one of them is not named, whatever stands behind it
  specification_lost : (s : Specification) → ((ss : List Specification) → named_specifications ds p (s ∷ ss) ≡ None) →
      (ss : List Specification) → Contains ss s → named_specifications ds p ss ≡ None
  specification_lost s h [] c = no_member s c
  specification_lost s h (r ∷ ss) c =
      ⊎_elim
      (λ (e : r ≡ s). ap (λ (q : Specification). named_specifications ds p (q ∷ ss)) e ∙ h ss)
      (λ (d : Contains ss s). behind r ss (specification_lost s h ss d))
      (member_cases r ss s c)

  requires_lost : (i : Invariant) → named_invariant (requires_scope (declared_globals ds) (map (variable_info true) p.params)) i ≡ None → Contains p.specs (Requires i) →
      named_specifications ds p p.specs ≡ None
  requires_lost i h c =
      specification_lost (Requires i)
      (λ ss. both_left_none with_requires (named_invariant (requires_scope (declared_globals ds) (map (variable_info true) p.params)) i) (named_specifications ds p ss) h) p.specs c

  ensures_lost : (i : Invariant) → named_invariant (body_scope (declared_globals ds) (declared_locals p None)) i ≡ None → Contains p.specs (Ensures i) →
      named_specifications ds p p.specs ≡ None
  ensures_lost i h c =
      specification_lost (Ensures i)
      (λ ss. both_left_none with_ensures (named_invariant (body_scope (declared_globals ds) (declared_locals p None)) i) (named_specifications ds p ss) h) p.specs c

  -- ---- the procedure

  -- it, with these modified globals
  abbrev modifying : List ℕ → Option TypedProcedure
  modifying modifies = from_both (procedure_of ds p modifies) (named_specifications ds p p.specs) (named_body ds p (body_of ds p))

  pub modified_lost : (x : Name) → Contains (modified_in p.specs) x → modified_number (declared_globals ds) x.text ≡ None → named_procedure ds p ≡ None
  modified_lost x c h =
      and_then_none modifying (named_modifies ds p)
      (option_map_none (firsts []) (each (λ (y : Name). modified_number (declared_globals ds) y.text) (modified_in p.specs))
      (each_none (λ (y : Name). modified_number (declared_globals ds) y.text) (modified_in p.specs) x c h))

  pub specifications_lost : named_specifications ds p p.specs ≡ None → named_procedure ds p ≡ None
  specifications_lost h =
      and_then_nothing modifying (named_modifies ds p)
      (λ modifies. both_left_none (procedure_of ds p modifies) (named_specifications ds p p.specs) (named_body ds p (body_of ds p)) h)

  pub body_lost : named_body ds p (body_of ds p) ≡ None → named_procedure ds p ≡ None
  body_lost h =
      and_then_nothing modifying (named_modifies ds p)
      (λ modifies. both_right_none (procedure_of ds p modifies) (named_specifications ds p p.specs) (named_body ds p (body_of ds p)) h)

pub procedure_misnamed_is_unnamed : (ds : List Declaration) (p : Procedure) (f : TypeFault) → IsProcedureMisnamed ds p f → named_procedure ds p ≡ None
procedure_misnamed_is_unnamed ds p f (unknown_modified x c h) =
    modified_lost ds p x c (and_then_none (unless_constant (declared_globals ds)) (number_from 0 x.text (declared_globals ds)) h)
procedure_misnamed_is_unnamed ds p f (constant_modified x n c e h) = modified_lost ds p x c h
procedure_misnamed_is_unnamed ds p f (required i g c h) =
    specifications_lost ds p (requires_lost ds p i (invariant_is_unnamed (requires_scope (declared_globals ds) (map (variable_info true) p.params)) i g h) c)
procedure_misnamed_is_unnamed ds p f (ensured i g c h) =
    specifications_lost ds p (ensures_lost ds p i (invariant_is_unnamed (body_scope (declared_globals ds) (declared_locals p None)) i g h) c)
procedure_misnamed_is_unnamed ds p f (in_body b g e h) =
    body_lost ds p
    (ap (named_body ds p) e
    ∙ option_map_none (λ (c : TypedBlock). Some c) (named_block (body_place ds p b) None 0 b.stmts) (misnamed_block_is_unnamed (body_place ds p b) None b.stmts g 0 h))
