-- Declarations that are no sets, or implementations of nothing.
use Rattle.std.proofs.Common.{◌≡◌, Bool, false, ◌&&◌, is_none, List, map, None, Some, Contains, bytes_eq, ap, ◌∙◌}
use Rattle.std.specs.List.{list_all}
use Rattle.std.proofs.lemmas.Bool.{and_left, and_right}
use Rattle.boogie_tree.specs.declared.tree.Name.{Name}
use Rattle.boogie_tree.specs.Tree.{Procedure, Declaration}
use Rattle.typed_tree.specs.TypingRules.Rules.{meets}
use Rattle.boogie_types.specs.Sorted.{global_names, procedures_of, implementations_of, first_named, body_of, variable_names, labels_if_any}
use Rattle.boogie_types.specs.Resolved.{is_set, has_sets, are_sets, repeats, implements, are_implementations}
use Rattle.boogie_types.specs.BrokenNames.{IsSecond}
use Rattle.boogie_types.proofs.Differ.{all_differ_repeat}
use Rattle.boogie_types.proofs.NameLaws.{bytes_eq_turns}
use Rattle.boogie_types.proofs.ExcludedLists.{any_of_member, all_of_member}

pub second_is_no_set : (xs : List Name) (x : Name) → IsSecond xs x → is_set xs ≡ false
second_is_no_set xs x (before, after, y, split, c, same) =
    ap is_set split
    ∙ all_differ_repeat (λ (v w : Name). bytes_eq v.text w.text) (λ (v w : Name). bytes_eq_turns v.text w.text) before x after
    (any_of_member (λ (w : Name). bytes_eq x.text w.text) before y c same)

-- ---- sets

module _ (ds : List Declaration) where
  abbrev names_of_procedures : List Name
  names_of_procedures = map (λ p. p.name) (procedures_of ds)

  abbrev sets_of : Procedure → Bool
  sets_of p = has_sets p (body_of ds p)

  pub second_global_breaks : (x : Name) → IsSecond (global_names ds) x → are_sets ds ≡ false
  second_global_breaks x h =
      and_left (is_set (global_names ds)) (is_set names_of_procedures && list_all sets_of (procedures_of ds)) (second_is_no_set (global_names ds) x h)

  pub second_procedure_breaks : (x : Name) → IsSecond (map (λ p. p.name) (procedures_of ds)) x → are_sets ds ≡ false
  second_procedure_breaks x h =
      and_right (is_set (global_names ds)) (is_set names_of_procedures && list_all sets_of (procedures_of ds))
      (and_left (is_set names_of_procedures) (list_all sets_of (procedures_of ds)) (second_is_no_set names_of_procedures x h))

  procedure_without_sets : (p : Procedure) → Contains (procedures_of ds) p → has_sets p (body_of ds p) ≡ false → are_sets ds ≡ false
  procedure_without_sets p c h =
      and_right (is_set (global_names ds)) (is_set names_of_procedures && list_all sets_of (procedures_of ds))
      (and_right (is_set names_of_procedures) (list_all sets_of (procedures_of ds)) (all_of_member sets_of (procedures_of ds) p c h))

  pub second_variable_breaks : (p : Procedure) (x : Name) → Contains (procedures_of ds) p → IsSecond (variable_names p (body_of ds p)) x → are_sets ds ≡ false
  second_variable_breaks p x c h =
      procedure_without_sets p c
      (and_left (is_set (variable_names p (body_of ds p))) (is_set (labels_if_any (body_of ds p))) (second_is_no_set (variable_names p (body_of ds p)) x h))

  pub second_label_breaks : (p : Procedure) (x : Name) → Contains (procedures_of ds) p → IsSecond (labels_if_any (body_of ds p)) x → are_sets ds ≡ false
  second_label_breaks p x c h =
      procedure_without_sets p c
      (and_right (is_set (variable_names p (body_of ds p))) (is_set (labels_if_any (body_of ds p))) (second_is_no_set (labels_if_any (body_of ds p)) x h))

  -- ---- implementations

  abbrev names_of_implementations : List Name
  names_of_implementations = map (λ i. i.name) (implementations_of ds)

  abbrev is_implementation : Procedure → Bool
  is_implementation i = meets (implements i) (first_named i.name.text (procedures_of ds))

  pub second_implementation_breaks : (x : Name) → IsSecond (map (λ i. i.name) (implementations_of ds)) x → are_implementations ds ≡ false
  second_implementation_breaks x h =
      and_left (is_set names_of_implementations) (list_all is_implementation (implementations_of ds)) (second_is_no_set names_of_implementations x h)

  no_implementation : (i : Procedure) → Contains (implementations_of ds) i → is_implementation i ≡ false → are_implementations ds ≡ false
  no_implementation i c h =
      and_right (is_set names_of_implementations) (list_all is_implementation (implementations_of ds))
      (all_of_member is_implementation (implementations_of ds) i c h)

  pub unknown_implemented_breaks : (i : Procedure) → Contains (implementations_of ds) i → first_named i.name.text (procedures_of ds) ≡ None → are_implementations ds ≡ false
  unknown_implemented_breaks i c e = no_implementation i c (ap (meets (implements i)) e)

  pub second_body_breaks : (i p : Procedure) → Contains (implementations_of ds) i → first_named i.name.text (procedures_of ds) ≡ Some p → is_none p.body ≡ false →
      are_implementations ds ≡ false
  second_body_breaks i p c e h = no_implementation i c (ap (meets (implements i)) e ∙ and_left (is_none p.body) (repeats i p) h)

  pub not_repeated_breaks : (i p : Procedure) → Contains (implementations_of ds) i → first_named i.name.text (procedures_of ds) ≡ Some p → repeats i p ≡ false →
      are_implementations ds ≡ false
  not_repeated_breaks i p c e h = no_implementation i c (ap (meets (implements i)) e ∙ and_right (is_none p.body) (repeats i p) h)
