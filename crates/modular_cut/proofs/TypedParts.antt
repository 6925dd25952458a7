-- A part keeps the typing rules.
use Rattle.std.proofs.Common.{◌≡◌, ℕ, zero, suc, Bool, true, false, ◌&&◌, ◌||◌, List, [], ◌∷◌, ◌++◌, map, Option, None, Some, slice_get, refl, sym, ap, ◌∙◌, Decides}
use Rattle.std.specs.List.{list_all, list_any}
use Rattle.std.specs.Str.{bytes_eq}
use Rattle.std.specs.Prelude.{codes}
use Rattle.std.specs.Option.{option_map}
use Rattle.std.proofs.lemmas.Bool.{and_parts, and_from, or_right, false≢true}
use Rattle.std.proofs.lemmas.List.{map-append}
use Rattle.std.proofs.lemmas.List.Folds.{list_all-append}
use Rattle.std.proofs.lemmas.Slice.Eq.{bytes_eq-Decides}
use Rattle.boogie_tree.specs.Names.{is_name, is_spelled, are_digits}
use Rattle.boogie_tree.specs.declared.tree.VarInfo.{VarInfo}
use Rattle.typed_tree.specs.TypedTree.{TypedBlock, TypedProcedure, TypedProgram}
use Rattle.typed_tree.specs.Scope.{axiom_scope, body_scope}
use Rattle.typed_tree.specs.TypingRules.Rules.{all_differ, meets, is_condition, is_body_if_any, is_specification, context_of, procedure_keeps_rules, keeps_typing, own_labels, is_block}
use Rattle.typed_tree.specs.TypingRules.Shape.{counts_from, block_labels, is_shaped_block, is_body_shaped, are_modified, are_names, are_locals, is_procedure_shaped, has_shape}
use Rattle.typed_tree.specs.TypingRules.ValidProgram.{has_body, has_entry, is_typed}
use Rattle.typed_tree.proofs.TypingRules.Differ.{all_differ_push}
use Rattle.modular_cut.specs.Parts.{recalled_block, without_body, copy_of, own_procedure, cut_procs, procedure_part}
use Rattle.modular_cut.specs.Laws.{PartsAreTyped}
use Rattle.modular_cut.proofs.Called.{Renumbers, calls, part_procs, procs_are, own_is, renumbered, cut_all, cut_names}
use Rattle.modular_cut.proofs.TypedStatements.{own_labels_stay, block_labels_stay, block_kept, block_shaped}

-- ---- the name of the copy

bytes_eq_turns : (a b : List ℕ) → bytes_eq a b ≡ bytes_eq b a
bytes_eq_turns a b = by_test (bytes_eq a b) (bytes_eq b a) (bytes_eq-Decides a b) (bytes_eq-Decides b a)
  where
    by_test : (x y : Bool) → Decides x (a ≡ b) → Decides y (b ≡ a) → x ≡ y
    by_test true y d e = sym (e.1 (sym (d.0 refl)))
    by_test false true d e = d.1 (sym (e.0 refl))
    by_test false false d e = refl

-- it is no name of the language
no_name : (name : List ℕ) → is_name (codes "m:" ++ name) ≡ false
no_name name = refl

other_name : (x name : List ℕ) → is_name x ≡ true → bytes_eq (codes "m:" ++ name) x ≡ false
other_name x name h = by_test (bytes_eq (codes "m:" ++ name) x) (bytes_eq-Decides (codes "m:" ++ name) x)
  where
    by_test : (b : Bool) → Decides b (codes "m:" ++ name ≡ x) → b ≡ false
    by_test true d = absurd (false≢true (sym (no_name name) ∙ ap is_name (d.0 refl) ∙ h))
    by_test false d = refl

none_same : (name : List ℕ) (ps : List TypedProcedure) → list_all (λ p. is_name p.name) ps ≡ true → list_any (bytes_eq (codes "m:" ++ name)) (map (λ p. p.name) ps) ≡ false
none_same name [] h = refl
none_same name (p ∷ ps) h =
    let both = and_parts (is_name p.name) (list_all (λ q. is_name q.name) ps) h in
    λ i. other_name p.name name both.0 i || none_same name ps both.1 i

made_name : (name : List ℕ) → is_name name ≡ true → is_spelled (codes "m:" ++ name) ≡ true
made_name name h = or_right (are_digits name) (is_name name) h

name_of : (ps : List TypedProcedure) (n : ℕ) (q : TypedProcedure) → list_all (λ p. is_name p.name) ps ≡ true → slice_get ps n ≡ Some q → is_name q.name ≡ true
name_of [] n q h e = absurd (cc)
name_of (p ∷ ps) zero q h e = let same : p ≡ q = cc in sym (ap (λ (x : TypedProcedure). is_name x.name) same) ∙ (and_parts (is_name p.name) (list_all (λ x. is_name x.name) ps) h).0
name_of (p ∷ ps) (suc n) q h e = name_of ps n q (and_parts (is_name p.name) (list_all (λ x. is_name x.name) ps) h).1 e

-- ---- each procedure

module _ (procs parts : List TypedProcedure) (r : ℕ → ℕ) (found : Renumbers procs parts r) (globals : List VarInfo) where
  -- the rules and the shape at once, since the shape of a call is told by what it calls
  abbrev is_kept : List TypedProcedure → TypedProcedure → Bool
  is_kept ps p = procedure_keeps_rules globals ps p && is_procedure_shaped globals ps p

  bare_kept : (p : TypedProcedure) → is_kept procs p ≡ true → is_kept parts (without_body p) ≡ true
  bare_kept p h =
      let both = and_parts (procedure_keeps_rules globals procs p) (is_procedure_shaped globals procs p) h in
      let rules = and_parts (list_all (is_specification globals p) p.specs) (is_body_if_any (context_of globals procs p) p.body) both.0 in
      let names = and_parts (are_names (map (λ v. v.name) p.locals)) (are_locals p && (are_modified globals p.modifies && is_body_shaped procs p.body)) both.1 in
      let locals = and_parts (are_locals p) (are_modified globals p.modifies && is_body_shaped procs p.body) names.1 in
      let modified = and_parts (are_modified globals p.modifies) (is_body_shaped procs p.body) locals.1 in
      and_from (procedure_keeps_rules globals parts (without_body p)) (is_procedure_shaped globals parts (without_body p))
      (and_from (list_all (is_specification globals p) p.specs) true rules.0 refl)
      (and_from (are_names (map (λ v. v.name) p.locals)) (are_locals p && (are_modified globals p.modifies && true)) names.0
      (and_from (are_locals p) (are_modified globals p.modifies && true) locals.0 (and_from (are_modified globals p.modifies) true modified.0 refl)))

  body_kept : (p : TypedProcedure) (o : Option TypedBlock) → is_body_if_any (context_of globals procs p) o ≡ true → is_body_if_any (context_of globals parts p) (option_map (recalled_block r) o) ≡ true
  body_kept p None h = refl
  body_kept p (Some b) h =
      ap (λ (ks : List ℕ). is_block (record { scope = body_scope globals p.locals; procs = parts; modifies = p.modifies; labels = ks ++ []; loops = 0 }) (recalled_block r b)) (own_labels_stay r b)
      ∙ block_kept procs parts r found b (body_scope globals p.locals) p.modifies (own_labels b ++ []) 0 h

  body_shaped : (p : TypedProcedure) (o : Option TypedBlock) → is_body_if_any (context_of globals procs p) o ≡ true → is_body_shaped procs o ≡ true → is_body_shaped parts (option_map (recalled_block r) o) ≡ true
  body_shaped p None k h = refl
  body_shaped p (Some b) k h =
      let both = and_parts (counts_from 0 (block_labels b)) (is_shaped_block procs b) h in
      and_from (counts_from 0 (block_labels (recalled_block r b))) (is_shaped_block parts (recalled_block r b))
      (ap (counts_from 0) (block_labels_stay r b) ∙ both.0)
      (block_shaped procs parts r found b (body_scope globals p.locals) p.modifies (own_labels b ++ []) 0 k both.1)

  own_kept : (p : TypedProcedure) → is_kept procs p ≡ true → is_kept parts (own_procedure r p) ≡ true
  own_kept p h =
      let both = and_parts (procedure_keeps_rules globals procs p) (is_procedure_shaped globals procs p) h in
      let rules = and_parts (list_all (is_specification globals p) p.specs) (is_body_if_any (context_of globals procs p) p.body) both.0 in
      let names = and_parts (are_names (map (λ v. v.name) p.locals)) (are_locals p && (are_modified globals p.modifies && is_body_shaped procs p.body)) both.1 in
      let locals = and_parts (are_locals p) (are_modified globals p.modifies && is_body_shaped procs p.body) names.1 in
      let modified = and_parts (are_modified globals p.modifies) (is_body_shaped procs p.body) locals.1 in
      let new : Option TypedBlock = option_map (recalled_block r) p.body in
      and_from (procedure_keeps_rules globals parts (own_procedure r p)) (is_procedure_shaped globals parts (own_procedure r p))
      (and_from (list_all (is_specification globals p) p.specs) (is_body_if_any (context_of globals parts p) new) rules.0 (body_kept p p.body rules.1))
      (and_from (are_names (map (λ v. v.name) p.locals)) (are_locals p && (are_modified globals p.modifies && is_body_shaped parts new)) names.0
      (and_from (are_locals p) (are_modified globals p.modifies && is_body_shaped parts new) locals.0
      (and_from (are_modified globals p.modifies) (is_body_shaped parts new) modified.0 (body_shaped p p.body rules.1 modified.1))))

-- ---- the program

both_all : (a b : TypedProcedure → Bool) (ps : List TypedProcedure) → list_all a ps ≡ true → list_all b ps ≡ true → list_all (λ p. a p && b p) ps ≡ true
both_all a b [] h k = refl
both_all a b (p ∷ ps) h k =
    let x = and_parts (a p) (list_all a ps) h in
    let y = and_parts (b p) (list_all b ps) k in
    and_from (a p && b p) (list_all (λ q. a q && b q) ps) (and_from (a p) (b p) x.0 y.0) (both_all a b ps x.1 y.1)

all_first : (a b : TypedProcedure → Bool) (ps : List TypedProcedure) → list_all (λ p. a p && b p) ps ≡ true → list_all a ps ≡ true
all_first a b [] h = refl
all_first a b (p ∷ ps) h =
    let x = and_parts (a p && b p) (list_all (λ q. a q && b q) ps) h in
    and_from (a p) (list_all a ps) (and_parts (a p) (b p) x.0).0 (all_first a b ps x.1)

all_second : (a b : TypedProcedure → Bool) (ps : List TypedProcedure) → list_all (λ p. a p && b p) ps ≡ true → list_all b ps ≡ true
all_second a b [] h = refl
all_second a b (p ∷ ps) h =
    let x = and_parts (a p && b p) (list_all (λ q. a q && b q) ps) h in
    and_from (b p) (list_all b ps) (and_parts (a p) (b p) x.0).1 (all_second a b ps x.1)

all_at : (a : TypedProcedure → Bool) (ps : List TypedProcedure) (n : ℕ) (q : TypedProcedure) → list_all a ps ≡ true → slice_get ps n ≡ Some q → a q ≡ true
all_at a [] n q h e = absurd (cc)
all_at a (p ∷ ps) zero q h e = let same : p ≡ q = cc in sym (ap a same) ∙ (and_parts (a p) (list_all a ps) h).0
all_at a (p ∷ ps) (suc n) q h e = all_at a ps n q (and_parts (a p) (list_all a ps) h).1 e

names_kept : (t : TypedProgram) (n : ℕ) (q : TypedProcedure) (is : slice_get t.procs n ≡ Some q) → are_names (map (λ p. p.name) t.procs) ≡ true → list_all (λ p. is_name p.name) t.procs ≡ true →
    are_names (map (λ p. p.name) (part_procs t n q is)) ≡ true
names_kept t n q is h plain =
    let ns : List (List ℕ) = map (λ p. p.name) t.procs in
    let m : List ℕ = codes "m:" ++ q.name in
    let r : ℕ → ℕ = calls t n q is in
    let same : map (λ p. p.name) (part_procs t n q is) ≡ ns ++ m ∷ [] =
    map-append (λ p. p.name) (cut_procs r n t.procs) (copy_of q ∷ []) ∙ ap (λ (xs : List (List ℕ)). xs ++ m ∷ []) (cut_names r n t.procs) in
    let both = and_parts (list_all is_spelled ns) (all_differ bytes_eq ns) h in
    let spelled : is_spelled m ≡ true = made_name q.name (name_of t.procs n q plain is) in
    ap are_names same
    ∙ and_from (list_all is_spelled (ns ++ m ∷ [])) (all_differ bytes_eq (ns ++ m ∷ []))
    (list_all-append is_spelled ns (m ∷ []) ∙ and_from (list_all is_spelled ns) (is_spelled m && true) both.0 (and_from (is_spelled m) true spelled refl))
    (all_differ_push bytes_eq bytes_eq_turns ns m both.1 (none_same q.name t.procs plain))

has_own_body : (r : ℕ → ℕ) (o : Option TypedBlock) (b : TypedBlock) → o ≡ Some b → meets (λ x. true) (option_map (recalled_block r) o) ≡ true
has_own_body r o b e = ap (λ (x : Option TypedBlock). meets (λ y. true) (option_map (recalled_block r) x)) e

pub parts_are_typed : PartsAreTyped
parts_are_typed t n q b typed plain is has =
    let r : ℕ → ℕ = calls t n q is in
    let parts : List TypedProcedure = part_procs t n q is in
    let first = and_parts (has_shape t) (keeps_typing t && has_entry t) typed in
    let second = and_parts (keeps_typing t) (has_entry t) first.1 in
    let names = and_parts (are_names (map (λ v. v.name) t.globals)) (are_names (map (λ p. p.name) t.procs) && list_all (is_procedure_shaped t.globals t.procs) t.procs) first.0 in
    let shaped = and_parts (are_names (map (λ p. p.name) t.procs)) (list_all (is_procedure_shaped t.globals t.procs) t.procs) names.1 in
    let rules = and_parts (list_all (is_condition (axiom_scope t.globals)) t.axioms) (list_all (procedure_keeps_rules t.globals t.procs) t.procs) second.0 in
    let each : list_all (λ p. procedure_keeps_rules t.globals t.procs p && is_procedure_shaped t.globals t.procs p) t.procs ≡ true =
    both_all (procedure_keeps_rules t.globals t.procs) (is_procedure_shaped t.globals t.procs) t.procs rules.1 shaped.1 in
    let new : TypedProcedure → Bool = λ p. procedure_keeps_rules t.globals parts p && is_procedure_shaped t.globals parts p in
    let old : TypedProcedure → Bool = λ p. procedure_keeps_rules t.globals t.procs p && is_procedure_shaped t.globals t.procs p in
    let cut : list_all new (cut_procs r n t.procs) ≡ true =
    cut_all r old new (bare_kept t.procs parts r (renumbered t n q is) t.globals) (own_kept t.procs parts r (renumbered t n q is) t.globals) n t.procs each in
    let copied : new (copy_of q) ≡ true = bare_kept t.procs parts r (renumbered t n q is) t.globals q (all_at old t.procs n q each is) in
    let all : list_all new parts ≡ true =
    list_all-append new (cut_procs r n t.procs) (copy_of q ∷ []) ∙ and_from (list_all new (cut_procs r n t.procs)) (new (copy_of q) && true) cut (and_from (new (copy_of q)) true copied refl) in
    let part : TypedProgram = record { globals = t.globals; axioms = t.axioms; procs = parts; entry = n } in
    let same : procedure_part t n ≡ part = ap (λ (ps : List TypedProcedure). record { globals = t.globals; axioms = t.axioms; procs = ps; entry = n }) (procs_are t n q is) in
    let shape : has_shape part ≡ true =
    and_from (are_names (map (λ v. v.name) t.globals)) (are_names (map (λ p. p.name) parts) && list_all (is_procedure_shaped t.globals parts) parts) names.0
    (and_from (are_names (map (λ p. p.name) parts)) (list_all (is_procedure_shaped t.globals parts) parts) (names_kept t n q is shaped.0 plain)
    (all_second (procedure_keeps_rules t.globals parts) (is_procedure_shaped t.globals parts) parts all)) in
    let kept : keeps_typing part ≡ true =
    and_from (list_all (is_condition (axiom_scope t.globals)) t.axioms) (list_all (procedure_keeps_rules t.globals parts) parts) rules.0
    (all_first (procedure_keeps_rules t.globals parts) (is_procedure_shaped t.globals parts) parts all) in
    let entry : has_entry part ≡ true = ap (meets has_body) (own_is t n q is) ∙ has_own_body r q.body b has in
    ap is_typed same ∙ and_from (has_shape part) (keeps_typing part && has_entry part) shape (and_from (keeps_typing part) (has_entry part) kept entry)
