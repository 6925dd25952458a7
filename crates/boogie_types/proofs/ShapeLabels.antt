-- The number of a member of a list without repetition is its place, so the labels of a body count up from 0.
use Rattle.std.proofs.Common.{◌≡◌, ℕ, ◌+◌, true, false, nat_eq, List, [], ◌∷◌, map, Option, Some, bytes_eq, refl, sym, ◌∙◌, subst, eq-eqb}
use Rattle.std.specs.List.{position_from}
use Rattle.std.proofs.lemmas.Bool.{and_from, cond-true, cond-false}
use Rattle.std.proofs.lemmas.Option.{same_Some}
use Rattle.std.proofs.lemmas.Slice.Eq.{bytes_eq-Decides}
use Rattle.boogie_tree.specs.declared.tree.Name.{Name}
use Rattle.typed_tree.specs.TypingRules.Shape.{counts_from}
use Rattle.boogie_types.specs.Resolved.{is_set}
use Rattle.boogie_types.specs.Naming.{each}
use Rattle.boogie_types.proofs.Differ.{all_differ-head}
use Rattle.boogie_types.proofs.NameLaws.{bytes_eq_turns}
use Rattle.boogie_types.proofs.ShapeLists.{each_parts, each_apart}

-- the number of a name in a list, counted from i
abbrev pub number_in : ℕ → List Name → Name → Option ℕ
number_in i xs x = position_from (bytes_eq x.text) i (map (λ y. y.text) xs)

first_number : (i : ℕ) (x : Name) (xs : List Name) → number_in i (x ∷ xs) x ≡ Some i
first_number i x xs = cond-true (bytes_eq x.text x.text) (Some i) (number_in (i + 1) xs x) ((bytes_eq-Decides x.text x.text).1 refl)

later_number : (i : ℕ) (x : Name) (xs : List Name) (y : Name) → bytes_eq x.text y.text ≡ false → number_in i (x ∷ xs) y ≡ number_in (i + 1) xs y
later_number i x xs y n = cond-false (bytes_eq y.text x.text) (Some i) (number_in (i + 1) xs y) (bytes_eq_turns y.text x.text ∙ n)

pub numbers_count : (i : ℕ) (xs : List Name) (ns : List ℕ) → is_set xs ≡ true → each (number_in i xs) xs ≡ Some ns → counts_from i ns ≡ true
numbers_count i [] ns d e = let f : ns ≡ [] = cc in rw f refl
numbers_count i (x ∷ xs) ns d e =
    let p = each_parts (number_in i (x ∷ xs)) x xs ns e in
    let h = all_differ-head (λ (y z : Name). bytes_eq y.text z.text) x xs d in
    let n : i ≡ p.0 = same_Some i p.0 (sym (first_number i x xs) ∙ p.2) in
    let r : each (number_in (i + 1) xs) xs ≡ Some p.1 =
    sym (each_apart (number_in i (x ∷ xs)) (number_in (i + 1) xs) (λ (y : Name). bytes_eq x.text y.text) (later_number i x xs) xs h.0) ∙ p.3 in
    subst (λ (ms : List ℕ). counts_from i ms ≡ true) (sym p.4)
    (and_from (nat_eq i p.0) (counts_from (i + 1) p.1) (eq-eqb i p.0 n) (numbers_count (i + 1) xs p.1 h.1 r))
