-- A loop that writes one text after another.
use Rattle.std.proofs.Common.{◌≡◌, ℕ, ◌+◌, ◌<◌, ◌≤◌, List, length, ◌++◌, drop, get_or, sym, ap, ◌∙◌, append_assoc}
use Rattle.std.specs.List.{flat_map}
use Rattle.std.proofs.lemmas.List.{append-nil, drop_more, drop_all}

module _ {C : Type 0} (text : C → List ℕ) where
  -- what is written, and the texts of all from the place i on
  abbrev pub with_rest : List ℕ → List C → ℕ → List ℕ
  with_rest new xs i = new ++ flat_map text (drop i xs)

  -- one more is written
  pub one_written : (xs : List C) (i : ℕ) (x : C) (new more all : List ℕ) → i < length xs → x ≡ get_or xs i x → more ≡ new ++ text x → with_rest new xs i ≡ all → with_rest more xs (i + 1) ≡ all
  one_written xs i x new more all l e w h =
      let next : flat_map text (drop i xs) ≡ text x ++ flat_map text (drop (i + 1) xs) =
      ap (λ ys. flat_map text ys) (drop_more xs i x l) ∙ ap (λ y. text y ++ flat_map text (drop (i + 1) xs)) (sym e) in
      ap (λ t. t ++ flat_map text (drop (i + 1) xs)) w ∙ append_assoc new (text x) (flat_map text (drop (i + 1) xs)) ∙ ap (λ t. new ++ t) (sym next) ∙ h

  -- all are written
  pub all_written : (xs : List C) (i : ℕ) (new all : List ℕ) → length xs ≤ i → with_rest new xs i ≡ all → new ≡ all
  all_written xs i new all l h = sym (append-nil new) ∙ ap (λ ys. new ++ flat_map text ys) (sym (drop_all i xs l)) ∙ h
