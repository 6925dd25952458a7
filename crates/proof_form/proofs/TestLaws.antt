-- Loops that test each member of a list.
use Rattle.std.proofs.Common.{◌≡◌, ℕ, ◌+◌, ◌<◌, ◌≤◌, Bool, true, false, ◌&&◌, List, length, map, drop, get_or, sym, ap, ◌∙◌}
use Rattle.std.specs.List.{list_all}
use Rattle.std.proofs.lemmas.List.{drop_more, drop_all}

module _ {C X : Type 0} (view : C → X) (test : X → Bool) (xs : List C) (i : ℕ) (whole : Bool) where
  next : (x : C) → i < length xs → x ≡ get_or xs i x → list_all test (map view (drop i xs)) ≡ (test (view x) && list_all test (map view (drop (i + 1) xs)))
  next x l e = ap (λ ys. list_all test (map view ys)) (drop_more xs i x l) ∙ ap (λ y. test (view y) && list_all test (map view (drop (i + 1) xs))) (sym e)

  -- one member fails
  pub one_fails : (x : C) → i < length xs → x ≡ get_or xs i x → false ≡ test (view x) → list_all test (map view (drop i xs)) ≡ whole → false ≡ whole
  one_fails x l e f h = ap (λ b. b && list_all test (map view (drop (i + 1) xs))) f ∙ sym (next x l e) ∙ h

  -- one member more passes
  pub one_passes : (x : C) → i < length xs → x ≡ get_or xs i x → true ≡ test (view x) → list_all test (map view (drop i xs)) ≡ whole → list_all test (map view (drop (i + 1) xs)) ≡ whole
  one_passes x l e f h = ap (λ b. b && list_all test (map view (drop (i + 1) xs))) f ∙ sym (next x l e) ∙ h

  -- all have passed
  pub all_passed : length xs ≤ i → list_all test (map view (drop i xs)) ≡ whole → true ≡ whole
  all_passed l h = sym (ap (λ ys. list_all test (map view ys)) (drop_all i xs l)) ∙ h
