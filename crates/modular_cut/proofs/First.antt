-- The earliest place, found member by member.
use Rattle.std.proofs.Common.{◌≡◌, ℕ, ◌+◌, ◌<◌, ◌≤◌, List, [], ◌∷◌, ◌++◌, length, drop, get_or, Option, refl, ap, sym, ◌∙◌}
use Rattle.std.proofs.lemmas.List.{at_drop_more, at_drop_all}
use Rattle.boogie_tree.specs.declared.span.Span.{Span}
use Rattle.modular_cut.specs.Ties.Earliest.{earlier, earliest}

pub earliest_append : (o : Option Span) (xs ys : List Span) → earliest o (xs ++ ys) ≡ earliest (earliest o xs) ys
earliest_append o [] ys = refl
earliest_append o (x ∷ xs) ys = earliest_append (earlier o x) xs ys

-- one member more, where those of a list are those of its first member and of the rest
pub found_more : {X : Type 0} (f : X → List Span) (g : List X → List Span) → ((x : X) (xs : List X) → g (x ∷ xs) ≡ f x ++ g xs) → (xs : List X) (i : ℕ) (x : X) (o new w : Option Span) →
    i < length xs → x ≡ get_or xs i x → new ≡ earliest o (f x) → earliest o (g (drop i xs)) ≡ w → earliest new (g (drop (i + 1) xs)) ≡ w
found_more f g cons xs i x o new w l is n so_far =
    ap (λ (s : Option Span). earliest s (g (drop (i + 1) xs))) n
    ∙ sym (earliest_append o (f x) (g (drop (i + 1) xs)))
    ∙ ap (λ y. earliest o (f y ++ g (drop (i + 1) xs))) is
    ∙ ap (earliest o) (sym (cons (get_or xs i x) (drop (i + 1) xs)))
    ∙ sym (at_drop_more (λ (ys : List _). earliest o (g ys)) xs i x l)
    ∙ so_far

-- none is left
pub found_end : {X : Type 0} (g : List X → List Span) → g [] ≡ [] → (xs : List X) (i : ℕ) (o w : Option Span) → length xs ≤ i → earliest o (g (drop i xs)) ≡ w → o ≡ w
found_end g none xs i o w l so_far = sym (ap (earliest o) none) ∙ sym (at_drop_all (λ (ys : List _). earliest o (g ys)) xs i l) ∙ so_far
