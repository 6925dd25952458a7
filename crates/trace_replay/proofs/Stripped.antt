-- What stands after a text, by what `strip_prefix` says.
use Rattle.std.proofs.Common.{◌≡◌, ◌≢◌, ℕ, ◌+◌, true, false, List, ◌++◌, length, take, drop, refl, sym, ap, ◌∙◌}
use Rattle.std.specs.Str.{bytes_eq}
use Rattle.std.proofs.lemmas.Bool.{both_ways}
use Rattle.std.proofs.lemmas.List.{take-append-drop, take_at}
use Rattle.std.proofs.lemmas.Slice.Eq.{bytes_eq-Decides}

-- it is stripped of the text
pub stripped : (text bs rest : List ℕ) → (bytes_eq (take (length text) bs) text ≡ true) × (rest ≡ drop (length text) bs) × (length rest + length text ≡ length bs) → bs ≡ text ++ rest
stripped text bs rest h =
    sym (take-append-drop (length text) bs) ∙ ap (λ front. front ++ drop (length text) bs) ((bytes_eq-Decides (take (length text) bs) text).0 h.0) ∙ ap (λ r. text ++ r) (sym h.1)

-- the text does not stand in front
pub not_in_front : (text bs : List ℕ) → bytes_eq (take (length text) bs) text ≡ false → (rest : List ℕ) → bs ≢ text ++ rest
not_in_front text bs h rest e =
    both_ways (bytes_eq (take (length text) bs) text) h ((bytes_eq-Decides (take (length text) bs) text).1 (ap (take (length text)) e ∙ take_at text rest (length text) refl))
