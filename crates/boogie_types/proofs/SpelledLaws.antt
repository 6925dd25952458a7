-- Texts of letters are names.
use Rattle.std.proofs.Common.{◌≡◌, ℕ, Bool, true, false, not, ◌||◌, nat_eq, length, List, [], ◌∷◌, refl, ap, sym, ◌∙◌, subst, arith}
use Rattle.std.specs.List.{list_all}
use Rattle.std.proofs.lemmas.Bool.{and_parts, and_from, or_left, false≢true}
use Rattle.std.proofs.lemmas.Bool.Decides.{nat_tests}
use Rattle.boogie_tree.specs.Names.{is_digit, is_letter, is_name_mark, is_name_byte, is_name}
use Rattle.boogie_types.proofs.ShapeLists.{all_weaker}

no_digit : (b : ℕ) → is_letter b ≡ true → not (is_digit b) ≡ true
no_digit b h = grind (arith, nat_tests)

name_byte : (b : ℕ) → is_letter b ≡ true → is_name_byte b ≡ true
name_byte b h = or_left (is_letter b || is_digit b) (is_name_mark b) (or_left (is_letter b) (is_digit b) h)

pub letters_spell : (bs : List ℕ) → (bs ≡ [] → ⊥) → list_all is_letter bs ≡ true → is_name bs ≡ true
letters_spell [] n h = absurd (n refl)
letters_spell (b ∷ bs) n h =
    and_from (not (is_digit b)) (list_all is_name_byte (b ∷ bs)) (no_digit b (and_parts (is_letter b) (list_all is_letter bs) h).0)
    (all_weaker is_letter is_name_byte name_byte (b ∷ bs) h)

-- the same of what a list that is not empty says of its length
pub text_spells : (bs t : List ℕ) (empty all : Bool) → bs ≡ t → empty ≡ nat_eq (length bs) 0 → empty ≡ false → all ≡ list_all is_letter bs → all ≡ true → is_name t ≡ true
text_spells bs t empty all e h n a l =
    subst (λ (u : List ℕ). is_name u ≡ true) e (letters_spell bs (λ m. false≢true (sym n ∙ h ∙ ap (λ (u : List ℕ). nat_eq (length u) 0) m)) (sym a ∙ l))
