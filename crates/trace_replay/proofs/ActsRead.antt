-- The act of a letter, by its number among the acts.
use Rattle.std.proofs.Common.{◌≡◌, ◌∙◌, ℕ, ◌<◌, ◌≤◌, Bool, true, false, List, length, get_or, None, Some, inl, inr, refl, sym, ap, arith}
use Rattle.std.specs.Prelude.{slice_get, if◌then◌else◌}
use Rattle.std.specs.Option.{option_map}
use Rattle.std.proofs.lemmas.Option.{slice_get-map, slice_get_read, slice_get_cases}
use Rattle.nwa_base.specs.declared.letters.Letter.{Letter}
use Rattle.nwa_base.specs.Letters.{same_letter}
use Rattle.letter_acts.specs.declared.acts.Act.{Act}
use Rattle.letter_acts.specs.Acts.{PlainAct, plain_act, plain_acts, letter_of, named_act}

read_at : (acts : List Act) (plain : List PlainAct) (n : ℕ) (act : Act) → plain_acts acts ≡ plain → n < length acts → act ≡ get_or acts n act → slice_get plain n ≡ Some (plain_act act)
read_at acts plain n act e l is =
    ap (λ (xs : List PlainAct). slice_get xs n) (sym e) ∙ slice_get-map plain_act acts n ∙ ap (option_map plain_act) (slice_get_read acts (length acts) n act refl l is)

-- it makes the letter
pub act_is_named : (acts : List Act) (plain : List PlainAct) (a : Letter) (act : Act) → plain_acts acts ≡ plain → a.id < length acts → act ≡ get_or acts a.id act → same_letter a (letter_of a.id (plain_act act)) ≡ true → Some (plain_act act) ≡ named_act a (slice_get plain a.id)
act_is_named acts plain a act e l is same =
    sym (ap (named_act a) (read_at acts plain a.id act e l is) ∙ ap (λ (b : Bool). if b then Some (plain_act act) else None) same)

-- it makes another one
pub act_is_another : (acts : List Act) (plain : List PlainAct) (a : Letter) (act : Act) → plain_acts acts ≡ plain → a.id < length acts → act ≡ get_or acts a.id act → same_letter a (letter_of a.id (plain_act act)) ≡ false → None ≡ named_act a (slice_get plain a.id)
act_is_another acts plain a act e l is same =
    sym (ap (named_act a) (read_at acts plain a.id act e l is) ∙ ap (λ (b : Bool). if b then Some (plain_act act) else None) same)

-- none has that number
pub no_act : (acts : List Act) (plain : List PlainAct) (a : Letter) → plain_acts acts ≡ plain → length acts ≤ a.id → None ≡ named_act a (slice_get plain a.id)
no_act acts plain a e l = elim (slice_get_cases acts a.id).1 [
  | inl h ↦ absurd (omega (arith, h.1, l))
  | inr h ↦ sym (ap (λ (xs : List PlainAct). named_act a (slice_get xs a.id)) (sym e) ∙ ap (named_act a) (slice_get-map plain_act acts a.id ∙ ap (option_map plain_act) h.1))
]
