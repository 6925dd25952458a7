-- Keys stand for acts where a key and its act are added.
use Rattle.std.proofs.Common.{◌≡◌, ◌∙◌, Bool, true, false, not, List, [], ◌∷◌, ◌++◌, map, sym, ap, if◌then◌else◌}
use Rattle.std.proofs.lemmas.Bool.{false≢true}
use Rattle.std.proofs.lemmas.List.{map-append}
use Rattle.letter_acts.specs.declared.acts.Act.{Act}
use Rattle.letter_acts.specs.declared.letter_table.keys.MarkedKey.{MarkedKey}
use Rattle.letter_acts.specs.LetterTable.Letters.{marked_act, marked_acts}
use Rattle.letter_acts.specs.LetterTable.Ties.Keys.{marked_key}

behind : (old : List MarkedKey) (k : MarkedKey) (there : Bool) → true ≡ not there → (if there then old else old ++ k ∷ []) ≡ old ++ k ∷ []
behind old k true e = absurd (false≢true (sym e))
behind old k false e = λ j. old ++ k ∷ []

before : (old : List MarkedKey) (k : MarkedKey) (there : Bool) → false ≡ not there → (if there then old else old ++ k ∷ []) ≡ old
before old k true e = λ j. old
before old k false e = absurd (false≢true e)

-- a key that is new
pub key_added : (old new : List MarkedKey) (k : MarkedKey) (was reserved now : List Act) (a : Act) (is_new there : Bool) → map marked_key old ≡ marked_acts was → marked_key k ≡ marked_act a →
    reserved ≡ was → now ≡ reserved ++ a ∷ [] → new ≡ (if there then old else old ++ k ∷ []) → is_new ≡ not there → is_new ≡ true → map marked_key new ≡ marked_acts now
key_added old new k was reserved now a is_new there i e r p n t w =
    ap (map marked_key) (n ∙ behind old k there (sym w ∙ t)) ∙ map-append marked_key old (k ∷ []) ∙ (λ j. i j ++ e j ∷ []) ∙ sym (map-append marked_act was (a ∷ []))
    ∙ (λ j. marked_acts (sym r j ++ a ∷ [])) ∙ sym (ap marked_acts p)

-- a key that was there
pub key_there : (old new : List MarkedKey) (k : MarkedKey) (was reserved : List Act) (is_new there : Bool) → map marked_key old ≡ marked_acts was →
    reserved ≡ was → new ≡ (if there then old else old ++ k ∷ []) → is_new ≡ not there → is_new ≡ false → map marked_key new ≡ marked_acts reserved
key_there old new k was reserved is_new there i r n t w = ap (map marked_key) (n ∙ before old k there (sym w ∙ t)) ∙ i ∙ sym (ap marked_acts r)
