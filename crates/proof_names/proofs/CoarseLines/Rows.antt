-- The definitions at an example: of five letters the third and the last are coarse, and triples name the second, the third, and a return.
use Rattle.std.proofs.Common.{◌≡◌, ℕ, true, false, [], ◌∷◌, None, Some, refl}
use Rattle.letter_acts.specs.Invariant.{Graph}
use Rattle.proof_form.specs.declared.numerals.Numeral.{Numeral}
use Rattle.proof_form.specs.Lines.{inside_triple, call_triple, back_triple}
use Rattle.proof_form.specs.Annotations.{Content}
use Rattle.proof_names.specs.CoarseLines.CoarseLetters.{coarse_letters, first_wrong, first_missing}

abbrev graph : Graph
graph = record {
  automaton = record { states = 0; start = 0; finals = []; insides = []; calls = []; backs = [] };
  acts = [];
  marks = false ∷ (false ∷ (true ∷ (false ∷ (true ∷ []))));
  frames = [];
  names = [];
  place_procs = [];
  entries = [];
  exits = [];
  sites = [];
}

-- the numeral of one digit
abbrev numeral : ℕ → Numeral
numeral code = record { negative = false; digits = code ∷ [] }

-- letters 1, 2, and 3, whose line names predicate 4 before the call
abbrev annotation : Content
annotation = record {
  preds = [];
  triples = inside_triple (numeral 48) (numeral 49) (numeral 49) [] ∷ (inside_triple (numeral 49) (numeral 50) (numeral 48) []
      ∷ (back_triple (numeral 48) (numeral 52) (numeral 51) (numeral 48) [] ∷ (call_triple (numeral 48) (numeral 50) (numeral 48) [] ∷ [])));
  nodes = [];
  steps = [];
}

letters : coarse_letters graph annotation ≡ 2 ∷ []
letters = refl

right : (first_wrong graph (2 ∷ []) annotation ≡ None) × (first_missing graph (2 ∷ []) annotation ≡ None)
right = (refl, refl)

-- the line is left out: the first triple with the letter is told
left_out : (first_wrong graph [] annotation ≡ None) × (first_missing graph [] annotation ≡ Some 1)
left_out = (refl, refl)

-- a letter that is not coarse, one that no triple names, one that does not exist, and one a second time
not_coarse : first_wrong graph (1 ∷ []) annotation ≡ Some 0
not_coarse = refl

not_named : first_wrong graph (2 ∷ (4 ∷ [])) annotation ≡ Some 1
not_named = refl

not_there : first_wrong graph (5 ∷ []) annotation ≡ Some 0
not_there = refl

twice : first_wrong graph (2 ∷ (2 ∷ [])) annotation ≡ Some 1
twice = refl
