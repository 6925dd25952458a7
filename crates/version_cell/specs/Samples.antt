-- The automata on which the tests try a cell: words of one letter.
use Rattle.std.specs.Prelude.{◌≡◌, ◌⊎◌, ℕ, Bool, true, false, if◌then◌else◌, List, [], ◌∷◌, map}
use Rattle.nwa_base.specs.declared.letters.Kind.TheVariants.{Inside}
use Rattle.nwa_base.specs.declared.letters.Letter.{Letter}
use Rattle.nwa_base.specs.Automata.{Automaton}
use Rattle.nwa_base.specs.Acceptance.{Accepts}

-- the letter a for true, b for false
abbrev pub letter_of : Bool → Letter
letter_of first = record { id = if first then 0 else 1; kind = Inside; call = 0 }

-- an edge by each letter from the start to the one final state
abbrev pub edges_of : List Letter → List (ℕ × Letter × ℕ)
edges_of letters = map (λ a. (0, a, 1)) letters

-- it accepts these letters, each as a word
abbrev pub one_letter : List Letter → Automaton
one_letter letters = record { states = 2; start = 0; finals = 1 ∷ []; insides = edges_of letters; calls = []; backs = [] }

-- the words a and b
abbrev pub two_words : Automaton
two_words = one_letter (letter_of true ∷ letter_of false ∷ [])

-- one of them
abbrev pub one_word : Bool → Automaton
one_word first = one_letter (letter_of first ∷ [])

-- no word
abbrev pub no_words : Automaton
no_words = one_letter []

-- What is kept when the other word was taken from k: this word, where k accepts it, else no word.
abbrev pub IsRest : Automaton → Bool → Automaton → Type 0
IsRest k first kept =
    (Accepts k (letter_of first ∷ []) × (kept ≡ one_word first)) ⊎ ((Accepts k (letter_of first ∷ []) → ⊥) × (kept ≡ no_words))
