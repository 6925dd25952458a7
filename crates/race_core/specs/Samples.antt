-- The two smallest automata, on which the tests try races.
use Rattle.std.specs.Prelude.{[], ◌∷◌}
use Rattle.nwa_base.specs.Automata.{Automaton}

-- it accepts the empty word alone
abbrev pub empty_word : Automaton
empty_word = record { states = 1; start = 0; finals = 0 ∷ []; insides = []; calls = []; backs = [] }

-- it accepts no word
abbrev pub no_word : Automaton
no_word = record { states = 1; start = 0; finals = []; insides = []; calls = []; backs = [] }
