-- Automata with finitely many words.
use Rattle.std.specs.Prelude.{List}
use Rattle.nwa_base.specs.declared.letters.Letter.{Letter}
use Rattle.nwa_base.specs.Members.{Member}
use Rattle.nwa_base.specs.Automata.{Automaton}
use Rattle.nwa_base.specs.Acceptance.{Accepts}

-- each word that the automaton accepts stands in the list
abbrev pub HasWordsAmong : Automaton → List (List Letter) → Type 0
HasWordsAmong m ws = (w : List Letter) → Accepts m w → Member ws w
