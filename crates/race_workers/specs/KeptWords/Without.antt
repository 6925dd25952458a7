-- One automaton less another.
use Rattle.std.specs.Prelude.{◌↔◌, List}
use Rattle.nwa_base.specs.declared.letters.Letter.{Letter}
use Rattle.nwa_base.specs.Automata.{Automaton}
use Rattle.nwa_base.specs.Acceptance.{Accepts}

-- the third accepts exactly the words that the first accepts and the second does not
abbrev pub IsWithout : Automaton → Automaton → Automaton → Type 0
IsWithout kept removed left = (w : List Letter) → Accepts left w ↔ (Accepts kept w × (Accepts removed w → ⊥))
