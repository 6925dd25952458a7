-- Words that lead to pairs of an entry and a present state.
use Rattle.std.specs.Prelude.{ℕ, List, [], Option, None, Some}
use Rattle.nwa_base.specs.declared.letters.Letter.{Letter}
use Rattle.nwa_base.specs.Automata.{Automaton}
use Rattle.nwa_base.specs.Acceptance.{Moves}

-- Each call of the word returns, and the word leads from the entry, or from the start where there is none, to q.
abbrev pub Spells : Automaton → Option ℕ → ℕ → List Letter → Type 0
Spells m None q w = Moves m [] m.start w [] q
Spells m (Some n) q w = Moves m [] n w [] q

-- the word leads from the start to q, with some calls open
abbrev pub Reaches : Automaton → ℕ → List Letter → Type 0
Reaches m q w = (before : List ℕ) × Moves m [] m.start w before q
