-- What a search answers.
use Rattle.std.specs.Prelude.{List}
use Rattle.nwa_base.specs.declared.letters.Letter.{Letter}
use Rattle.nwa_base.specs.Automata.{Automaton}
use Rattle.nwa_base.specs.Acceptance.{Accepts}
use Rattle.nwa_emptiness.specs.declared.finding.Found.{Found}
use Rattle.nwa_emptiness.specs.declared.finding.Found.TheVariants as founds

-- the word is accepted, and where there is none, no word is
abbrev pub IsFound : Automaton → Found → Type 0
IsFound m (founds.Word w) = Accepts m w
IsFound m founds.Empty = (w : List Letter) → Accepts m w → ⊥
