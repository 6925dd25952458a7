-- The invariant of an `Icfg` under a name that proofs open only where they need it.
use Rattle.letter_acts.specs.Invariant.{Graph, IsGraph}

-- what an `Icfg` keeps
unfoldable pub Keeps : Graph → Type 0
Keeps g = IsGraph g
