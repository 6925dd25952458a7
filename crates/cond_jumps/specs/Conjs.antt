-- The conjunctions of the code as contracts see them.
use Rattle.std.specs.Prelude.{List, map}
use Rattle.cond_jumps.specs.declared.conj.Conj.{Conj}
use Rattle.cond_jumps.specs.Conjunctions.{Conjunction}

abbrev pub conjunction : Conj → Conjunction
conjunction c = record { rows = c.rows.items; helpers = c.helpers }

abbrev pub conjunctions : List Conj → List Conjunction
conjunctions cs = map conjunction cs
