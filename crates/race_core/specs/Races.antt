-- The state of a race, and what it keeps.
use Rattle.std.specs.Prelude.{ℕ, ◌≤◌, List, Option, length}
use Rattle.nwa_base.specs.declared.letters.Letter.{Letter}
use Rattle.nwa_base.specs.Automata.{Automaton}
use Rattle.race_core.specs.declared.ends.End.{End}
use Rattle.race_core.specs.declared.events.Entry.{Entry}
use Rattle.race_core.specs.Histories.{Keeps, IsLegal}

-- `program` accepts the words of which each has to be shown infeasible, `history` are the entries that were added, in order,
-- `kept` accepts the words that are left, and `limit` is how long the history may be.
pub record Race (E : Type 0) : Type 0 where
  pub program : Automaton
  pub limit : ℕ
  pub history : List (Entry E)
  pub kept : Automaton
  pub end : Option End

-- what every state keeps
pub record RaceIsSound {E : Type 0} (automaton : E → Automaton) (feasible : E → List Letter → Type 0) (r : Race E) : Type 0 where
  pub legal : IsLegal automaton feasible r.program r.history
  pub keeps : Keeps automaton r.program r.history r.kept
  pub room : length r.history ≤ r.limit
