-- Verdicts on programs, with the races that they are of.
use Rattle.std.specs.Prelude.{ℕ, ◌≤◌, length, Option}
use Rattle.typed_tree.specs.TypedTree.{TypedProgram}
use Rattle.race_core.specs.declared.events.Entry.{Entry}
use Rattle.race_core.specs.Histories.{Keeps, IsLegal}
use Rattle.race_core.specs.Races.{Race}
use Rattle.itp_automaton.specs.Certified.{Certificate, IsFeasibleFor}
use Rattle.race_rounds.specs.declared.limits.Limits.{Limits}
use Rattle.race_rounds.specs.Rounds.{automaton_in, IsRaceOf}
use Rattle.race_verdicts.specs.declared.verdicts.Verdict.{Verdict}
use Rattle.race_verdicts.specs.declared.verdicts.Verdict.TheVariants.{Safe, Unsafe, Unknown}

-- A race over the program: its history is legal and within the rounds, and begins with the entry that was given, where one was; its automata are
-- certified for the program, and but for the given one saturated; what it keeps are the words of the program that none of them accepts, and it has
-- met its end.
pub record IsClosedRace (t : TypedProgram) (given : Option (Entry Certificate)) (l : Limits) (r : Race Certificate) : Type 0 where
  pub race : IsRaceOf t given l r
  pub legal : IsLegal automaton_in IsFeasibleFor r.program r.history
  pub kept : Keeps automaton_in r.program r.history r.kept
  pub within : length r.history ≤ l.rounds

abbrev pub verdict_status : Verdict → ℕ
verdict_status (Safe coarse annotation) = 0
verdict_status (Unsafe failure) = 1
verdict_status (Unknown cause word) = 2
