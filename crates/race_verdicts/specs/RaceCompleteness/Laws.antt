-- What holds of the ends of races.
use Rattle.std.specs.Prelude.{◌≡◌, ◌≤◌, ◌<◌, List, length, Option, Some}
use Rattle.nwa_base.specs.declared.letters.Letter.{Letter}
use Rattle.nwa_base.specs.Automata.{Automaton}
use Rattle.typed_tree.specs.TypedTree.{TypedProgram}
use Rattle.lowered_graph.specs.Lowered.{lowered}
use Rattle.itp_automaton.specs.Certified.{Certificate, IsFeasibleFor}
use Rattle.race_core.specs.declared.ends.Cause.TheVariants.{Rounds}
use Rattle.race_core.specs.declared.ends.End.TheVariants.{Unknown}
use Rattle.race_core.specs.declared.events.Entry.{Entry}
use Rattle.race_core.specs.Histories.{IsLegal}
use Rattle.race_core.specs.Races.{Race}
use Rattle.race_rounds.specs.declared.limits.Limits.{Limits}
use Rattle.race_rounds.specs.Ends.{WordIsKept, EndMeets}
use Rattle.race_rounds.specs.Rounds.{automaton_in, IsRaceOf}
use Rattle.race_verdicts.specs.RaceCompleteness.Words.{HasWordsAmong}

-- A legal history is shorter than each list of all words of the program, where a word is kept.
abbrev pub HistoriesAreShort : Type 0
HistoriesAreShort = (program : Automaton) (h : List (Entry Certificate)) (w : List Letter) (ws : List (List Letter)) →
    IsLegal automaton_in IsFeasibleFor program h → WordIsKept automaton_in program h w → HasWordsAmong program ws → length h < length ws

-- Where the words of a program are no more than the rounds, and the history is legal, the end is not that the rounds are over.
abbrev pub RoundsAreEnough : Type 0
RoundsAreEnough = (t : TypedProgram) (l : Limits) (h : List (Entry Certificate)) (w : List Letter) (ws : List (List Letter)) →
    HasWordsAmong (lowered t).automaton ws → length ws ≤ l.rounds → IsLegal automaton_in IsFeasibleFor (lowered t).automaton h →
    EndMeets automaton_in t l h (Unknown Rounds w) → ⊥

-- A race that has ended because its rounds are over has as many entries as rounds, the one that was given included.
abbrev pub AllRoundsAreUsed : Type 0
AllRoundsAreUsed = (t : TypedProgram) (given : Option (Entry Certificate)) (l : Limits) (r : Race Certificate) (w : List Letter) → IsRaceOf t given l r →
    r.end ≡ Some (Unknown Rounds w) → length r.history ≡ l.rounds
