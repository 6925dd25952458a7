use Rattle.std.proofs.Common.{ℕ, ◌<◌}
use Rattle.std.specs.List.{AllByRecursion}
use Rattle.nwa_base.specs.Members.{Member}
use Rattle.letter_acts.specs.Invariant.{alphabet_of}
use Rattle.itp_automaton.specs.Settling.{IsStateIn}
use Rattle.itp_automaton.proofs.sources.states_in.Given as goal

abbrev pub invariant-loop-q : goal.invariant-loop-q
invariant-loop-q l = record {
  each : AllByRecursion (IsStateIn (alphabet_of l.icfg) l.states l.proc) l.found.items;
  all : (q : ℕ) → q < l.q → IsStateIn (alphabet_of l.icfg) l.states l.proc q → Member l.found.items q;
}
