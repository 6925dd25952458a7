use Rattle.std.proofs.Common.{◌++◌, take}
use Rattle.std.specs.List.{AllByRecursion}
use Rattle.letter_acts.specs.Invariant.{alphabet_of}
use Rattle.itp_automaton.specs.Settling.{IsGrounded, SettlesTargets}
use Rattle.itp_automaton.proofs.settling.settle_sources.Given as goal

abbrev pub invariant-loop-source : goal.invariant-loop-source
invariant-loop-source l = record {
  grounded : AllByRecursion (IsGrounded (alphabet_of l.icfg) l.states) l.found.items;
  settled : AllByRecursion (SettlesTargets (alphabet_of l.icfg) l.states l.letter (l.known ++ l.found.items) l.targets) (take l.source-index l.sources);
}
