use Rattle.std.proofs.Common.{◌++◌, take}
use Rattle.letter_acts.specs.Invariant.{alphabet_of}
use Rattle.itp_automaton.specs.Settling.{Adds, SettlesTargets}
use Rattle.itp_automaton.proofs.settling.settle_source.Given as goal

abbrev pub invariant-loop-target : goal.invariant-loop-target
invariant-loop-target l = record {
  adds : Adds (alphabet_of l.icfg) l.states l.initial.found.items l.found.items;
  settled : SettlesTargets (alphabet_of l.icfg) l.states l.letter (l.known ++ l.found.items) (take l.target-index l.targets) l.source;
}
