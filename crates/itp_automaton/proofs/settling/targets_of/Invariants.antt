use Rattle.std.proofs.Common.{◌≡◌, take, map}
use Rattle.std.specs.List.{AllByRecursion}
use Rattle.letter_acts.specs.Invariant.{alphabet_of}
use Rattle.itp_automaton.specs.Settling.{IsTarget}
use Rattle.itp_automaton.proofs.settling.targets_of.Given as goal

abbrev pub invariant-loop-q : goal.invariant-loop-q
invariant-loop-q l = record {
  each : AllByRecursion (IsTarget (alphabet_of l.icfg) l.states l.letter l.proc l.source) l.targets.items;
  taken : map (λ t. t.state) l.targets.items ≡ take l.q-index l.q-items;
}
