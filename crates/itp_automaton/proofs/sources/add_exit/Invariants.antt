use Rattle.std.proofs.Common.{◌≡◌, ◌++◌, map, take}
use Rattle.itp_automaton.specs.declared.sources.Source.TheVariants.{Back}
use Rattle.itp_automaton.proofs.sources.add_exit.Given as goal

abbrev pub invariant-loop-before : goal.invariant-loop-before
invariant-loop-before l = l.sources.items ≡ l.initial.sources.items ++ map (Back l.exit) (take l.before-index l.callers)
