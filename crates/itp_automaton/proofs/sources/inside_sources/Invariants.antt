use Rattle.std.proofs.Common.{◌≡◌, map, take}
use Rattle.itp_automaton.specs.declared.sources.Source.TheVariants.{Inside}
use Rattle.itp_automaton.proofs.sources.inside_sources.Given as goal

abbrev pub invariant-loop-state : goal.invariant-loop-state
invariant-loop-state l = l.sources.items ≡ map Inside (take l.state-index l.states)
