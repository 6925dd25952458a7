use Rattle.std.proofs.Common.{◌≡◌, map, take}
use Rattle.std.specs.List.{flat_map}
use Rattle.itp_automaton.specs.declared.sources.Source.TheVariants.{Back}
use Rattle.itp_automaton.proofs.sources.back_sources.Given as goal

abbrev pub invariant-loop-exit : goal.invariant-loop-exit
invariant-loop-exit l = l.sources.items ≡ flat_map (λ exit. map (Back exit) l.callers) (take l.exit-index l.exits)
