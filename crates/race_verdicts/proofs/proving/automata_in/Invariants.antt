use Rattle.std.proofs.Common.{◌≡◌, map, take}
use Rattle.race_verdicts.proofs.proving.automata_in.Given as goal

abbrev pub invariant-loop-entry : goal.invariant-loop-entry
invariant-loop-entry l = map (λ c. c.now) l.automata.items ≡ map (λ e. e.evidence) (take l.entry-index l.history)
