use Rattle.std.proofs.Common.{take}
use Rattle.nwa_base.specs.Members.{Member}
use Rattle.itp_automaton.proofs.finding.state_of.Given as goal

abbrev pub invariant-loop-q : goal.invariant-loop-q
invariant-loop-q l = Member (take l.q l.states) l.pred → ⊥
