use Rattle.std.proofs.Common.{◌↔◌, drop}
use Rattle.letter_acts.specs.Invariant.{HaveBodies}
use Rattle.letter_acts.proofs.checks.procedures.have_bodies.Given as goal

abbrev pub invariant-loop-proc : goal.invariant-loop-proc
invariant-loop-proc l = HaveBodies l.procs l.proc (drop l.proc l.entries) (drop l.proc l.exits) ↔ HaveBodies l.procs 0 l.entries l.exits
