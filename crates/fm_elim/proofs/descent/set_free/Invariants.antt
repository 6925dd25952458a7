use Rattle.std.proofs.Common.{◌≡◌, ◌++◌, ◌-◌, [], map}
use Rattle.std.specs.Prelude.{replicate}
use Rattle.fm_elim.specs.Answers.{aside_of}
use Rattle.fm_elim.specs.Columns.{bounded}
use Rattle.fm_elim.proofs.descent.set_free.Given as goal

abbrev pub invariant-loop : goal.invariant-loop
invariant-loop l = map aside_of l.asides.items ≡ map aside_of l.initial.asides.items ++ replicate (l.counter - l.used) (bounded [] [])
