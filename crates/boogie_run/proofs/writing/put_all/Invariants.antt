use Rattle.std.proofs.Common.{◌≡◌, drop}
use Rattle.boogie_run.specs.Steps as spec
use Rattle.boogie_run.proofs.writing.put_all.Given as goal

abbrev pub invariant-loop-i : goal.invariant-loop-i
invariant-loop-i l = spec.all_put l.values.items (drop l.i l.numbers) (drop l.i l.news) ≡ spec.all_put l.initial.values.items l.numbers l.news
