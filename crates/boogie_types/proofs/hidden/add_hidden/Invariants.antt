use Rattle.std.proofs.Common.{◌≡◌, ◌+◌, ◌-◌, ◌++◌}
use Rattle.boogie_types.specs.Sorted.{hidden_locals}
use Rattle.boogie_types.proofs.hidden.add_hidden.Given as goal

abbrev pub invariant-loop-before : goal.invariant-loop-before
invariant-loop-before l = l.locals.items ++ hidden_locals (l.before + 1) (l.count - l.before) ≡ l.fn.locals.items ++ hidden_locals 1 l.count
