use Rattle.std.proofs.Common.{refl}
use Rattle.nwa_reduce.specs.Ties.Naming.{named}
use Rattle.nwa_reduce.proofs.CopyLemmas.{name_there}
use Rattle.nwa_reduce.proofs.folding.is_name_of_any.Goals as goal

pub returns-then-is_name : goal.returns-then-is_name
returns-then-is_name c = λ yes.
    name_there (named c.args.names.now.of.items) c.args.states.now c.loop-state.state-index _ c.args.name c.loop-state-test.true (c.if-is_name.ensures refl)
