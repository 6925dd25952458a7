use Rattle.std.proofs.Common.{◌∙◌, sym, ap}
use Rattle.boogie_types.specs.Meanings.{column_of}
use Rattle.typed_tree.specs.Scope.{seen}
use Rattle.boogie_types.proofs.FaultLaws.{fault_of_target}
use Rattle.boogie_types.proofs.lists.columns.Goals as goal

pub returns-in-None-clause-fault : goal.returns-in-None-clause-fault
returns-in-None-clause-fault c =
    fault_of_target _ _ _ _ c.loop-target-test.true c.target-item.is
    (ap (column_of (seen c.args.names.now.scope)) (sym c.bytes.ensures) ∙ sym c.column.ensures ∙ c.in-None.is)
