use Rattle.std.proofs.Common.{ap, sym, ◌∙◌}
use Rattle.boogie_types.specs.Ties.Numbers.{number_of_name}
use Rattle.boogie_types.proofs.FaultLaws.{fault_in_label}
use Rattle.boogie_types.proofs.statements.label.Goals as goal

pub returns-in-None-clause-fault : goal.returns-in-None-clause-fault
returns-in-None-clause-fault c =
    λ loops before. fault_in_label _ _ _ (ap (number_of_name c.args.place.now.labels.now) (sym c.bytes.ensures) ∙ sym c.place.ensures ∙ c.in-None.is)
