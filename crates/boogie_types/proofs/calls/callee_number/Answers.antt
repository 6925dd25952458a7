use Rattle.std.proofs.Common.{ap, ◌∙◌}
use Rattle.boogie_types.specs.Ties.Numbers.{number_of_name}
use Rattle.boogie_types.specs.Ties.Referred.{procedures_by}
use Rattle.boogie_types.proofs.CallLaws.{procedure_place}
use Rattle.boogie_types.proofs.calls.callee_number.Goals as goal

pub returns : goal.returns
returns c =
    c.place.ensures ∙ ap (number_of_name c.args.place.now.numbers.now) c.bytes.ensures
    ∙ procedure_place _ _ (procedures_by c.args.place.now.procs.now) c.args.place.now.numbers_are
