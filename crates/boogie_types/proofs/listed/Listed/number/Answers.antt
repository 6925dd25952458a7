use Rattle.std.proofs.Common.{◌∙◌}
use Rattle.boogie_types.specs.Ties.Referred.{procedures_by}
use Rattle.boogie_types.proofs.CallLaws.{procedure_place}
use Rattle.boogie_types.proofs.listed.Listed.number.Goals as goal

pub returns : goal.returns
returns c = c.place.ensures ∙ procedure_place c.args.name.now _ (procedures_by c.args.self.now.procs.items) c.args.self.now.numbers_are
