use Rattle.std.proofs.Common.{ap, sym, ◌∙◌}
use Rattle.boogie_types.specs.Ties.Numbers.{number_of_name}
use Rattle.boogie_types.proofs.ModifiedLaws.{unknown_modified_fault, constant_modified_fault, modified_is}
use Rattle.boogie_types.proofs.modifies.modified.Goals as goal

pub returns-in_default-clause-fault : goal.returns-in_default-clause-fault
returns-in_default-clause-fault c =
    let d = c.args.declared.now in
    unknown_modified_fault d.globals.now c.args.name.now d.global_numbers.now c.place.result d.global_numbers_are (c.place.ensures ∙ ap (number_of_name d.global_numbers.now) c.bytes.ensures) c.in_default.is

pub returns-in-Some-assignable-clause-ok : goal.returns-in-Some-assignable-clause-ok
returns-in-Some-assignable-clause-ok c =
    let d = c.args.declared.now in
    modified_is d.globals.now c.args.name.now d.global_numbers.now c.place.result c.in-Some.number _ d.global_numbers_are (c.place.ensures ∙ ap (number_of_name d.global_numbers.now) c.bytes.ensures) c.in-Some.is
    (sym c.assignable.ensures ∙ c.in-Some-assignable.is)

pub returns-in-None-clause-fault : goal.returns-in-None-clause-fault
returns-in-None-clause-fault c =
    let d = c.args.declared.now in
    constant_modified_fault d.globals.now c.args.name.now d.global_numbers.now c.place.result c.in-Some.number d.global_numbers_are (c.place.ensures ∙ ap (number_of_name d.global_numbers.now) c.bytes.ensures) c.in-Some.is
    (sym c.assignable.ensures ∙ c.in-None.is)
