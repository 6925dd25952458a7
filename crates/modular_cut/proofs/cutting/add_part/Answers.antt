use Rattle.std.proofs.Common.{◌∙◌, List, get_or, sym, ap}
use Rattle.typed_tree.specs.declared.types.TProc.{TProc}
use Rattle.modular_cut.proofs.MadeParts.{part_added, part_skipped}
use Rattle.modular_cut.proofs.cutting.add_part.Goals as goal

pub returns-in_ok-push-clause-parts : goal.returns-in_ok-push-clause-parts
returns-in_ok-push-clause-parts c =
    part_added c.args.program.now c.args.number c.index-procs-number.result c.args.parts.now.items c.push.new.self.items (record { name = c.in_ok-name.name; program = c.in_ok-program.program }) c.requires.within
    (c.index-procs-number.is ∙ ap (λ (ps : List TProc). get_or ps c.args.number c.index-procs-number.result) c.procs.ensures) (sym c.is_some.ensures ∙ c.if-is_some.true) c.in_ok-name.ensures c.in_ok-program.ensures.made
    c.in_ok-push.ensures.items

pub returns-else-is_some-clause-parts : goal.returns-else-is_some-clause-parts
returns-else-is_some-clause-parts c =
    part_skipped c.args.program.now c.args.number c.index-procs-number.result c.args.parts.now.items c.requires.within
    (c.index-procs-number.is ∙ ap (λ (ps : List TProc). get_or ps c.args.number c.index-procs-number.result) c.procs.ensures) (sym c.is_some.ensures ∙ c.if-is_some.false)
