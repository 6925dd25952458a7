use Rattle.std.proofs.Common.{◌∙◌, ◌++◌, List, length, map, slice_get, ap}
use Rattle.typed_tree.specs.declared.types.TProc.{TProc}
use Rattle.typed_tree.specs.TypedView as view
use Rattle.typed_tree.specs.TypingRules.TypedParts.{typed_program}
use Rattle.modular_cut.specs.Parts as spec
use Rattle.modular_cut.proofs.CutParts.{part_typed}
use Rattle.modular_cut.proofs.MadeParts.{part_made}
use Rattle.modular_cut.proofs.cutting.part_of.Goals as goal

pub assembled-requires : goal.assembled-requires
assembled-requires c = record {
  typed = part_typed (typed_program c.args.program.now) (typed_program (record { globals = c.in_ok-globals.globals.items; axioms = c.in_ok-axioms.axioms.items; procs = c.in_ok-procs.procs.items; entry = c.args.number }))
      c.args.number c.globals.ensures.valid c.requires.names c.requires.entered
      (part_made c.args.program.now c.in_ok-globals.globals.items c.in_ok-axioms.axioms.items c.in_ok-procs.procs.items c.args.number (c.in_ok-globals.ensures ∙ c.globals.ensures.value)
      (c.in_ok-axioms.ensures ∙ ap (map view.expression) c.axioms.ensures)
      (c.in_ok-procs.ensures
      ∙ ap (λ (ps : List TProc). spec.cut_procs (spec.called_in (length ps) c.args.number) c.args.number (map view.procedure ps) ++ spec.copies (slice_get (map view.procedure ps) c.args.number)) c.procs.ensures));
}
