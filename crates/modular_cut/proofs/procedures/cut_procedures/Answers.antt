use Rattle.std.proofs.Common.{◌∙◌, ◌+◌, ◌++◌, List, length, map, ap}
use Rattle.typed_tree.specs.declared.types.TProc.{TProc}
use Rattle.typed_tree.specs.TypedView as view
use Rattle.modular_cut.specs.Parts.{called_in, without_body}
use Rattle.modular_cut.proofs.CutParts.{cut_made, taken_rest}
use Rattle.modular_cut.proofs.procedures.cut_procedures.Goals as goal

pub returns : goal.returns
returns c =
    cut_made view.procedure (called_in (length c.args.procs.now) c.args.own) c.args.procs.now c.args.own c.in_ok-made.made.items c.add_bare.new.made.items c.push.new.self.items c.add_bare-2.new.made.items c.push-2.new.self.items
    c.index-procs-number.result c.index-procs-number-2.result c.in_ok-own_procedure.field-0 c.in_ok-copy_of.field-0 c.requires.within c.index-procs-number.is c.index-procs-number-2.is c.in_ok-made.ensures.items
    c.in_ok-add_bare.ensures c.in_ok-own_procedure.ensures c.in_ok-push.ensures.items (c.in_ok-add_bare-2.ensures ∙ ap (λ (ps : List TProc). map view.procedure c.push.new.self.items ++ map without_body (map view.procedure ps)) (taken_rest c.args.procs.now (c.args.own + 1)))
    c.in_ok-copy_of.ensures c.in_ok-push-2.ensures.items
