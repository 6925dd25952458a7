use Rattle.std.proofs.Common.{◌≡◌, ◌∙◌, List, Some, ap, subst, sym, map, IsTrue}
use Rattle.std.specs.Prelude.{slice_get}
use Rattle.typed_tree.specs.TypedView as view
use Rattle.typed_tree.specs.TypedTree.{TypedSpecification, TypedBlock, TypedProcedure, TypedProgram}
use Rattle.typed_tree.specs.TypingRules.TypedParts.{TypedParts, typed_program}
use Rattle.typed_tree.specs.TypingRules.ValidProgram.{is_valid}
use Rattle.icfg_lower.specs.ProgramLayout.Layouts.{marks_of}
use Rattle.icfg_lower.specs.LabelPlaces.Labels.{label_numbers}
use Rattle.icfg_lower.specs.PlaceEdges.WalkedParts.{walked}
use Rattle.icfg_lower.specs.ProgramWalk.Ties.Bounds.{BodyFits}
use Rattle.icfg_lower.specs.ProgramWalk.Ties.Conditions.{EntryAdds, ExitAdds}
use Rattle.icfg_lower.proofs.ProgramWalk.WholeSteps.{entry_room, block_room, exit_room, on_both, whole_body}
use Rattle.icfg_lower.specs.PlaceEdges.Forms.{SpecificationsFit}
use Rattle.icfg_lower.proofs.program_walk.programs.body.Goals as goal

pub entry_conditions-requires-clause-fit : goal.entry_conditions-requires-clause-fit
entry_conditions-requires-clause-fit c =
    let t : TypedProgram = (typed_program c.args.lowering.now.parts) in
    let q : TypedProcedure = view.procedure c.args.listed.now in
    let whole : TypedBlock = view.statements c.args.statements.now in
    let fits : BodyFits t c.args.proc q whole =
    (subst (λ (x : TypedParts). (p : TypedProcedure) (b : TypedBlock) → slice_get (typed_program x).procs c.args.proc ≡ Some p → p.body ≡ Some b → BodyFits (typed_program x) c.args.proc p b) c.layout-layout.ensures
    c.marks_at-marks.ensures.fits) q whole c.requires.procedure c.requires.statements in
    subst (λ (ss : List TypedSpecification). SpecificationsFit t ss) (ap (map view.specification) (sym c.deref.ensures.value)) fits.specs

pub exit_conditions-requires-clause-fit : goal.exit_conditions-requires-clause-fit
exit_conditions-requires-clause-fit c =
    let t : TypedProgram = (typed_program c.args.lowering.now.parts) in
    let q : TypedProcedure = view.procedure c.args.listed.now in
    let whole : TypedBlock = view.statements c.args.statements.now in
    let fits : BodyFits t c.args.proc q whole =
    (subst (λ (x : TypedParts). (p : TypedProcedure) (b : TypedBlock) → slice_get (typed_program x).procs c.args.proc ≡ Some p → p.body ≡ Some b → BodyFits (typed_program x) c.args.proc p b) c.layout-layout.ensures
    c.marks_at-marks.ensures.fits) q whole c.requires.procedure c.requires.statements in
    subst (λ (x : TypedProgram). SpecificationsFit x (map view.specification c.deref-2.result.now)) (sym (c.in_ok-block.ensures.program ∙ c.in_ok-entry_conditions.ensures.program))
    (subst (λ (ss : List TypedSpecification). SpecificationsFit t ss) (ap (map view.specification) (sym c.deref-2.ensures.value)) fits.specs)

pub entry_conditions-requires-clause-places : goal.entry_conditions-requires-clause-places
entry_conditions-requires-clause-places c =
    let t : TypedProgram = typed_program c.args.lowering.now.parts in
    let q : TypedProcedure = view.procedure c.args.listed.now in
    let whole : TypedBlock = view.statements c.args.statements.now in
    let marks : c.marks_at-marks.result ≡ marks_of t (c.args.proc, q) =
    (subst (λ (x : TypedParts). (p : TypedProcedure) → slice_get (typed_program x).procs c.args.proc ≡ Some p → c.marks_at-marks.result ≡ marks_of (typed_program x) (c.args.proc, p)) c.layout-layout.ensures
    c.marks_at-marks.ensures.value) q c.requires.procedure in
    let fits : BodyFits t c.args.proc q whole =
    (subst (λ (x : TypedParts). (p : TypedProcedure) (b : TypedBlock) → slice_get (typed_program x).procs c.args.proc ≡ Some p → p.body ≡ Some b → BodyFits (typed_program x) c.args.proc p b) c.layout-layout.ensures
    c.marks_at-marks.ensures.fits) q whole c.requires.procedure c.requires.statements in
    entry_room t c.args.proc q whole c.marks_at-marks.result (map view.specification c.deref.result.now) c.requires.statements marks (ap (map view.specification) c.deref.ensures.value) fits

pub block-requires-clause-fits : goal.block-requires-clause-fits
block-requires-clause-fits c =
    let t : TypedProgram = typed_program c.args.lowering.now.parts in
    let q : TypedProcedure = view.procedure c.args.listed.now in
    let whole : TypedBlock = view.statements c.args.statements.now in
    let marks : c.marks_at-marks.result ≡ marks_of t (c.args.proc, q) =
    (subst (λ (x : TypedParts). (p : TypedProcedure) → slice_get (typed_program x).procs c.args.proc ≡ Some p → c.marks_at-marks.result ≡ marks_of (typed_program x) (c.args.proc, p)) c.layout-layout.ensures
    c.marks_at-marks.ensures.value) q c.requires.procedure in
    let fits : BodyFits t c.args.proc q whole =
    (subst (λ (x : TypedParts). (p : TypedProcedure) (b : TypedBlock) → slice_get (typed_program x).procs c.args.proc ≡ Some p → p.body ≡ Some b → BodyFits (typed_program x) c.args.proc p b) c.layout-layout.ensures
    c.marks_at-marks.ensures.fits) q whole c.requires.procedure c.requires.statements in
    block_room t (typed_program c.entry_conditions.new.lowering.parts) c.args.proc q whole c.marks_at-marks.result c.in_ok-entry_conditions.ensures.program c.requires.statements marks fits

pub exit_conditions-requires-clause-numbers : goal.exit_conditions-requires-clause-numbers
exit_conditions-requires-clause-numbers c =
    let t : TypedProgram = typed_program c.args.lowering.now.parts in
    let q : TypedProcedure = view.procedure c.args.listed.now in
    let whole : TypedBlock = view.statements c.args.statements.now in
    let marks : c.marks_at-marks.result ≡ marks_of t (c.args.proc, q) =
    (subst (λ (x : TypedParts). (p : TypedProcedure) → slice_get (typed_program x).procs c.args.proc ≡ Some p → c.marks_at-marks.result ≡ marks_of (typed_program x) (c.args.proc, p)) c.layout-layout.ensures
    c.marks_at-marks.ensures.value) q c.requires.procedure in
    let fits : BodyFits t c.args.proc q whole =
    (subst (λ (x : TypedParts). (p : TypedProcedure) (b : TypedBlock) → slice_get (typed_program x).procs c.args.proc ≡ Some p → p.body ≡ Some b → BodyFits (typed_program x) c.args.proc p b) c.layout-layout.ensures
    c.marks_at-marks.ensures.fits) q whole c.requires.procedure c.requires.statements in
    exit_room t (typed_program c.block.new.lowering.parts) c.args.proc q whole c.marks_at-marks.result (map view.specification c.deref-2.result.now) (c.in_ok-block.ensures.program ∙ c.in_ok-entry_conditions.ensures.program)
    c.requires.statements marks (ap (map view.specification) c.deref-2.ensures.value) fits

pub returns-clause-added : goal.returns-clause-added
returns-clause-added c =
    let t : TypedProgram = typed_program c.args.lowering.now.parts in
    let q : TypedProcedure = view.procedure c.args.listed.now in
    let whole : TypedBlock = view.statements c.args.statements.now in
    let marks : c.marks_at-marks.result ≡ marks_of t (c.args.proc, q) =
    (subst (λ (x : TypedParts). (p : TypedProcedure) → slice_get (typed_program x).procs c.args.proc ≡ Some p → c.marks_at-marks.result ≡ marks_of (typed_program x) (c.args.proc, p)) c.layout-layout.ensures
    c.marks_at-marks.ensures.value) q c.requires.procedure in
    let valid : IsTrue (is_valid t) = subst (λ (x : TypedParts). IsTrue (is_valid (typed_program x))) c.layout-layout.ensures c.marks_at-marks.ensures.valid in
    let labels : c.in_ok-labels_of.field-0.items ≡ label_numbers t c.args.proc = c.in_ok-labels_of.ensures ∙ ap (λ (x : TypedParts). label_numbers (typed_program x) c.args.proc) c.layout-layout.ensures in
    let program : typed_program c.block.new.lowering.parts ≡ t = c.in_ok-block.ensures.program ∙ c.in_ok-entry_conditions.ensures.program in
    on_both _ _ _ c.exit_conditions.result
    (λ kept h. whole_body t (typed_program c.entry_conditions.new.lowering.parts) (typed_program c.block.new.lowering.parts) c.args.proc q whole c.marks_at-marks.result c.in_ok-labels_of.field-0.items c.new-loops.result.items
    (walked c.args.lowering.now) (walked c.entry_conditions.new.lowering) (walked c.block.new.lowering) (walked c.exit_conditions.new.lowering) valid c.requires.procedure c.requires.statements marks labels
    c.new-loops.ensures.items c.in_ok-entry_conditions.ensures.program program (kept ∙ program)
    (subst (λ (ss : List TypedSpecification). EntryAdds t c.args.proc ss c.marks_at-marks.result.entry (walked c.args.lowering.now) (walked c.entry_conditions.new.lowering)) (ap (map view.specification) c.deref.ensures.value)
    c.in_ok-entry_conditions.ensures.added)
    c.in_ok-block.ensures.added
    (subst
    (λ (ss : List TypedSpecification). ExitAdds (typed_program c.block.new.lowering.parts) c.args.proc ss c.marks_at-marks.result.behind c.marks_at-marks.result.exit (walked c.block.new.lowering) (walked c.exit_conditions.new.lowering))
    (ap (map view.specification) c.deref-2.ensures.value) h))
    c.exit_conditions.ensures.program c.exit_conditions.ensures.added
