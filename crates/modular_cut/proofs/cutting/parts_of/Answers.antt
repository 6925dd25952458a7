use Rattle.std.proofs.Common.{◌≡◌, ◌<◌, ◌≤◌, length, map, arith}
use Rattle.std.proofs.lemmas.List.{length-map}
use Rattle.typed_tree.specs.TypedTree.{TypedProgram}
use Rattle.typed_tree.specs.TypedView as view
use Rattle.typed_tree.specs.TypingRules.TypedParts.{typed_program}
use Rattle.modular_cut.specs.View.{plain_part}
use Rattle.modular_cut.proofs.CutParts.{parts_more, parts_end}
use Rattle.modular_cut.proofs.SafeParts.{safe_by_parts}
use Rattle.modular_cut.proofs.cutting.parts_of.Goals as goal

pub loop-number-preserved : goal.loop-number-preserved
loop-number-preserved c =
    let t : TypedProgram = typed_program c.args.program.now in
    let many : length (map view.procedure c.args.program.now.procs) ≡ length c.args.program.now.procs = length-map c.args.program.now.procs view.procedure in
    let within : c.loop-number.number < length (map view.procedure c.args.program.now.procs) = omega arith in
    record {
      so_far = parts_more plain_part t c.loop-number.number c.loop-number.parts.items c.add_part.new.parts.items _ within c.in_ok-add_part.ensures.parts c.loop-number.invariant.so_far;
      valid = c.in_ok-add_part.ensures.valid c.loop-number.invariant.valid;
    }

pub returns-clause-safe : goal.returns-clause-safe
returns-clause-safe c =
    let t : TypedProgram = typed_program c.args.program.now in
    let many : length (map view.procedure c.args.program.now.procs) ≡ length c.args.program.now.procs = length-map c.args.program.now.procs view.procedure in
    let past : length (map view.procedure c.args.program.now.procs) ≤ c.loop-number.number = omega arith in
    safe_by_parts t c.count-number-end.ensures.valid (map plain_part c.loop-number.parts.items) (parts_end plain_part t c.loop-number.number c.loop-number.parts.items _ past c.loop-number.invariant.so_far)
    c.loop-number.invariant.valid
