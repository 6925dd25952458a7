use Rattle.std.proofs.Common.{◌≡◌, ◌+◌, ◌≤◌, ℕ, List, map, length, sym, ap, ◌∙◌, arith}
use Rattle.std.proofs.lemmas.List.{length-map}
use Rattle.typed_tree.specs.TypedView as view
use Rattle.typed_tree.specs.TypingRules.TypedParts.{typed_program}
use Rattle.letter_acts.specs.Acts.{plain_frames}
use Rattle.letter_acts.specs.Frames.{old_columns}
use Rattle.boogie_tree.specs.declared.tree.VarInfo.{VarInfo}
use Rattle.icfg_lower.proofs.ProgramLayout.ColumnLaws.{olds_fewer}
use Rattle.icfg_lower.proofs.ProgramLayout.ListLaws.{laid_frames, laid_marks, laid_error, laid_count}
use Rattle.icfg_lower.proofs.program_layout.layouts.lay_out.Goals as goal

pub overflow_add-result : goal.overflow_add-result
overflow_add-result c =
    let few : length (old_columns 0 c.globals-globals.result.now) ≤ length c.globals-globals.result.now = olds_fewer 0 c.globals-globals.result.now in
    let same : length c.globals-globals.result.now ≡ length c.args.program.now.globals = ap length c.globals-globals.ensures.value in
    omega arith

pub invariant_of-result : goal.invariant_of-result
invariant_of-result c = record {
  valid = c.globals-globals.ensures.valid;
  frames_are =
      laid_frames (typed_program c.args.program.now) c.globals-globals.result.now (map view.procedure c.procs-2.result.now) (plain_frames c.in_ok-frames.frames.items)
      c.globals-globals.ensures.value (ap (map view.procedure) c.procs-2.ensures) c.in_ok-frames.ensures;
  marks_are =
      laid_marks (typed_program c.args.program.now) (map view.procedure c.procs.result.now) (1 + c.start_conditions-start_conditions.result) c.in_ok-marks.field-0.marks.items
      (ap (map view.procedure) c.procs.ensures) (ap (λ (n : ℕ). 1 + n) c.start_conditions-start_conditions.ensures) c.in_ok-marks.ensures.marks;
  before =
      ap (λ (n : ℕ). length c.globals-globals.result.now + n) c.variables.ensures
      ∙ ap (λ (vs : List VarInfo). length vs + length (old_columns 0 vs)) c.globals-globals.ensures.value;
  starts = c.start_conditions-start_conditions.ensures;
  errors =
      laid_error (typed_program c.args.program.now) (map view.procedure c.procs.result.now) (length c.procs.result.now) (1 + c.start_conditions-start_conditions.result) c.in_ok-marks.field-0.place
      (ap (map view.procedure) c.procs.ensures) (sym (length-map c.procs.result.now view.procedure)) (ap (λ (n : ℕ). 1 + n) c.start_conditions-start_conditions.ensures)
      c.fits.ensures.errors c.in_ok-marks.ensures.place;
  count =
      laid_count (typed_program c.args.program.now) (map view.procedure c.procs.result.now) (length c.procs.result.now) c.in_ok-marks.field-0.assertion
      (ap (map view.procedure) c.procs.ensures) (sym (length-map c.procs.result.now view.procedure)) c.fits.ensures.sites c.in_ok-marks.ensures.assertion;
}
