use Rattle.std.proofs.Common.{◌∙◌, sym, refl, map}
use Rattle.std.specs.Prelude.{slice_get}
use Rattle.proof_names.specs.declared.outlines.NamedStep.TheVariants as steps
use Rattle.proof_names.specs.Outlines.{node}
use Rattle.proof_check.proofs.IndexLaws.{keys_next, keys_pass, keys_all}
use Rattle.proof_check.proofs.EntryLaws.{same_four, tells_four, back_landed_key, back_landed_keys, back_at_place, back_at_no_place}
use Rattle.proof_check.proofs.FirstLaws.{same_default}
use Rattle.proof_check.proofs.index.back_landed_of.Goals as goal
use Rattle.proof_check.proofs.index.back_landed_of.Goals.{in-Back+in-Some+in_ok-insert, in-Back+in_default-place_of, in_default}

pub loop-step-preserved : goal.loop-step-preserved
loop-step-preserved c = elim c.match-step.branch [
  | in-Back+in-Some+in_ok-insert w ↦
      let x = steps.Back w.in-Back.exit w.in-Back.call w.in-Back.letter w.in-Back.to in
      let e = sym w.in-Back.is ∙ same_default c.args.moves.now c.loop-step.step-index _ x c.loop-step-test.true in
      rw w.landed-is
      (keys_next (back_landed_key (map node c.args.nodes.now)) same_four c.args.moves.now c.loop-step.step-index x _ _ _ tells_four c.loop-step.invariant c.loop-step-test.true e
      (back_at_place (slice_get (map node c.args.nodes.now) w.in-Back.to) w.in-Back.exit w.in-Back.call w.in-Back.letter w.in-Some.place w.in-Some.ensures)
      w.in_ok-insert.ensures.updates.0)
  | in-Back+in_default-place_of w ↦
      let x = steps.Back w.in-Back.exit w.in-Back.call w.in-Back.letter w.in-Back.to in
      let e = sym w.in-Back.is ∙ same_default c.args.moves.now c.loop-step.step-index _ x c.loop-step-test.true in
      rw w.landed-is
      (keys_pass (back_landed_key (map node c.args.nodes.now)) c.args.moves.now c.loop-step.step-index x _ c.loop-step.invariant c.loop-step-test.true e
      (back_at_no_place (slice_get (map node c.args.nodes.now) w.in-Back.to) w.in-Back.exit w.in-Back.call w.in-Back.letter w.in_default-place_of.ensures))
  | in_default w ↦
      let x = steps.Step w.in_default.field-0 w.in_default.field-1 w.in_default.field-2 in
      let e = sym w.in_default.is ∙ same_default c.args.moves.now c.loop-step.step-index _ x c.loop-step-test.true in
      rw w.landed-is (keys_pass (back_landed_key (map node c.args.nodes.now)) c.args.moves.now c.loop-step.step-index x _ c.loop-step.invariant c.loop-step-test.true e refl)
]

pub returns : goal.returns
returns c =
    λ triples. back_landed_keys (record { triples = triples; nodes = map node c.args.nodes.now; steps = c.args.moves.now }) _
    (keys_all (back_landed_key (map node c.args.nodes.now)) c.args.moves.now c.loop-step.step-index _ c.loop-step.invariant c.loop-step-test.false)
