use Rattle.std.proofs.Common.{◌∙◌, ℕ, sym, refl, eqb}
use Rattle.proof_names.specs.declared.outlines.NamedStep.TheVariants as steps
use Rattle.proof_check.proofs.IndexLaws.{keys_next, keys_pass, groups_next, groups_pass, groups_twice, groups_all}
use Rattle.proof_check.proofs.EntryLaws.{same_three, tells_one, tells_three, step_key, entering_entry, entering_groups, seen_enters, not_false}
use Rattle.proof_check.proofs.FirstLaws.{same_default}
use Rattle.proof_check.proofs.index.entering_of.Goals as goal
use Rattle.proof_check.proofs.index.entering_of.Goals.{in-Step+in_ok-insert+then-branch+in_ok-add, in-Step+in_ok-insert+else-branch, in_default}

pub loop-step-preserved : goal.loop-step-preserved
loop-step-preserved c = elim c.match-step.branch [
  | in-Step+in_ok-insert+then-branch+in_ok-add w ↦
      let x = steps.Step w.in-Step.from w.in-Step.letter w.in-Step.to in
      let e = sym w.in-Step.is ∙ same_default c.args.moves.now c.loop-step.step-index _ x c.loop-step-test.true in
      rw (w.seen-is, w.groups-is) (record {
        seen = keys_next step_key same_three c.args.moves.now c.loop-step.step-index x _ _ _ tells_three c.loop-step.invariant.seen c.loop-step-test.true e refl
            w.in_ok-insert.ensures.updates.0;
        entered = groups_next entering_entry (λ k l. eqb k l) c.args.moves.now c.loop-step.step-index x _ _ _ _ tells_one c.loop-step.invariant.entered c.loop-step-test.true e refl
            w.in_ok-add.ensures.ok;
      })
  | in-Step+in_ok-insert+else-branch w ↦
      let x = steps.Step w.in-Step.from w.in-Step.letter w.in-Step.to in
      let k : ℕ × ℕ × ℕ = (w.in-Step.from, w.in-Step.letter, w.in-Step.to) in
      let e = sym w.in-Step.is ∙ same_default c.args.moves.now c.loop-step.step-index _ x c.loop-step-test.true in
      rw (w.seen-is, w.groups-is) (record {
        seen = keys_next step_key same_three c.args.moves.now c.loop-step.step-index x _ _ _ tells_three c.loop-step.invariant.seen c.loop-step-test.true e refl
            w.in_ok-insert.ensures.updates.0;
        entered = groups_twice entering_entry c.args.moves.now c.loop-step.step-index x _ _ _ c.loop-step.invariant.entered c.loop-step-test.true e refl
            (seen_enters _ k ((c.loop-step.invariant.seen.so_far k).0 (not_false _ (sym w.if-branch.false ∙ w.in_ok-insert.ensures.added))));
      })
  | in_default w ↦
      let x = steps.Back w.in_default.field-0 w.in_default.field-1 w.in_default.field-2 w.in_default.field-3 in
      let e = sym w.in_default.is ∙ same_default c.args.moves.now c.loop-step.step-index _ x c.loop-step-test.true in
      rw (w.seen-is, w.groups-is) (record {
        seen = keys_pass step_key c.args.moves.now c.loop-step.step-index x _ c.loop-step.invariant.seen c.loop-step-test.true e refl;
        entered = groups_pass entering_entry c.args.moves.now c.loop-step.step-index x _ c.loop-step.invariant.entered c.loop-step-test.true e refl;
      })
]

pub returns : goal.returns
returns c = entering_groups c.args.moves.now _ (groups_all entering_entry c.args.moves.now c.loop-step.step-index _ c.loop-step.invariant.entered c.loop-step-test.false)
