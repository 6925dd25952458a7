use Rattle.std.specs.Int.{w128}
use Rattle.std.proofs.lemmas.Int.{to_z-of_z}
use Rattle.std.proofs.Common.{rules, FitsSigned, ◌≡◌, ◌∙◌, List, [], ◌∷◌, ◌++◌, get_or, None, ap}
use Rattle.boogie_run.specs.declared.types.Choice.{Choice}
use Rattle.trace_replay.specs.FailureText.{numbers}
use Rattle.trace_replay.specs.Replays.{choices_among}
use Rattle.trace_replay.proofs.ChosenSoFar.{value_chosen, none_chosen, left_fit, chosen_fit, all_chosen}
use Rattle.trace_replay.proofs.choosing.chosen.Goals as goal
use Rattle.trace_replay.proofs.choosing.chosen.Goals.{in-Some+in_ok-push, in_default}

pub loop-step-init : goal.loop-step-init
loop-step-init c = record {
  value = ap (λ (cs : List Choice). numbers cs ++ choices_among c.args.taken.now) c.new-choices.ensures.items;
  left = λ h. h;
  fits = λ h. rw c.new-choices.ensures.items tt;
}

pub loop-step-preserved : goal.loop-step-preserved
loop-step-preserved c =
    let old : List Choice = c.loop-step.choices.items in
    let new : List Choice = c.match-step.choices.items in
    elim c.match-step.branch [
      | in-Some+in_ok-push w ↦
          (let it : Choice = record { 0 = w.in-Some.value } in
          let f : FitsSigned w128 w.in-Some.value = search rules in
          let pushed : w.push.new.self.items ≡ old ++ it ∷ [] = simp to_z-of_z at w.in_ok-push.ensures.items in
          let p : new ≡ old ++ it ∷ [] = ap (λ v. v.items) w.choices-is ∙ pushed in
          record {
            value = value_chosen c.args.taken.now c.loop-step.step-index None old new it c.loop-step-test.true w.in-Some.is p c.loop-step.invariant.value;
            left = λ h. (left_fit c.args.taken.now c.loop-step.step-index None c.loop-step-test.true (c.loop-step.invariant.left h)).1;
            fits = λ h. chosen_fit (get_or c.args.taken.now c.loop-step.step-index None) old new it w.in-Some.is p
                (left_fit c.args.taken.now c.loop-step.step-index None c.loop-step-test.true (c.loop-step.invariant.left h)).0 (c.loop-step.invariant.fits h);
          })
      | in_default w ↦
          rw w.choices-is (record {
            value = none_chosen c.args.taken.now c.loop-step.step-index None old c.loop-step-test.true w.in_default.is c.loop-step.invariant.value;
            left = λ h. (left_fit c.args.taken.now c.loop-step.step-index None c.loop-step-test.true (c.loop-step.invariant.left h)).1;
            fits = c.loop-step.invariant.fits;
          })
    ]

pub returns-clause-value : goal.returns-clause-value
returns-clause-value c = all_chosen c.args.taken.now c.loop-step.step-index c.loop-step.choices.items c.loop-step-test.false c.loop-step.invariant.value
