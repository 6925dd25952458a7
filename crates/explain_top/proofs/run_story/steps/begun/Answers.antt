use Rattle.std.proofs.Common.{ap, ◌∙◌, rules, FitsSigned}
use Rattle.std.specs.Int.{w128}
use Rattle.std.proofs.lemmas.Int.{to_z-of_z}
use Rattle.math_facts.specs.Optional.{or_zero}
use Rattle.typed_tree.specs.TypingRules.TypedParts.{typed_program}
use Rattle.boogie_run.specs.Needs.{Need}
use Rattle.boogie_run.specs.RunView.{config_of}
use Rattle.trace_replay.specs.FailureText.{numbers}
use Rattle.trace_replay.specs.NextChoices.{next_choice}
use Rattle.explain_top.specs.RunStory.Seen.{item_of}
use Rattle.explain_top.proofs.RunStory.StepLemmas.{begun_is}
use Rattle.explain_top.proofs.run_story.steps.begun.Goals as goal

pub returns : goal.returns
returns c = λ ds is fits.
    let f : FitsSigned w128 c.next_number-chosen.result = search rules in
    begun_is (typed_program c.args.program.now) ds (config_of c.args.config.now) (numbers c.args.left.now) (item_of c.site-source.result) c.open_calls.result c.next_number-chosen.result
    c.in_ok-line.line c.notes_before.new.line (c.site-source.ensures ds is) c.in_ok-line.ensures.text c.in_ok-line.ensures.noted c.open_calls.ensures
    (c.next_number-chosen.ensures ∙ ap (λ (n : Need). or_zero (next_choice n (numbers c.args.left.now)).0) c.needs.ensures)
    (let told = c.in_ok-notes_before.ensures ds is fits in simp to_z-of_z at told)
