use Rattle.std.proofs.Common.{◌≡◌, ◌∙◌, ◌-◌, ℤ, List, [], ◌++◌, length, take, drop, sym, ap, arith}
use Rattle.std.proofs.lemmas.List.{take_rest}
use Rattle.typed_tree.specs.TypingRules.TypedParts.{typed_program}
use Rattle.boogie_run.specs.declared.types.Choice.{Choice}
use Rattle.boogie_run.specs.RunView.{config_of}
use Rattle.trace_replay.specs.FailureText.{numbers}
use Rattle.trace_replay.proofs.GuessedSteps.{one_more_guessed, guess_fails}
use Rattle.trace_replay.proofs.FirstSteps.{none_made}
use Rattle.trace_replay.proofs.guessing.try_guess.Goals as goal

pub loop-made-preserved : goal.loop-made-preserved
loop-made-preserved c =
    let before : List ℤ = numbers c.loop-made.choices.items in
    let all : List Choice = c.deref-in-loop-made.result.now in
    let count : c.len-before.result ≡ length c.loop-made.choices.items = omega (arith, c.len-before.ensures, c.deref.ensures.len, ap length c.deref.ensures.value) in
    let added : drop (length c.loop-made.choices.items) c.add.new.choices.items ≡ take (length all - c.len-before.result) (drop c.len-before.result all) =
    (λ k. drop (sym count k) (sym c.deref-in-loop-made.ensures.value k)) ∙ sym (take_rest all c.len-before.result) in
    record {
      made = one_more_guessed (typed_program c.args.program.now) before (numbers c.add.new.choices.items) (numbers (take (length all - c.len-before.result) (drop c.len-before.result all)))
          c.loop-made.made (config_of c.loop-made.config) (c.in_ok-add.ensures.behind ∙ ap (λ (xs : List Choice). before ++ numbers xs) added) c.loop-made.invariant.made
          (config_of c.one_step.new.config) c.in-GoesOn.rest.now (rw c.in-GoesOn.is at c.in_ok-rest.ensures.turns) (sym c.if-is_empty.true ∙ c.is_empty.ensures);
      fits = c.in_ok-rest.ensures.fits;
      fit = c.in_ok-add.ensures.fit;
    }

pub returns-in-Fails-clause-guessed : goal.returns-in-Fails-clause-guessed
returns-in-Fails-clause-guessed c =
    let before : List ℤ = numbers c.loop-made.choices.items in
    let all : List Choice = c.deref-in-loop-made.result.now in
    let count : c.len-before.result ≡ length c.loop-made.choices.items = omega (arith, c.len-before.ensures, c.deref.ensures.len, ap length c.deref.ensures.value) in
    let added : drop (length c.loop-made.choices.items) c.add.new.choices.items ≡ take (length all - c.len-before.result) (drop c.len-before.result all) =
    (λ k. drop (sym count k) (sym c.deref-in-loop-made.ensures.value k)) ∙ sym (take_rest all c.len-before.result) in
    λ _. guess_fails (typed_program c.args.program.now) before (numbers c.add.new.choices.items) (numbers (take (length all - c.len-before.result) (drop c.len-before.result all)))
    c.loop-made.made (config_of c.loop-made.config) (c.in_ok-add.ensures.behind ∙ ap (λ (xs : List Choice). before ++ numbers xs) added) c.loop-made.invariant.made
    c.in-Fails.field-0.number (rw c.in-Fails.is at c.in_ok-rest.ensures.turns).0

pub loop-made-init : goal.loop-made-init
loop-made-init c = record {
  made = none_made (typed_program c.args.program.now) (numbers c.new-choices.result.items) [] (config_of c.in_ok-config.config) c.in_ok-config.ensures.start (ap numbers (sym c.new-choices.ensures.items));
  fits = c.in_ok-config.ensures.fits;
  fit = rw c.new-choices.ensures.items tt;
}
