use Rattle.std.proofs.Common.{◌≡◌, ◌∙◌, ℤ, List, length, take, ap, sym, subst}
use Rattle.std.specs.List.{AllByRecursion}
use Rattle.std.proofs.lemmas.List.{take-map}
use Rattle.std.proofs.lemmas.Result.{err_from_is_err_and}
use Rattle.math_facts.specs.Fits.{Fits}
use Rattle.typed_tree.specs.TypingRules.TypedParts.{typed_program}
use Rattle.boogie_run.specs.declared.types.Choice.{Choice}
use Rattle.trace_replay.specs.FailureText.{numbers}
use Rattle.trace_replay.specs.Replays.{choices_among}
use Rattle.trace_replay.specs.Tried.{TriedFails}
use Rattle.trace_replay.specs.ReplayAnswers.{FailsBy, IsTriedFault}
use Rattle.trace_replay.proofs.TriedHere.{all_taken}
use Rattle.trace_replay.proofs.choosing.trail_of.Goals as goal

pub returns-clause-trail : goal.returns-clause-trail
returns-clause-trail c =
    let all : numbers c.deref.result.now ≡ choices_among c.args.taken.now = ap numbers c.deref.ensures.value ∙ c.in_ok-choices.ensures.value in
    let used : take c.in_ok-failing.failing.used (choices_among c.args.taken.now) ≡ numbers c.truncate.new.self.items =
    ap (take c.in_ok-failing.failing.used) (sym c.in_ok-choices.ensures.value) ∙ take-map (λ (x : Choice). x.0) c.in_ok-failing.failing.used c.in_ok-choices.choices.items ∙ ap numbers (sym c.truncate.ensures.items) in
    let fails = subst (λ (zs : List ℤ). FailsBy (typed_program c.args.program.now) (length c.args.taken.now) zs c.in_ok-failing.failing.steps c.in_ok-failing.failing.used) all c.in_ok-failing.ensures.fails in
    (fails.0, subst (λ (zs : List ℤ). TriedFails (typed_program c.args.program.now) (length c.args.taken.now) (choices_among c.args.taken.now) c.in_ok-failing.failing.steps zs fails.0) used fails.1)

pub returns-clause-fit : goal.returns-clause-fit
returns-clause-fit c =
    subst (AllByRecursion Fits) (take-map (λ (x : Choice). x.0) c.in_ok-failing.failing.used c.in_ok-choices.choices.items ∙ ap numbers (sym c.truncate.ensures.items))
    (all_taken c.in_ok-failing.failing.used (numbers c.in_ok-choices.choices.items) (c.in_ok-choices.ensures.fit c.requires))

pub returns-in_err-failing-clause-fault : goal.returns-in_err-failing-clause-fault
returns-in_err-failing-clause-fault c =
    let all : numbers c.deref.result.now ≡ choices_among c.args.taken.now = ap numbers c.deref.ensures.value ∙ c.in_ok-choices.ensures.value in
    let p = err_from_is_err_and c.from_residual-in_err-failing.result c.from_residual-in_err-failing.ensures.1 in
    rw (p.1, p.2) (subst (λ (zs : List ℤ). IsTriedFault (typed_program c.args.program.now) (length c.args.taken.now) zs c.in_err-failing.field-0.0) all c.in_err-failing.ensures.fault)
