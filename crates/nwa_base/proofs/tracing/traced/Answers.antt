use Rattle.std.proofs.Common.{◌≡◌, ap, reverse, length, rules}
use Rattle.std.proofs.lemmas.List.{nil_from_length}
use Rattle.nwa_base.proofs.TracingLemmas.{tracing_starts, tracing_can, tracing_goes, tracing_ends}
use Rattle.nwa_base.proofs.tracing.traced.Goals as goal

pub loop-step-init : goal.loop-step-init
loop-step-init c =
    tracing_starts _ _ _ _ _ c.requires.read.0 _ _ c.requires.read.1 c.requires.read.2 c.requires.ends (ap reverse c.new-keys.ensures.items)
    c.in_ok-run.ensures.items

pub step_back-requires : goal.step_back-requires
step_back-requires c =
    let place : c.len.result ≡ length c.pop.new.self.items = search rules in
    let r = tracing_can _ _ _ _ c.in-Some.step _ _ _ _ _ c.loop-step.invariant c.in-Some.ensures.items in
    rw place (r.1.0, r.1.1, r.1.3, r.1.4)

pub loop-step-preserved : goal.loop-step-preserved
loop-step-preserved c =
    let place : c.len.result ≡ length c.pop.new.self.items = search rules in
    tracing_goes _ _ _ _ c.in-Some.step _ _ _ _ _ _ _ _ _ c.loop-step.invariant c.in-Some.ensures.items
    (rw place at c.in_ok-here.ensures) c.in_ok-push.ensures.items

pub returns : goal.returns
returns c =
    let none : length c.loop-step.steps.items ≡ 0 = search (rules, c.in_default.ensures.cases) in
    rw c.reverse.ensures.items (tracing_ends _ _ _ _ _ _ _ c.loop-step.invariant (nil_from_length _ none))
