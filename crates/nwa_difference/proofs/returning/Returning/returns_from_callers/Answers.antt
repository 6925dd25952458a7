use Rattle.std.proofs.Common.{◌∙◌, refl, sym, subst, arith}
use Rattle.nwa_base.specs.Automata.{IsAutomaton}
use Rattle.nwa_difference.specs.Covering.{ReturnsFromAll}
use Rattle.nwa_difference.proofs.FollowLemmas.{each_leaving}
use Rattle.nwa_difference.proofs.CoverLemmas.{each_none, each_on, each_all}
use Rattle.nwa_difference.proofs.returning.Returning.returns_from_callers.Goals as goal

pub loop-call-init : goal.loop-call-init
loop-call-init c = record {
  same = refl;
  each = each_none c.calls_leaving-call-items.result.now (λ x. ReturnsFromAll c.args.self.now x.1 c.args.state c.args.letter c.args.end);
}

pub returns_from_all-requires : goal.returns_from_all-requires
returns_from_all-requires c = subst IsAutomaton (sym c.loop-call.invariant.same) c.requires

pub loop-call-preserved : goal.loop-call-preserved
loop-call-preserved c = record {
  same = c.returns_from_all.ensures.same ∙ c.loop-call.invariant.same;
  each =
      each_on c.calls_leaving-call-items.result.now c.loop-call.call-index _ (λ x. ReturnsFromAll c.args.self.now x.1 c.args.state c.args.letter c.args.end)
      c.loop-call-test.true c.loop-call.invariant.each
      (rw c.loop-call.invariant.same at (c.in_ok-returns_from_all.ensures.all c.if-not-branch.false));
}

pub returns-clause-all : goal.returns-clause-all
returns-clause-all c = λ yes l n m.
    each_leaving c.calls_leaving-call-items.result.now c.args.first.now.calls c.args.first.now.calls c.args.before
    (λ x. ReturnsFromAll c.args.self.now x.1 c.args.state c.args.letter c.args.end) c.calls_leaving-call-items.ensures refl
    (each_all c.calls_leaving-call-items.result.now c.loop-call.call-index (λ x. ReturnsFromAll c.args.self.now x.1 c.args.state c.args.letter c.args.end)
    (omega arith) c.loop-call.invariant.each) l n m
