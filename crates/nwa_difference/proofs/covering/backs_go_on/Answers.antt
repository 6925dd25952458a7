use Rattle.std.proofs.Common.{◌∙◌, ℕ, List, sym, subst, arith}
use Rattle.nwa_base.specs.declared.letters.Letter.{Letter}
use Rattle.nwa_base.specs.Automata.{IsAutomaton}
use Rattle.nwa_difference.specs.Covering.{BackGoesOn}
use Rattle.nwa_difference.proofs.FollowLemmas.{Each}
use Rattle.nwa_difference.proofs.CoverLemmas.{each_none, each_on, each_all}
use Rattle.nwa_difference.proofs.covering.backs_go_on.Goals as goal

pub loop-edge-init : goal.loop-edge-init
loop-edge-init c = record {
  same = c.new-returning.ensures;
  each = each_none c.backs-edge-items.result.now (BackGoesOn c.args.first.now c.args.second.now c.args.covers.now);
}

pub goes_on-requires : goal.goes_on-requires
goes_on-requires c = subst IsAutomaton (sym c.loop-edge.invariant.same) c.states-states.ensures.valid

pub loop-edge-preserved : goal.loop-edge-preserved
loop-edge-preserved c = record {
  same = c.goes_on.ensures.same ∙ c.loop-edge.invariant.same;
  each =
      each_on c.backs-edge-items.result.now c.loop-edge.edge-index _ (BackGoesOn c.args.first.now c.args.second.now c.args.covers.now) c.loop-edge-test.true
      c.loop-edge.invariant.each
      (rw c.loop-edge.invariant.same at (c.in_ok-goes_on.ensures.goes_on c.if-not-branch.false));
}

pub returns : goal.returns
returns c = λ yes.
    subst (λ (s : List (ℕ × ℕ × Letter × ℕ)). Each s (BackGoesOn c.args.first.now c.args.second.now c.args.covers.now)) c.backs-edge-items.ensures
    (each_all c.backs-edge-items.result.now c.loop-edge.edge-index (BackGoesOn c.args.first.now c.args.second.now c.args.covers.now) (omega arith)
    c.loop-edge.invariant.each)
