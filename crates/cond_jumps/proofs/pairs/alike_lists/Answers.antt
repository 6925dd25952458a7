use Rattle.cond_jumps.specs.Ties.PairView.{crossed}
use Rattle.cond_jumps.proofs.PairAnswers.{not_asked, is_asked}
use Rattle.cond_jumps.proofs.PlanAnswers.{crossed_built}
use Rattle.cond_jumps.proofs.pairs.alike_lists.Goals as goal

pub returns-then-not-both : goal.returns-then-not-both
returns-then-not-both c = λ p s q r i j h k. record {
  wanted = crossed_built p s q r c.args.base c.args.a.now.wanted c.args.a.now.other c.args.b.now.wanted c.args.b.now.other c.in_ok-wanted.wanted c.as_slice.result.now c.as_slice-2.result.now
      i j h.wanted h.other k.wanted k.other c.as_slice.ensures.value c.as_slice-2.ensures.value c.in_ok-wanted.ensures;
  other = not_asked c.args.both (crossed p s r q) c.args.base c.new.result c.if-not-both.true c.new.ensures.items;
}

pub returns : goal.returns
returns c = λ p s q r i j h k. record {
  wanted = crossed_built p s q r c.args.base c.args.a.now.wanted c.args.a.now.other c.args.b.now.wanted c.args.b.now.other c.in_ok-wanted.wanted c.as_slice.result.now c.as_slice-2.result.now
      i j h.wanted h.other k.wanted k.other c.as_slice.ensures.value c.as_slice-2.ensures.value c.in_ok-wanted.ensures;
  other = is_asked c.args.both (crossed p s r q) c.args.base c.in_ok-crossed.field-0 c.if-not-both.false
      (crossed_built p s r q c.args.base c.args.a.now.wanted c.args.a.now.other c.args.b.now.other c.args.b.now.wanted c.in_ok-crossed.field-0 c.as_slice-3.result.now c.as_slice-4.result.now
      j i h.wanted h.other k.other k.wanted c.as_slice-3.ensures.value c.as_slice-4.ensures.value c.in_ok-crossed.ensures);
}
