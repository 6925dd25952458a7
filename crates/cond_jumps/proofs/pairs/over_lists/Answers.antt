use Rattle.std.proofs.Common.{◌+◌}
use Rattle.cond_jumps.specs.Conjunctions.{With}
use Rattle.cond_jumps.specs.Ties.JoinView.{helpers_before}
use Rattle.cond_jumps.proofs.PairAnswers.{not_asked, is_asked, was_asked}
use Rattle.cond_jumps.proofs.PlanAnswers.{then_built, behind_built, numbered_behind}
use Rattle.cond_jumps.proofs.pairs.over_lists.Goals as goal

pub returns-then-not-both : goal.returns-then-not-both
returns-then-not-both c = λ p s q r i j h k. record {
  wanted = then_built p (With s q) c.args.base c.args.a.wanted c.in_ok-missed.missed c.in_ok-wanted.wanted h.wanted
      (behind_built s q c.args.base c.args.a.other c.args.b.wanted c.in_ok-missed.missed c.as_slice.result.now i h.other c.as_slice.ensures.value
      (numbered_behind q c.args.base c.args.b.wanted c.as_slice.result.now c.args.a.other.items c.as_slice.ensures.value k.wanted) c.in_ok-missed.ensures)
      c.in_ok-wanted.ensures;
  other = not_asked c.args.both (With s r) c.args.base c.new.result c.if-not-both.true c.new.ensures.items;
}

pub returns : goal.returns
returns c = λ p s q r i j h k.
    let u = was_asked c.args.both r (c.args.base + helpers_before c.args.a.other.items) c.args.b.other c.if-not-both.false k.other in
    record {
      wanted = then_built p (With s q) c.args.base c.args.a.wanted c.in_ok-missed.missed c.in_ok-wanted.wanted h.wanted
          (behind_built s q c.args.base c.args.a.other c.args.b.wanted c.in_ok-missed.missed c.as_slice.result.now i h.other c.as_slice.ensures.value
          (numbered_behind q c.args.base c.args.b.wanted c.as_slice.result.now c.args.a.other.items c.as_slice.ensures.value k.wanted) c.in_ok-missed.ensures)
          c.in_ok-wanted.ensures;
      other = is_asked c.args.both (With s r) c.args.base c.in_ok-behind.field-0 c.if-not-both.false
          (behind_built s r c.args.base c.args.a.other c.args.b.other c.in_ok-behind.field-0 c.as_slice-2.result.now j h.other c.as_slice-2.ensures.value
          (numbered_behind r c.args.base c.args.b.other c.as_slice-2.result.now c.args.a.other.items c.as_slice-2.ensures.value u) c.in_ok-behind.ensures);
    }
