use Rattle.std.proofs.Common.{◌+◌}
use Rattle.cond_jumps.specs.Conjunctions.{Then, With}
use Rattle.cond_jumps.specs.Ties.JoinView.{helpers_before}
use Rattle.cond_jumps.proofs.PairAnswers.{not_asked, is_asked, was_asked}
use Rattle.cond_jumps.proofs.PlanAnswers.{then_built, behind_built, numbered_behind}
use Rattle.cond_jumps.proofs.pairs.both_lists.Goals as goal

pub returns-then-not-both : goal.returns-then-not-both
returns-then-not-both c = λ p s q r i j h k. record {
  wanted = behind_built p q c.args.base c.args.a.wanted c.args.b.wanted c.in_ok-wanted.wanted c.as_slice.result.now i h.wanted c.as_slice.ensures.value
      (numbered_behind q c.args.base c.args.b.wanted c.as_slice.result.now c.args.a.wanted.items c.as_slice.ensures.value k.wanted) c.in_ok-wanted.ensures;
  other = not_asked c.args.both (Then s (With p r)) c.args.base c.new.result c.if-not-both.true c.new.ensures.items;
}

pub returns : goal.returns
returns c = λ p s q r i j h k.
    let o = was_asked c.args.both s c.args.base c.args.a.other c.if-not-both.false h.other in
    let u = was_asked c.args.both r (c.args.base + helpers_before c.args.a.wanted.items) c.args.b.other c.if-not-both.false k.other in
    record {
      wanted = behind_built p q c.args.base c.args.a.wanted c.args.b.wanted c.in_ok-wanted.wanted c.as_slice.result.now i h.wanted c.as_slice.ensures.value
          (numbered_behind q c.args.base c.args.b.wanted c.as_slice.result.now c.args.a.wanted.items c.as_slice.ensures.value k.wanted) c.in_ok-wanted.ensures;
      other = is_asked c.args.both (Then s (With p r)) c.args.base c.in_ok-joined.field-0 c.if-not-both.false
          (then_built s (With p r) c.args.base c.args.a.other c.in_ok-missed.missed c.in_ok-joined.field-0 o
          (behind_built p r c.args.base c.args.a.wanted c.args.b.other c.in_ok-missed.missed c.as_slice-2.result.now j h.wanted c.as_slice-2.ensures.value
          (numbered_behind r c.args.base c.args.b.other c.as_slice-2.result.now c.args.a.wanted.items c.as_slice-2.ensures.value u) c.in_ok-missed.ensures)
          c.in_ok-joined.ensures);
    }
