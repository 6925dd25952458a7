use Rattle.std.proofs.Common.{inl}
use Rattle.cond_jumps.specs.Conjunctions.{Then, With}
use Rattle.cond_jumps.specs.ListView.{asked}
use Rattle.cond_jumps.proofs.PairAnswers.{width_not_asked, width_is_asked, width_was_asked, widths_handed_on}
use Rattle.cond_jumps.proofs.widths.over_widths.Goals as goal

pub returns-in_err-wanted : goal.returns-in_err-wanted
returns-in_err-wanted c = λ n p s q r i j h k.
    let f = c.in_err-wanted.ensures p (With s q) n h.wanted (c.in_ok-behind.ensures s q n i h.other k.wanted) in
    widths_handed_on (Then p (With s q)) (asked c.args.both (With s r)) n c.from_residual-in_err-wanted.result c.in_err-wanted.field-0.0 c.from_residual-in_err-wanted.ensures.1
    ((λ e. inl (f.0 e)), f.1)

pub returns-then-not-both : goal.returns-then-not-both
returns-then-not-both c = λ n p s q r i j h k. record {
  wanted = c.in_ok-wanted.ensures p (With s q) n h.wanted (c.in_ok-behind.ensures s q n i h.other k.wanted);
  other = width_not_asked c.args.both (With s r) n c.if-not-both.true;
}

pub returns : goal.returns
returns c = λ n p s q r i j h k. record {
  wanted = c.in_ok-wanted.ensures p (With s q) n h.wanted (c.in_ok-behind.ensures s q n i h.other k.wanted);
  other = width_is_asked c.args.both (With s r) n c.in_ok-other.other c.if-not-both.false
      (c.in_ok-other.ensures s r n j h.other (width_was_asked c.args.both r n c.args.b.other c.if-not-both.false k.other));
}
