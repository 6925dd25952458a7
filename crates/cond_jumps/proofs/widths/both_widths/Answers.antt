use Rattle.std.proofs.Common.{◌≡◌, true, inr, subst, sym}
use Rattle.cond_jumps.specs.Conjunctions.{Plan, Then, With, is_wide}
use Rattle.cond_jumps.specs.ListView.{asked}
use Rattle.cond_jumps.proofs.PairAnswers.{asked_true, width_is_asked, width_was_asked, widths_handed_on}
use Rattle.cond_jumps.proofs.widths.both_widths.Goals as goal

pub returns-in_err-other : goal.returns-in_err-other
returns-in_err-other c = λ n p s q r i j h k.
    let o = width_was_asked c.args.both s n c.args.a.other c.if-not-both.false h.other in
    let u = width_was_asked c.args.both r n c.args.b.other c.if-not-both.false k.other in
    let f = c.in_err-other.ensures s (With p r) n o (c.in_ok-behind.ensures p r n j h.wanted u) in
    let P : Plan → Type 0 = λ z. is_wide z n ≡ true in
    widths_handed_on (With p q) (asked c.args.both (Then s (With p r))) n c.from_residual-in_err-other.result c.in_err-other.field-0.0 c.from_residual-in_err-other.ensures.1
    ((λ e. inr (subst P (sym (asked_true c.args.both (Then s (With p r)) c.if-not-both.false)) (f.0 e))), f.1)

pub returns : goal.returns
returns c = λ n p s q r i j h k.
    let o = width_was_asked c.args.both s n c.args.a.other c.if-not-both.false h.other in
    let u = width_was_asked c.args.both r n c.args.b.other c.if-not-both.false k.other in
    record {
      wanted = c.in_ok-wanted.ensures p q n i h.wanted k.wanted;
      other = width_is_asked c.args.both (Then s (With p r)) n c.in_ok-other.other c.if-not-both.false
          (c.in_ok-other.ensures s (With p r) n o (c.in_ok-behind.ensures p r n j h.wanted u));
    }
