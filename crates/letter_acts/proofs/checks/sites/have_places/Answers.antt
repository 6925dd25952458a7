use Rattle.std.proofs.Common.{◌∙◌, sym, ap, length, arith}
use Rattle.letter_acts.proofs.LoopLemmas.{so, not_so}
use Rattle.letter_acts.proofs.SiteLemmas.{same_places, place_here, place_count}
use Rattle.letter_acts.proofs.checks.sites.have_places.Goals as goal

pub returns-then-sites-places : goal.returns-then-sites-places
returns-then-sites-places c = not_so _ (λ e. c.if-sites-places.true (sym (place_count c.args.sites.now) ∙ ap length e))

pub returns-then-sites-i : goal.returns-then-sites-i
returns-then-sites-i c = not_so _ (λ e. c.if-sites-i.true (place_here c.args.sites.now c.args.places.now _ c.loop-i.i c.loop-i-test.true e))

pub returns : goal.returns
returns c = so _ (same_places c.args.sites.now c.args.places.now _ c.if-sites-places.false (λ k l. c.loop-i.invariant k (omega (arith, l, c.loop-i-test.false))))
