use Rattle.std.proofs.Common.{refl}
use Rattle.letter_acts.specs.Invariant.{AreDistinct, site_places}
use Rattle.letter_acts.proofs.LoopLemmas.{refuted, distinct_step, ended}
use Rattle.letter_acts.proofs.checks.sites.places_differ.Goals as goal

pub loop-i-preserved : goal.loop-i-preserved
loop-i-preserved c =
    distinct_step (λ s. s.place) _ c.args.sites.now c.loop-i.i _ (record { id = record { number = 0; line = 0 }; place = 0 }) refl c.loop-i-test.true (refuted _ _ c.has_place.ensures c.if-has_place.false) c.loop-i.invariant

pub returns : goal.returns
returns c = ended (λ ss. AreDistinct (site_places ss)) _ c.args.sites.now c.loop-i.i c.loop-i-test.false tt c.loop-i.invariant
