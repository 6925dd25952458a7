use Rattle.std.proofs.Common.{◌∙◌, sym}
use Rattle.nwa_determinise.proofs.KeptLemmas.{kept_more, kept_at, same_items}
use Rattle.nwa_determinise.proofs.NotedLemmas.{noted_stays}
use Rattle.nwa_determinise.proofs.OnceLemmas.{once}
use Rattle.nwa_determinise.proofs.kept.Det.intern.Goals as goal

pub returns-clause-grows : goal.returns-clause-grows
returns-clause-grows c =
    rw (← c.self.view_is) (kept_more c.self.inside.nwa.now c.self.inside.sets.keys c.insert_full.new.self.keys c.args.set _ c.in_ok-place.ensures.keys)

pub returns-clause-set : goal.returns-clause-set
returns-clause-set c =
    let k = c.in_ok-place.ensures.stored in
    kept_at c.insert_full.new.self.keys c.in_ok-place.place k.0 k.1 ∙ sym (same_items c.args.set.items k.0.items k.2)

pub returns-clause-once : goal.returns-clause-once
returns-clause-once c =
    let k = c.in_ok-place.ensures.stored in
    rw (← c.self.view_is)
    (once c.self.inside.nwa.now c.self.inside.sets.keys c.insert_full.new.self.keys c.args.set c.in_ok-place.place c.in_ok-place.ensures.keys
    c.in_ok-place.ensures.index c.in_ok-place.ensures.within
    (kept_at c.insert_full.new.self.keys c.in_ok-place.place k.0 k.1 ∙ sym (same_items c.args.set.items k.0.items k.2)))

pub invariant_of-self-2 : goal.invariant_of-self-2
invariant_of-self-2 c =
    noted_stays _ _ _ _ _ (kept_more c.self.inside.nwa.now c.self.inside.sets.keys c.insert_full.new.self.keys c.args.set _ c.in_ok-place.ensures.keys)
    c.self.invariant
