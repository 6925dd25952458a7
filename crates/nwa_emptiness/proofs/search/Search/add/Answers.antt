use Rattle.std.proofs.Common.{ℕ, eqb, refl}
use Rattle.std.proofs.lemmas.Result.{on_ok_weaker}
use Rattle.std.specs.HashMap.{get}
use Rattle.nwa_base.specs.Groups.{grouped}
use Rattle.nwa_emptiness.specs.Ties.Seen.{seen}
use Rattle.nwa_emptiness.proofs.PlaceLemmas.{GrowsAt}
use Rattle.nwa_emptiness.proofs.SearchLemmas.{added, not_new, is_new, was_there, entry_none, entry_some}
use Rattle.nwa_emptiness.proofs.search.Search.add.Goals as goal

pub returns-then-not-is_new : goal.returns-then-not-is_new
unfolding seen
returns-then-not-is_new c =
    let there = c.in_ok-is_new.ensures.stored in
    let same = not_new _ _ _ _ _ c.in_ok-is_new.ensures.keys c.in_ok-is_new.ensures.len c.if-not-is_new.true in
    was_there (seen c.args.self.now) _ c.args.entry c.args.state _ there.0 c.requires.search same there.1 there.2

pub returns-in-None : goal.returns-in-None
unfolding seen
returns-in-None c =
    added _ _ c.args.entry c.args.state _ c.args.way c.requires.search c.requires.way refl
    (is_new _ _ _ _ _ c.in_ok-is_new.ensures.keys c.in_ok-is_new.ensures.len c.if-not-is_new.false) c.in_ok-push.ensures.items
    c.len-place.ensures.len c.in_ok-add.ensures.ok (entry_none _ _ _ c.in-None.is)

pub returns-in-Some : goal.returns-in-Some
unfolding seen
returns-in-Some c =
    let old = λ (n : ℕ). grouped (get eqb c.args.self.now.by_entry.by_key n) in
    let new = λ (n : ℕ). grouped (get eqb c.add-in-Some.new.self.by_key n) in
    on_ok_weaker c.add-in-Some.result
    (λ (g : GrowsAt c.in-Some.entry c.len-place.result old new).
    added _ _ c.args.entry c.args.state _ c.args.way c.requires.search c.requires.way refl
    (is_new _ _ _ _ _ c.in_ok-is_new.ensures.keys c.in_ok-is_new.ensures.len c.if-not-is_new.false) c.in_ok-push.ensures.items
    c.len-place.ensures.len c.in_ok-add.ensures.ok (entry_some _ c.in-Some.entry _ _ _ c.in-Some.is g))
    c.add-in-Some.ensures.ok
