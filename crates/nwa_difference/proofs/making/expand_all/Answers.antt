use Rattle.std.proofs.Common.{◌≡◌, ◌∙◌, refl, sym, slice_get, None}
use Rattle.nwa_difference.specs.Ties.Seen.{seen, found, stage}
use Rattle.nwa_difference.proofs.DoneLemmas.{done_none, done_more, product_is, member_get, past}
use Rattle.nwa_difference.proofs.making.expand_all.Goals as goal

pub loop-entry-init : goal.loop-entry-init
loop-entry-init c = record {
  valid = c.requires.stage;
  first = refl;
  second = refl;
  done = done_none (stage c.args.product.now c.args.pairs.now) c.requires.start;
}

pub expand-requires-clause-pair : goal.expand-requires-clause-pair
expand-requires-clause-pair c =
    member_get (found c.loop-entry.pairs).pairs c.loop-entry.place (c.in-Some.entry, c.in-Some.state) (sym c.at.ensures.value ∙ c.in-Some.is)

pub loop-entry-preserved : goal.loop-entry-preserved
loop-entry-preserved c =
    let i = c.loop-entry.invariant in
    let s = c.in_ok-expand.ensures in
    record {
      valid = s.goes.stage;
      first = s.goes.product.first ∙ i.first;
      second = s.goes.product.sets.nwa ∙ i.second;
      done =
          done_more (stage c.loop-entry.product c.loop-entry.pairs) (stage c.expand.new.product c.expand.new.pairs) c.loop-entry.place c.in-Some.entry
          c.in-Some.state (sym c.at.ensures.value ∙ c.in-Some.is) i.valid i.done s;
    }

pub returns : goal.returns
returns c w =
    let i = c.loop-entry.invariant in
    let none : slice_get (found c.loop-entry.pairs).pairs c.loop-entry.place ≡ None = sym c.at.ensures.value ∙ c.in_default.is in
    product_is (stage c.loop-entry.product c.loop-entry.pairs) (seen c.args.product.now).first (seen c.args.product.now).sets.nwa c.loop-entry.place i.valid
    i.first i.second i.done (past (found c.loop-entry.pairs).pairs c.loop-entry.place none) w
