use Rattle.std.proofs.Common.{◌∙◌, refl, ap, length, length-set, arith}
use Rattle.nwa_reduce.proofs.PlaceLemmas.{index_none, index_more, index_all}
use Rattle.nwa_reduce.proofs.trimming.place_each.Goals as goal

pub loop-place-init : goal.loop-place-init
loop-place-init c = record { index = index_none c.args.kept.now _ c.requires.none; long = refl }

pub loop-place-preserved : goal.loop-place-preserved
loop-place-preserved c = record {
  index = index_more _ _ _ _ _ c.loop-place-test.true c.loop-place.invariant.index c.write_place.ensures;
  long = ap length c.write_place.ensures ∙ length-set _ _ _ ∙ c.loop-place.invariant.long;
}

pub returns : goal.returns
returns c = record { index = index_all _ c.loop-place.place _ (omega arith) c.loop-place.invariant.index; long = c.loop-place.invariant.long }
