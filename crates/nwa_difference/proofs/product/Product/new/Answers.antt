use Rattle.std.proofs.Common.{eqb, ◌&&◌, ℕ}
use Rattle.nwa_difference.specs.Ties.Seen.{seen}
use Rattle.nwa_difference.proofs.BeginLemmas.{begun, one_key}
use Rattle.nwa_difference.proofs.product.Product.new.Goals as goal

pub returns : goal.returns
unfolding seen
returns c =
    begun c.args.first.now c.args.second.now c.in_ok-covers.covers.items c.in_ok-sets.sets c.start.new.self c.start-start.result c.in_ok-set.set c.ends.result c.in_ok-nwa.nwa
    c.insert.new.self.keys c.in_ok-covers.ensures c.in_ok-sets.ensures c.start.ensures.grows c.start-start.ensures c.in_ok-set.ensures.number c.in_ok-set.ensures.set
    c.ends.ensures c.in_ok-nwa.ensures (one_key (λ (x y : ℕ × ℕ). eqb x.0 y.0 && eqb x.1 y.1) c.new-states.result.keys _ _ c.new-states.ensures.empty c.in_ok-insert.ensures.keys)
