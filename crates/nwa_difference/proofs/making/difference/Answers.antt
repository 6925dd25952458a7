use Rattle.std.proofs.Common.{◌↔◌, subst}
use Rattle.nwa_base.specs.Automata.{Automaton}
use Rattle.nwa_base.specs.Acceptance.{Accepts}
use Rattle.nwa_difference.specs.Ties.Seen.{seen}
use Rattle.nwa_difference.proofs.DoneLemmas.{accepts_same}
use Rattle.nwa_difference.proofs.making.difference.Goals as goal

pub returns : goal.returns
returns c w =
    let made = (seen c.search.new.product).product in
    accepts_same made c.into_nwa.result c.args.first.now c.args.second.now w c.into_nwa.ensures
    (subst (λ (z : Automaton). Accepts made w ↔ (Accepts z w × (Accepts c.args.second.now w → ⊥))) c.in_ok-product.ensures.1
    (subst (λ (z : Automaton). Accepts made w ↔ (Accepts (seen c.in_ok-product.product).first w × (Accepts z w → ⊥))) c.in_ok-product.ensures.2
    (c.in_ok-search.ensures w)))
