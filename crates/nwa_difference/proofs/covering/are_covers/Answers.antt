use Rattle.std.proofs.Common.{refl}
use Rattle.nwa_difference.proofs.CoverLemmas.{covers_are, if_ok_then}
use Rattle.nwa_difference.proofs.covering.are_covers.Goals as goal

pub returns : goal.returns
returns c =
    if_ok_then c.backs_go_on.result c.backs_go_on.ensures (λ b h yes.
    covers_are c.args.first.now c.args.second.now c.args.covers.now c.finals.result.now c.finals.ensures
    (c.if-not-finals_are_covered.ensures refl) (c.if-not-insides_go_on.ensures refl) (c.if-not-calls_go_on.ensures refl) (h yes))
