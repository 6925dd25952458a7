use Rattle.std.proofs.Common.{refl}
use Rattle.nwa_reduce.proofs.CopyLemmas.{folding}
use Rattle.nwa_reduce.proofs.folding.is_folding.Goals as goal

pub returns : goal.returns
returns c = λ yes.
    folding c.args.nwa.now c.args.image.now c.args.names.now.of.items c.args.joins.now c.requires.long c.requires.joins
    (c.if-not-states_are_copies.ensures refl) (c.joins_are_copies.ensures yes)
