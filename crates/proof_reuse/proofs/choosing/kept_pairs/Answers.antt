use Rattle.std.proofs.Common.{[], ◌∷◌}
use Rattle.proof_reuse.proofs.SetLaws.{same_none, same_inserts}
use Rattle.proof_reuse.proofs.choosing.kept_pairs.Goals as goal

pub returns : goal.returns
returns c =
    same_inserts c.add_pair.new.set.keys c.add_pair-2.new.set.keys ((0, 0) ∷ []) (1, 1)
    (same_inserts c.new-pairs.result.keys c.add_pair.new.set.keys [] (0, 0) (same_none _ c.new-pairs.ensures.empty) c.in_ok-add_pair.ensures) c.in_ok-add_pair-2.ensures
