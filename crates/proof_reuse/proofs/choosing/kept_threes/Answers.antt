use Rattle.std.proofs.Common.{[], ◌∷◌}
use Rattle.proof_reuse.proofs.SetLaws.{same_none, same_inserts}
use Rattle.proof_reuse.proofs.choosing.kept_threes.Goals as goal

pub returns : goal.returns
returns c =
    same_inserts c.add_three-2.new.set.keys c.add_three-3.new.set.keys ((0, 0, 0) ∷ ((1, 0, 1) ∷ [])) (0, 1, 1)
    (same_inserts c.add_three.new.set.keys c.add_three-2.new.set.keys ((0, 0, 0) ∷ []) (1, 0, 1)
    (same_inserts c.new-threes.result.keys c.add_three.new.set.keys [] (0, 0, 0) (same_none _ c.new-threes.ensures.empty) c.in_ok-add_three.ensures) c.in_ok-add_three-2.ensures)
    c.in_ok-add_three-3.ensures
