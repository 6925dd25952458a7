use Rattle.std.proofs.Common.{Bool, true, false, FitsSigned, refl}
use Rattle.std.specs.Prelude.{MatchBool}
use Rattle.std.specs.Int.{w128}
use Rattle.std.proofs.lemmas.Int.{to_z-of_z}
use Rattle.std.proofs.lemmas.Result.{IfOk-weaker}
use Rattle.farkas_check.proofs.leaves.add_row.Goals as goal

-- what is added to, where the multiplier is as it has to be
with_multiplier : (F M A N : Type 0) (yes : Bool) → F → M → MatchBool yes A (N → ⊥) → MatchBool yes (F × M × A) (F → M → N → ⊥)
with_multiplier F M A N true f m a = (f, m, a)
with_multiplier F M A N false f m n = λ x y. n

pub returns-then-multiplies : goal.returns-then-multiplies
returns-then-multiplies c =
    let f : FitsSigned w128 c.args.multiplier = c.ranges.multiplier in
    let may = rw c.kind.ensures at (simp to_z-of_z at (c.if-multiplies.ensures.0 refl)) in
    IfOk-weaker c.add.result _ _ (λ yes a. with_multiplier _ _ _ _ yes may.0 may.1 a) (simp to_z-of_z at c.add.ensures)
