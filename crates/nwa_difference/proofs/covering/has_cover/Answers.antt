use Rattle.std.proofs.Common.{refl, inl, inr}
use Rattle.nwa_difference.proofs.covering.has_cover.Goals as goal

pub returns-then-is_in : goal.returns-then-is_in
returns-then-is_in c = λ yes. inl (c.if-is_in.ensures refl)

pub returns : goal.returns
returns c = λ yes. inr (c.if-not-is_end.ensures refl, c.is_final.ensures.0 yes)
