use Rattle.proof_form.proofs.OrderLaws.{below_by_value}
use Rattle.proof_form.proofs.laws.numerals_are_compared_by_value.Goals as goal

pub returns : goal.returns
returns c a b h k = below_by_value a.negative a.digits b.negative b.digits h k
