use Rattle.nwa_base.proofs.MemberLemmas.{set_none}
use Rattle.nwa_base.proofs.finals.Finals.new.Goals as goal

pub invariant_of-result : goal.invariant_of-result
invariant_of-result c = set_none _ _ c.new.ensures.items (λ x. rw c.with_hasher.ensures.empty)
