use Rattle.std.proofs.Common.{◌∙◌, ◌++◌, ◌∷◌, [], ap}
use Rattle.nwa_base.proofs.MemberLemmas.{set_push}
use Rattle.nwa_base.proofs.finals.Finals.push.Goals as goal

pub invariant_of-self-2 : goal.invariant_of-self-2
invariant_of-self-2 c =
    set_push _ _ c.args.q _ _ c.self.invariant (c.push_reserved.ensures.items ∙ ap (λ l. l ++ c.args.q ∷ []) c.reserve.ensures.items)
    c.in_ok-insert.ensures.updates.0
