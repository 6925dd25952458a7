use Rattle.std.proofs.Common.{◌∙◌, ap, eqb}
use Rattle.std.specs.List.{list_any}
use Rattle.nwa_base.specs.Edges.{back_ends}
use Rattle.nwa_base.proofs.MemberLemmas.{any_number}
use Rattle.nwa_base.proofs.PairLemmas.{back_ends_member, member_back_ends}
use Rattle.nwa_base.proofs.automata.Nwa.has_back.Goals as goal

pub returns : goal.returns
returns c =
    let test = any_number (back_ends c.args.q c.args.p c.args.a c.args.self.now.backs) c.args.to c.contains.result
    (c.contains.ensures.value ∙ ap (list_any (λ y. eqb y c.args.to)) c.back_ends.ensures) in
    (λ h. back_ends_member _ _ _ _ _ (test.0 h), λ h. test.1 (member_back_ends _ _ _ _ _ h))
