use Rattle.std.proofs.Common.{◌∙◌, ap, eqb}
use Rattle.std.specs.List.{list_any}
use Rattle.nwa_base.specs.Edges.{ends}
use Rattle.nwa_base.proofs.MemberLemmas.{any_number}
use Rattle.nwa_base.proofs.PairLemmas.{ends_member, member_ends}
use Rattle.nwa_base.proofs.automata.Nwa.has_call.Goals as goal

pub returns : goal.returns
returns c =
    let test = any_number (ends c.args.q c.args.a c.args.self.now.calls) c.args.to c.contains.result
    (c.contains.ensures.value ∙ ap (list_any (λ y. eqb y c.args.to)) c.call_ends.ensures) in
    (λ h. ends_member _ _ _ _ (test.0 h), λ h. test.1 (member_ends _ _ _ _ h))
