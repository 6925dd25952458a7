use Rattle.std.proofs.Common.{◌≡◌, List, take, ◌∙◌, subst}
use Rattle.std.specs.declared.vec.Vec.{Vec}
use Rattle.std.specs.declared.alloc.Global.{Global}
use Rattle.std.proofs.lemmas.List.{take_all}
use Rattle.lin_rows.specs.declared.systems.System.{System}
use Rattle.lin_rows.specs.Systems.{IsCopy, RelatedInPairs, members_of}
use Rattle.lin_rows.proofs.SystemLaws.{copy_of_parts, pairs_more, group_pairs_more}
use Rattle.lin_rows.proofs.systems.+copying.Goals as goal

pub System::copy-loop-group-preserved : goal.System::copy-loop-group-preserved
System::copy-loop-group-preserved t c =
    rw c.in_ok-push.ensures.items
    (group_pairs_more IsCopy c.deref-group-items.result.now c.loop-group.groups.items c.loop-group.group-index c.group-item.result c.in_ok-copied_members.field-0
    c.loop-group-test.true c.loop-group.invariant (rw c.group-item.is at c.in_ok-copied_members.ensures))

pub System::copy-returns : goal.System::copy-returns
System::copy-returns t c =
    let all : take c.loop-group.group-index c.deref-group-items.result.now ≡ c.deref-group-items.result.now = take_all _ c.deref-group-items.result.now c.loop-group-test.false in
    copy_of_parts c.args.self.now (record { rows = c.in_ok-rows.rows; groups = c.loop-group.groups }) (c.in_ok-rows.ensures.value ∙ c.deref.ensures.value)
    (subst (λ (gs : List (Vec System Global)). RelatedInPairs (RelatedInPairs IsCopy) (members_of gs) (members_of c.loop-group.groups.items))
    (all ∙ c.deref-group-items.ensures.value) c.loop-group.invariant)

pub copied_members-loop-member-preserved : goal.copied_members-loop-member-preserved
copied_members-loop-member-preserved t c =
    rw c.in_ok-push.ensures.items
    (pairs_more IsCopy c.deref-member-items.result.now c.loop-member.copies.items c.loop-member.member-index c.member-item.result c.in_ok-copy.field-0
    c.loop-member-test.true c.loop-member.invariant (rw c.member-item.is at c.in_ok-copy.ensures))
