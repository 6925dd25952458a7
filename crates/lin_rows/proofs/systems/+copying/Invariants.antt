use Rattle.std.proofs.Common.{take}
use Rattle.lin_rows.specs.Systems.{IsCopy, members_of, RelatedInPairs}
use Rattle.lin_rows.proofs.systems.+copying.Given as goal

abbrev pub invariant-System::copy-loop-group : goal.invariant-System::copy-loop-group
invariant-System::copy-loop-group l =
    RelatedInPairs (RelatedInPairs IsCopy) (members_of (take l.group-index l.group-items)) (members_of l.groups.items)

abbrev pub invariant-copied_members-loop-member : goal.invariant-copied_members-loop-member
invariant-copied_members-loop-member l = RelatedInPairs IsCopy (take l.member-index l.member-items) l.copies.items
