use Rattle.std.proofs.Common.{ap, Ok}
use Rattle.typed_tree.proofs.Merged.{merging_valid}
use Rattle.typed_tree.proofs.merging.merged.Goals as goal

pub returns-clause-valid : goal.returns-clause-valid
returns-clause-valid c =
    merging_valid _ _ _ _ _ _ c.requires.a c.loop-terms.invariant (c.in_ok-next.ensures.ends (ap Ok c.in_default.is)) c.in_ok-extend_from_slice.ensures.ok
