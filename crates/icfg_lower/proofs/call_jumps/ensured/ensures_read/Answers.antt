use Rattle.std.proofs.Common.{false, map}
use Rattle.typed_tree.specs.TypedView.{expression}
use Rattle.icfg_lower.specs.CallJumps.Ties.Reading.{read_by}
use Rattle.icfg_lower.specs.CallJumps.Ties.Stands.{stands_of}
use Rattle.icfg_lower.proofs.CallJumps.EnsuredLemmas.{ensures_step}
use Rattle.icfg_lower.proofs.call_jumps.ensured.ensures_read.Goals as goal

pub loop-spec-preserved : goal.loop-spec-preserved
loop-spec-preserved c =
    ensures_step (read_by (stands_of c.args.reader.now) false) c.args.specs.now c.loop-spec.spec-index c.spec-item.result (map expression c.loop-spec.conds.items)
    (map expression c.add_condition.new.conds.items) c.loop-spec-test.true c.spec-item.is c.loop-spec.invariant c.in_ok-add_condition.ensures
