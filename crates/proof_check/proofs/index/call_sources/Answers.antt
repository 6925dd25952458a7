use Rattle.std.proofs.Common.{refl, ap}
use Rattle.proof_check.proofs.IndexLaws.{groups_none, groups_next, groups_pass, groups_all}
use Rattle.proof_check.proofs.EntryLaws.{tells_two, same_two, call_of, call_entry, call_groups, not_call}
use Rattle.proof_check.proofs.index.call_sources.Goals as goal
use Rattle.proof_check.proofs.index.call_sources.Goals.{in-Call+in_ok-add, in_default}

pub loop-triple-init : goal.loop-triple-init
loop-triple-init c = groups_none call_entry c.args.triples.now 0 _ refl c.new-groups.ensures

pub loop-triple-preserved : goal.loop-triple-preserved
loop-triple-preserved c = elim c.match-triple.branch [
  | in-Call+in_ok-add w ↦ rw w.groups-is
      (groups_next call_entry same_two c.args.triples.now c.loop-triple.triple-index c.triple-item.result _ _ _ _ tells_two c.loop-triple.invariant c.loop-triple-test.true
      c.triple-item.is (ap call_of w.in-Call.is) w.in_ok-add.ensures.ok)
  | in_default w ↦ rw w.groups-is
      (groups_pass call_entry c.args.triples.now c.loop-triple.triple-index c.triple-item.result _ c.loop-triple.invariant c.loop-triple-test.true c.triple-item.is
      (not_call c.triple-item.result.listed w.in_default.not-Call))
]

pub returns : goal.returns
returns c = call_groups c.args.triples.now _ (groups_all call_entry c.args.triples.now c.loop-triple.triple-index _ c.loop-triple.invariant c.loop-triple-test.false)
