use Rattle.std.proofs.Common.{refl, ap}
use Rattle.proof_check.proofs.IndexLaws.{groups_none, groups_next, groups_pass, groups_all}
use Rattle.proof_check.proofs.EntryLaws.{tells_two, same_two, inside_of, inside_entry, inside_groups, not_inside}
use Rattle.proof_check.proofs.index.inside_sources.Goals as goal
use Rattle.proof_check.proofs.index.inside_sources.Goals.{in-Inside+in_ok-add, in_default}

pub loop-triple-init : goal.loop-triple-init
loop-triple-init c = groups_none inside_entry c.args.triples.now 0 _ refl c.new-groups.ensures

pub loop-triple-preserved : goal.loop-triple-preserved
loop-triple-preserved c = elim c.match-triple.branch [
  | in-Inside+in_ok-add w ↦ rw w.groups-is
      (groups_next inside_entry same_two c.args.triples.now c.loop-triple.triple-index c.triple-item.result _ _ _ _ tells_two c.loop-triple.invariant c.loop-triple-test.true
      c.triple-item.is (ap inside_of w.in-Inside.is) w.in_ok-add.ensures.ok)
  | in_default w ↦ rw w.groups-is
      (groups_pass inside_entry c.args.triples.now c.loop-triple.triple-index c.triple-item.result _ c.loop-triple.invariant c.loop-triple-test.true c.triple-item.is
      (not_inside c.triple-item.result.listed w.in_default.not-Inside))
]

pub returns : goal.returns
returns c = inside_groups c.args.triples.now _ (groups_all inside_entry c.args.triples.now c.loop-triple.triple-index _ c.loop-triple.invariant c.loop-triple-test.false)
