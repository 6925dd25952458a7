use Rattle.nwa_reduce.specs.Ties.Marks.{leader_in}
use Rattle.nwa_reduce.proofs.MarkLemmas.{marks_are}
use Rattle.nwa_reduce.proofs.marking.marks_of.Goals as goal

pub returns : goal.returns
returns c =
    marks_are c.args.nwa.now (leader_in c.args.leaders.now) c.args.state c.new-marks.result.items c.add_final.new.marks.items c.add_insides.new.marks.items
    c.add_calls.new.marks.items c.add_backs.new.marks.items c.add_befores.new.marks.items _ _ _ _ c.new-marks.ensures.items c.in_ok-add_final.ensures
    c.in_ok-add_insides.ensures c.insides_leaving.ensures c.in_ok-add_calls.ensures c.calls_leaving.ensures c.in_ok-add_backs.ensures c.backs_leaving.ensures
    c.in_ok-add_befores.ensures c.requires
