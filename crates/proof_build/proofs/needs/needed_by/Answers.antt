use Rattle.proof_build.proofs.NeedLaws.{all_by}
use Rattle.proof_build.proofs.needs.needed_by.Goals as goal

pub returns : goal.returns
returns c =
    all_by c.args.union.now c.deref.result.now c.deref-2.result.now c.deref-3.result.now c.args.unwound.now.nodes.items c.args.unwound.now.steps c.insides.result.now c.calls.result.now c.backs.result.now
    c.new-noted.result c.note_steps.new.noted c.note_steps-2.new.noted c.note_backs.new.noted c.deref.ensures.value c.deref-2.ensures.value c.deref-3.ensures.value c.insides.ensures c.calls.ensures
    c.backs.ensures c.new-noted.ensures c.in_ok-note_steps.ensures c.in_ok-note_steps-2.ensures c.in_ok-note_backs.ensures
