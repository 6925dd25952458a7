use Rattle.std.proofs.Common.{◌∙◌, ap}
use Rattle.proof_reuse.proofs.PickLaws.{picked_none, picked_next, picked_past, picked_all}
use Rattle.proof_reuse.proofs.picking.all_picked.Goals as goal
use Rattle.proof_reuse.proofs.picking.all_picked.Goals.{in-Some+in_ok-push, in_default}

pub loop-numbers-init : goal.loop-numbers-init
loop-numbers-init c = picked_none c.args.icfg.now c.args.preds.now c.new-triples.result.items c.new-triples.ensures.items

pub loop-numbers-preserved : goal.loop-numbers-preserved
loop-numbers-preserved c =
    elim c.match-branch-2.branch [
      | in-Some+in_ok-push w ↦
          picked_next c.args.icfg.now c.args.preds.now c.args.listed.now c.loop-numbers.numbers-index _ c.in_ok-triple.field-0 w.in-Some.triple c.loop-numbers.triples.items
          c.match-branch-2.triples.items c.loop-numbers-test.true c.in_ok-triple.ensures w.in-Some.is (ap (λ v. v.items) w.triples-is ∙ w.in_ok-push.ensures.items)
          c.loop-numbers.invariant
      | in_default w ↦
          rw w.triples-is
          (picked_past c.args.icfg.now c.args.preds.now c.args.listed.now c.loop-numbers.numbers-index _ c.in_ok-triple.field-0 c.loop-numbers.triples.items c.loop-numbers-test.true
          c.in_ok-triple.ensures w.in_default.is c.loop-numbers.invariant)
    ]

pub returns : goal.returns
returns c = picked_all c.args.icfg.now c.args.preds.now c.args.listed.now c.loop-numbers.numbers-index c.loop-numbers.triples.items c.loop-numbers-test.false c.loop-numbers.invariant
