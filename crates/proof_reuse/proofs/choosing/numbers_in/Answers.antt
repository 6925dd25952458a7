use Rattle.std.proofs.Common.{◌∙◌, ap, eq-eqb, arith}
use Rattle.std.proofs.lemmas.Bool.{ne_eqb}
use Rattle.proof_reuse.proofs.ChoiceLaws.{numbers_more, numbers_same, numbers_all}
use Rattle.proof_reuse.proofs.choosing.numbers_in.Goals as goal
use Rattle.proof_reuse.proofs.choosing.numbers_in.Goals.{then-scoped-proc+in_ok-push, else-scoped-proc}

pub loop-place-preserved : goal.loop-place-preserved
loop-place-preserved c =
    elim c.if-scoped-proc.branch [
      | then-scoped-proc+in_ok-push w ↦
          numbers_more c.args.proc c.args.preds.now c.loop-place.place c.index-preds-place.result c.loop-place.numbers.items c.if-scoped-proc.numbers.items
          c.loop-place-test.true c.index-preds-place.is (eq-eqb c.index-preds-place.result.proc c.args.proc w.if-scoped-proc.true) c.loop-place.invariant
          (ap (λ v. v.items) w.numbers-is ∙ w.in_ok-push.ensures.items)
      | else-scoped-proc w ↦
          ap (λ v. v.items) w.numbers-is ∙
          numbers_same c.args.proc c.args.preds.now c.loop-place.place c.index-preds-place.result c.loop-place.numbers.items
          c.loop-place-test.true c.index-preds-place.is (ne_eqb c.index-preds-place.result.proc c.args.proc w.if-scoped-proc.false) c.loop-place.invariant
    ]

pub returns : goal.returns
returns c = numbers_all c.args.proc c.args.preds.now c.loop-place.place c.loop-place.numbers.items (omega arith) c.loop-place.invariant
