use Rattle.std.proofs.Common.{◌∙◌, not, ℕ, Bool, ap, sym, refl, arith}
use Rattle.letter_acts.specs.Invariant.{is_global_at}
use Rattle.letter_acts.proofs.CountLemmas.{filter_pass, filter_miss, filter_end}
use Rattle.letter_acts.proofs.checks.columns.count_local_targets.Goals as goal
use Rattle.letter_acts.proofs.checks.columns.count_local_targets.Goals.{then-not-is_global_at, else-not-is_global_at}

pub loop-i-preserved : goal.loop-i-preserved
loop-i-preserved c =
    let test : ℕ → Bool = λ t. not (is_global_at c.args.frame.now t) in
    elim c.if-not-is_global_at.branch [
      | then-not-is_global_at w ↦
          let k = filter_pass test c.args.targets.now c.loop-i.i _ 0 refl c.loop-i-test.true (ap not (sym c.is_global_at.ensures ∙ w.if-not-is_global_at.true)) in
          (omega arith, omega (arith, k))
      | else-not-is_global_at w ↦
          let k = filter_miss test c.args.targets.now c.loop-i.i _ 0 refl c.loop-i-test.true (ap not (sym c.is_global_at.ensures ∙ w.if-not-is_global_at.false)) in
          (omega arith, omega (arith, k))
    ]

pub returns-clause-value : goal.returns-clause-value
returns-clause-value c = omega (arith, filter_end (λ t. not (is_global_at c.args.frame.now t)) c.args.targets.now c.loop-i.i c.loop-i-test.false)
