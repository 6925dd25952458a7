use Rattle.std.proofs.Common.{◌∙◌, ◌<◌, ◌++◌, ◌∷◌, [], List, ℕ, get_or, length, ap, arith}
use Rattle.triple_rows.proofs.FrontLaws.{taken_next, taken_short, taken_long}
use Rattle.triple_rows.proofs.frames.taken.Goals as goal

pub returns-then-i-results : goal.returns-then-i-results
returns-then-i-results c = c.loop-i.invariant.1 ∙ taken_short c.args.targets.now c.args.results.now c.loop-i.i c.if-i-results.true

pub loop-i-preserved : goal.loop-i-preserved
loop-i-preserved c =
    let more : c.loop-i.i < length c.args.results.now = c.if-i-results.false in
    let i = c.loop-i.i in (
      omega (arith, more),
      c.in_ok-push.ensures.items ∙
          ap (λ (ps : List (ℕ × ℕ)). ps ++ (get_or c.args.targets.now i 0, get_or c.args.results.now i 0) ∷ []) c.loop-i.invariant.1 ∙
          taken_next c.args.targets.now c.args.results.now i c.loop-i-test.true more,
    )

pub returns : goal.returns
returns c = c.loop-i.invariant.1 ∙ taken_long c.args.targets.now c.args.results.now c.loop-i.i c.loop-i-test.false
