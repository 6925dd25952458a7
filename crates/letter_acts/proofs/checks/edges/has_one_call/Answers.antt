use Rattle.letter_acts.proofs.LoopLemmas.{refuted}
use Rattle.letter_acts.proofs.OneCallLemmas.{one_call, calls_from_one, backs_from_one}
use Rattle.letter_acts.proofs.checks.edges.has_one_call.Goals as goal

pub returns-then-calls_agree : goal.returns-then-calls_agree
returns-then-calls_agree c = (
  λ e. one_call c.args.nwa.now (c.calls_agree.ensures.0 c.if-calls_agree.true) (c.backs_agree.ensures.0 e),
  λ h. c.backs_agree.ensures.1 (backs_from_one c.args.nwa.now h),
)

pub returns-else-calls_agree : goal.returns-else-calls_agree
returns-else-calls_agree c = (
  λ e. absurd (refuted _ _ c.calls_agree.ensures c.if-calls_agree.false (c.calls_agree.ensures.0 e)),
  λ h. c.calls_agree.ensures.1 (calls_from_one c.args.nwa.now h),
)
