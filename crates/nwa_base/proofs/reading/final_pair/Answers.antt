use Rattle.std.proofs.Common.{◌∙◌, sym}
use Rattle.std.proofs.lemmas.Bool.{false≢true}
use Rattle.nwa_base.proofs.MemberLemmas.{member_at}
use Rattle.nwa_base.proofs.ReadingLemmas.{final_later}
use Rattle.nwa_base.proofs.reading.final_pair.Goals as goal

pub returns-then-is_final : goal.returns-then-is_final
returns-then-is_final c = (member_at _ _ _ c.loop-pair-test.true, c.is_final.ensures.0 c.if-is_final.true)

pub loop-pair-preserved : goal.loop-pair-preserved
loop-pair-preserved c =
    final_later c.args.nwa.now c.args.set.now c.loop-pair.pair-index (0, 0) c.loop-pair-test.true
    (λ h. false≢true (sym c.if-is_final.false ∙ c.is_final.ensures.1 h)) c.loop-pair.invariant
