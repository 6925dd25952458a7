use Rattle.std.proofs.Common.{◌∙◌, ℕ, sym, refl, arith}
use Rattle.std.proofs.lemmas.Bool.{false≢true}
use Rattle.nwa_base.specs.Members.{Member}
use Rattle.nwa_base.proofs.MemberLemmas.{found_later, found_nowhere, pair_at}
use Rattle.nwa_base.proofs.tracing.pair_before_back.Goals as goal
use Rattle.nwa_base.proofs.tracing.pair_before_back.Goals.{else-has_back-via-then-has_back+else-holds, else-has_back-via-else-has_back}

pub loop-p-init : goal.loop-p-init
loop-p-init c = ((c.requires.0, c.requires.1), c.requires.3, (c.requires.2, c.requires.4))

pub returns-then-holds : goal.returns-then-holds
returns-then-holds c = (
  c.holds.ensures.0 c.if-holds.true,
  pair_at _ c.loop-p.p-index (0, 0) _ _ c.loop-p-test.true refl refl,
  c.has_back.ensures.0 c.if-has_back.true,
)

pub loop-p-preserved : goal.loop-p-preserved
loop-p-preserved c =
    found_later (λ (x : ℕ × ℕ). Member c.args.outer.now (c.args.here.0, x.0) × Member c.args.nwa.now.backs (x.1, x.0, c.args.letter, c.args.here.1)) _
    c.loop-p.p-index (0, 0) c.loop-p-test.true c.loop-p.invariant
    (elim c.else-has_back.branch [
      | else-has_back-via-then-has_back+else-holds w ↦ λ h. false≢true (sym w.if-holds.false ∙ w.holds.ensures.1 h.0)
      | else-has_back-via-else-has_back w ↦ λ h. false≢true (sym w.if-has_back.false ∙ c.has_back.ensures.1 h.1)
    ])

pub unreachable-requires : goal.unreachable-requires
unreachable-requires c =
    found_nowhere (λ (x : ℕ × ℕ). Member c.args.outer.now (c.args.here.0, x.0) × Member c.args.nwa.now.backs (x.1, x.0, c.args.letter, c.args.here.1)) _
    c.loop-p.p-index (omega arith) c.loop-p.invariant
