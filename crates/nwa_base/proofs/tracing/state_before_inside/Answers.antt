use Rattle.std.proofs.Common.{◌≡◌, ◌∙◌, ℕ, sym, refl, arith}
use Rattle.std.proofs.lemmas.Bool.{false≢true}
use Rattle.nwa_base.specs.Members.{Member}
use Rattle.nwa_base.proofs.MemberLemmas.{found_later, found_nowhere, pair_at}
use Rattle.nwa_base.proofs.tracing.state_before_inside.Goals as goal
use Rattle.nwa_base.proofs.tracing.state_before_inside.Goals.{else-key-here-via-then-key-here+else-has_inside, else-key-here-via-else-key-here}

pub loop-key-init : goal.loop-key-init
loop-key-init c = ((c.args.here.0, c.requires.0), c.requires.1, (refl, c.requires.2))

pub returns-then-has_inside : goal.returns-then-has_inside
returns-then-has_inside c =
    (pair_at _ c.loop-key.key-index (0, 0) _ _ c.loop-key-test.true c.if-key-here.true refl, c.has_inside.ensures.0 c.if-has_inside.true)

pub loop-key-preserved : goal.loop-key-preserved
loop-key-preserved c =
    found_later (λ (x : ℕ × ℕ). (x.0 ≡ c.args.here.0) × Member c.args.nwa.now.insides (x.1, c.args.letter, c.args.here.1)) _
    c.loop-key.key-index (0, 0) c.loop-key-test.true c.loop-key.invariant
    (elim c.else-key-here.branch [
      | else-key-here-via-then-key-here+else-has_inside w ↦ λ h. false≢true (sym w.if-has_inside.false ∙ w.has_inside.ensures.1 h.1)
      | else-key-here-via-else-key-here w ↦ λ h. w.if-key-here.false h.0
    ])

pub unreachable-requires : goal.unreachable-requires
unreachable-requires c =
    found_nowhere (λ (x : ℕ × ℕ). (x.0 ≡ c.args.here.0) × Member c.args.nwa.now.insides (x.1, c.args.letter, c.args.here.1)) _
    c.loop-key.key-index (omega arith) c.loop-key.invariant
