use Rattle.std.proofs.Common.{◌∙◌, ◌∷◌, [], sym, subst, refl, arith}
use Rattle.std.proofs.lemmas.Bool.{false≢true}
use Rattle.nwa_base.specs.Acceptance.{Accepts}
use Rattle.nwa_base.specs.Pairs.{HasFinal}
use Rattle.nwa_base.proofs.ReadingLemmas.{reading_start, reading_goes, reading_stops, reading_ends, by_run}
use Rattle.nwa_base.proofs.reading.accepts.Goals as goal

pub loop-letter-init : goal.loop-letter-init
loop-letter-init c =
    let i = c.start.ensures in
    let j = c.start-2.ensures in
    reading_start _ _ _ _ (c.in_ok-here.ensures.items ∙ (λ n. (i n, j n) ∷ [])) c.new-saved.ensures.items

stops : (c : goal.After-drop-saved-in-None) → Accepts c.args.nwa.now c.args.word.now → ⊥
stops c =
    subst (λ w. Accepts c.args.nwa.now w → ⊥) c.letters-letter-items.ensures.value
    (reading_stops _ _ c.loop-letter.letter-index _ _ _ c.loop-letter-test.true refl c.loop-letter.invariant
    (rw c.in-None.is at c.in_ok-next.ensures))

pub returns-in-None-clause-accepts : goal.returns-in-None-clause-accepts
returns-in-None-clause-accepts c = (λ h. absurd (false≢true h), λ h. absurd (stops c h))

pub returns-in-None-clause-runs : goal.returns-in-None-clause-runs
returns-in-None-clause-runs c = by_run _ _ _ (returns-in-None-clause-accepts c)

pub loop-letter-preserved : goal.loop-letter-preserved
loop-letter-preserved c =
    reading_goes _ _ c.loop-letter.letter-index _ _ c.in-Some.field-0-1 _ _ c.loop-letter-test.true refl c.loop-letter.invariant
    (rw c.in-Some.is at c.in_ok-next.ensures)

pub returns-clause-accepts : goal.returns-clause-accepts
returns-clause-accepts c =
    let e = c.letters-letter-items.ensures.value in
    let last = reading_ends _ _ _ _ _ c.loop-letter.invariant (omega arith) in
    let s = c.as_slice.ensures.value in (
      λ h. subst (Accepts c.args.nwa.now) e (last.0 (subst (HasFinal c.args.nwa.now) s (c.has_final.ensures.0 h))),
      λ h. c.has_final.ensures.1 (subst (HasFinal c.args.nwa.now) (sym s) (last.1 (subst (Accepts c.args.nwa.now) (sym e) h))),
    )

pub returns-clause-runs : goal.returns-clause-runs
returns-clause-runs c = by_run _ _ _ (returns-clause-accepts c)
