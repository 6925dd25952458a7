use Rattle.std.proofs.Common.{◌≡◌, Ok, ap, sym, subst, arith}
use Rattle.automizer_top.specs.declared.words.Mode.{Mode}
use Rattle.text_reports.specs.Answers.{answer_of}
use Rattle.automizer_top.specs.declared.answer.Answer.TheVariants.{OnText}
use Rattle.text_reports.specs.ReportTexts.{Answer}
use Rattle.automizer_top.proofs.ReportLaws.{program_reported, check_answered, check_is_safe, replay_answered, print_reported, IsNoVerify, unverified, IsNoCheck, unchecked, verify_answered, verify_is_safe}
use Rattle.automizer_top.proofs.RankingWords.{lasso_answered, ranked_answered, text_is_of_words, IsNoRanking, unranked}
use Rattle.automizer_top.proofs.UsageLaws.{on_text_not_four}
use Rattle.automizer_top.proofs.reporting.reported_on_texts.Goals as goal

pub returns-in_default-clause-reported : goal.returns-in_default-clause-reported
returns-in_default-clause-reported g c = λ words ask.
    program_reported words c.args.mode.now c.args.options.now c.program.result.now (g.H.Shelf.texts c.args.shelf.now) ask c.program.ensures
    (rw c.in_default.is at c.in_ok-text.ensures.found)

pub returns-in-Print-clause-reported : goal.returns-in-Print-clause-reported
returns-in-Print-clause-reported g c = λ words ask.
    print_reported words c.args.mode.now c.args.options.now c.in-Print.program c.program.result.now c.in-Some.text.items (answer_of c.in_ok-printed-in-Print.field-0)
    (g.H.Shelf.texts c.args.shelf.now) ask c.in-Print.is c.program.ensures
    (rw c.in-Some.is at c.in_ok-text.ensures.found)
    (rw (← c.deref.ensures.value) c.in_ok-printed-in-Print.ensures)

pub returns-in-Print-clause-no_usage : goal.returns-in-Print-clause-no_usage
returns-in-Print-clause-no_usage g c = on_text_not_four c.in_ok-printed-in-Print.field-0

pub returns-clause-no_usage : goal.returns-clause-no_usage
returns-clause-no_usage g c = on_text_not_four c.in_ok-answer-in-Ranked.answer

pub returns-in-Check-clause-reported : goal.returns-in-Check-clause-reported
returns-in-Check-clause-reported g c = λ words ask.
    check_answered words c.args.mode.now c.args.options.now c.in-Check.program c.in-Check.second c.program.result.now c.in-Some.text.items c.checked_by.result
    (g.H.Shelf.texts c.args.shelf.now) ask c.in-Check.is c.program.ensures
    (rw c.in-Some.is at c.in_ok-text.ensures.found)
    (rw (← c.in_ok-text.ensures.texts, ← c.deref-in-Check.ensures.value) c.checked_by.ensures.reported)

pub returns-in-Check-clause-accepted : goal.returns-in-Check-clause-accepted
returns-in-Check-clause-accepted g c = λ words ask.
    check_is_safe words c.args.mode.now c.args.options.now c.program.result.now c.in-Some.text.items c.checked_by.result
    (g.H.Shelf.texts c.args.shelf.now) ask c.program.ensures
    (rw c.in-Some.is at c.in_ok-text.ensures.found)
    (rw (← c.deref-in-Check.ensures.value) c.checked_by.ensures.accepted)

pub returns-in-Replay-clause-reported : goal.returns-in-Replay-clause-reported
returns-in-Replay-clause-reported g c = λ words ask.
    replay_answered words c.args.mode.now c.args.options.now c.in-Replay.program c.in-Replay.second c.program.result.now c.in-Some.text.items c.replayed_by.result
    (g.H.Shelf.texts c.args.shelf.now) ask c.in-Replay.is c.program.ensures
    (rw c.in-Some.is at c.in_ok-text.ensures.found)
    (rw (← c.in_ok-text.ensures.texts, ← c.deref-in-Replay.ensures.value) c.replayed_by.ensures.reported)

pub returns-in-Lasso-clause-reported : goal.returns-in-Lasso-clause-reported
returns-in-Lasso-clause-reported g c = λ words ask.
    lasso_answered words c.args.mode.now c.args.options.now c.in-Lasso.program c.in-Lasso.second c.program.result.now c.in-Some.text.items c.found.result ask c.program.ensures
    (g.H.Shelf.texts c.args.shelf.now) c.in-Lasso.is (rw c.in-Some.is at c.in_ok-text.ensures.found)
    (rw (← c.in_ok-text.ensures.texts, ← c.deref-in-Lasso.ensures.value) c.found.ensures.reported)

pub returns-clause-reported : goal.returns-clause-reported
returns-clause-reported g c = λ words ask.
    ranked_answered words c.args.mode.now c.args.options.now c.in-Ranked.program c.in-Ranked.second c.program.result.now c.in-Some.text.items (Ok (OnText c.in_ok-answer-in-Ranked.answer)) ask c.program.ensures
    (g.H.Shelf.texts c.args.shelf.now) c.in-Ranked.is (rw c.in-Some.is at c.in_ok-text.ensures.found)
    (rw (← c.in_ok-text.ensures.texts, ← c.deref-in-Ranked.ensures.value) c.in_ok-answer-in-Ranked.ensures.reported)

pub returns-in-Verify-clause-reported : goal.returns-in-Verify-clause-reported
returns-in-Verify-clause-reported g c = λ words ask.
    verify_answered words c.args.mode.now c.args.options.now c.in-Verify.program c.program.result.now c.in-Some.text.items c.verified_by.result
    (g.H.Shelf.texts c.args.shelf.now) ask c.in-Verify.is c.program.ensures
    (rw c.in-Some.is at c.in_ok-text.ensures.found)
    (rw (← c.in_ok-text.ensures.texts, ← c.deref-in-Verify.ensures.value) c.verified_by.ensures.reported)

pub returns-in-Verify-clause-verified : goal.returns-in-Verify-clause-verified
returns-in-Verify-clause-verified g c = λ words ask.
    verify_is_safe words c.args.mode.now c.args.options.now c.program.result.now c.in-Some.text.items c.verified_by.result
    (g.H.Shelf.texts c.args.shelf.now) ask c.program.ensures
    (rw c.in-Some.is at c.in_ok-text.ensures.found)
    (rw (← c.deref-in-Verify.ensures.value) c.verified_by.ensures.safe)

pub returns-in-Print-clause-verified : goal.returns-in-Print-clause-verified
returns-in-Print-clause-verified g c = λ words ask.
    unverified words c.args.mode.now c.args.options.now (Ok (OnText c.in_ok-printed-in-Print.field-0)) (g.H.Shelf.texts c.args.shelf.now) ask
    (subst (λ (m : Mode). IsNoVerify m) (sym c.in-Print.is) tt)

pub returns-in-Check-clause-verified : goal.returns-in-Check-clause-verified
returns-in-Check-clause-verified g c = λ words ask.
    unverified words c.args.mode.now c.args.options.now c.checked_by.result (g.H.Shelf.texts c.args.shelf.now) ask
    (subst (λ (m : Mode). IsNoVerify m) (sym c.in-Check.is) tt)

pub returns-in-Replay-clause-verified : goal.returns-in-Replay-clause-verified
returns-in-Replay-clause-verified g c = λ words ask.
    unverified words c.args.mode.now c.args.options.now c.replayed_by.result (g.H.Shelf.texts c.args.shelf.now) ask
    (subst (λ (m : Mode). IsNoVerify m) (sym c.in-Replay.is) tt)

pub returns-in-Lasso-clause-verified : goal.returns-in-Lasso-clause-verified
returns-in-Lasso-clause-verified g c = λ words ask.
    unverified words c.args.mode.now c.args.options.now c.found.result (g.H.Shelf.texts c.args.shelf.now) ask
    (subst (λ (m : Mode). IsNoVerify m) (sym c.in-Lasso.is) tt)

pub returns-clause-verified : goal.returns-clause-verified
returns-clause-verified g c = λ words ask.
    unverified words c.args.mode.now c.args.options.now (Ok (OnText c.in_ok-answer-in-Ranked.answer)) (g.H.Shelf.texts c.args.shelf.now) ask
    (subst (λ (m : Mode). IsNoVerify m) (sym c.in-Ranked.is) tt)

-- what is no check is not accepted

pub returns-in-Print-clause-accepted : goal.returns-in-Print-clause-accepted
returns-in-Print-clause-accepted g c = λ words ask.
    unchecked words c.args.mode.now c.args.options.now (Ok (OnText c.in_ok-printed-in-Print.field-0)) (g.H.Shelf.texts c.args.shelf.now) ask
    (subst (λ (m : Mode). IsNoCheck m) (sym c.in-Print.is) tt)

pub returns-in-Verify-clause-accepted : goal.returns-in-Verify-clause-accepted
returns-in-Verify-clause-accepted g c = λ words ask.
    unchecked words c.args.mode.now c.args.options.now c.verified_by.result (g.H.Shelf.texts c.args.shelf.now) ask
    (subst (λ (m : Mode). IsNoCheck m) (sym c.in-Verify.is) tt)

pub returns-in-Replay-clause-accepted : goal.returns-in-Replay-clause-accepted
returns-in-Replay-clause-accepted g c = λ words ask.
    unchecked words c.args.mode.now c.args.options.now c.replayed_by.result (g.H.Shelf.texts c.args.shelf.now) ask
    (subst (λ (m : Mode). IsNoCheck m) (sym c.in-Replay.is) tt)

pub returns-in-Lasso-clause-accepted : goal.returns-in-Lasso-clause-accepted
returns-in-Lasso-clause-accepted g c = λ words ask.
    unchecked words c.args.mode.now c.args.options.now c.found.result (g.H.Shelf.texts c.args.shelf.now) ask
    (subst (λ (m : Mode). IsNoCheck m) (sym c.in-Lasso.is) tt)

pub returns-clause-accepted : goal.returns-clause-accepted
returns-clause-accepted g c = λ words ask.
    unchecked words c.args.mode.now c.args.options.now (Ok (OnText c.in_ok-answer-in-Ranked.answer)) (g.H.Shelf.texts c.args.shelf.now) ask
    (subst (λ (m : Mode). IsNoCheck m) (sym c.in-Ranked.is) tt)

-- the graph of a program with a lasso

pub returns-in-Print-clause-ranked : goal.returns-in-Print-clause-ranked
returns-in-Print-clause-ranked g c = λ words ask.
    unranked words c.args.mode.now c.args.options.now (Ok (OnText c.in_ok-printed-in-Print.field-0)) (g.H.Shelf.texts c.args.shelf.now) ask
    (subst (λ (m : Mode). IsNoRanking m) (sym c.in-Print.is) tt)

pub returns-in-Verify-clause-ranked : goal.returns-in-Verify-clause-ranked
returns-in-Verify-clause-ranked g c = λ words ask.
    unranked words c.args.mode.now c.args.options.now c.verified_by.result (g.H.Shelf.texts c.args.shelf.now) ask
    (subst (λ (m : Mode). IsNoRanking m) (sym c.in-Verify.is) tt)

pub returns-in-Check-clause-ranked : goal.returns-in-Check-clause-ranked
returns-in-Check-clause-ranked g c = λ words ask.
    unranked words c.args.mode.now c.args.options.now c.checked_by.result (g.H.Shelf.texts c.args.shelf.now) ask
    (subst (λ (m : Mode). IsNoRanking m) (sym c.in-Check.is) tt)

pub returns-in-Replay-clause-ranked : goal.returns-in-Replay-clause-ranked
returns-in-Replay-clause-ranked g c = λ words ask.
    unranked words c.args.mode.now c.args.options.now c.replayed_by.result (g.H.Shelf.texts c.args.shelf.now) ask
    (subst (λ (m : Mode). IsNoRanking m) (sym c.in-Replay.is) tt)

pub returns-in-Lasso-clause-ranked : goal.returns-in-Lasso-clause-ranked
returns-in-Lasso-clause-ranked g c = λ words ask.
    text_is_of_words words c.args.mode.now c.args.options.now c.program.result.now c.in-Some.text.items c.found.result (g.H.Shelf.texts c.args.shelf.now) ask c.program.ensures
    (rw c.in-Some.is at c.in_ok-text.ensures.found)
    (rw (← c.deref-in-Lasso.ensures.value) c.found.ensures.graph)

pub returns-clause-ranked : goal.returns-clause-ranked
returns-clause-ranked g c = λ words ask.
    text_is_of_words words c.args.mode.now c.args.options.now c.program.result.now c.in-Some.text.items (Ok (OnText c.in_ok-answer-in-Ranked.answer)) (g.H.Shelf.texts c.args.shelf.now) ask c.program.ensures
    (rw c.in-Some.is at c.in_ok-text.ensures.found)
    (rw (← c.deref-in-Ranked.ensures.value) c.in_ok-answer-in-Ranked.ensures.graph)

-- a text past its limit

pub returns-in_default-clause-accepted : goal.returns-in_default-clause-accepted
returns-in_default-clause-accepted g c = λ words ask e. absurd (let z : 3 ≡ 0 = ap (λ (a : Answer). a.status) e in omega arith)

pub returns-in_default-clause-verified : goal.returns-in_default-clause-verified
returns-in_default-clause-verified g c = λ words ask z. absurd (omega arith)

pub returns-in_default-clause-ranked : goal.returns-in_default-clause-ranked
returns-in_default-clause-ranked g c = λ words ask z. absurd (omega arith)
