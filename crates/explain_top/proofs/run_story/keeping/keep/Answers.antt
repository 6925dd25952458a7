use Rattle.std.proofs.Common.{◌<◌, ◌≤◌, ℕ, List, ◌++◌, length, ap, sym, ◌∙◌, arith}
use Rattle.std.proofs.lemmas.Bool.{false≢true}
use Rattle.std.proofs.lemmas.Result.{on_ok_weaker}
use Rattle.explain_top.specs.RunStory.Texts.{most}
use Rattle.explain_top.proofs.RunStory.KeepingLemmas.{kept_front, kept_back}
use Rattle.explain_top.proofs.run_story.keeping.keep.Goals as goal

pub returns-then-lines-clause-kept : goal.returns-then-lines-clause-kept
returns-then-lines-clause-kept c =
    on_ok_weaker c.keep_first.result
    (λ first ls count kept.
    kept_front ls c.args.line.items c.args.lines.now c.keep_first.new.lines c.keep_first.ensures.all
    (first ∙ ap (λ (t : List ℕ). c.args.lines.now.first.items ++ t) c.deref.ensures.value) c.keep_first.ensures.last
    (λ no. absurd (false≢true (sym no ∙ c.if-lines.true))) kept)
    c.keep_first.ensures.first

pub returns-then-before-lt-MOST-clause-kept : goal.returns-then-before-lt-MOST-clause-kept
returns-then-before-lt-MOST-clause-kept c =
    on_ok_weaker c.keep_first-then-before-lt-MOST.result
    (λ first ls count kept.
    kept_front ls c.args.line.items c.args.lines.now c.keep_first-then-before-lt-MOST.new.lines c.keep_first-then-before-lt-MOST.ensures.all
    (first ∙ ap (λ (t : List ℕ). c.args.lines.now.first.items ++ t) c.deref-then-before-lt-MOST.ensures.value) c.keep_first-then-before-lt-MOST.ensures.last
    (λ no. let short : length ls < most = omega (arith, count, c.if-before-lt-MOST.true) in short) kept)
    c.keep_first-then-before-lt-MOST.ensures.first

pub returns-clause-kept : goal.returns-clause-kept
returns-clause-kept c =
    on_ok_weaker c.keep_last.result
    (λ last ls count kept.
    kept_back ls c.args.line.items c.args.lines.now c.keep_last.new.lines c.keep_last.ensures.all c.if-lines.false c.keep_last.ensures.first
    (let many : most ≤ length ls = omega (arith, count, c.if-before-lt-MOST.false) in many) last kept)
    c.keep_last.ensures.last
