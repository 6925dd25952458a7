use Rattle.std.proofs.Common.{◌≡◌, ◌∙◌, ◌++◌, Bool, subst}
use Rattle.std.specs.List.{concat}
use Rattle.explain_top.specs.RunStory.Texts.{shortened}
use Rattle.explain_top.specs.TraceStory.TraceStory.{letter_lines, advice}
use Rattle.explain_top.proofs.trace_story.telling.told_by.Goals as goal

pub returns : goal.returns
returns c = λ t ds placed table.
    let lines : c.in_ok-text.text.items ≡ concat (shortened c.args.all (letter_lines t ds c.args.places.now c.args.letters.now 0)) =
    subst (λ (b : Bool). c.in_ok-text.text.items ≡ concat (shortened b (letter_lines t ds c.args.places.now c.args.letters.now 0))) c.no_lines-lines.ensures.all
    (c.in_ok-count.ensures t ds placed table c.in_ok-text.text.items c.in_ok-text.ensures) in
    c.in_ok-extend_from_slice.ensures.items ∙ (λ i. lines i ++ c.advice.ensures i)
