use Rattle.std.proofs.Common.{◌∙◌, ◌+◌, ◌++◌, List, drop, ap, arith}
use Rattle.std.specs.Option.{option_map}
use Rattle.nwa_base.specs.declared.letters.Letter.{Letter}
use Rattle.explain_top.specs.TraceStory.TraceStory.{letters_of}
use Rattle.explain_top.proofs.TraceStory.TellingLaws.{none_before, letter_read, letter_missing, letters_read}
use Rattle.explain_top.proofs.trace_story.telling.letters_of.Goals as goal

pub loop-number-init : goal.loop-number-init
loop-number-init c =
    ap (λ (x : List Letter). option_map (λ w. x ++ w) (letters_of c.args.icfg.now c.args.numbers.now)) c.new-letters.ensures.items ∙ none_before (letters_of c.args.icfg.now c.args.numbers.now)

pub loop-number-preserved : goal.loop-number-preserved
loop-number-preserved c =
    ap (λ (x : List Letter). option_map (λ w. x ++ w) (letters_of c.args.icfg.now (drop (c.loop-number.number-index + 1) c.args.numbers.now))) c.in_ok-push.ensures.items
    ∙ letter_read c.args.icfg.now c.args.numbers.now c.loop-number.number-index _ c.loop-number.letters.items c.in-Some.letter (letters_of c.args.icfg.now c.args.numbers.now) c.loop-number-test.true c.in-Some.ensures
    c.loop-number.invariant

pub returns-in_default : goal.returns-in_default
returns-in_default c =
    letter_missing c.args.icfg.now c.args.numbers.now c.loop-number.number-index _ c.loop-number.letters.items (letters_of c.args.icfg.now c.args.numbers.now) c.loop-number-test.true c.in_default.ensures
    c.loop-number.invariant

pub returns : goal.returns
returns c =
    letters_read c.args.icfg.now c.args.numbers.now c.loop-number.number-index c.loop-number.letters.items (letters_of c.args.icfg.now c.args.numbers.now) (omega (arith, c.loop-number-test.false)) c.loop-number.invariant
