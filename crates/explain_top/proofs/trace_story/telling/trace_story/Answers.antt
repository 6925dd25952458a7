use Rattle.std.proofs.Common.{◌∙◌, refl, sym, ap}
use Rattle.std.specs.List.{concat}
use Rattle.boogie_tree.specs.View as view
use Rattle.typed_tree.specs.TypingRules.TypedParts.{typed_program}
use Rattle.explain_top.specs.TraceStory.TraceText.{plain}
use Rattle.explain_top.specs.RunStory.Texts.{shortened}
use Rattle.explain_top.specs.TraceStory.TraceStory.{letters_of, letter_lines, advice}
use Rattle.explain_top.proofs.TraceStory.TraceLaws.{match_some}
use Rattle.explain_top.proofs.TraceStory.TellingLaws.{has_letters, has_none, none_matched, no_run, run_is_long, story_told}
use Rattle.explain_top.proofs.trace_story.telling.trace_story.Goals as goal

pub returns-in_default-clause-refused : goal.returns-in_default-clause-refused
returns-in_default-clause-refused c =
    ap (letters_of c.args.icfg.now) (sym c.deref.ensures.value) ∙ has_none (λ v. v.items) c.in_ok-letters.field-0 (letters_of c.args.icfg.now c.deref.result.now) c.in_default.is c.in_ok-letters.ensures

pub returns-in_default-word-clause-refused : goal.returns-in_default-word-clause-refused
returns-in_default-word-clause-refused c = (
  c.in-Some.letters.items,
  ap (letters_of c.args.icfg.now) (sym c.deref.ensures.value)
      ∙ has_letters (λ v. v.items) c.in_ok-letters.field-0 c.in-Some.letters (letters_of c.args.icfg.now c.deref.result.now) c.in-Some.is c.in_ok-letters.ensures,
  none_matched c.args.icfg.now.automaton c.in-Some.letters.items c.word.result c.in_default-word.is c.word.ensures.matched,
)

pub returns-in_default-2-clause-refused : goal.returns-in_default-2-clause-refused
returns-in_default-2-clause-refused c = (
  c.in-Some.letters.items,
  ap (letters_of c.args.icfg.now) (sym c.deref.ensures.value)
      ∙ has_letters (λ v. v.items) c.in_ok-letters.field-0 c.in-Some.letters (letters_of c.args.icfg.now c.deref.result.now) c.in-Some.is c.in_ok-letters.ensures,
  no_run c.args.icfg.now.automaton c.nwa.result.now c.in-Some.letters.items _ c.in_ok-places.field-0 _ c.nwa.ensures.value c.in-Some-word.ensures.value c.in_default-2.is c.in_ok-places.ensures,
)

pub told_letters-requires : goal.told_letters-requires
told_letters-requires c =
    run_is_long c.nwa.result.now _ c.letters.result.now c.in-Some-2.places.items c.deref-2.result.now c.letters.ensures.value c.deref-2.ensures.value
    (match_some c.in_ok-places.field-0 _ _ c.in-Some-2.places c.in-Some-2.is c.in_ok-places.ensures)

pub returns-clause-told : goal.returns-clause-told
returns-clause-told c =
    let t = typed_program c.args.program.now in
    let ds = view.program c.args.tree.now in
    story_told t ds c.args.icfg.now c.args.all (plain c.args.trace.now) c.in_ok-told_letters.field-0.items (concat (shortened c.args.all (letter_lines t ds c.deref-2.result.now c.letters.result.now 0)))
    (advice c.args.trace.now.cause) c.nwa.result.now c.in-Some.letters.items _ c.letters.result.now c.in-Some-2.places.items c.deref-2.result.now
    (ap (letters_of c.args.icfg.now) (sym c.deref.ensures.value)
    ∙ has_letters (λ v. v.items) c.in_ok-letters.field-0 c.in-Some.letters (letters_of c.args.icfg.now c.deref.result.now) c.in-Some.is c.in_ok-letters.ensures)
    c.nwa.ensures.value c.in-Some-word.ensures.value (match_some c.in_ok-places.field-0 _ _ c.in-Some-2.places c.in-Some-2.is c.in_ok-places.ensures) c.deref-2.ensures.value c.letters.ensures.value refl
    refl c.in_ok-told_letters.ensures
