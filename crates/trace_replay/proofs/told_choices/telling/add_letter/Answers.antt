use Rattle.std.proofs.Common.{◌≡◌, ◌∙◌, ◌-◌, ◌++◌, Option, None, Some, sym, ap}
use Rattle.std.specs.Prelude.{slice_get}
use Rattle.typed_tree.specs.TypingRules.TypedParts.{typed_program}
use Rattle.nwa_base.specs.Edges.{leaving}
use Rattle.trace_replay.specs.ToldChoices.Kinds.{PlainKind}
use Rattle.trace_replay.specs.ToldChoices.Telling.{kind_choices, choices_if_any, letter_choices}
use Rattle.trace_replay.specs.ToldChoices.Ties.Views.{plain_kind, plain_kinds, plain_position}
use Rattle.trace_replay.proofs.ToldChoices.Steps.{no_step}
use Rattle.trace_replay.proofs.told_choices.telling.add_letter.Goals as goal

pub returns-in_default-clause-value : goal.returns-in_default-clause-value
returns-in_default-clause-value c =
    let e : None ≡ slice_get (plain_kinds c.args.kinds.now) (c.args.here - 1) = c.in_default.ensures in
    no_step c.args.told.now.items (letter_choices (typed_program c.args.program.now) (plain_kinds c.args.kinds.now) c.args.nwa.now.insides c.args.here (plain_position c.args.next.now))
    (ap (λ (o : Option PlainKind). choices_if_any (typed_program c.args.program.now) (leaving c.args.here c.args.nwa.now.insides) o (plain_position c.args.next.now)) (sym e))

pub returns-clause-value : goal.returns-clause-value
returns-clause-value c =
    let e : Some (plain_kind c.in-Some.kind.now) ≡ slice_get (plain_kinds c.args.kinds.now) (c.args.here - 1) = c.in-Some.ensures in
    c.in_ok-add_kind.ensures.value
    ∙ ap (λ es. c.args.told.now.items ++ kind_choices (typed_program c.args.program.now) es (plain_kind c.in-Some.kind.now) (plain_position c.args.next.now)) c.insides_leaving.ensures
    ∙ ap (λ (o : Option PlainKind). c.args.told.now.items ++ choices_if_any (typed_program c.args.program.now) (leaving c.args.here c.args.nwa.now.insides) o (plain_position c.args.next.now)) e
