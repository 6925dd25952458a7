use Rattle.std.proofs.Common.{◌≡◌, ◌∙◌, ℕ, ◌+◌, ℤ, List, [], ◌∷◌, ◌++◌, Option, drop, refl, ap, subst, sym, append_assoc}
use Rattle.std.specs.List.{AllByRecursion}
use Rattle.std.proofs.lemmas.List.{drop_more, nil_from_length}
use Rattle.math_facts.specs.Fits.{Fits}
use Rattle.typed_tree.specs.TypingRules.TypedParts.{typed_program}
use Rattle.trace_replay.specs.declared.told_choices.positions.Position.{Position}
use Rattle.trace_replay.specs.ToldChoices.Telling.{PositionFits, first_choices, letter_choices, further_choices, all_choices}
use Rattle.trace_replay.specs.ToldChoices.Ties.Views.{plain_kinds, plain_position, plain_positions}
use Rattle.trace_replay.proofs.LastTurns.{last_turn}
use Rattle.trace_replay.proofs.told_choices.telling.all_choices.Goals as goal

pub loop-next-preserved : goal.loop-next-preserved
loop-next-preserved c =
    let more : List Position = c.in-Some.more.now in
    let next : Position = c.next-item.result in
    let left : List Position = drop (c.loop-next.next-index + 1) more in
    let d : drop c.loop-next.next-index more ≡ next ∷ left = drop_more more c.loop-next.next-index next c.loop-next-test.true ∙ ap (λ (x : Position). x ∷ left) (sym c.next-item.is) in
    let here : List (Option ℤ) = letter_choices (typed_program c.args.program.now) (plain_kinds c.args.kinds.now) c.args.nwa.now.insides c.loop-next.here (plain_position next) in
    let rest : List (Option ℤ) = further_choices (typed_program c.args.program.now) (plain_kinds c.args.kinds.now) c.args.nwa.now.insides next.place (plain_positions left) in
    let a : PositionFits (plain_position next) × AllByRecursion PositionFits (plain_positions left) = subst (λ (xs : List Position). AllByRecursion PositionFits (plain_positions xs)) d c.loop-next.invariant.left in
    record {
      value =
          ap (λ (os : List (Option ℤ)). os ++ rest) c.in_ok-add_letter.ensures.value ∙ append_assoc c.loop-next.told.items here rest
          ∙ ap
          (λ (xs : List Position). c.loop-next.told.items
          ++ further_choices (typed_program c.args.program.now) (plain_kinds c.args.kinds.now) c.args.nwa.now.insides c.loop-next.here (plain_positions xs))
          (sym d)
          ∙ c.loop-next.invariant.value;
      left = a.1;
      fits = c.in_ok-add_letter.ensures.fits a.0 c.loop-next.invariant.fits;
    }

pub loop-next-init : goal.loop-next-init
loop-next-init c =
    let fit : PositionFits (plain_position c.in-Some.first.now) × AllByRecursion PositionFits (plain_positions c.in-Some.more.now) =
    subst (λ (xs : List Position). AllByRecursion PositionFits (plain_positions xs)) c.in-Some.ensures.cases.0 c.requires in
    record {
      value = refl;
      left = fit.1;
      fits = c.in_ok-add_first.ensures.fits (subst (AllByRecursion Fits) (sym c.deref.ensures.value) fit.0.values) (rw c.new-told.ensures.items tt);
    }

pub returns-in_default-clause-value : goal.returns-in_default-clause-value
returns-in_default-clause-value c =
    let none : c.args.positions.now ≡ [] = nil_from_length c.args.positions.now c.in_default.ensures.cases in
    c.new-told.ensures.items
    ∙ ap (λ (xs : List Position). all_choices (typed_program c.args.program.now) (plain_kinds c.args.kinds.now) c.args.nwa.now.insides (plain_positions xs)) (sym none)

pub returns-clause-value : goal.returns-clause-value
returns-clause-value c =
    let told : List Position → ℕ → List (Option ℤ) = λ xs here. further_choices (typed_program c.args.program.now) (plain_kinds c.args.kinds.now) c.args.nwa.now.insides here (plain_positions xs) in
    let rest : List (Option ℤ) = told c.in-Some.more.now c.in-Some.first.now.place in
    last_turn (λ (xs : List Position). told xs c.loop-next.here) c.in-Some.more.now c.loop-next.next-index c.loop-next.told.items (c.add_first.new.told.items ++ rest) refl c.loop-next-test.false
    c.loop-next.invariant.value
    ∙ ap (λ (os : List (Option ℤ)). os ++ rest) c.in_ok-add_first.ensures.value
    ∙ (λ j. (c.new-told.ensures.items j ++ first_choices (typed_program c.args.program.now) (c.deref.ensures.value j)) ++ rest)
    ∙ ap (λ (xs : List Position). all_choices (typed_program c.args.program.now) (plain_kinds c.args.kinds.now) c.args.nwa.now.insides (plain_positions xs)) (sym c.in-Some.ensures.cases.0)
