use Rattle.std.proofs.Common.{◌≡◌, ◌∙◌, ◌+◌, ◌<◌, ◌≤◌, ◌∷◌, List, ℕ, Bool, true, false, length, drop, get_or, refl, sym, ap, subst, arith}
use Rattle.std.specs.Prelude.{IsSome}
use Rattle.std.specs.List.{AllByRecursion}
use Rattle.nwa_base.specs.declared.letters.Letter.{Letter}
use Rattle.nwa_base.specs.declared.letters.Kind.TheVariants.{Inside}
use Rattle.nwa_base.specs.Words.{are_matched}
use Rattle.letter_acts.specs.Acts.{frame_of, act_of}
use Rattle.letter_acts.specs.Invariant.{alphabet_of}
use Rattle.nested_itp.proofs.NestedPredicates.LetterLaws.{accepted_letters}
use Rattle.nested_itp.proofs.NestedPredicates.LeafLaws.{letter_is, within_word}
use Rattle.nested_itp.proofs.NestedPredicates.StampCounts.{letter_at}
use Rattle.nested_itp.proofs.NestedPredicates.WordLaws.{test_at, tests_counted}
use Rattle.nested_itp.specs.NestedRefutations.Numbers.{position_here, read_on}
use Rattle.nested_itp.specs.declared.triple_steps.making.Step.{Step}
use Rattle.nested_itp.specs.TripleSteps.Steps.{FitColumns}
use Rattle.nested_itp.proofs.TripleSteps.StepLaws.{steps_start, steps_next, steps_done, here_at, next_at, finds_call, front_is, total_is}
use Rattle.nested_itp.proofs.triple_steps.making.steps.Goals as goal

pub loop-i-init : goal.loop-i-init
loop-i-init c =
    steps_start c.args.icfg.now c.args.path.now.word (length c.column_at-total.result.now) c.start-reading.result c.in_ok-steps.steps.items
    (c.start-reading.ensures c.args.icfg.now c.args.path.now.word (sym (c.columns.ensures.value ∙ ap (frame_of (alphabet_of c.args.icfg.now)) c.start_proc.ensures)))
    (subst (λ (w : List Letter). are_matched 0 w ≡ true) c.word.ensures c.letters-letters.ensures.matched) c.in_ok-steps.ensures.items

pub bounds-returned-i : goal.bounds-returned-i
bounds-returned-i c =
    let e : length c.args.returned.now ≡ length c.args.path.now.word = ap (λ (l : List Bool). length l) c.requires.returned ∙ tests_counted c.args.path.now.word in
    let l = within_word c.letters-letters.result.now c.args.path.now.word c.loop-i.i (c.letters-letters.ensures.value ∙ c.word.ensures) c.loop-i-test.true in
    omega (arith, e, l)

pub step_of-requires-clause-letter : goal.step_of-requires-clause-letter
step_of-requires-clause-letter c =
    let d : Letter = record { id = 0; kind = Inside; call = 0 } in
    letter_at (λ a. IsSome (act_of (alphabet_of c.args.icfg.now) a)) c.letters-letters.result.now c.loop-i.i d c.loop-i-test.true
    (accepted_letters c.args.icfg.now c.acts-valid.ensures.valid c.letters-letters.result.now c.args.path.now.word c.requires.path.accepted (c.letters-letters.ensures.value ∙ c.word.ensures))

pub step_of-requires-clause-finds : goal.step_of-requires-clause-finds
step_of-requires-clause-finds c =
    let d : Letter = record { id = 0; kind = Inside; call = 0 } in
    let a : Letter = get_or c.letters-letters.result.now c.loop-i.i d in
    let w : List Letter = c.args.path.now.word in
    let k = c.letters-letters.ensures.value ∙ c.word.ensures in
    let f : drop c.loop-i.i w ≡ a ∷ drop (c.loop-i.i + 1) w =
    front_is w c.loop-i.i a d (within_word c.letters-letters.result.now w c.loop-i.i k c.loop-i-test.true) (letter_is c.letters-letters.result.now w c.loop-i.i a d k refl) in
    finds_call c.args.icfg.now w (length c.column_at-total.result.now) c.loop-i.i a c.loop-i.reading c.loop-i.steps.items c.loop-i.invariant f

pub go_on-requires : goal.go_on-requires
go_on-requires c =
    let d : Letter = record { id = 0; kind = Inside; call = 0 } in
    letter_at (λ a. IsSome (act_of (alphabet_of c.args.icfg.now) a)) c.letters-letters.result.now c.loop-i.i d c.loop-i-test.true
    (accepted_letters c.args.icfg.now c.acts-valid.ensures.valid c.letters-letters.result.now c.args.path.now.word c.requires.path.accepted (c.letters-letters.ensures.value ∙ c.word.ensures))

pub loop-i-preserved : goal.loop-i-preserved
loop-i-preserved c =
    let g = c.args.icfg.now in
    let d : Letter = record { id = 0; kind = Inside; call = 0 } in
    let a : Letter = get_or c.letters-letters.result.now c.loop-i.i d in
    let w : List Letter = c.args.path.now.word in
    let rest : List Letter = drop (c.loop-i.i + 1) w in
    let total : ℕ = length c.column_at-total.result.now in
    let k = c.letters-letters.ensures.value ∙ c.word.ensures in
    let l : c.loop-i.i < length w = within_word c.letters-letters.result.now w c.loop-i.i k c.loop-i-test.true in
    let f : drop c.loop-i.i w ≡ a ∷ rest = front_is w c.loop-i.i a d l (letter_is c.letters-letters.result.now w c.loop-i.i a d k refl) in
    let h = c.loop-i.invariant in
    let at = here_at g w total c.loop-i.i c.loop-i.reading c.loop-i.steps.items h in
    let known : IsSome (act_of (alphabet_of g) a) =
    letter_at (λ x. IsSome (act_of (alphabet_of g) x)) c.letters-letters.result.now c.loop-i.i d c.loop-i-test.true
    (accepted_letters g c.acts-valid.ensures.valid c.letters-letters.result.now w c.requires.path.accepted k) in
    steps_next g w total c.loop-i.i a c.loop-i.reading c.go_on.new.self c.loop-i.steps.items c.push.new.self.items c.in_ok-step.step h f known
    (λ t. c.in_ok-step.ensures.step w t rest h.reading (position_here (read_on (alphabet_of g) a rest h.reading)) h.is_reading at
    (next_at g w total c.loop-i.i a c.loop-i.reading c.loop-i.steps.items h f)
    (ap (λ (x : List Bool). get_or x c.loop-i.i false) c.requires.returned ∙ test_at w c.loop-i.i l))
    (c.in_ok-go_on.ensures w rest h.reading h.is_reading at) c.in_ok-push.ensures.items c.in_ok-step.ensures.fit

pub returns-clause-steps : goal.returns-clause-steps
returns-clause-steps c =
    let l : length c.args.path.now.word ≤ c.loop-i.i =
    subst (λ (w : List Letter). length w ≤ c.loop-i.i) (c.letters-letters.ensures.value ∙ c.word.ensures) c.loop-i-test.false in
    steps_done c.args.icfg.now c.args.path.now.word (length c.column_at-total.result.now) c.loop-i.i c.loop-i.reading c.loop-i.steps.items l c.loop-i.invariant

pub returns-clause-count : goal.returns-clause-count
returns-clause-count c =
    let n : length c.letters-letters.result.now ≡ length c.args.path.now.word = ap (λ (w : List Letter). length w) (c.letters-letters.ensures.value ∙ c.word.ensures) in
    let k = c.loop-i.invariant.count in
    let l = c.loop-i-test.false in
    omega (arith, n, k, l)

pub returns-clause-fit : goal.returns-clause-fit
returns-clause-fit c =
    subst (λ (n : ℕ). AllByRecursion (λ (f : Step). FitColumns n f.columns) c.loop-i.steps.items)
    (total_is c.args.icfg.now c.args.path.now.word c.column_at-total.result.now (length c.column_at-total.result.now) (c.column_at-total.ensures ∙ c.requires.path.column_at) refl) c.loop-i.invariant.fit
