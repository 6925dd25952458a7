use Rattle.std.proofs.Common.{◌≡◌, ◌∙◌, ◌<◌, ℕ, Bool, true, List, not, length, sym, ap, subst}
use Rattle.std.specs.Prelude.{filter}
use Rattle.std.specs.List.{AllByRecursion}
use Rattle.letter_acts.specs.Frames.{variables_of}
use Rattle.letter_acts.proofs.ListLemmas.{all_weaker}
use Rattle.letter_acts.specs.Reading.{is_listed}
use Rattle.triple_rows.proofs.ListLaws.{all_passed}
use Rattle.triple_rows.proofs.ties.add_kept.Goals as goal

pub add_ties-requires : goal.add_ties-requires
add_ties-requires c =
    let P : ℕ → Type 0 = λ g. (g < length c.args.left.now) × (g < length c.args.right.now) in
    let test : ℕ → Bool = λ g. not (is_listed c.args.targets.now g) in
    let vs = variables_of c.args.frame.now in
    let kept : c.deref-2.result.now ≡ filter test vs =
    c.deref-2.ensures.value ∙ c.in_ok-kept.ensures ∙ ap (λ (xs : List ℕ). filter test xs) (c.deref.ensures.value ∙ c.in_ok-variables.ensures) in
    subst (AllByRecursion P) (sym kept) ((all_passed P test vs).1 (all_weaker P (λ x. test x ≡ true → P x) (λ x p t. p) vs c.requires.within))
