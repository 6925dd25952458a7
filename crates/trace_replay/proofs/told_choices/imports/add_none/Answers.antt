use Rattle.std.proofs.Common.{◌∙◌, ℤ, List, [], ◌∷◌, ◌++◌, Option, None, ap, subst, sym, append_assoc}
use Rattle.std.specs.Prelude.{replicate}
use Rattle.std.proofs.lemmas.List.{replicate_more}
use Rattle.trace_replay.specs.ToldChoices.Telling.{ChoiceFits, ChoicesFit}
use Rattle.trace_replay.proofs.ToldChoices.Steps.{all_snoc}
use Rattle.trace_replay.proofs.told_choices.imports.add_none.Goals as goal

pub loop-i-preserved : goal.loop-i-preserved
loop-i-preserved c = record {
  value =
      c.in_ok-push.ensures.items ∙ ap (λ (os : List (Option ℤ)). os ++ None ∷ []) c.loop-i.invariant.value ∙ append_assoc c.args.told.now.items (replicate c.loop-i._i None) (None ∷ [])
      ∙ ap (λ (os : List (Option ℤ)). c.args.told.now.items ++ os) (replicate_more c.loop-i._i None);
  fits = λ h. subst ChoicesFit (sym c.in_ok-push.ensures.items) (all_snoc ChoiceFits c.loop-i.told.items None (c.loop-i.invariant.fits h) tt);
}
