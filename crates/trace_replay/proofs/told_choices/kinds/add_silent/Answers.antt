use Rattle.std.proofs.Common.{◌∙◌, List, [], ◌∷◌, ◌++◌, ap, append_assoc}
use Rattle.std.proofs.lemmas.List.{replicate_more}
use Rattle.trace_replay.specs.ToldChoices.Kinds.{PlainKind, Silent}
use Rattle.trace_replay.specs.ToldChoices.Ties.Views.{plain_kinds}
use Rattle.trace_replay.specs.ToldChoices.Ties.Walks.{silent}
use Rattle.trace_replay.proofs.told_choices.kinds.add_silent.Goals as goal

pub loop-i-preserved : goal.loop-i-preserved
loop-i-preserved c =
    c.in_ok-add.ensures ∙ ap (λ (ks : List PlainKind). ks ++ Silent ∷ []) c.loop-i.invariant
    ∙ append_assoc (plain_kinds c.args.kinds.now.items) (silent c.loop-i._i) (Silent ∷ []) ∙ ap (λ (ks : List PlainKind). plain_kinds c.args.kinds.now.items ++ ks) (replicate_more c.loop-i._i Silent)
