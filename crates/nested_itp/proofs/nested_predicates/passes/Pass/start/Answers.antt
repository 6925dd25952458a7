use Rattle.std.proofs.Common.{◌∙◌, ◌++◌, ◌∷◌, [], List, ap}
use Rattle.nested_itp.specs.declared.nested_predicates.bases.Base.{Base}
use Rattle.nested_itp.proofs.NestedPredicates.LeafLaws.{all_made_below}
use Rattle.nested_itp.proofs.nested_predicates.passes.Pass.start.Goals as goal

pub returns-clause-made : goal.returns-clause-made
returns-clause-made c = all_made_below c.width.result c.in_ok-running.running.columns.items c.args.states.now c.in_ok-running.ensures.width c.width.ensures

pub returns-clause-frames : goal.returns-clause-frames
returns-clause-frames c =
    (c.nothing.result, c.nothing.ensures, c.in_ok-push.ensures.items ∙ ap (λ (l : List Base). l ++ c.nothing.result ∷ []) c.new-frames.ensures.items)
