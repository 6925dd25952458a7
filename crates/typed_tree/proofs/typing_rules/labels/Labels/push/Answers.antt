use Rattle.std.proofs.Common.{[], ◌∷◌, ◌++◌, List, ℕ, reverse, ap, ◌∙◌}
use Rattle.std.proofs.lemmas.List.{reverse-append}
use Rattle.typed_tree.proofs.typing_rules.labels.Labels.push.Goals as goal

pub returns : goal.returns
returns c =
    ap reverse (c.push_reserved.ensures.items ∙ ap (λ (xs : List ℕ). xs ++ c.args.label ∷ []) c.reserve.ensures.items)
    ∙ reverse-append c.self.inside.stack.items (c.args.label ∷ []) ∙ ap (λ (xs : List ℕ). c.args.label ∷ xs) c.self.view_is
