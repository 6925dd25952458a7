use Rattle.std.proofs.Common.{◌≡◌, [], ◌∷◌, true, List, subst, sym, refl, inl}
use Rattle.triple_rows.specs.declared.predicates.PredNode.{PredNode}
use Rattle.triple_rows.specs.declared.predicates.PredNode.TheVariants.{Truth}
use Rattle.triple_rows.specs.Predicates.{truth, SpellsPredicate}
use Rattle.triple_rows.proofs.halves.true_of.Goals as goal

true_is_spelled : (nodes : List PredNode) → nodes ≡ Truth true ∷ [] → SpellsPredicate nodes
true_is_spelled nodes e = subst SpellsPredicate (sym e) (truth true, refl, inl tt)

pub unreachable-requires : goal.unreachable-requires
unreachable-requires c =
    let h = c.in_default.ensures.found.1 (true_is_spelled c.in_ok-nodes.nodes.items c.in_ok-nodes.ensures.items) in
    cc
