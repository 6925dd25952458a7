use Rattle.std.proofs.Common.{◌≡◌, [], ◌∷◌, Bool, List, subst, sym, refl, inl}
use Rattle.triple_rows.specs.declared.predicates.PredNode.{PredNode}
use Rattle.triple_rows.specs.declared.predicates.PredNode.TheVariants.{Truth}
use Rattle.triple_rows.specs.Predicates.{truth, SpellsPredicate}
use Rattle.itp_automaton.proofs.states.truth.Goals as goal

spells : (b : Bool) (nodes : List PredNode) → nodes ≡ Truth b ∷ [] → SpellsPredicate nodes
spells b nodes e = subst SpellsPredicate (sym e) (truth b, refl, inl tt)

pub unreachable-requires : goal.unreachable-requires
unreachable-requires c =
    let h = c.in_default.ensures.found.1 (spells c.args.value c.in_ok-nodes.nodes.items c.in_ok-nodes.ensures.items) in
    cc
