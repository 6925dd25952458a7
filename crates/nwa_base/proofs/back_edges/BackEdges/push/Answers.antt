use Rattle.std.proofs.Common.{◌∙◌, ap, ◌++◌, ◌∷◌, []}
use Rattle.nwa_base.proofs.EdgeLemmas.{back_indexed_push, back_indexed_stays, back_indexed_kept, drop_undoes, drop_undoes_pair}
use Rattle.nwa_base.proofs.back_edges.BackEdges.push.Goals as goal

pub invariant_of-self-in-Err : goal.invariant_of-self-in-Err
invariant_of-self-in-Err c =
    back_indexed_kept _ _ _ _ _ _ _ c.self.invariant c.reserve.ensures.items
    (drop_undoes c.args.edge.0 c.args.edge _ _ _ c.in_ok-add.ensures.ok c.drop_last.ensures) c.in-Err.ensures.err

pub invariant_of-self-in-Err-add : goal.invariant_of-self-in-Err-add
invariant_of-self-in-Err-add c =
    back_indexed_stays _ _ _ _ _ _ _ _ c.self.invariant c.reserve.ensures.items
    (drop_undoes c.args.edge.0 c.args.edge _ _ _ c.in_ok-add.ensures.ok c.drop_last-in-Err-add.ensures)
    (drop_undoes_pair (c.args.edge.0, c.args.edge.1) c.args.edge _ _ _ c.in_default.ensures.ok c.drop_last-in-Err-add-2.ensures)
    c.in-Err-add.ensures.err

pub invariant_of-self-2 : goal.invariant_of-self-2
invariant_of-self-2 c =
    back_indexed_push _ _ _ _ _ _ _ _ c.args.edge c.self.invariant
    (c.push_reserved.ensures.items ∙ ap (λ l. l ++ c.args.edge ∷ []) c.reserve.ensures.items) c.in_ok-add.ensures.ok c.in_default.ensures.ok c.in_default-add.ensures.ok
