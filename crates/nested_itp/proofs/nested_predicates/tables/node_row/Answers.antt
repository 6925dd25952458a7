use Rattle.std.proofs.Common.{◌≡◌, ◌∙◌, List, ℕ, sym, ap, subst, rules, FitsSigned}
use Rattle.std.specs.Int.{w128}
use Rattle.std.specs.Global.{Vec}
use Rattle.std.proofs.lemmas.Int.{to_z-of_z}
use Rattle.farkas_check.specs.Nodes.{PlainNode, plain, cut}
use Rattle.triple_rows.specs.declared.predicates.PredNode.{PredNode}
use Rattle.nested_itp.specs.NestedPredicates.Stamps.{stamps_of}
use Rattle.nested_itp.specs.NestedPredicates.Positions.{positions_of}
use Rattle.nested_itp.specs.NestedPredicates.Layouts.{leaf_node}
use Rattle.nested_itp.specs.NestedPredicates.Tables.{branch_of, Await, CanTake, branches_after, row_of_node}
use Rattle.nested_itp.proofs.NestedPredicates.BaseLaws.{if_ok}
use Rattle.nested_itp.proofs.NestedPredicates.TableLaws.{cut_is, leaf_is, leaf_contradicts, good_stamps, ok_anyway}
use Rattle.std.proofs.Common.{map}
use Rattle.lin_rows.specs.Rows.{LinearRow, IsRow}
use Rattle.std.specs.List.{AllByRecursion}
use Rattle.nested_itp.proofs.nested_predicates.tables.node_row.Goals as goal

pub leaf_sums-requires-clause-rows : goal.leaf_sums-requires-clause-rows
leaf_sums-requires-clause-rows c = subst (λ (l : List LinearRow). AllByRecursion IsRow l) (sym c.deref.ensures.value) c.requires.good.rows

pub leaf_sums-requires-clause-leaf : goal.leaf_sums-requires-clause-leaf
leaf_sums-requires-clause-leaf c =
    leaf_contradicts (branch_of c.args.branches.now) (plain c.args.node.now) c.deref.result.now c.deref-in-Leaf-2.result.now c.in-Leaf.parts.items c.deref.ensures.value
    c.deref-in-Leaf-2.ensures.value (ap plain c.in-Leaf.is) c.requires.can_take

pub leaf_sums-requires-clause-stamped : goal.leaf_sums-requires-clause-stamped
leaf_sums-requires-clause-stamped c =
    good_stamps (branch_of c.args.branches.now) c.deref.result.now c.deref-in-Leaf.result.now c.deref.ensures.value c.deref-in-Leaf.ensures.value c.requires.good.stamps

pub returns-in-Leaf-clause-value : goal.returns-in-Leaf-clause-value
returns-in-Leaf-clause-value c =
    let columns : List ℕ = (stamps_of c.args.icfg.now c.args.path.now.word).columns in
    let qs = positions_of c.args.icfg.now c.args.path.now.word in
    if_ok (λ (v : Vec PredNode). v.items ≡ map (leaf_node (record { rows = c.deref.result.now; stamps = c.deref-in-Leaf.result.now }) c.deref-in-Leaf-2.result.now) qs)
    (λ (v : Vec PredNode). v.items ≡ row_of_node columns qs (plain c.args.node.now) (branch_of c.args.branches.now))
    (λ v h. leaf_is columns qs (branch_of c.args.branches.now) (plain c.args.node.now) c.deref.result.now c.deref-in-Leaf.result.now c.deref-in-Leaf-2.result.now c.in-Leaf.parts.items v.items
    c.deref.ensures.value c.deref-in-Leaf.ensures.value c.deref-in-Leaf-2.ensures.value (ap plain c.in-Leaf.is) h) c.leaf_sums.result c.leaf_sums.ensures.value

pub returns-in-Leaf-clause-branches : goal.returns-in-Leaf-clause-branches
returns-in-Leaf-clause-branches c =
    ok_anyway _ c.leaf_sums.result
    (λ rest h. subst (λ (m : PlainNode). Await c.args.branches.now (branches_after (stamps_of c.args.icfg.now c.args.path.now.word).columns m (branch_of c.args.branches.now) rest))
    (sym (ap plain c.in-Leaf.is)) h)

pub split-requires-clause-fits : goal.split-requires-clause-fits
split-requires-clause-fits c =
    let f : FitsSigned w128 c.in-Cut.k = search rules in
    let h : CanTake (cut c.in-Cut.col c.in-Cut.k) (branch_of c.args.branches.now) = subst (λ (m : PlainNode). CanTake m (branch_of c.args.branches.now)) (ap plain c.in-Cut.is) c.requires.can_take in
    simp to_z-of_z h.0

pub split-requires-clause-opposite_fits : goal.split-requires-clause-opposite_fits
split-requires-clause-opposite_fits c =
    let f : FitsSigned w128 c.in-Cut.k = search rules in
    let h : CanTake (cut c.in-Cut.col c.in-Cut.k) (branch_of c.args.branches.now) = subst (λ (m : PlainNode). CanTake m (branch_of c.args.branches.now)) (ap plain c.in-Cut.is) c.requires.can_take in
    simp to_z-of_z h.1

pub returns-in_ok-split-in-Cut-clause-value : goal.returns-in_ok-split-in-Cut-clause-value
returns-in_ok-split-in-Cut-clause-value c =
    let columns : List ℕ = (stamps_of c.args.icfg.now c.args.path.now.word).columns in
    let qs = positions_of c.args.icfg.now c.args.path.now.word in
    cut_is c.args.icfg.now c.args.path.now.word columns c.deref-in-Cut.result.now c.in-Cut.col c.column_stamp-stamp.result c.in-Cut.k (branch_of c.args.branches.now) c.deref-in-Cut-2.result.now
    c.in_ok-row-in-Cut.row.items (c.deref-in-Cut-2.ensures.value ∙ c.requires.layout.spots) c.column_stamp-stamp.ensures (c.deref-in-Cut.ensures.value ∙ c.requires.layout.columns)
    c.in_ok-row-in-Cut.ensures ∙ ap (λ (m : PlainNode). row_of_node columns qs m (branch_of c.args.branches.now)) (sym (ap plain c.in-Cut.is))

pub unreachable-requires : goal.unreachable-requires
unreachable-requires c = subst (λ (m : PlainNode). CanTake m (branch_of c.args.branches.now)) (ap plain c.in-Cases.is) c.requires.can_take
