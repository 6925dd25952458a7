use Rattle.std.proofs.Common.{[], ◌∷◌}
use Rattle.trace_replay.proofs.Stripped.{stripped, not_in_front}
use Rattle.rank_lasso.proofs.TreeLaws.{no_space, no_tree, long_tree, tree_read, at_some}
use Rattle.rank_lasso.proofs.trees.tree_of.Goals as goal

pub returns-in_default : goal.returns-in_default
returns-in_default c = no_space c.args.bytes.now (not_in_front (32 ∷ []) c.args.bytes.now c.in_default.ensures.cases)

pub returns-in_default-2 : goal.returns-in_default-2
returns-in_default-2 c =
    no_tree c.args.bytes.now c.in-Some.text.now (stripped (32 ∷ []) c.args.bytes.now c.in-Some.text.now c.in-Some.ensures.cases) (c.in_ok-nodes.ensures.none c.in_default-2.is)

pub returns-then-are_short : goal.returns-then-are_short
returns-then-are_short c =
    tree_read c.args.bytes.now c.in-Some.text.now c.in-Some-2.nodes.items c.deref.result.now c.are_short.result
    (stripped (32 ∷ []) c.args.bytes.now c.in-Some.text.now c.in-Some.ensures.cases)
    (at_some _ c.in_ok-nodes.field-0 c.in-Some-2.nodes c.in-Some-2.is c.in_ok-nodes.ensures.valid)
    (at_some _ c.in_ok-nodes.field-0 c.in-Some-2.nodes c.in-Some-2.is c.in_ok-nodes.ensures.value)
    c.deref.ensures.value c.are_short.ensures c.if-are_short.true

pub returns-else-are_short : goal.returns-else-are_short
returns-else-are_short c =
    long_tree c.args.bytes.now c.in-Some.text.now c.in-Some-2.nodes.items c.deref.result.now c.are_short.result
    (stripped (32 ∷ []) c.args.bytes.now c.in-Some.text.now c.in-Some.ensures.cases)
    (at_some _ c.in_ok-nodes.field-0 c.in-Some-2.nodes c.in-Some-2.is c.in_ok-nodes.ensures.valid)
    (at_some _ c.in_ok-nodes.field-0 c.in-Some-2.nodes c.in-Some-2.is c.in_ok-nodes.ensures.value)
    c.deref.ensures.value c.are_short.ensures c.if-are_short.false
