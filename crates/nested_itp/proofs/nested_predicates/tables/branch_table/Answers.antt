use Rattle.std.proofs.Common.{◌≡◌, ◌∙◌, List, [], ◌∷◌, map, get_or, refl, sym, ap, subst, rules}
use Rattle.std.specs.Global.{Vec}
use Rattle.std.proofs.lemmas.List.{map-append}
use Rattle.farkas_check.specs.declared.refutations.Node.{Node}
use Rattle.farkas_check.specs.declared.refutations.Node.TheVariants.{Cases}
use Rattle.farkas_check.specs.Nodes.{plain, plain_nodes}
use Rattle.triple_rows.specs.declared.predicates.PredNode.{PredNode}
use Rattle.nested_itp.specs.NestedPredicates.Stamps.{stamps_of}
use Rattle.nested_itp.specs.NestedPredicates.Positions.{positions_of}
use Rattle.nested_itp.specs.NestedPredicates.Sums.{Branch, root_of}
use Rattle.nested_itp.specs.NestedPredicates.Tables.{branch_of, Await, CanTake, IsGood, branches_after, row_of_node}
use Rattle.nested_itp.proofs.NestedPredicates.TableLaws.{Next, next_of, some_waits, table_next, table_past, table_start, node_front, table_done}
use Rattle.nested_itp.proofs.nested_predicates.tables.branch_table.Goals as goal

pub loop-i-init : goal.loop-i-init
loop-i-init c =
    let root : Branch = root_of c.args.icfg.now c.args.path.now.word in
    table_start c.args.icfg.now c.args.path.now.word (plain_nodes c.args.nodes.now) c.args.branches.now (map (λ (v : Vec PredNode). v.items) c.in_ok-table.table.items)
    root.rows c.args.path.now.rows root.stamps refl refl c.requires.valid c.requires.waits c.requires.path.rows c.requires.refutes
    (ap (λ (l : List (Vec PredNode)). map (λ (v : Vec PredNode). v.items) l) c.in_ok-table.ensures.items)

pub go_on-requires : goal.go_on-requires
go_on-requires c =
    let d : Node = Cases 0 in
    let n : Node = get_or c.args.nodes.now c.loop-i.i d in
    let h : Next c.args.icfg.now c.args.path.now.word (plain_nodes c.args.nodes.now) c.loop-i.i c.loop-i.branches (map (λ (v : Vec PredNode). v.items) c.loop-i.table.items) (plain n) =
    next_of c.args.icfg.now c.args.path.now.word (plain_nodes c.args.nodes.now) c.loop-i.i c.loop-i.branches (map (λ (v : Vec PredNode). v.items) c.loop-i.table.items) (plain n)
    (node_front c.args.nodes.now c.loop-i.i n d c.loop-i-test.true refl) c.loop-i.invariant in
    some_waits c.loop-i.branches h.branch h.rest h.await

pub node_row-requires-clause-good : goal.node_row-requires-clause-good
node_row-requires-clause-good c =
    let n : Node = c.index-nodes-i.result in
    let h : Next c.args.icfg.now c.args.path.now.word (plain_nodes c.args.nodes.now) c.loop-i.i c.loop-i.branches (map (λ (v : Vec PredNode). v.items) c.loop-i.table.items) (plain n) =
    next_of c.args.icfg.now c.args.path.now.word (plain_nodes c.args.nodes.now) c.loop-i.i c.loop-i.branches (map (λ (v : Vec PredNode). v.items) c.loop-i.table.items) (plain n)
    (node_front c.args.nodes.now c.loop-i.i n n c.loop-i-test.true c.index-nodes-i.is) c.loop-i.invariant in
    subst IsGood (sym (c.in_ok-go_on.ensures h.branch h.rest h.await).0) h.good

pub node_row-requires-clause-can_take : goal.node_row-requires-clause-can_take
node_row-requires-clause-can_take c =
    let n : Node = c.index-nodes-i.result in
    let h : Next c.args.icfg.now c.args.path.now.word (plain_nodes c.args.nodes.now) c.loop-i.i c.loop-i.branches (map (λ (v : Vec PredNode). v.items) c.loop-i.table.items) (plain n) =
    next_of c.args.icfg.now c.args.path.now.word (plain_nodes c.args.nodes.now) c.loop-i.i c.loop-i.branches (map (λ (v : Vec PredNode). v.items) c.loop-i.table.items) (plain n)
    (node_front c.args.nodes.now c.loop-i.i n n c.loop-i-test.true c.index-nodes-i.is) c.loop-i.invariant in
    subst (CanTake (plain n)) (sym (c.in_ok-go_on.ensures h.branch h.rest h.await).0) h.take

pub loop-i-preserved : goal.loop-i-preserved
loop-i-preserved c =
    let g = c.args.icfg.now in
    let w = c.args.path.now.word in
    let n : Node = c.index-nodes-i.result in
    let old : List (List PredNode) = map (λ (v : Vec PredNode). v.items) c.loop-i.table.items in
    let h : Next g w (plain_nodes c.args.nodes.now) c.loop-i.i c.loop-i.branches old (plain n) =
    next_of g w (plain_nodes c.args.nodes.now) c.loop-i.i c.loop-i.branches old (plain n) (node_front c.args.nodes.now c.loop-i.i n n c.loop-i-test.true c.index-nodes-i.is) c.loop-i.invariant in
    let on = c.in_ok-go_on.ensures h.branch h.rest h.await in
    let row : Vec PredNode = c.in_ok-node_row.field-0 in
    table_next g w (plain_nodes c.args.nodes.now) c.loop-i.i c.loop-i.branches c.node_row.new.branches old (map (λ (v : Vec PredNode). v.items) c.push.new.self.items) row.items (plain n) h
    (subst (λ (b : Branch). Await c.node_row.new.branches (branches_after (stamps_of g w).columns (plain n) b h.rest)) on.0 (c.in_ok-node_row.ensures.branches h.rest on.1))
    (subst (λ (b : Branch). row.items ≡ row_of_node (stamps_of g w).columns (positions_of g w) (plain n) b) on.0 c.in_ok-node_row.ensures.value)
    (ap (λ (l : List (Vec PredNode)). map (λ (v : Vec PredNode). v.items) l) c.in_ok-push.ensures.items ∙ map-append (λ (v : Vec PredNode). v.items) c.loop-i.table.items (row ∷ []))

pub returns-clause-value : goal.returns-clause-value
returns-clause-value c = table_done c.args.icfg.now c.args.path.now.word c.args.nodes.now c.loop-i.i c.loop-i.branches _ c.loop-i-test.false c.loop-i.invariant

pub returns-in_err-node_row-clause-past : goal.returns-in_err-node_row-clause-past
returns-in_err-node_row-clause-past c was =
    let g = c.args.icfg.now in
    let w = c.args.path.now.word in
    let n : Node = c.index-nodes-i.result in
    let old : List (List PredNode) = map (λ (v : Vec PredNode). v.items) c.loop-i.table.items in
    let h : Next g w (plain_nodes c.args.nodes.now) c.loop-i.i c.loop-i.branches old (plain n) =
    next_of g w (plain_nodes c.args.nodes.now) c.loop-i.i c.loop-i.branches old (plain n) (node_front c.args.nodes.now c.loop-i.i n n c.loop-i-test.true c.index-nodes-i.is) c.loop-i.invariant in
    table_past g w (plain_nodes c.args.nodes.now) c.loop-i.i c.loop-i.branches old (plain n) (branch_of c.go_on.new.self) h (c.in_ok-go_on.ensures h.branch h.rest h.await).0
    (c.in_err-node_row.ensures.past (search rules))
