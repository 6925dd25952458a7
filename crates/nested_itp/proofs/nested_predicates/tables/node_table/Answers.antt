use Rattle.std.proofs.Common.{◌∙◌, List, map, ap, subst}
use Rattle.std.specs.List.{AllByRecursion}
use Rattle.std.proofs.lemmas.List.{length-map}
use Rattle.lin_rows.specs.Rows.{LinearRow, IsRow}
use Rattle.lin_rows.specs.Tightening.{tightened}
use Rattle.path_rows.specs.Paths.{path_of}
use Rattle.nested_itp.specs.NestedPredicates.Stamps.{stamps_of}
use Rattle.nested_itp.proofs.NestedPredicates.TableLaws.{root_counts}
use Rattle.nested_itp.proofs.NestedPredicates.BranchSteps.{same_await}
use Rattle.nested_itp.proofs.nested_predicates.tables.node_table.Goals as goal

pub root_branches-requires : goal.root_branches-requires
root_branches-requires c =
    root_counts c.args.icfg.now c.args.path.now.word (map tightened c.args.path.now.rows) c.args.layout.now.stamps.rows.items (ap (map tightened) c.requires.path.rows) c.requires.layout.rows ∙
    length-map c.args.path.now.rows tightened

pub branch_table-requires-clause-waits : goal.branch_table-requires-clause-waits
branch_table-requires-clause-waits c =
    same_await c.in_ok-branches.branches (map tightened c.args.path.now.rows) (map tightened (path_of c.args.icfg.now c.args.path.now.word).rows) c.args.layout.now.stamps.rows.items
    (stamps_of c.args.icfg.now c.args.path.now.word).rows (ap (map tightened) c.requires.path.rows) c.requires.layout.rows c.in_ok-branches.ensures.value

pub branch_table-requires-clause-valid : goal.branch_table-requires-clause-valid
branch_table-requires-clause-valid c = subst (λ (rows : List LinearRow). AllByRecursion IsRow (map tightened rows)) c.requires.path.rows c.in_ok-branches.ensures.valid
