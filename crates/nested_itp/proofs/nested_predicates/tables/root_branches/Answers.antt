use Rattle.std.proofs.Common.{◌∙◌, length, map, sym, ap, subst}
use Rattle.std.specs.List.{AllByRecursion}
use Rattle.std.proofs.lemmas.List.{length-map}
use Rattle.lin_rows.specs.Rows.{IsRow}
use Rattle.lin_rows.specs.Tightening.{tightened}
use Rattle.nested_itp.proofs.NestedPredicates.TableLaws.{ok_anyway}
use Rattle.nested_itp.proofs.NestedPredicates.BranchSteps.{roots_await}
use Rattle.nested_itp.proofs.nested_predicates.tables.root_branches.Goals as goal

pub root-requires : goal.root-requires
root-requires c =
    ap length (c.in_ok-stamps.ensures.items ∙ c.deref-2.ensures.value) ∙ c.requires ∙ sym (length-map c.args.path.now.rows tightened) ∙
    sym (ap length (c.in_ok-rows.ensures.value ∙ ap (map tightened) (c.deref.ensures.value ∙ c.system.ensures.rows)))

pub returns-clause-value : goal.returns-clause-value
returns-clause-value c =
    roots_await c.root.result c.in_ok-rows.rows.items (map tightened c.args.path.now.rows) c.in_ok-stamps.stamps.items c.args.layout.now.stamps.rows.items
    (c.in_ok-rows.ensures.value ∙ ap (map tightened) (c.deref.ensures.value ∙ c.system.ensures.rows)) (c.in_ok-stamps.ensures.items ∙ c.deref-2.ensures.value) c.root.ensures

pub returns-clause-valid : goal.returns-clause-valid
returns-clause-valid c =
    ok_anyway (AllByRecursion IsRow (map tightened c.args.path.now.rows)) c.root.result
    (subst (AllByRecursion IsRow) (c.in_ok-rows.ensures.value ∙ ap (map tightened) (c.deref.ensures.value ∙ c.system.ensures.rows)) c.in_ok-rows.ensures.valid)
