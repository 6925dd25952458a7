use Rattle.std.proofs.Common.{◌≡◌, length, map, take}
use Rattle.typed_tree.specs.TypedView.{specification}
use Rattle.typed_tree.specs.Scope.{is_constant_column}
use Rattle.cond_jumps.specs.FreeProducts.FreeProducts.{all_free_products}
use Rattle.icfg_lower.specs.CallJumps.CallLists.{ensured}
use Rattle.icfg_lower.proofs.call_jumps.ensured.ensures_count.Given as goal

abbrev pub invariant-loop-spec : goal.invariant-loop-spec
invariant-loop-spec l = l.count ≡ length (all_free_products (is_constant_column l.globals) (ensured (map specification (take l.spec-index l.specs))))
