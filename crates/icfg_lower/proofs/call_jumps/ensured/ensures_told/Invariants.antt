use Rattle.std.proofs.Common.{◌≡◌, map, take}
use Rattle.typed_tree.specs.TypedView.{expression, specification}
use Rattle.typed_tree.specs.Scope.{is_constant_column}
use Rattle.cond_jumps.specs.FreeProducts.FrameLetters.{told_condition}
use Rattle.icfg_lower.specs.CallJumps.CallLists.{ensured}
use Rattle.icfg_lower.proofs.call_jumps.ensured.ensures_told.Given as goal

abbrev pub invariant-loop-spec : goal.invariant-loop-spec
invariant-loop-spec l = map expression l.told.items ≡ map (told_condition (is_constant_column l.globals) (map expression l.args)) (ensured (map specification (take l.spec-index l.specs)))
