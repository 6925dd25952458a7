use Rattle.std.proofs.Common.{◌≡◌, map, drop}
use Rattle.typed_tree.specs.TypedView as view
use Rattle.typed_tree.specs.TypingRules.Shape.{is_shaped_block}
use Rattle.typed_tree.proofs.typing_rules.arguments.+shaped.Given as goal

abbrev pub invariant-is_shaped_block-loop-shaped : goal.invariant-is_shaped_block-loop-shaped
invariant-is_shaped_block-loop-shaped l =
    is_shaped_block (map view.procedure l.procs) (view.statements (drop l.shaped-index l.listed)) ≡ is_shaped_block (map view.procedure l.procs) (view.statements l.listed)
