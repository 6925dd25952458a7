use Rattle.std.proofs.Common.{◌≡◌, ◌++◌, map, drop}
use Rattle.typed_tree.specs.TypedView as view
use Rattle.modular_cut.specs.Parts.{called_in, recalled}
use Rattle.modular_cut.proofs.recalling.+recalled.Given as goal

abbrev pub invariant-statements-loop-part : goal.invariant-statements-loop-part
invariant-statements-loop-part l =
    map view.statement l.copied.items ++ map (λ s. recalled (called_in l.calls.copy l.calls.own) (view.statement s)) (drop l.part-index l.part-items)
    ≡ map (λ s. recalled (called_in l.calls.copy l.calls.own) (view.statement s)) l.part-items
