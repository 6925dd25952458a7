use Rattle.std.proofs.Common.{◌≡◌, ◌++◌, map, drop}
use Rattle.typed_tree.specs.TypedView as view
use Rattle.modular_cut.specs.Parts.{without_body}
use Rattle.modular_cut.proofs.procedures.add_bare.Given as goal

abbrev pub invariant-loop-said : goal.invariant-loop-said
invariant-loop-said l =
    map view.procedure l.made.items ++ map (λ p. without_body (view.procedure p)) (drop l.said-index l.procs)
    ≡ map view.procedure l.initial.made.items ++ map (λ p. without_body (view.procedure p)) l.procs
