use Rattle.std.proofs.Common.{◌≡◌, ◌++◌, map, drop}
use Rattle.typed_tree.specs.TypedView as view
use Rattle.typed_tree.specs.TypingRules.Ties.Texts.{texts}
use Rattle.typed_tree.proofs.typing_rules.names.procedures_named.Given as goal

abbrev pub invariant-loop-listed : goal.invariant-loop-listed
invariant-loop-listed l =
    texts l.names.items ++ map (λ p. p.name) (map view.procedure (drop l.listed-index l.procs)) ≡ map (λ p. p.name) (map view.procedure l.procs)
