use Rattle.std.proofs.Common.{◌≡◌, map}
use Rattle.cond_jumps.specs.FreeProducts.LetterView.{all_marked}
use Rattle.lowered_graph.specs.LoweredSteps.Edges.{behind_helpers}
use Rattle.icfg_lower.proofs.call_jumps.imports.behind_helpers.Given as goal

abbrev pub invariant-loop-letter : goal.invariant-loop-letter
invariant-loop-letter l = all_marked l.all.items ≡ map (behind_helpers l.helpers) (all_marked l.yielded)
