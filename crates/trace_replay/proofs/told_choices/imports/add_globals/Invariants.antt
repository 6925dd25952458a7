use Rattle.std.proofs.Common.{◌≡◌, ◌++◌, map, Some, drop}
use Rattle.std.specs.List.{AllByRecursion}
use Rattle.math_facts.specs.Fits.{Fits}
use Rattle.trace_replay.specs.ToldChoices.Telling.{ChoicesFit}
use Rattle.lowered_graph.specs.LoweredSteps.Edges.{found_from}
use Rattle.lowered_graph.specs.LoweredImports.Imports.{told_global, told_globals}
use Rattle.trace_replay.proofs.told_choices.imports.add_globals.Given as goal

abbrev pub invariant-loop-global : goal.invariant-loop-global
invariant-loop-global l = record {
  value : l.told.items ++ map Some (map (λ g. told_global l.globals l.helpers l.after (found_from 0 l.shared.items g) g) (drop l.global-index l.modified)) ≡ l.fn.told.items ++ map Some (told_globals l.globals l.modified l.targets l.helpers l.after);
  fits : AllByRecursion Fits l.helpers → AllByRecursion Fits l.after → ChoicesFit l.fn.told.items → ChoicesFit l.told.items;
}
