use Rattle.std.proofs.Common.{◌≡◌, [], false, map, take}
use Rattle.typed_tree.specs.TypingRules.TypedParts.{typed_program}
use Rattle.lowered_graph.specs.LoweredParts.Items.{ways_arcs}
use Rattle.lowered_graph.specs.LoweredParts.Parts.{Leads}
use Rattle.icfg_lower.specs.PlaceEdges.WalkedParts.{walked}
use Rattle.icfg_lower.specs.ProgramWalk.Ties.Walks.{label_or_exit}
use Rattle.icfg_lower.proofs.program_walk.statements.ways.Given as goal

abbrev pub invariant-loop-label : goal.invariant-loop-label
invariant-loop-label l = record {
  program : typed_program l.lowering.parts ≡ typed_program l.fn.lowering.parts;
  led : Leads (ways_arcs l.here.proc l.here.place (map (label_or_exit l.body.labels.items l.body.exit) (take l.label-index l.labels))) [] false false (walked l.fn.lowering) (walked l.lowering);
}
