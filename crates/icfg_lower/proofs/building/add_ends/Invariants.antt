use Rattle.std.proofs.Common.{◌≡◌, ◌++◌, map}
use Rattle.typed_tree.specs.TypingRules.TypedParts.{typed_program}
use Rattle.lowered_graph.specs.Lowered.{entry_of, exit_of}
use Rattle.icfg_lower.proofs.BodyEnds.{from_number}
use Rattle.icfg_lower.proofs.building.add_ends.Given as goal

abbrev pub invariant-loop-proc : goal.invariant-loop-proc
invariant-loop-proc l = record {
  entries : l.entries.items ++ map (entry_of (typed_program l.layout)) (from_number (typed_program l.layout) l.proc) ≡ map (entry_of (typed_program l.layout)) (from_number (typed_program l.layout) 0);
  exits : l.exits.items ++ map (exit_of (typed_program l.layout)) (from_number (typed_program l.layout) l.proc) ≡ map (exit_of (typed_program l.layout)) (from_number (typed_program l.layout) 0);
}
