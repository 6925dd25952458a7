use Rattle.typed_tree.specs.TypingRules.TypedParts.{typed_program}
use Rattle.icfg_lower.proofs.programs.laws.Goals as goal

pub returns : goal.returns
returns c = record {
  faithful = c.lowering_is_faithful.ensures (typed_program c.args.program.now) c.globals-globals.ensures.valid;
  automaton = c.lowered_programs_have_automata.ensures (typed_program c.args.program.now) c.globals-globals.ensures.valid;
  kept = c.lowered_programs_are_graphs.ensures (typed_program c.args.program.now) c.globals-globals.ensures.valid;
}
