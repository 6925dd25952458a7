use Rattle.std.proofs.Common.{ℕ, List, ◌++◌, map, Option, ◌∙◌, ap, arith}
use Rattle.typed_tree.specs.TypingRules.TypedParts.{typed_program}
use Rattle.typed_tree.specs.TypedTree.{TypedProgram}
use Rattle.lowered_graph.specs.Lowered.{entry_of, exit_of}
use Rattle.icfg_lower.proofs.AutomatonParts.{all_numbered}
use Rattle.icfg_lower.proofs.BodyEnds.{from_number, one_entry_more, one_exit_more}
use Rattle.icfg_lower.proofs.building.add_ends.Goals as goal

pub loop-proc-preserved : goal.loop-proc-preserved
loop-proc-preserved c = record {
  entries =
      one_entry_more (typed_program c.args.layout.now) c.loop-proc.proc c.entry_of.result c.loop-proc.entries.items c.push.new.self.items (omega arith) c.entry_of.ensures c.in_ok-push.ensures.items
      ∙ c.loop-proc.invariant.entries;
  exits =
      one_exit_more (typed_program c.args.layout.now) c.loop-proc.proc c.exit_of.result c.loop-proc.exits.items c.push-in-loop-proc.new.self.items (omega arith) c.exit_of.ensures c.in_ok-push-2.ensures.items
      ∙ c.loop-proc.invariant.exits;
}

pub loop-proc-init : goal.loop-proc-init
loop-proc-init c =
    let t : TypedProgram = typed_program c.args.layout.now in
    record {
      entries = ap (λ (l : List (Option ℕ)). l ++ map (entry_of t) (from_number t 0)) c.requires.entries;
      exits = ap (λ (l : List (Option ℕ)). l ++ map (exit_of t) (from_number t 0)) c.requires.exits;
    }

pub returns-clause-entries : goal.returns-clause-entries
returns-clause-entries c =
    let t : TypedProgram = typed_program c.args.layout.now in
    all_numbered t (entry_of t) c.loop-proc.proc c.procedures-proc-end.result c.loop-proc.entries.items (map (entry_of t) (from_number t 0)) c.procedures-proc-end.ensures c.loop-proc-test.false c.loop-proc.invariant.entries

pub returns-clause-exits : goal.returns-clause-exits
returns-clause-exits c =
    let t : TypedProgram = typed_program c.args.layout.now in
    all_numbered t (exit_of t) c.loop-proc.proc c.procedures-proc-end.result c.loop-proc.exits.items (map (exit_of t) (from_number t 0)) c.procedures-proc-end.ensures c.loop-proc-test.false c.loop-proc.invariant.exits
