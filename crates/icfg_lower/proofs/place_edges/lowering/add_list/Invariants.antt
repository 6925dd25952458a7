use Rattle.std.proofs.Common.{◌≡◌}
use Rattle.cond_jumps.specs.FreeProducts.LetterView.{all_marked}
use Rattle.letter_acts.specs.LetterTable.Letters.{with_arcs}
use Rattle.lowered_graph.specs.LoweredParts.Lists.{list_arcs}
use Rattle.icfg_lower.proofs.place_edges.lowering.add_list.Given as goal

abbrev pub invariant-loop-letter : goal.invariant-loop-letter
invariant-loop-letter l =
    l.table ≡ with_arcs l.fn.table (list_arcs l.here.proc l.here.place l.written (all_marked l.yielded) l.to)
