use Rattle.std.proofs.Common.{◌∙◌, ap, sym, reverse, length, false}
use Rattle.farkas_check.specs.Nodes.{plain_nodes}
use Rattle.int_decide.specs.Ties.Searching.{tasks}
use Rattle.int_decide.proofs.search.Search.new.Goals as goal

pub returns-clause-stands : goal.returns-clause-stands
returns-clause-stands c = λ i. record {
  gap = false;
  nodes = plain_nodes (c.new-2.ensures.items i);
  tasks = tasks (reverse (c.in_ok-lefts.ensures.items i)) (c.in_ok-new.ensures i);
}

pub returns-clause-paired : goal.returns-clause-paired
returns-clause-paired c = ap length c.in_ok-lefts.ensures.items ∙ sym (ap length c.in_ok-new.ensures)
