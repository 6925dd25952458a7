use Rattle.std.proofs.Common.{sym, ◌∙◌}
use Rattle.lowered_graph.specs.LoweredSteps.Edges.{found_from}
use Rattle.icfg_lower.proofs.CallJumps.PlaceLemmas.{left_is, got_is}
use Rattle.icfg_lower.proofs.call_jumps.written.Written.left.Goals as goal

pub returns : goal.returns
returns c =
    left_is c.args.self.now.globals.now c.args.self.now.base c.args.number c.in-Some.place c.in_ok-column.column c.in-Some-get.global.now
    (found_from 0 c.args.self.now.modified.now c.args.number) (found_from c.args.self.now.helpers c.args.self.now.targeted.now c.args.number) (sym c.found.ensures ∙ c.in-Some.is)
    (got_is c.args.self.now.globals.now c.args.number c.in-Some-get.global.now c.in-Some-get.ensures.lookup.3.0 c.in-Some-get.ensures.lookup.1) c.in_ok-column.ensures
