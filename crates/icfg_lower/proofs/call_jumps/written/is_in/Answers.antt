use Rattle.std.proofs.Common.{sym, ◌∙◌, ap}
use Rattle.std.specs.Prelude.{is_some}
use Rattle.icfg_lower.proofs.CallJumps.PlaceLemmas.{in_where_found}
use Rattle.icfg_lower.proofs.call_jumps.written.is_in.Goals as goal

pub returns : goal.returns
returns c = c.is_some.ensures ∙ ap is_some c.found.ensures ∙ sym (in_where_found 0 c.args.list.now c.args.number)
