use Rattle.std.proofs.Common.{◌∙◌, sym}
use Rattle.letter_acts.proofs.OneCallLemmas.{no_calls_leave}
use Rattle.letter_acts.proofs.checks.edges.back_agrees.Goals as goal

pub returns-then-is_empty : goal.returns-then-is_empty
returns-then-is_empty c =
    no_calls_leave c.args.nwa.now c.args.edge c.calls_leaving.result.now c.backs.result.now _ c.calls_leaving.ensures (sym c.is_empty.ensures ∙ c.if-is_empty.true) c.backs.ensures c.are_returned_by.ensures
