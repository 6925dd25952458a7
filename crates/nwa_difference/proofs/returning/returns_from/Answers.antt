use Rattle.std.proofs.Common.{◌∙◌, sym}
use Rattle.nwa_difference.proofs.CoverLemmas.{returns_none}
use Rattle.nwa_difference.proofs.returning.returns_from.Goals as goal

pub returns-then-is_empty : goal.returns-then-is_empty
returns-then-is_empty c = λ yes.
    returns_none c.args.second.now c.args.call c.args.state c.args.before c.args.letter c.args.end c.call_ends.result.now c.call_ends.ensures
    (sym c.is_empty.ensures ∙ yes)
