use Rattle.std.proofs.Common.{cond, map, take}
use Rattle.std.specs.List.{filter_map}
use Rattle.nwa_base.specs.Members.{SameMembers}
use Rattle.proof_form.specs.Lines as form
use Rattle.proof_reuse.specs.Ties.Numbers.{inside_pair, call_pair}
use Rattle.proof_reuse.proofs.lines.pairs_of.Given as goal

abbrev pub invariant-loop-line : goal.invariant-loop-line
invariant-loop-line l = SameMembers l.pairs.keys (filter_map (cond l.is_call call_pair inside_pair l.numbers) (map form.triple (take l.line-index l.lines)))
