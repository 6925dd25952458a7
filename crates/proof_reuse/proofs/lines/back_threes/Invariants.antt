use Rattle.std.proofs.Common.{map, take}
use Rattle.std.specs.List.{filter_map}
use Rattle.nwa_base.specs.Members.{SameMembers}
use Rattle.proof_form.specs.Lines as form
use Rattle.proof_reuse.specs.Ties.Numbers.{back_three}
use Rattle.proof_reuse.proofs.lines.back_threes.Given as goal

abbrev pub invariant-loop-line : goal.invariant-loop-line
invariant-loop-line l = SameMembers l.threes.keys (filter_map (back_three l.numbers) (map form.triple (take l.line-index l.lines)))
