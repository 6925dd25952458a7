use Rattle.std.proofs.Common.{◌≡◌, ◌++◌}
use Rattle.std.specs.List.{flat_map}
use Rattle.proof_form.specs.Lines.{spaced}
use Rattle.proof_form.proofs.WritingLaws.{with_rest}
use Rattle.proof_form.proofs.line_writing.push_numbers.Given as goal

abbrev pub invariant-loop-number : goal.invariant-loop-number
invariant-loop-number l = with_rest spaced l.out.items l.numbers l.number-index ≡ l.fn.out.items ++ flat_map spaced l.numbers
