use Rattle.std.proofs.Common.{◌≡◌, ◌++◌}
use Rattle.std.specs.List.{flat_map}
use Rattle.proof_form.specs.Annotations.{ended, coarse_line}
use Rattle.proof_form.proofs.WritingLaws.{with_rest}
use Rattle.proof_form.proofs.text_writing.push_letters.Given as goal

abbrev pub invariant-loop-letter : goal.invariant-loop-letter
invariant-loop-letter l = with_rest (λ n. ended (coarse_line n)) l.out.items l.coarse l.letter-index ≡ l.fn.out.items ++ flat_map (λ n. ended (coarse_line n)) l.coarse
