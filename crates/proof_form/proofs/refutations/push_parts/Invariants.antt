use Rattle.std.proofs.Common.{◌≡◌, ◌++◌}
use Rattle.std.specs.List.{flat_map}
use Rattle.proof_form.specs.Refutations.{part_text}
use Rattle.proof_form.proofs.WritingLaws.{with_rest}
use Rattle.proof_form.proofs.refutations.push_parts.Given as goal

abbrev pub invariant-loop-part : goal.invariant-loop-part
invariant-loop-part l = with_rest part_text l.out.items l.parts l.part-index ≡ l.fn.out.items ++ flat_map part_text l.parts
