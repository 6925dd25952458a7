use Rattle.std.proofs.Common.{◌≡◌, ◌++◌, map}
use Rattle.std.specs.List.{flat_map}
use Rattle.proof_form.specs.Annotations.{numbered, ended}
use Rattle.proof_form.specs.Lines.{pred, pred_text}
use Rattle.proof_form.proofs.ItemLaws.{with_lines}
use Rattle.proof_form.proofs.text_writing.push_preds.Given as goal

abbrev pub invariant-loop-i : goal.invariant-loop-i
invariant-loop-i l = with_lines pred pred_text 2 l.out.items l.preds l.i ≡ l.fn.out.items ++ flat_map ended (numbered pred_text 2 (map pred l.preds))
