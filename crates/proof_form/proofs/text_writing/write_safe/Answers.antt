use Rattle.std.specs.Fmt.{decimal}
use Rattle.std.specs.List.{flat_map}
use Rattle.proof_form.specs.Annotations.{ended, form_lines, item_lines}
use Rattle.proof_form.proofs.ItemLaws.{whole_written}
use Rattle.proof_form.proofs.text_writing.write_safe.Goals as goal

pub returns : goal.returns
returns c =
    whole_written _ _ _ _ _ _ (decimal c.args.rounds) (flat_map ended (form_lines c.args.coarse.now)) (flat_map ended (item_lines c.args.proof.now)) c.in_ok-out.ensures.items c.in_ok-push_decimal.ensures
    c.in_ok-push.ensures.items c.in_ok-push_form.ensures c.in_ok-push_items.ensures c.in_ok-extend_from_slice.ensures.items
