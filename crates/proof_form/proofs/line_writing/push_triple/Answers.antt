use Rattle.std.proofs.Common.{ap, map}
use Rattle.std.proofs.lemmas.Result.{on_ok_weaker}
use Rattle.proof_form.specs.Lines.{triple}
use Rattle.proof_form.specs.Refutations.{plain_refutation_node}
use Rattle.proof_form.proofs.WritingLaws.{whole_inside, whole_call, whole_back, back_written}
use Rattle.proof_form.proofs.line_writing.push_triple.Goals as goal

pub push_proved-requires : goal.push_proved-requires
push_proved-requires c = whole_inside _ _ _ _ _ _ (ap triple c.in-Inside.is) (ap (map plain_refutation_node) c.deref.ensures.value) c.requires

pub push_proved-requires-in-Call : goal.push_proved-requires-in-Call
push_proved-requires-in-Call c = whole_call _ _ _ _ _ _ (ap triple c.in-Call.is) (ap (map plain_refutation_node) c.deref-in-Call.ensures.value) c.requires

pub push_proved-requires-in-Back : goal.push_proved-requires-in-Back
push_proved-requires-in-Back c = whole_back _ _ _ _ _ _ _ (ap triple c.in-Back.is) (ap (map plain_refutation_node) c.deref-in-Back.ensures.value) c.requires

pub returns-in_ok-push_spaced-in-Back : goal.returns-in_ok-push_spaced-in-Back
returns-in_ok-push_spaced-in-Back c =
    on_ok_weaker c.push_proved-in-Back.result
    (back_written (triple c.args.line.now) c.in-Back.exit c.in-Back.before c.in-Back.letter c.in-Back.to (map plain_refutation_node c.in-Back.proof.items) (map plain_refutation_node c.deref-in-Back.result.now)
    c.args.out.now.items c.extend_from_slice.new.self.items c.push_spaced.new.out.items c.push_proved-in-Back.new.out.items
    (ap triple c.in-Back.is) (ap (map plain_refutation_node) c.deref-in-Back.ensures.value) c.in_ok-extend_from_slice-in-Back.ensures.items c.in_ok-push_spaced-in-Back.ensures)
    c.push_proved-in-Back.ensures
