use Rattle.std.proofs.Common.{List, ◌++◌, sym, ap, ◌∙◌}
use Rattle.std.specs.Prelude.{map}
use Rattle.proof_form.specs.declared.refutations.RNode.{RNode}
use Rattle.proof_form.specs.Refutations.{plain_refutation_node, refutation_text}
use Rattle.rank_lasso.proofs.WritingLaws.{proof_written}
use Rattle.rank_lasso.proofs.ranking_writing.push_proof.Goals as goal

pub returns : goal.returns
returns c =
    proof_written c.args.word.now c.args.proof.now (map plain_refutation_node c.in_ok-nodes.nodes.items) c.args.out.now.items c.extend_from_slice.new.self.items c.push.new.self.items
    c.extend_from_slice-2.new.self.items c.push-2.new.self.items c.in_ok-text.text.items c.in_ok-nodes.ensures.valid c.in_ok-nodes.ensures.named
    (ap (λ (ns : List RNode). refutation_text (map plain_refutation_node ns)) (sym c.deref.ensures.value) ∙ c.in_ok-text.ensures)
    c.in_ok-extend_from_slice.ensures.items c.in_ok-push.ensures.items (c.in_ok-extend_from_slice-2.ensures.items ∙ ap (λ x. c.push.new.self.items ++ x) c.deref-2.ensures.value)
    c.in_ok-push-2.ensures.items
