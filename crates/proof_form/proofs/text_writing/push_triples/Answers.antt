use Rattle.std.proofs.Common.{ap, ◌++◌, ◌∙◌}
use Rattle.proof_form.specs.Annotations.{ended}
use Rattle.proof_form.specs.Lines.{triple, triple_text, is_triple}
use Rattle.proof_form.proofs.ItemLaws.{item_passes, ended_texts, ended_after}
use Rattle.proof_form.proofs.WritingLaws.{all_written, one_written}
use Rattle.proof_form.proofs.text_writing.push_triples.Goals as goal

pub push_triple-requires : goal.push_triple-requires
push_triple-requires c = item_passes triple is_triple c.args.triples.now c.loop-triple.triple-index c.triple-item.result c.requires c.loop-triple-test.true c.triple-item.is

pub returns : goal.returns
returns c =
    all_written (λ t. ended (triple_text (triple t))) _ _ _ _ c.loop-triple-test.false c.loop-triple.invariant
    ∙ ap (λ t. c.args.out.now.items ++ t) (ended_texts triple triple_text c.args.triples.now)

pub loop-triple-preserved : goal.loop-triple-preserved
loop-triple-preserved c =
    one_written (λ t. ended (triple_text (triple t))) c.args.triples.now c.loop-triple.triple-index c.triple-item.result _ _ _ c.loop-triple-test.true c.triple-item.is
    (ended_after _ (triple_text (triple c.triple-item.result)) _ _ c.in_ok-push_triple.ensures c.in_ok-push.ensures.items) c.loop-triple.invariant
