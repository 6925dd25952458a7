use Rattle.std.proofs.Common.{◌∙◌, map, sym}
use Rattle.std.specs.Prelude.{slice_get}
use Rattle.std.proofs.lemmas.List.Folds.{list_all-map}
use Rattle.proof_form.specs.Lines as form
use Rattle.proof_names.specs.Naming.{NamesTriple}
use Rattle.proof_names.proofs.AllLaws.{passes_at}
use Rattle.proof_names.proofs.PairLaws.{so_far_mapped, stops_mapped}
use Rattle.proof_names.proofs.SoFarLaws.{so_far_start, mapped_end}
use Rattle.proof_names.proofs.naming.triples_named.Goals as goal

pub triple_named-requires : goal.triple_named-requires
triple_named-requires c =
    passes_at (λ n. form.is_triple (form.triple n)) c.args.lines.now c.loop-k.k c.index-lines-k.result (sym (list_all-map form.is_triple form.triple c.args.lines.now) ∙ c.requires)
    c.loop-k-test.true c.index-lines-k.is

pub returns-in-None-clause-at : goal.returns-in-None-clause-at
returns-in-None-clause-at c =
    λ i e. stops_mapped form.triple (λ k line t. NamesTriple c.args.icfg.now (slice_get c.args.preds.now) line t) c.args.lines.now c.args.first i c.loop-k.k c.loop-k.triples.items
    c.index-lines-k.result c.loop-k.invariant c.loop-k-test.true c.index-lines-k.is (rw c.in-None.is at c.in_ok-triple.ensures) (c.unnamed.ensures i (cc))

pub loop-k-preserved : goal.loop-k-preserved
loop-k-preserved c =
    so_far_mapped form.triple (λ k line t. NamesTriple c.args.icfg.now (slice_get c.args.preds.now) line t) c.args.lines.now c.loop-k.k c.loop-k.triples.items _ c.index-lines-k.result
    c.in-Some.triple c.loop-k.invariant c.loop-k-test.true c.index-lines-k.is (rw c.in-Some.is at c.in_ok-triple.ensures) c.in_ok-push-in-Some.ensures.items

pub loop-k-init : goal.loop-k-init
loop-k-init c = so_far_start (λ k line t. NamesTriple c.args.icfg.now (slice_get c.args.preds.now) line t) (map form.triple c.args.lines.now) c.in_ok-triples.triples.items c.in_ok-triples.ensures.items

pub returns-clause-ok : goal.returns-clause-ok
returns-clause-ok c = mapped_end form.triple (λ k line t. NamesTriple c.args.icfg.now (slice_get c.args.preds.now) line t) c.args.lines.now c.loop-k.k c.loop-k.triples.items c.loop-k.invariant c.loop-k-test.false c.loop-k.auto.k-end
