use Rattle.std.proofs.Common.{◌∙◌, sym}
use Rattle.std.proofs.lemmas.Bool.{false≢true}
use Rattle.proof_names.proofs.PairLaws.{is_got}
use Rattle.proof_check.specs.Proves.{IsShown}
use Rattle.proof_check.proofs.FirstLaws.{first_on, first_found, first_none}
use Rattle.proof_check.proofs.refuting.first_bad_triple.Goals as goal

pub is_shown-requires : goal.is_shown-requires
is_shown-requires c =
    c.requires c.loop-k.k c.index-triples-k.result (is_got c.args.triples.now c.loop-k.k c.index-triples-k.result c.loop-k-test.true c.index-triples-k.is)

pub returns-then-not-branch : goal.returns-then-not-branch
returns-then-not-branch c =
    first_found (λ k t. IsShown c.args.icfg.now t) c.args.triples.now c.loop-k.k c.index-triples-k.result c.loop-k.invariant
    (is_got c.args.triples.now c.loop-k.k c.index-triples-k.result c.loop-k-test.true c.index-triples-k.is)
    (λ p. false≢true (sym c.if-not-branch.true ∙ c.in_ok-is_shown.ensures.1 p))

pub loop-k-preserved : goal.loop-k-preserved
loop-k-preserved c =
    first_on (λ k t. IsShown c.args.icfg.now t) c.args.triples.now c.loop-k.k c.index-triples-k.result c.loop-k.invariant
    (is_got c.args.triples.now c.loop-k.k c.index-triples-k.result c.loop-k-test.true c.index-triples-k.is)
    (c.in_ok-is_shown.ensures.0 c.if-not-branch.false)

pub returns : goal.returns
returns c = first_none (λ k t. IsShown c.args.icfg.now t) c.args.triples.now c.loop-k.k c.loop-k.invariant c.loop-k-test.false
