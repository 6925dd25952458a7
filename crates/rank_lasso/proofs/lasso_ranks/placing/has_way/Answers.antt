use Rattle.std.proofs.Common.{◌∙◌, sym}
use Rattle.std.proofs.lemmas.Bool.{false≢true}
use Rattle.rank_lasso.specs.LassoRanks.Lassos.{plain_lasso}
use Rattle.rank_lasso.proofs.LassoRanks.WalkSets.{no_stem, no_loop}
use Rattle.rank_lasso.proofs.lasso_ranks.placing.has_way.Goals as goal

pub returns-then-is_none-clause-fault : goal.returns-then-is_none-clause-fault
returns-then-is_none-clause-fault c =
    no_stem c.args.icfg.now (plain_lasso c.args.lasso.now) c.in_ok-ends.ends.items c.requires.stem c.requires.turn
    (rw (c.nwa-nwa.ensures.value, c.deref.ensures.value) at c.in_ok-ends.ensures)
    (sym c.as_slice-places.ensures.value ∙ c.is_none.ensures.0 c.if-is_none.true)

pub returns-clause-fault : goal.returns-clause-fault
returns-clause-fault c =
    no_loop c.args.icfg.now (plain_lasso c.args.lasso.now) c.in_ok-ends.ends.items c.requires.stem c.requires.turn
    (rw (c.nwa-nwa.ensures.value, c.deref.ensures.value) at c.in_ok-ends.ensures)
    (λ e. false≢true (sym c.if-is_none.false ∙ c.is_none.ensures.1 (c.as_slice-places.ensures.value ∙ e)))
    (let k = rw (c.nwa-nwa.ensures.value, c.deref-2.ensures.value, c.as_slice-places.ensures.value) at c.in_ok-comes_back.ensures in λ b. false≢true (sym c.if-branch.false ∙ k.1 b))
