use Rattle.std.proofs.Common.{◌≡◌, ◌∙◌, None, slice_get, sym, subst}
use Rattle.nwa_reduce.specs.Ties.Rows.{row_of}
use Rattle.nwa_reduce.specs.Ties.Searching.{Inserts}
use Rattle.nwa_reduce.proofs.ListLemmas.{past_end}
use Rattle.nwa_reduce.proofs.SearchLemmas.{begun, searched_on, searched_whole}
use Rattle.nwa_reduce.proofs.searching.search.Goals as goal

pub loop-state-init : goal.loop-state-init
loop-state-init c = begun _ _ _ _ c.new-found.ensures c.in_ok-insert_all.ensures

pub loop-state-preserved : goal.loop-state-preserved
loop-state-preserved c =
    searched_on (λ q. row_of c.args.steps.now.rows.items q) _ _ _ _ _ (sym c.at.ensures.value ∙ c.in-Some.is) c.loop-state.invariant
    (subst (λ states. Inserts c.loop-state.found states c.insert_all-in-Some.new.found) c.of.ensures c.in_ok-insert_all-2.ensures)

pub returns : goal.returns
returns c =
    let none : slice_get c.loop-state.found c.loop-state.place ≡ None = sym c.at.ensures.value ∙ c.in_default.is in
    searched_whole (λ q. row_of c.args.steps.now.rows.items q) _ _ _ (past_end c.loop-state.found c.loop-state.place none) c.loop-state.invariant
