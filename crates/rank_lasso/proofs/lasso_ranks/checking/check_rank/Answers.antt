use Rattle.std.proofs.Common.{◌≡◌, FitsSigned, None, sym, ap, subst}
use Rattle.std.specs.Int.{w128}
use Rattle.std.proofs.lemmas.Int.{to_z-of_z}
use Rattle.letter_acts.specs.Kept.{Keeps}
use Rattle.rank_lasso.specs.LassoTurns.Made.{plain_turn}
use Rattle.rank_lasso.specs.LassoTurns.Turns.{Turn}
use Rattle.rank_lasso.specs.LassoTurns.Claims.{RefutesTurn}
use Rattle.rank_lasso.proofs.LassoTurns.FitLaws.{signed}
use Rattle.rank_lasso.specs.LassoRanks.Lassos.{plain_lasso, loop_turn}
use Rattle.rank_lasso.specs.LassoRanks.Ranks.{PlainRanking, ranked_by, excluded_by, plain_ranking}
use Rattle.rank_lasso.proofs.LassoRanks.CheckLaws.{Tells, accepts, loop_turn_is, form_over, rank_holds}
use Rattle.rank_lasso.proofs.lasso_ranks.checking.check_rank.Goals as goal

pub shows_fall-requires-clause-form : goal.shows_fall-requires-clause-form
shows_fall-requires-clause-form c =
    let e : plain_turn c.in_ok-turn-in-Rank.turn ≡ loop_turn c.args.icfg.now (plain_lasso c.args.lasso.now) =
    loop_turn_is c.args.icfg.now (plain_lasso c.args.lasso.now) c.in_ok-turn-in-Rank.turn c.entry_proc.result c.deref.result.now c.in_ok-turn-in-Rank.ensures.value c.entry_proc.ensures
    c.deref.ensures.value in
    let over = rw c.in-Rank.is at c.requires.over in
    form_over c.args.icfg.now (plain_lasso c.args.lasso.now) c.in_ok-turn-in-Rank.turn c.in-Rank.terms.items c.deref-in-Rank.result.now e c.deref-in-Rank.ensures.value over.form

pub shows_bound-requires-clause-form : goal.shows_bound-requires-clause-form
shows_bound-requires-clause-form c =
    let e : plain_turn c.in_ok-turn-in-Rank.turn ≡ loop_turn c.args.icfg.now (plain_lasso c.args.lasso.now) =
    loop_turn_is c.args.icfg.now (plain_lasso c.args.lasso.now) c.in_ok-turn-in-Rank.turn c.entry_proc.result c.deref.result.now c.in_ok-turn-in-Rank.ensures.value c.entry_proc.ensures
    c.deref.ensures.value in
    let over = rw c.in-Rank.is at c.requires.over in
    form_over c.args.icfg.now (plain_lasso c.args.lasso.now) c.in_ok-turn-in-Rank.turn c.in-Rank.terms.items c.deref-in-Rank-2.result.now e c.deref-in-Rank-2.ensures.value over.form

pub returns-else-not-branch-2 : goal.returns-else-not-branch-2
unfolding Keeps
returns-else-not-branch-2 c =
    let e : plain_turn c.in_ok-turn-in-Rank.turn ≡ loop_turn c.args.icfg.now (plain_lasso c.args.lasso.now) =
    loop_turn_is c.args.icfg.now (plain_lasso c.args.lasso.now) c.in_ok-turn-in-Rank.turn c.entry_proc.result c.deref.result.now c.in_ok-turn-in-Rank.ensures.value c.entry_proc.ensures
    c.deref.ensures.value in
    let r : PlainRanking = ranked_by c.in-Rank.terms.items c.in-Rank.bound c.in-Rank.falls c.in-Rank.bounded in
    let over = rw c.in-Rank.is at c.requires.over in
    let f : FitsSigned w128 c.in-Rank.bound = signed c.in-Rank.bound over.bound_fits in
    let k : Tells c.args.icfg.now (plain_lasso c.args.lasso.now) (plain_ranking c.args.ranking.now) None =
    subst (λ (x : PlainRanking). Tells c.args.icfg.now (plain_lasso c.args.lasso.now) x None) (sym (ap plain_ranking c.in-Rank.is))
    (accepts c.args.icfg.now (plain_lasso c.args.lasso.now) r c.turn_of.ensures.valid c.requires.placed over
    (rank_holds c.args.icfg.now (plain_lasso c.args.lasso.now) c.in_ok-turn-in-Rank.turn c.in-Rank.terms.items c.deref-in-Rank.result.now c.deref-in-Rank-2.result.now c.in-Rank.bound
    c.in-Rank.falls c.in-Rank.bounded c.in_ok-shows_fall-in-Rank.field-0 c.in_ok-shows_bound-in-Rank.field-0 e c.deref-in-Rank.ensures.value c.deref-in-Rank-2.ensures.value
    c.in_ok-shows_fall-in-Rank.ensures (simp to_z-of_z at c.in_ok-shows_bound-in-Rank.ensures) c.if-not-branch.false c.if-not-branch-2.false)) in
    record { exact = k.exact; line = k.line; few = k.few; ends = k.ends }

pub returns-then-branch : goal.returns-then-branch
unfolding Keeps
returns-then-branch c =
    let k : Tells c.args.icfg.now (plain_lasso c.args.lasso.now) (plain_ranking c.args.ranking.now) None =
    subst (λ (x : PlainRanking). Tells c.args.icfg.now (plain_lasso c.args.lasso.now) x None) (sym (ap plain_ranking c.in-Excluded.is))
    (accepts c.args.icfg.now (plain_lasso c.args.lasso.now) (excluded_by c.in-Excluded.proof) c.in_ok-turn-in-Excluded.ensures.valid c.requires.placed tt
    (subst (λ (t : Turn). RefutesTurn t c.in-Excluded.proof) c.in_ok-turn-in-Excluded.ensures.value (c.in_ok-refutes_turn-in-Excluded.ensures.0 c.if-branch.true))) in
    record { exact = k.exact; line = k.line; few = k.few; ends = k.ends }
