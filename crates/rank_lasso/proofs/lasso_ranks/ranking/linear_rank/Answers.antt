use Rattle.std.proofs.Common.{◌≡◌, ◌∙◌, List, map, sym, ap, subst, refl, arith}
use Rattle.frac.specs.Fractions.{Fraction}
use Rattle.lin_rows.specs.Rows.{LinearRow}
use Rattle.lin_rows.specs.Tightening.{tightened}
use Rattle.fm_elim.specs.Worth.{MeetsAll}
use Rattle.rank_lasso.specs.LassoTurns.Made.{plain_turn}
use Rattle.rank_lasso.specs.RankingSystem.RankingSystem.{ranking_system, unknowns}
use Rattle.rank_lasso.specs.RankingSystem.Scaled.{ScaledRankFits}
use Rattle.rank_lasso.specs.LassoRanks.Lassos.{plain_lasso, loop_turn}
use Rattle.rank_lasso.proofs.LassoRanks.CheckLaws.{loop_turn_is}
use Rattle.rank_lasso.proofs.LassoRanks.SearchLaws.{IsSystemFor, system_made, system_below, none_is_solved, unsolved_rows, point_meets, elimination_past, point_fits}
use Rattle.rank_lasso.proofs.lasso_ranks.ranking.linear_rank.Goals as goal
use Rattle.rank_lasso.proofs.lasso_ranks.ranking.linear_rank.Goals.{In_ok-rows}

turn_is : (c : In_ok-rows) → plain_turn c.in_ok-turn.turn ≡ loop_turn c.args.icfg.now (plain_lasso c.args.lasso.now)
turn_is c =
    loop_turn_is c.args.icfg.now (plain_lasso c.args.lasso.now) c.in_ok-turn.turn c.entry_proc.result c.deref.result.now c.in_ok-turn.ensures.value c.entry_proc.ensures c.deref.ensures.value

is_system : (c : In_ok-rows) (given : List LinearRow) → given ≡ c.in_ok-rows.rows.items →
    IsSystemFor (loop_turn c.args.icfg.now (plain_lasso c.args.lasso.now)) c.in-Some.unknowns given
is_system c given e =
    let n = c.in-Some.ensures.1 in
    let l = c.len.ensures in
    let k = c.in_ok-turn.turn.rows.ok.0 in
    system_made (loop_turn c.args.icfg.now (plain_lasso c.args.lasso.now)) c.in_ok-turn.turn c.in-Some.unknowns c.deref-3.result.now given (turn_is c)
    (c.deref-3.ensures.value ∙ c.in_ok-tight.ensures ∙ ap (map tightened) c.deref-2.ensures.value) (e ∙ c.in_ok-rows.ensures) (omega (arith, n, l, k))

pub proposed-requires-clause-valid : goal.proposed-requires-clause-valid
proposed-requires-clause-valid c = c.turn_of.ensures.valid

pub returns-in-Some-2-clause-none : goal.returns-in-Some-2-clause-none
returns-in-Some-2-clause-none c = λ e s.
    unsolved_rows (loop_turn c.args.icfg.now (plain_lasso c.args.lasso.now)) c.in-Some.unknowns c.deref-5.result.now
    (is_system (goal.at.returns-in-Some-2-clause-none c).In_ok-rows c.deref-5.result.now c.deref-5.ensures.value) ((rw c.in-Some-2.is at c.in_ok-ranked.ensures.none) (cc)) s

pub eliminate-requires-clause-below : goal.eliminate-requires-clause-below
eliminate-requires-clause-below c =
    let s = (goal.at.eliminate-requires-clause-below c).In_ok-rows in
    system_below (loop_turn c.args.icfg.now (plain_lasso c.args.lasso.now)) c.in_ok-turn.turn c.in-Some.unknowns c.deref-6.result.now (turn_is s) c.in_ok-turn.ensures.ranked.long
    (is_system s c.deref-6.result.now c.deref-6.ensures.value)

pub returns-in-Ok-Refuted-clause-none : goal.returns-in-Ok-Refuted-clause-none
returns-in-Ok-Refuted-clause-none c = λ e s.
    none_is_solved (loop_turn c.args.icfg.now (plain_lasso c.args.lasso.now)) c.in-Some.unknowns c.deref-6.result.now c.in-Ok-Refuted.field-0-0.items
    (is_system (goal.at.returns-in-Ok-Refuted-clause-none c).In_ok-rows c.deref-6.result.now c.deref-6.ensures.value)
    (rw c.in-Ok-Refuted.field-0-is at c.in-Ok-Refuted.ensures.worth) s

pub ranked_at-requires-clause-valid : goal.ranked_at-requires-clause-valid
ranked_at-requires-clause-valid c = c.turn_of.ensures.valid

pub returns-in-Ok-Point-clause-number : goal.returns-in-Ok-Point-clause-number
returns-in-Ok-Point-clause-number c = λ e f.
    (let s = is_system (goal.at.returns-in-Ok-Point-clause-number c).In_ok-rows c.deref-6.result.now c.deref-6.ensures.value in
    let t = loop_turn c.args.icfg.now (plain_lasso c.args.lasso.now) in
    let w = rw c.in-Ok-Point.field-0-is at c.in-Ok-Point.ensures.worth in
    let v = rw c.in-Ok-Point.field-0-is at c.in-Ok-Point.ensures.value in
    c.ranked_at.ensures.number e
    (subst (λ (x : List Fraction). MeetsAll (unknowns t) (map tightened (ranking_system t)) x) (sym c.deref-in-Ok-Point-2.ensures.value)
    (point_meets t c.in-Some.unknowns c.deref-6.result.now c.in-Ok-Point.values.items s w))
    (subst (ScaledRankFits t) (sym c.deref-in-Ok-Point-2.ensures.value)
    (point_fits c.args.icfg.now (plain_lasso c.args.lasso.now) c.in-Some.unknowns c.deref-6.result.now c.in-Ok-Point.values.items s v f)))

pub returns-in-Err-Past-clause-number : goal.returns-in-Err-Past-clause-number
returns-in-Err-Past-clause-number c = λ e f.
    elimination_past c.args.icfg.now (plain_lasso c.args.lasso.now) c.in-Some.unknowns c.deref-6.result.now
    (is_system (goal.at.returns-in-Err-Past-clause-number c).In_ok-rows c.deref-6.result.now c.deref-6.ensures.value)
    ((rw c.in-Err-Past.field-0-is at c.in-Err-Past.ensures.past) refl) f
