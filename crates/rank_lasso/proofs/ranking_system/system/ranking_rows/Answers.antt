use Rattle.std.proofs.Common.{◌≡◌, ◌∙◌, ℕ, List, [], ◌∷◌, ◌++◌, map, length, ap, arith}
use Rattle.lin_rows.specs.Rows.{LinearRow}
use Rattle.letter_acts.specs.FrameRows.Rows.{columns_from}
use Rattle.path_rows.proofs.ListLemmas.{length-columns_from}
use Rattle.rank_lasso.specs.RankingSystem.RankingSystem.{falls_at, bounded_at, falls_by_one, signs}
use Rattle.rank_lasso.proofs.RankingSystem.MakingLaws.{rows_made}
use Rattle.rank_lasso.proofs.ranking_system.system.ranking_rows.Goals as goal
use Rattle.rank_lasso.proofs.ranking_system.system.ranking_rows.Goals.{In_ok-before}

before_long : (c : In_ok-before) → length c.in_ok-before.before.items ≡ c.args.turn.now.width
before_long c = ap length c.in_ok-before.ensures ∙ length-columns_from 0 c.args.turn.now.width

pub add_falls-requires-clause-before : goal.add_falls-requires-clause-before
add_falls-requires-clause-before c =
    let e = ap length c.deref.ensures.value in
    let f = before_long (goal.at.add_falls-requires-clause-before c).In_ok-before in
    let r = c.requires.room in
    omega (arith, e, f, r)

pub add_bounded-requires-clause-before : goal.add_bounded-requires-clause-before
add_bounded-requires-clause-before c =
    let e = ap length c.deref-3.ensures.value in
    let f = before_long (goal.at.add_bounded-requires-clause-before c).In_ok-before in
    let r = c.requires.room in
    omega (arith, e, f, r)

pub returns : goal.returns
returns c =
    let rows : List LinearRow = c.args.rows.now in
    let cs : List ℕ = columns_from 0 c.args.turn.now.made in
    let b = c.in_ok-before.ensures in
    let falls : List ℕ → List ℕ → List LinearRow = λ x y. map (falls_at (record { rows = []; columns = 0; before = x; after = y }) rows) cs in
    let bounded : List ℕ → List LinearRow = λ x. map (bounded_at (record { rows = []; columns = 0; before = x; after = [] }) rows) cs in
    rows_made (falls (columns_from 0 c.args.turn.now.width) c.args.turn.now.here.items) (bounded (columns_from 0 c.args.turn.now.width)) (falls_by_one rows ∷ signs 0 (length rows) rows)
    c.add_falls.new.made.items c.add_bounded.new.made.items c.add_ends.new.made.items
    (c.in_ok-add_falls.ensures ∙ ap (λ (v : List LinearRow). v ++ falls c.deref.result.now c.deref-2.result.now) c.new-made.ensures.items ∙
    ap (λ (v : List ℕ). falls v c.deref-2.result.now) (c.deref.ensures.value ∙ b) ∙ ap (falls (columns_from 0 c.args.turn.now.width)) c.deref-2.ensures.value)
    (c.in_ok-add_bounded.ensures ∙ ap (λ (v : List ℕ). c.add_falls.new.made.items ++ bounded v) (c.deref-3.ensures.value ∙ b)) c.in_ok-add_ends.ensures
