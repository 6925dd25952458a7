use Rattle.std.proofs.Common.{◌∙◌, ◌+◌, ◌++◌, length, ap}
use Rattle.lin_rows.specs.declared.types.RowKind.{RowKind}
use Rattle.lin_rows.specs.Rows.{LinearRow}
use Rattle.rank_lasso.specs.RankingSystem.RankingSystem.{signs_of, signs}
use Rattle.rank_lasso.proofs.RankingSystem.MakingLaws.{signs_next, signs_end}
use Rattle.rank_lasso.proofs.ranking_system.system.add_signs.Goals as goal

pub loop-i-preserved : goal.loop-i-preserved
loop-i-preserved c =
    let n = length c.args.rows.now in
    signs_next n c.args.rows.now c.loop-i.i c.index-rows-i.result c.loop-i.made.items c.add_signs_of.new.made.items (c.args.made.now.items ++ signs 0 n c.args.rows.now) c.loop-i-test.true
    c.loop-i.invariant
    (c.in_ok-add_signs_of.ensures ∙
    ap (λ (k : RowKind). c.loop-i.made.items ++ signs_of k c.loop-i.i (n + c.loop-i.i)) (c.kind.ensures ∙ ap (λ (r : LinearRow). r.kind) c.index-rows-i.is))

pub returns : goal.returns
returns c =
    signs_end (length c.args.rows.now) c.args.rows.now c.loop-i.i c.loop-i.made.items (c.args.made.now.items ++ signs 0 (length c.args.rows.now) c.args.rows.now) c.loop-i-test.false
    c.loop-i.invariant
