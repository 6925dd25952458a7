use Rattle.std.proofs.Common.{◌≡◌, ◌≤◌, ◌<◌, ◌+◌, ℕ, suc, pos, take, ap, ◌∙◌, subst, arith}
use Rattle.fm_elim.specs.Derivations.{at}
use Rattle.lin_rows.specs.Rows.{LinearRow, IsRow}
use Rattle.fm_elim.proofs.FreeColumns.{IsFree, free_taken, free_all, greater_is}
use Rattle.fm_elim.proofs.Coefficients.{past_last, no_terms}
use Rattle.fm_elim.proofs.descent.columns_used.Goals.{in-Some+else-last-left, in_default}
use Rattle.fm_elim.proofs.descent.columns_used.Goals as goal

pub loop-row-preserved : goal.loop-row-preserved
loop-row-preserved c =
    let i : ℕ = c.loop-row.row-index in
    let q : i + 1 ≡ suc i = omega arith in
    let more : (k : ℕ) → c.loop-row.used ≤ k → k < c.args.left → at k c.row-item.result ≡ pos 0 → IsFree k (take (i + 1) c.args.rows.now) =
    λ k l m z. free_taken k i (i + 1) c.args.rows.now c.row-item.result q c.loop-row-test.true c.row-item.is (c.loop-row.invariant.free k l m) z in
    let row : c.row.result.now ≡ c.row-item.result.row = c.row.ensures in
    let terms : c.terms.result.now ≡ c.row-item.result.row.terms = c.terms.ensures.value ∙ ap (λ (r : LinearRow). r.terms) row in
    let valid : IsRow c.row-item.result.row = subst IsRow row c.terms.ensures.valid in
    elim c.match-last.branch [
      | in-Some+else-last-left w ↦
          let g = greater_is c.loop-row.used (w.in-Some.last.now.0 + 1) c.match-last.used (w.used-is ∙ w.max-used.ensures) in
          record {
            bound = g.2 c.args.left c.loop-row.invariant.bound (omega arith);
            free = λ k l m. more k (omega (arith, g.0)) m
                (past_last c.row-item.result.row c.terms.result.now k w.in-Some.last.now valid terms w.in-Some.ensures.item.3.0 w.in-Some.ensures.item.1 (omega (arith, g.1)));
          }
      | in_default w ↦
          record {
            bound = omega (arith, w.used-is);
            free = λ k l m. more k (omega (arith, w.used-is)) m (no_terms c.row-item.result.row c.terms.result.now k terms w.in_default.ensures.item.3);
          }
    ]

pub returns-clause-free : goal.returns-clause-free
returns-clause-free c = λ k i j. free_all k c.loop-row.row-index c.args.rows.now c.loop-row-test.false (c.loop-row.invariant.free k i j)
