use Rattle.std.proofs.Common.{rules, ◌≡◌, FitsSigned, sym, subst, ◌<◌, ℕ, ◌/◌}
use Rattle.std.specs.Prelude.{unsigned_abs}
use Rattle.std.specs.Int.{w128}
use Rattle.std.proofs.lemmas.Int.{to_z-of_z}
use Rattle.fm_elim.specs.Derivations.{at, PlusTimesFits}
use Rattle.fm_elim.specs.Quotients.{common}
use Rattle.fm_elim.proofs.FractionLaws.{only_common}
use Rattle.fm_elim.proofs.StepLemmas.{pair_exact, divisor_positive}
use Rattle.fm_elim.specs.Columns.{share, pair, PairFits}
use Rattle.fm_elim.proofs.ColumnSteps.{many_scale, pair_fits}
use Rattle.fm_elim.proofs.Exits.{exit_part}
use Rattle.fm_elim.proofs.columns.pair.Goals as goal
use Rattle.fm_elim.proofs.columns.pair.Goals.{After-greatest_divisor-divisor}

above_of : (c : After-greatest_divisor-divisor) → c.unsigned_abs-above.result ≡ unsigned_abs (at c.args.column c.args.upper.now)
above_of c =
    let f : FitsSigned w128 c.coefficient.result = search rules in
    let a = rw c.row.ensures at c.coefficient.ensures.value in
    rw a at (simp to_z-of_z at c.unsigned_abs-above.ensures.value)

below_of : (c : After-greatest_divisor-divisor) → c.unsigned_abs-below.result ≡ unsigned_abs (at c.args.column c.args.lower.now)
below_of c =
    let f : FitsSigned w128 c.coefficient-2.result = search rules in
    let a = rw c.row-2.ensures at c.coefficient-2.ensures.value in
    rw a at (simp to_z-of_z at c.unsigned_abs-below.ensures.value)

divisor_of : (c : After-greatest_divisor-divisor) →
    c.greatest_divisor-divisor.result ≡ common (unsigned_abs (at c.args.column c.args.upper.now)) (unsigned_abs (at c.args.column c.args.lower.now))
divisor_of c =
    let e = only_common c.unsigned_abs-above.result c.unsigned_abs-below.result c.greatest_divisor-divisor.result c.greatest_divisor-divisor.ensures in
    rw (above_of c, below_of c) at e

pub share-requires-clause-positive : goal.share-requires-clause-positive
share-requires-clause-positive c =
    subst (λ (n : ℕ). 0 < n) (sym (divisor_of (goal.at.share-requires-clause-positive c).After-greatest_divisor-divisor))
    (divisor_positive c.args.column c.args.upper.now (unsigned_abs (at c.args.column c.args.lower.now)) c.requires)

pub share-requires-2-clause-positive : goal.share-requires-2-clause-positive
share-requires-2-clause-positive c =
    subst (λ (n : ℕ). 0 < n) (sym (divisor_of (goal.at.share-requires-2-clause-positive c).After-greatest_divisor-divisor))
    (divisor_positive c.args.column c.args.upper.now (unsigned_abs (at c.args.column c.args.lower.now)) c.requires)

pub returns : goal.returns
returns c =
    let p = (goal.at.returns c).After-greatest_divisor-divisor in
    let g : FitsSigned w128 c.share.result = search rules in
    let h : FitsSigned w128 c.share-2.result = search rules in
    let m = rw (below_of p, divisor_of p) at c.share.ensures in
    let n = rw (above_of p, divisor_of p) at c.share-2.ensures in
    pair_exact c.args.column c.args.upper.now c.args.lower.now c.in_ok-none.none c.in_ok-first.first c.share.result c.share-2.result c.plus_times-2.result
    c.in_ok-none.ensures.1 m n (simp to_z-of_z at c.in_ok-first.ensures) (simp to_z-of_z at c.plus_times-2.ensures)

pub plus_times-requires : goal.plus_times-requires
plus_times-requires c =
    let g : FitsSigned w128 c.share.result = search rules in
    simp to_z-of_z (many_scale (c.unsigned_abs-below.result / c.greatest_divisor-divisor.result) c.share.result c.args.upper.now.row.kind c.share.ensures)

pub plus_times-requires-2 : goal.plus_times-requires-2
plus_times-requires-2 c =
    let g : FitsSigned w128 c.share-2.result = search rules in
    simp to_z-of_z (many_scale (c.unsigned_abs-above.result / c.greatest_divisor-divisor.result) c.share-2.result c.args.lower.now.row.kind c.share-2.ensures)

pub returns-in_err-none : goal.returns-in_err-none
returns-in_err-none c =
    let k = c.args.column in
    exit_part c.from_residual.result (λ r. r ≡ pair k c.args.upper.now c.args.lower.now) (PairFits k c.args.upper.now c.args.lower.now) (Unit {0}) c.in_err-none.field-0.0
    (λ h. tt) c.in_err-none.ensures c.from_residual.ensures.1

pub returns-in_err-first : goal.returns-in_err-first
returns-in_err-first c =
    let p = (goal.at.returns-in_err-first c).After-greatest_divisor-divisor in
    let k = c.args.column in
    let u = c.args.upper.now in
    let l = c.args.lower.now in
    let g : FitsSigned w128 c.share.result = search rules in
    let m : c.share.result ≡ share k u l = rw (below_of p, divisor_of p) at c.share.ensures in
    exit_part c.from_residual-in_err-first.result (λ r. r ≡ pair k u l) (PairFits k u l) (PlusTimesFits c.in_ok-none.none c.share.result u) c.in_err-first.field-0.0
    (pair_fits k u l c.in_ok-none.none c.share.result c.in_ok-none.ensures.1 m)
    (simp to_z-of_z at c.in_err-first.ensures) c.from_residual-in_err-first.ensures.1
