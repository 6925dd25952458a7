use Rattle.std.proofs.Common.{rules, ◌≡◌, FitsSigned, sym}
use Rattle.std.specs.Int.{w128}
use Rattle.std.proofs.lemmas.Int.{to_z-of_z}
use Rattle.fm_elim.specs.Derivations.{PlusTimesFits}
use Rattle.fm_elim.specs.Columns.{clearing, cleared, ClearedFits}
use Rattle.fm_elim.proofs.Clearing.{pivot_is_unit}
use Rattle.fm_elim.proofs.ColumnSteps.{cleared_stays, cleared_made, cleared_fits, pivot_scales}
use Rattle.fm_elim.proofs.Exits.{exit_part}
use Rattle.fm_elim.proofs.columns.clear.Goals as goal
use Rattle.fm_elim.proofs.columns.clear.Goals.{After-clearing-m}

-- the multiplier
times_of : (c : After-clearing-m) → c.clearing-m.result ≡ clearing c.args.column c.args.equality.now c.args.row.now
times_of c =
    let f : FitsSigned w128 c.coefficient.result = search rules in
    let g : FitsSigned w128 c.coefficient-2.result = search rules in
    let a = rw c.row.ensures at c.coefficient.ensures.value in
    let b = rw c.row-2.ensures at c.coefficient-2.ensures.value in
    rw (a, b) at (simp to_z-of_z at c.clearing-m.ensures)

pub returns-then-not-has : goal.returns-then-not-has
returns-then-not-has c = cleared_stays c.args.column c.args.equality.now c.args.row.now (sym c.if-not-has.ensures)

pub clearing-m-requires-clause-unit : goal.clearing-m-requires-clause-unit
clearing-m-requires-clause-unit c =
    let g : FitsSigned w128 c.coefficient-2.result = search rules in
    let b = rw c.row-2.ensures at c.coefficient-2.ensures.value in
    simp to_z-of_z (rw b (pivot_is_unit c.args.column c.args.equality.now c.requires))

pub plus_times-requires : goal.plus_times-requires
plus_times-requires c = pivot_scales c.args.column c.args.equality.now _ c.requires

pub returns-in_err-row : goal.returns-in_err-row
returns-in_err-row c =
    let e = c.args.equality.now in
    let r = c.args.row.now in
    let f : FitsSigned w128 c.clearing-m.result = search rules in
    exit_part c.from_residual.result (λ _. r ≡ cleared c.args.column e r) (ClearedFits c.args.column e r) (PlusTimesFits r c.clearing-m.result e) c.in_err-row.field-0.0
    (cleared_fits c.args.column e r c.clearing-m.result (sym c.if-not-has.ensures) (times_of (goal.at.returns-in_err-row c).After-clearing-m))
    (simp to_z-of_z at c.in_err-row.ensures) c.from_residual.ensures.1

pub returns : goal.returns
returns c =
    let f : FitsSigned w128 c.clearing-m.result = search rules in
    cleared_made c.args.column c.args.equality.now c.args.row.now c.in_ok-row.field-0 c.clearing-m.result (sym c.if-not-has.ensures) (times_of (goal.at.returns c).After-clearing-m)
    (simp to_z-of_z at c.in_ok-row.ensures)
