use Rattle.std.proofs.Common.{◌∙◌, FitsSigned, ◌≡◌, Err}
use Rattle.std.specs.Int.{w128}
use Rattle.std.proofs.lemmas.Int.{to_z-of_z}
use Rattle.lin_rows.specs.Sums.{ScaledFits}
use Rattle.fm_elim.specs.Derivations.{plus_times, PlusTimesFits}
use Rattle.fm_elim.proofs.Exits.{exit_memory, exit_row}
use Rattle.fm_elim.proofs.derivations.plus_times.Goals as goal

pub returns : goal.returns
returns c =
    let f : FitsSigned w128 c.args.m = c.ranges.m in
    let a = rw (c.row.ensures, c.row-2.ensures) at (simp to_z-of_z at c.in_ok-row.ensures.fits) in
    let v = rw (c.row.ensures, c.row-2.ensures) at (simp to_z-of_z at c.in_ok-row.ensures.value) in
    let b = rw (c.by.ensures.value, c.by-2.ensures.value) at (simp to_z-of_z at c.in_ok-by.ensures.fits) in
    let w = rw (c.by.ensures.value, c.by-2.ensures.value) at (simp to_z-of_z at c.in_ok-by.ensures.value) in
    ((a, b), c.in_ok-new.ensures ∙ (λ i. record { row = v i; by = w i }))

pub returns-in_err-row : goal.returns-in_err-row
returns-in_err-row c =
    let a = c.args.a.now in
    let b = c.args.b.now in
    let f : FitsSigned w128 c.args.m = c.ranges.m in
    let p = rw (c.row.ensures, c.row-2.ensures) at (simp to_z-of_z at c.in_err-row.ensures.past) in
    exit_row c.from_residual.result (λ r. r ≡ plus_times a c.args.m b) (PlusTimesFits a c.args.m b) (ScaledFits a.row c.args.m b.row) c.in_err-row.field-0.0 (λ h. h.0)
    (λ e. p (λ i. Err (e i))) c.from_residual.ensures.1

pub returns-in_err-by : goal.returns-in_err-by
returns-in_err-by c =
    let a = c.args.a.now in
    let b = c.args.b.now in
    let f : FitsSigned w128 c.args.m = c.ranges.m in
    let p = rw (c.by.ensures.value, c.by-2.ensures.value) at (simp to_z-of_z at c.in_err-by.ensures.past) in
    exit_row c.from_residual-in_err-by.result (λ r. r ≡ plus_times a c.args.m b) (PlusTimesFits a c.args.m b) (ScaledFits a.by c.args.m b.by) c.in_err-by.field-0.0 (λ h. h.1)
    (λ e. p (λ i. Err (e i))) c.from_residual-in_err-by.ensures.1

pub returns-in_err-new : goal.returns-in_err-new
returns-in_err-new c =
    exit_memory c.from_residual-in_err-new.result (λ r. r ≡ plus_times c.args.a.now c.args.m c.args.b.now) (PlusTimesFits c.args.a.now c.args.m c.args.b.now) c.from_residual-in_err-new.ensures.1
