use Rattle.std.proofs.Common.{◌*ℤ◌}
use Rattle.fm_elim.specs.Answers.{Gives}
use Rattle.fm_elim.specs.Quotients.{fraction_times, FractionFits}
use Rattle.fm_elim.proofs.Exits.{exit_past}
use Rattle.fm_elim.proofs.ValueLemmas.{gives_reduced, parts_fit, parts_past, dens_nonzero}
use Rattle.fm_elim.proofs.fractions.times.Goals as goal

pub returns-in_err-value : goal.returns-in_err-value
returns-in_err-value c =
    let a = c.args.a.now in
    let b = c.args.b.now in
    exit_past c.from_residual.result (Gives (fraction_times a b)) (FractionFits (fraction_times a b))
    (parts_past (a.num *ℤ b.num) (a.den *ℤ b.den) (dens_nonzero a b c.requires.left c.requires.right) c.in_err-value.ensures.past) c.from_residual.ensures.1

pub returns : goal.returns
returns c =
    let a = c.args.a.now in
    let b = c.args.b.now in
    let g = gives_reduced (a.num *ℤ b.num) (a.den *ℤ b.den) c.in_ok-value.value (dens_nonzero a b c.requires.left c.requires.right)
    c.in_ok-value.ensures.valid c.in_ok-value.ensures.value in
    (parts_fit (a.num *ℤ b.num) (a.den *ℤ b.den) c.in_ok-value.value g, g)
