use Rattle.std.proofs.Common.{◌*ℤ◌}
use Rattle.math_facts.proofs.Whole.{product_nonzero}
use Rattle.fm_elim.specs.Answers.{Gives}
use Rattle.fm_elim.specs.Quotients.{fraction_over, FractionFits}
use Rattle.fm_elim.proofs.Exits.{exit_past}
use Rattle.fm_elim.proofs.ValueLemmas.{gives_reduced, parts_fit, parts_past, den_nonzero}
use Rattle.fm_elim.proofs.fractions.over.Goals as goal

pub returns-in_err-value : goal.returns-in_err-value
returns-in_err-value c =
    let a = c.args.a.now in
    let b = c.args.b.now in
    exit_past c.from_residual.result (Gives (fraction_over a b)) (FractionFits (fraction_over a b))
    (parts_past (a.num *ℤ b.den) (a.den *ℤ b.num) (product_nonzero a.den b.num (den_nonzero a c.requires.left) c.requires.nonzero) c.in_err-value.ensures.past)
    c.from_residual.ensures.1

pub returns : goal.returns
returns c =
    let a = c.args.a.now in
    let b = c.args.b.now in
    let g = gives_reduced (a.num *ℤ b.den) (a.den *ℤ b.num) c.in_ok-value.value (product_nonzero a.den b.num (den_nonzero a c.requires.left) c.requires.nonzero)
    c.in_ok-value.ensures.valid c.in_ok-value.ensures.value in
    (parts_fit (a.num *ℤ b.den) (a.den *ℤ b.num) c.in_ok-value.value g, g)
