use Rattle.std.proofs.Common.{◌-ℤ◌, ◌*ℤ◌}
use Rattle.fm_elim.proofs.ValueLemmas.{gives_reduced, dens_nonzero}
use Rattle.fm_elim.proofs.fractions.minus.Goals as goal

pub returns : goal.returns
returns c =
    let a = c.args.a.now in
    let b = c.args.b.now in (
      c.in_ok-value.ensures.fits,
      gives_reduced ((a.num *ℤ b.den) -ℤ (b.num *ℤ a.den)) (a.den *ℤ b.den) c.in_ok-value.value (dens_nonzero a b c.requires.left c.requires.right)
          c.in_ok-value.ensures.valid c.in_ok-value.ensures.value,
    )
