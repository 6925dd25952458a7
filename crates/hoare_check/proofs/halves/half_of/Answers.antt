use Rattle.std.proofs.Common.{refl, false, true}
use Rattle.std.specs.Prelude.{◌≡◌}
use Rattle.hoare_check.proofs.halves.half_of.Goals as goal

pub returns : goal.returns
returns c = λ p fits is. record {
  fits = fits;
  is_system = is;
  small = c.is_small.ensures c.if-not-is_small.false;
  columns = refl;
  false_row = c.false_row_of-false_row.ensures;
  leaf = tt;
  is_open = λ e. absurd (let z : false ≡ true = e in cc);
}
