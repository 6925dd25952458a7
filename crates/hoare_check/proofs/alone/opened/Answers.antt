use Rattle.hoare_check.proofs.alone.opened.Goals as goal

pub returns : goal.returns
returns c = λ n p h u. record { fits = h.fits; is_system = h.is_system; small = h.small; columns = h.columns; false_row = h.false_row; leaf = h.leaf; is_open = λ e. u }
