use Rattle.race_rounds.proofs.settling.settle.Goals as goal

pub settle_rows-requires-clause-exact : goal.settle_rows-requires-clause-exact
settle_rows-requires-clause-exact g c κs within = λ point h. c.in_ok-path.ensures.exact.0 (point, h)

pub returns : goal.returns
returns g c = c.settle_rows.ensures
