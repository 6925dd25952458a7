use Rattle.std.proofs.Common.{◌^◌, arith, rules}
use Rattle.nested_itp.proofs.TripleSteps.ColumnLaws.{place_fits, all_below}
use Rattle.nested_itp.proofs.triple_steps.columns.Columns.of.Goals as goal

pub returns-clause-fit : goal.returns-clause-fit
returns-clause-fit c = λ x l.
    place_fits c.args.at c.args.first x (2 ^ 32) c.args.made.items (all_below (2 ^ 32) c.args.made.items (λ i h. search rules))
    (let e = c.in_ok-_end.ensures.small in omega (arith, e, l))
