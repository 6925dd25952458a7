use Rattle.fm_elim.proofs.Soundness.{worth_found}
use Rattle.fm_elim.proofs.solving.eliminate.Goals as goal

pub returns-clause-worth : goal.returns-clause-worth
returns-clause-worth c =
    worth_found c.args.columns c.args.rows.now c.in_ok-derived.derived.items c.solve.result c.in_ok-derived.ensures.valid c.requires.below c.in_ok-derived.ensures.value.1 c.solve.ensures
