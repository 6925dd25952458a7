use Rattle.race_rounds.proofs.TreeCuts.{few_cuts}
use Rattle.race_rounds.proofs.RowsRefuted.{rows_refuted}
use Rattle.race_rounds.proofs.refining.automaton_chosen.Goals as goal

pub chosen-requires-clause-refutation : goal.chosen-requires-clause-refutation
chosen-requires-clause-refutation g c =
    rows_refuted c.args.icfg.now c.args.depth c.args.path.now.word c.args.path.now.rows c.args.refutation.now c.requires.path.rows c.requires.refutation

pub automaton_under-requires-clause-cuts : goal.automaton_under-requires-clause-cuts
automaton_under-requires-clause-cuts g c κs within = few_cuts c.args.depth c.in_ok-first.first c.requires.depth c.in_ok-first.ensures.tree

pub returns : goal.returns
returns g c = c.automaton_under.ensures.evidence
