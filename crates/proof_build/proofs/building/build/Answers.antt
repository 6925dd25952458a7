use Rattle.proof_build.proofs.building.build.Goals as goal

pub over_preds-requires-clause-listed : goal.over_preds-requires-clause-listed
over_preds-requires-clause-listed c = c.in_ok-preds.ensures.listed

pub over_preds-requires-clause-numbered : goal.over_preds-requires-clause-numbered
over_preds-requires-clause-numbered c = c.in_ok-preds.ensures.numbered

pub over_preds-requires-clause-none : goal.over_preds-requires-clause-none
over_preds-requires-clause-none c = c.in_ok-preds.ensures.none

pub over_preds-requires-clause-certified : goal.over_preds-requires-clause-certified
over_preds-requires-clause-certified c = c.requires.certified

pub over_preds-requires-clause-covering : goal.over_preds-requires-clause-covering
over_preds-requires-clause-covering c = c.requires.covering

pub over_preds-requires-clause-body : goal.over_preds-requires-clause-body
over_preds-requires-clause-body c = c.requires.body

pub returns-clause-proves : goal.returns-clause-proves
returns-clause-proves c = c.over_preds.ensures.proves

pub returns-clause-none : goal.returns-clause-none
returns-clause-none c = c.over_preds.ensures.none

pub returns-clause-reachable : goal.returns-clause-reachable
returns-clause-reachable c = c.over_preds.ensures.reachable

pub returns-clause-ascend : goal.returns-clause-ascend
returns-clause-ascend c = c.over_preds.ensures.ascend

pub returns-clause-used : goal.returns-clause-used
returns-clause-used c = c.over_preds.ensures.used

pub returns-clause-once : goal.returns-clause-once
returns-clause-once c = c.over_preds.ensures.once
