use Rattle.proof_build.proofs.building.over_preds.Goals as goal

pub over_nodes-built-requires-clause-certified : goal.over_nodes-built-requires-clause-certified
over_nodes-built-requires-clause-certified c = c.requires.certified

pub over_nodes-built-requires-clause-covering : goal.over_nodes-built-requires-clause-covering
over_nodes-built-requires-clause-covering c = c.requires.covering

pub over_nodes-built-requires-clause-body : goal.over_nodes-built-requires-clause-body
over_nodes-built-requires-clause-body c = c.requires.body

pub over_nodes-built-requires-clause-listed : goal.over_nodes-built-requires-clause-listed
over_nodes-built-requires-clause-listed c = c.requires.listed

pub over_nodes-built-requires-clause-numbered : goal.over_nodes-built-requires-clause-numbered
over_nodes-built-requires-clause-numbered c = c.requires.numbered

pub over_nodes-built-requires-clause-none : goal.over_nodes-built-requires-clause-none
over_nodes-built-requires-clause-none c = c.requires.none

pub over_nodes-built-requires-clause-union : goal.over_nodes-built-requires-clause-union
over_nodes-built-requires-clause-union c = c.in_ok-union.ensures

pub over_nodes-built-requires-clause-unwound : goal.over_nodes-built-requires-clause-unwound
over_nodes-built-requires-clause-unwound c = c.in-Ok.ensures

pub returns-clause-proves : goal.returns-clause-proves
returns-clause-proves c = c.over_nodes-built.ensures.proves

pub returns-clause-none : goal.returns-clause-none
returns-clause-none c = c.over_nodes-built.ensures.none

pub returns-clause-reachable : goal.returns-clause-reachable
returns-clause-reachable c = c.over_nodes-built.ensures.reachable

pub returns-clause-ascend : goal.returns-clause-ascend
returns-clause-ascend c = c.over_nodes-built.ensures.ascend

pub returns-clause-used : goal.returns-clause-used
returns-clause-used c = c.over_nodes-built.ensures.used

pub returns-clause-once : goal.returns-clause-once
returns-clause-once c = c.over_nodes-built.ensures.once
