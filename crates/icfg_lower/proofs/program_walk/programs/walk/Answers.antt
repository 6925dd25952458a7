use Rattle.icfg_lower.proofs.program_walk.programs.walk.Goals as goal

pub returns : goal.returns
returns c = c.in_ok-whole.ensures c.new-lowering.ensures.nothing
