use Rattle.farkas_check.proofs.walk.Walk.meet.Goals as goal

pub returns-in-Cases : goal.returns-in-Cases
returns-in-Cases c = rw c.in-Cases.is c.cases.ensures
