use Rattle.lowered_graph.proofs.LetterSets.{same_act_decides, acts_appended, acts_differ, insides_are, calls_are, backs_are}
use Rattle.lowered_graph.proofs.laws.letters_of_arcs.Goals as goal

pub returns-clause-same : goal.returns-clause-same
returns-clause-same c = same_act_decides

pub returns-clause-appended : goal.returns-clause-appended
returns-clause-appended c = acts_appended

pub returns-clause-differ : goal.returns-clause-differ
returns-clause-differ c = acts_differ

pub returns-clause-insides : goal.returns-clause-insides
returns-clause-insides c = insides_are

pub returns-clause-calls : goal.returns-clause-calls
returns-clause-calls c = calls_are

pub returns-clause-backs : goal.returns-clause-backs
returns-clause-backs c = backs_are
