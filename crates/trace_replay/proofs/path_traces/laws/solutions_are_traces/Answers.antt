use Rattle.nwa_base.proofs.RunLemmas.{run_accepts}
use Rattle.trace_replay.proofs.PathTraces.ToldPoints.{solved_trace}
use Rattle.trace_replay.proofs.path_traces.laws.solutions_are_traces.Goals as goal

pub returns : goal.returns
returns c = λ g w point states s ok automaton run rows m ends.
    solved_trace g w point states s ok run ((c.rows_say_states.ensures g w point ok automaton (run_accepts g.automaton w states run)).0 rows) m ends
