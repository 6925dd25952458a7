use Rattle.lowered_graph.proofs.laws.lowering_is_faithful.Goals as goal

pub returns : goal.returns
returns c = λ t v. record {
  follows = λ i h. (c.machine_runs_are_words.ensures t v i).follows ((c.machines_of_typed_programs.ensures.fails t i v).follows ((c.machine_follows_rules.ensures t i).1 h));
  leads = λ i e marks. (c.machine_follows_rules.ensures t i).0 ((c.machines_of_typed_programs.ensures.fails t i v).leads ((c.machine_runs_are_words.ensures t v i).leads e marks));
}
