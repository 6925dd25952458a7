use Rattle.std.proofs.Common.{arith, sym, ◌∙◌}
use Rattle.std.proofs.lemmas.List.{nil_from_length}
use Rattle.proof_form.proofs.HeightLaws.{taking_begins, taking_goes_on, none_to_take, all_taken}
use Rattle.proof_form.proofs.predicates.take_highest.Goals as goal

pub loop-turn-init : goal.loop-turn-init
loop-turn-init c = taking_begins _ _ _ (omega arith)

pub loop-turn-preserved : goal.loop-turn-preserved
loop-turn-preserved c =
    taking_goes_on _ _ _ _ _ _ _ _ _ (omega arith) c.in-Some.ensures.items c.max-highest.ensures c.loop-turn.invariant

pub returns-in-None-clause-highest : goal.returns-in-None-clause-highest
returns-in-None-clause-highest c =
    (none_to_take _ _ _ _ _ _ (nil_from_length c.loop-turn.heights.items (sym c.loop-turn.heights.ok.0 ∙ c.in-None.ensures.cases.0)) c.in-None.ensures.items c.loop-turn.invariant).0

pub returns-in-None-clause-others : goal.returns-in-None-clause-others
returns-in-None-clause-others c =
    (none_to_take _ _ _ _ _ _ (nil_from_length c.loop-turn.heights.items (sym c.loop-turn.heights.ok.0 ∙ c.in-None.ensures.cases.0)) c.in-None.ensures.items c.loop-turn.invariant).1

pub returns-clause-highest : goal.returns-clause-highest
returns-clause-highest c = (all_taken _ _ _ _ _ (omega arith) c.loop-turn.invariant).0

pub returns-clause-others : goal.returns-clause-others
returns-clause-others c = (all_taken _ _ _ _ _ (omega arith) c.loop-turn.invariant).1
