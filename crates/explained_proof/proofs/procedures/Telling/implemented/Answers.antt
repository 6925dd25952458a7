use Rattle.explained_proof.proofs.procedures.Telling.implemented.Goals as goal

pub body_if_any-requires-clause-known : goal.body_if_any-requires-clause-known
body_if_any-requires-clause-known c = c.in_ok-procedure.ensures
