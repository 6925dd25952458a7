use Rattle.std.proofs.Common.{◌∙◌, ap}
use Rattle.letter_acts.specs.Invariant.{alphabet_of}
use Rattle.itp_automaton.proofs.EdgeLaws.{call_act_of}
use Rattle.itp_automaton.proofs.edges.add_call.Goals as goal

pub added-requires-clause-letter : goal.added-requires-clause-letter
added-requires-clause-letter c e =
    let act = call_act_of (alphabet_of c.args.icfg.now) c.args.letter c.args.before.now c.args.after.now c.requires.agrees in
    let h = c.add_call.ensures.bad_letter.0 e in
    h.2 (ap (λ l. l.kind) (c.letter_at.ensures act.0 act.1) ∙ act.2)
