use Rattle.proof_names.proofs.ProofSpell.TripleLaws.{call_spelled}
use Rattle.proof_names.proofs.proof_spell.triples.call_line.Goals as goal

pub returns : goal.returns
returns c = λ ns s w.
    call_spelled c.in_ok-from.from c.in_ok-from.letter c.in_ok-from.to c.args.proof.items c.args.from c.args.letter c.args.to ns c.in_ok-from.ensures.0 c.in_ok-from.ensures.1 c.in_ok-from.ensures.2
    (record { spelled = s; whole = w })
