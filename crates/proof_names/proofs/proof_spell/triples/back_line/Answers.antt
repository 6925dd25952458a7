use Rattle.proof_names.proofs.ProofSpell.TripleLaws.{back_spelled}
use Rattle.proof_names.proofs.proof_spell.triples.back_line.Goals as goal

pub returns : goal.returns
returns c = λ ns s w.
    back_spelled c.in_ok-exit.exit c.in_ok-before.before c.in_ok-before.letter c.in_ok-before.to c.args.proof.items c.args.exit c.args.before c.args.letter c.args.to ns c.in_ok-exit.ensures
    c.in_ok-before.ensures.0 c.in_ok-before.ensures.1 c.in_ok-before.ensures.2 (record { spelled = s; whole = w })
