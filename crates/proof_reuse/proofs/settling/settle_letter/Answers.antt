use Rattle.std.proofs.Common.{◌+◌}
use Rattle.letter_acts.specs.Invariant.{alphabet_of}
use Rattle.proof_reuse.proofs.SettlingLaws.{letter_waits, all_agree}
use Rattle.proof_reuse.proofs.settling.settle_letter.Goals as goal

pub settle_many-requires-after_bounds : goal.settle_many-requires-after_bounds
settle_many-requires-after_bounds g c κs within =
    all_agree (alphabet_of c.args.icfg.now) c.args.work.now.waiting.items c.in_ok-candidates.candidates.items c.append.new.self.items c.in_ok-append.ensures.items c.requires.agree
    c.in_ok-candidates.ensures.agree

pub returns-clause-settles : goal.returns-clause-settles
returns-clause-settles g c = λ old t s.
    c.in_ok-settle_many.ensures.settles old (c.args.letter + 1)
    (letter_waits c.args.icfg.now old c.args.letter c.args.work.now.waiting.items c.in_ok-candidates.candidates.items c.append.new.self.items c.args.work.now.proofs.items c.in_ok-append.ensures.items
    (c.in_ok-candidates.ensures.candidates old t) s)
