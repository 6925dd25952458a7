use Rattle.itp_automaton.proofs.SettlingLaws.{number_more}
use Rattle.itp_automaton.proofs.settling.letters_below.Goals as goal

pub loop-letter-preserved : goal.loop-letter-preserved
loop-letter-preserved c = number_more c.loop-letter.letter c.loop-letter.letters.items c.push.new.self.items c.loop-letter.invariant c.in_ok-push.ensures.items
