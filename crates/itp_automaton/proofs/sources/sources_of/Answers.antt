use Rattle.std.proofs.Common.{Some}
use Rattle.letter_acts.specs.Acts.{plain_act}
use Rattle.letter_acts.specs.Invariant.{alphabet_of}
use Rattle.itp_automaton.proofs.AnswerLaws.{ok_so}
use Rattle.itp_automaton.proofs.SourceLaws.{act_from}
use Rattle.itp_automaton.proofs.sources.sources_of.Goals as goal

pub returns : goal.returns
returns c = ok_so c.act_sources.result _ _ c.act_sources.ensures (λ s h. act_from (alphabet_of c.args.icfg.now) c.args.states.now c.args.letter (Some (plain_act c.act_at.result.now)) s.proc s.list.items c.act_at.ensures.value h)
