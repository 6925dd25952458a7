use Rattle.std.proofs.Common.{refl}
use Rattle.proof_reuse.proofs.CommonLaws.{common_word, no_common_word}
use Rattle.proof_reuse.proofs.common.first.Goals as goal

pub returns-clause-entry : goal.returns-clause-entry
returns-clause-entry c =
    let both = common_word c.nwa.result.now c.nwa-2.result.now c.args.icfg.now.automaton c.args.reused.automaton c.in-Ok.found c.in-Some.word c.in-Ok.ensures
    c.nwa.ensures.value c.nwa-2.ensures.value c.in-Some.is in
    (refl, both.0, both.1)

pub returns-in_default-found-clause-none : goal.returns-in_default-found-clause-none
returns-in_default-found-clause-none c = λ e.
    no_common_word c.nwa.result.now c.nwa-2.result.now c.args.icfg.now.automaton c.args.reused.automaton c.in-Ok.found c.in-Ok.ensures c.nwa.ensures.value
    c.nwa-2.ensures.value c.in_default-found.is
