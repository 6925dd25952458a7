use Rattle.std.proofs.Common.{sym, subst}
use Rattle.nwa_base.specs.Automata.{Automaton}
use Rattle.nwa_reduce.specs.Lean.{IsLean}
use Rattle.race_workers.specs.KeptWords.Without.{IsWithout}
use Rattle.race_rounds.specs.Rounds.{automaton_in}
use Rattle.race_workers.proofs.offering.kept_behind.Goals as goal

pub returns-clause-words : goal.returns-clause-words
returns-clause-words c =
    let a = subst (λ (m : Automaton). IsWithout c.args.kept.now m c.in_ok-left.left) c.nwa.ensures.value c.in_ok-left.ensures.words in
    subst (λ (m : Automaton). IsWithout c.args.kept.now (automaton_in c.args.entry.now.evidence) m) (sym c.in_ok-new.ensures.ok) a

pub returns-clause-lean : goal.returns-clause-lean
returns-clause-lean c = subst (λ (m : Automaton). IsLean m) (sym c.in_ok-new.ensures.ok) c.in_ok-left.ensures.lean
