use Rattle.std.proofs.Common.{◌∙◌, List, ap, subst}
use Rattle.std.specs.List.{AllZip}
use Rattle.letter_acts.specs.Invariant.{alphabet_of}
use Rattle.triple_rows.specs.declared.triples.Triple.{Triple}
use Rattle.hoare_check.specs.Decided.{MayProve}
use Rattle.proof_reuse.proofs.SettlingLaws.{tried_settles}
use Rattle.proof_reuse.proofs.settling.settle.Goals as goal

pub returns-clause-settles : goal.returns-clause-settles
returns-clause-settles g c = λ old n s.
    tried_settles c.args.icfg.now old n c.args.work.now.waiting.items _ c.args.work.now.proofs.items _ c.in_ok-tried.tried.items
    (subst (λ (ts : List Triple). AllZip (MayProve (alphabet_of c.args.icfg.now)) ts c.in_ok-tried.tried.items) (ap (λ v. v.items) c.replace-waiting.ensures.value) c.in_ok-tried.ensures)
    c.in_ok-keep.ensures (ap (λ v. v.items) c.replace-waiting.ensures.after ∙ c.new.ensures.items) s
