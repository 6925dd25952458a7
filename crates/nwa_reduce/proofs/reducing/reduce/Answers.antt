use Rattle.nwa_reduce.proofs.ReduceLemmas.{reduced_on}
use Rattle.nwa_reduce.proofs.reducing.reduce.Goals as goal

pub returns-clause-words : goal.returns-clause-words
returns-clause-words c =
    (reduced_on c.args.nwa.now c.in_ok-folded.field-0 c.in_ok-kept.kept
    (reduced_on c.args.nwa.now c.in_ok-trimmed.field-0 c.in_ok-folded.field-0 c.in_ok-trimmed.ensures.0 c.in_ok-folded.ensures.0) c.in_ok-kept.ensures.0).words
