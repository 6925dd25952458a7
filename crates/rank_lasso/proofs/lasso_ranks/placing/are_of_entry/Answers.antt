use Rattle.std.proofs.Common.{rules}
use Rattle.std.specs.Prelude.{slice_get}
use Rattle.std.proofs.lemmas.Iterator.{YieldsList-from_slice}
use borrow.Author.Tests.{tests}
use Rattle.letter_acts.proofs.CheckLemmas.{all_said}
use Rattle.rank_lasso.specs.LassoTurns.Turns.{StaysIn}
use Rattle.rank_lasso.proofs.lasso_ranks.placing.are_of_entry.Goals as goal

pub returns : goal.returns
returns c =
    rw (← c.entry_proc-proc.ensures)
    (all_said (λ n. StaysIn c.entry_proc-proc.result (slice_get c.args.icfg.now.acts n)) _ _ _ c.all.ensures.ran (YieldsList-from_slice c.args.letters.now cc)
    (λ x q k. search (rules, tests)) (λ x q k p. search (rules, tests)))
