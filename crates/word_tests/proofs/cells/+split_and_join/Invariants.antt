use Rattle.word_tests.proofs.cells.+split_and_join.Given as goal

abbrev pub decreases-split_and_join : goal.decreases-split_and_join
decreases-split_and_join l = l.times
