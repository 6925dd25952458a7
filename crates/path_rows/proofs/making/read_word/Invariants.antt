use Rattle.path_rows.proofs.MakingLemmas.{HasRead}
use Rattle.path_rows.proofs.making.read_word.Given as goal

abbrev pub invariant-loop-i : goal.invariant-loop-i
invariant-loop-i l = HasRead l.icfg l.letters l.i l.draft
