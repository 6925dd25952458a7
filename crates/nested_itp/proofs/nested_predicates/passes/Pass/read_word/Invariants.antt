use Rattle.nested_itp.proofs.NestedPredicates.LeafLaws.{SumsRead}
use Rattle.nested_itp.proofs.nested_predicates.passes.Pass.read_word.Given as goal

abbrev pub invariant-loop-i : goal.invariant-loop-i
invariant-loop-i l = SumsRead l.icfg l.path.word l.i (record { rows = l.rows; stamps = l.stamps }) l.parts l.self.running l.self.frames.items l.self.sums.items
