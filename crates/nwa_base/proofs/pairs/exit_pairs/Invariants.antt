use Rattle.std.proofs.Common.{◌≡◌, ◌++◌, drop}
use Rattle.nwa_base.specs.Edges.{back_ends}
use Rattle.nwa_base.specs.Ties.Reading.{expanded}
use Rattle.nwa_base.proofs.pairs.exit_pairs.Given as goal

abbrev pub invariant-loop-p : goal.invariant-loop-p
invariant-loop-p l = l.pairs.items ++ expanded (λ x. x.0) (λ x. back_ends x.1 x.0 l.a l.nwa.backs) (drop l.p-index l.set) ≡ expanded (λ x. x.0) (λ x. back_ends x.1 x.0 l.a l.nwa.backs) l.set
