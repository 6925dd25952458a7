use Rattle.std.proofs.Common.{◌≡◌, ◌++◌, drop}
use Rattle.nwa_base.specs.Edges.{ends}
use Rattle.nwa_base.specs.Ties.Reading.{expanded}
use Rattle.nwa_base.proofs.pairs.inside_pairs.Given as goal

abbrev pub invariant-loop-key : goal.invariant-loop-key
invariant-loop-key l = l.pairs.items ++ expanded (λ x. x.0) (λ x. ends x.1 l.a l.nwa.insides) (drop l.key-index l.set) ≡ expanded (λ x. x.0) (λ x. ends x.1 l.a l.nwa.insides) l.set
