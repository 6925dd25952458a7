use Rattle.std.proofs.Common.{◌≡◌, ◌++◌, drop}
use Rattle.nwa_base.specs.Edges.{ends}
use Rattle.nwa_base.specs.Ties.Reading.{expanded}
use Rattle.nwa_base.proofs.pairs.call_pairs.Given as goal

abbrev pub invariant-loop-q : goal.invariant-loop-q
invariant-loop-q l = l.pairs.items ++ expanded (λ x. x.1) (λ x. ends x.1 l.a l.nwa.calls) (drop l.q-index l.set) ≡ expanded (λ x. x.1) (λ x. ends x.1 l.a l.nwa.calls) l.set
