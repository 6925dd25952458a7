use Rattle.std.proofs.Common.{◌≡◌, ◌++◌, drop, eqb}
use Rattle.std.specs.HashMap.{get}
use Rattle.nwa_base.specs.Groups.{grouped}
use Rattle.nwa_base.specs.Ties.Reading.{expanded}
use Rattle.nwa_base.proofs.pairs.joined.Given as goal

abbrev pub invariant-loop-key : goal.invariant-loop-key
invariant-loop-key l =
    l.pairs.items ++ expanded (λ x. x.0) (λ x. grouped (get eqb l.groups.by_key x.1)) (drop l.key-index l.set) ≡
    expanded (λ x. x.0) (λ x. grouped (get eqb l.groups.by_key x.1)) l.set
