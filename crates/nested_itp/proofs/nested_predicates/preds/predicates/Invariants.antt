use Rattle.std.proofs.Common.{◌≡◌, map, take}
use Rattle.farkas_check.specs.Trees.{Tree}
use Rattle.nested_itp.specs.NestedPredicates.Positions.{positions_of}
use Rattle.nested_itp.specs.NestedPredicates.Interpolants.{interpolant_at}
use Rattle.nested_itp.specs.NestedPredicates.Ties.Spelled.{IsTableOf}
use Rattle.nested_itp.proofs.nested_predicates.preds.predicates.Given as goal

abbrev pub invariant-loop-position : goal.invariant-loop-position
invariant-loop-position l =
    (t : Tree) → IsTableOf l.icfg l.path.word t l.table → l.preds.items ≡ map (interpolant_at l.icfg l.path.word t) (take l.position (positions_of l.icfg l.path.word))
