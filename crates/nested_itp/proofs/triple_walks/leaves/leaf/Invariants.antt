use Rattle.std.proofs.Common.{◌≡◌, ◌-◌, length, reverse}
use Rattle.nested_itp.specs.NestedPredicates.Sums.{Branch, terms_from}
use Rattle.nested_itp.specs.NestedRefutations.Refutations.{View, multipliers}
use Rattle.nested_itp.specs.TripleWalks.Leaves.{TellAt, IsSeen}
use Rattle.nested_itp.proofs.TripleWalks.LeafLaws.{rows_from}
use Rattle.nested_itp.proofs.triple_walks.leaves.leaf.Given as goal

abbrev pub invariant-loop-i : goal.invariant-loop-i
invariant-loop-i l =
    IsSeen (length l.claims) l.node (rows_from (length l.roles - l.i) l.roles) l.seen.items
    × ((v : View) (b : Branch) → TellAt v l.tree l.claims l.node b l.parts →
    reverse l.added.items ≡ terms_from (length l.roles - l.i) (multipliers v l.node b l.parts (rows_from (length l.roles - l.i) l.roles)))
