use Rattle.std.proofs.Common.{◌≡◌, refl}
use Rattle.farkas_check.specs.Nodes.{plain_nodes}
use Rattle.farkas_check.specs.declared.refutations.Node.TheVariants.{Leaf}
use Rattle.nested_itp.proofs.TripleWalks.WalkLaws.{leaf_there, leaf_put, parts_ordered}
use Rattle.nested_itp.proofs.triple_walks.walks.Walk.put_leaf.Goals as goal

pub returns-in_default : goal.returns-in_default
returns-in_default c = λ v first h from stop led at coming. absurd (leaf_there v c.args.guide.now stop c.args.node at c.in_default.ensures)

pub leaf-requires : goal.leaf-requires
leaf-requires c = parts_ordered (plain_nodes c.args.guide.now.nodes.now) c.args.node c.in-Some.parts.now c.requires.ascend c.in-Some.ensures

pub returns : goal.returns
returns c = λ v first h from stop led at coming.
    leaf_put v c.args.guide.now first h from stop c.args.node c.args.self.now _ c.in-Some.parts.now c.in_ok-found.found.items (Leaf c.in_ok-found.found) c.as_slice.result.now at coming c.in-Some.ensures
    c.in_ok-found.ensures c.as_slice.ensures.value refl c.in_ok-push.ensures.items refl refl
