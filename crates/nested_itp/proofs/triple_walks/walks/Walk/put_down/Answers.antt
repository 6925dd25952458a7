use Rattle.std.proofs.lemmas.Result.{on_ok_weaker}
use Rattle.nested_itp.specs.NestedRefutations.Refutations.{stops_at}
use Rattle.nested_itp.specs.declared.triple_walks.stops.Stop.TheVariants.{Leaf, Cut, Group}
use Rattle.nested_itp.proofs.TripleWalks.WalkLaws.{stop_is}
use Rattle.nested_itp.proofs.triple_walks.walks.Walk.put_down.Goals as goal

pub returns-in-Leaf : goal.returns-in-Leaf
returns-in-Leaf c =
    on_ok_weaker c.put_leaf.result
    (λ f. λ v first h from s led there coming. f v first h from (stops_at v h.taken s) led
    (stop_is v c.args.guide.now h s c.args.spot c.args.self.now.goal c.as_slice.result.now c.in_ok-node.field-0 (Leaf c.in-Leaf.node) led there coming.goal c.as_slice.ensures.value c.in-Leaf.is c.in_ok-node.ensures)
    coming) c.put_leaf.ensures

pub returns-in-Cut : goal.returns-in-Cut
returns-in-Cut c =
    on_ok_weaker c.put_cut.result
    (λ f. λ v first h from s led there coming. f v first h from (stops_at v h.taken s) led
    (stop_is v c.args.guide.now h s c.args.spot c.args.self.now.goal c.as_slice.result.now c.in_ok-node.field-0 (Cut c.in-Cut.place) led there coming.goal c.as_slice.ensures.value c.in-Cut.is c.in_ok-node.ensures)
    coming) c.put_cut.ensures

pub returns-in-Group : goal.returns-in-Group
returns-in-Group c =
    on_ok_weaker c.open_group.result
    (λ f. λ v first h from s led there coming. f v c.args.guide.now first h from (stops_at v h.taken s) led
    (stop_is v c.args.guide.now h s c.args.spot c.args.self.now.goal c.as_slice.result.now c.in_ok-node.field-0 (Group c.in-Group.place) led there coming.goal c.as_slice.ensures.value c.in-Group.is c.in_ok-node.ensures)
    coming) c.open_group.ensures
