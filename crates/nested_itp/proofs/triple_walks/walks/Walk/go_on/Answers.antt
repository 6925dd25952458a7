use Rattle.std.proofs.Common.{refl}
use Rattle.std.proofs.lemmas.Result.{on_ok_weaker}
use Rattle.nested_itp.proofs.TripleWalks.WalkLaws.{part_comes}
use Rattle.nested_itp.specs.declared.triple_walks.walks.Walk as walks
use Rattle.nested_itp.proofs.triple_walks.walks.Walk.go_on.Goals as goal

pub returns : goal.returns
returns c =
    on_ok_weaker c.put_down.result
    (λ f. λ v first from led next.
    let here : walks.Walk = record { goal = c.go_back.new.self; waiting = c.args.self.now.waiting; nodes = c.args.self.now.nodes } in
    let new : walks.Walk = record { goal = c.begin_with.new.goal; waiting = c.args.self.now.waiting; nodes = c.args.self.now.nodes } in
    let k = part_comes v c.args.guide.now first from c.args.next c.args.self.now here new led next c.go_back.ensures c.in_ok-begin_with.ensures.keeps
    (λ g h at b. c.in_ok-begin_with.ensures.goal v g h led at b) refl refl in
    f v first k.0 from k.1 led k.2 k.3) c.put_down.ensures
