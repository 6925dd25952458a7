use Rattle.std.proofs.Common.{◌≡◌, ◌<◌, ◌≤◌, ◌-◌, arith}
use Rattle.nested_itp.proofs.TripleWalks.LeftLaws.{lefts_more, lefts_are}
use Rattle.nested_itp.proofs.triple_walks.claims.lefts.Goals as goal

pub loop-i-preserved : goal.loop-i-preserved
loop-i-preserved c =
    lefts_more c.args.tree.now.table.items c.args.position c.loop-i.i (c.len-count.result - 1 - c.loop-i.i) c.loop-i.lefts.items c.push.new.self.items c.loop-i.roots.items
    c.left_at-left.new.roots.items c.push-in-loop-i.new.self.items c.left_at-left.result (omega arith) (omega arith) c.loop-i.invariant c.left_at-left.ensures.value
    c.left_at-left.ensures.roots c.in_ok-push.ensures.items c.in_ok-push-2.ensures.items

pub returns : goal.returns
returns c = λ columns qs b t nodes k h e.
    lefts_are c.args.tree.now c.args.position c.loop-i.i c.loop-i.lefts.items c.turned.result.items c.loop-i.roots.items (omega arith) c.loop-i.invariant c.turned.ensures columns qs b t nodes k h e
