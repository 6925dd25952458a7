use Rattle.std.proofs.Common.{◌≡◌, ◌<◌, ◌≤◌, length, get_or, rules}
use Rattle.std.proofs.lemmas.List.{get_or_read}
use Rattle.nested_itp.proofs.TripleWalks.PuttingLaws.{source_made, claims_made}
use Rattle.nested_itp.proofs.triple_walks.putting.claims_of.Goals as goal

pub loop-i-preserved : goal.loop-i-preserved
loop-i-preserved c =
    let h : c.loop-i.i < length c.args.step.now.sources.items = search rules in
    let e : c.index.result.now ≡ get_or c.args.step.now.sources.items c.loop-i.i 0 = get_or_read c.args.step.now.sources.items c.loop-i.i c.index.result.now h c.index.ensures 0 in
    source_made c.args.tree.now c.args.step.now.sources.items c.loop-i.i c.index.result.now c.loop-i.claims.items c.push.new.self.items c.in_ok-of.field-0 h e c.loop-i.invariant c.in_ok-of.ensures
    c.in_ok-push.ensures.items

pub returns : goal.returns
returns c =
    let h : length c.args.step.now.sources.items ≤ c.loop-i.i = search rules in
    λ g w t s nodes tree step.
    claims_made c.args.tree.now c.args.step.now c.loop-i.i c.loop-i.claims.items c.push-2.new.self.items c.in_ok-of-2.field-0 h c.loop-i.invariant c.in_ok-of-2.ensures c.in_ok-push-2.ensures.items
    g w t s nodes tree step
