use Rattle.std.proofs.Common.{◌∙◌, ◌-◌, Bool, Some, None, length, ap, sym, arith}
use Rattle.std.specs.Prelude.{if◌then◌else◌}
use Rattle.nested_itp.specs.TripleWalks.Spots.{node_in, is_counted_in}
use Rattle.nested_itp.specs.declared.triple_walks.claims.Claim.{Claim}
use Rattle.nested_itp.specs.TripleWalks.Stops.{counted_by, teller}
use Rattle.nested_itp.proofs.TripleWalks.StopLaws.{teller_passes, teller_found, teller_done}
use Rattle.nested_itp.proofs.triple_walks.stops.teller.Goals as goal

pub loop-i-preserved : goal.loop-i-preserved
loop-i-preserved c =
    let r = c.is_told.ensures in
    let f = c.if-is_told.false in
    teller_passes c.args.returns c.args.tree.now c.args.node c.args.claims.now c.loop-i.i c.index-claims-i.result (teller c.args.returns 0 (counted_by c.args.tree.now c.args.node c.args.claims.now))
    (omega arith) c.index-claims-i.is (sym r ∙ f) c.loop-i.invariant

pub returns-then-is_told : goal.returns-then-is_told
returns-then-is_told c =
    let r = c.is_told.ensures in
    let f = c.if-is_told.true in
    teller_found c.args.returns c.args.tree.now c.args.node c.args.claims.now c.loop-i.i c.index-claims-i.result (teller c.args.returns 0 (counted_by c.args.tree.now c.args.node c.args.claims.now))
    (omega arith) c.index-claims-i.is (sym r ∙ f) c.loop-i.invariant

pub returns-then-is_counted : goal.returns-then-is_counted
returns-then-is_counted c =
    let r = c.is_counted.ensures in
    let f = c.if-is_counted.true in
    let e = ap (λ (y : Claim). is_counted_in (node_in c.args.tree.now c.args.node y.position)) c.index-claims-target.is in
    sym
    (teller_done c.args.returns c.args.tree.now c.args.node c.args.claims.now c.loop-i.i (length c.args.claims.now - 1) c.index-claims-target.result (teller c.args.returns 0 (counted_by c.args.tree.now c.args.node c.args.claims.now))
    (omega arith) (omega arith) c.index-claims-target.is c.loop-i.invariant ∙
    ap (λ (z : Bool). if z then None else Some (length c.args.claims.now - 1)) (e ∙ sym r ∙ f))

pub returns-else-is_counted : goal.returns-else-is_counted
returns-else-is_counted c =
    let r = c.is_counted.ensures in
    let f = c.if-is_counted.false in
    let e = ap (λ (y : Claim). is_counted_in (node_in c.args.tree.now c.args.node y.position)) c.index-claims-target.is in
    sym
    (teller_done c.args.returns c.args.tree.now c.args.node c.args.claims.now c.loop-i.i (length c.args.claims.now - 1) c.index-claims-target.result (teller c.args.returns 0 (counted_by c.args.tree.now c.args.node c.args.claims.now))
    (omega arith) (omega arith) c.index-claims-target.is c.loop-i.invariant ∙
    ap (λ (z : Bool). if z then None else Some (length c.args.claims.now - 1)) (e ∙ sym r ∙ f))
