use Rattle.std.proofs.Common.{◌∙◌, Bool, map, reverse, sym, ap}
use Rattle.nested_itp.specs.NestedRefutations.Refutations.{stops_at}
use Rattle.nested_itp.specs.TripleWalks.Stops.{taken_of, counted_by, teller, way_told}
use Rattle.nested_itp.proofs.TripleWalks.StopLaws.{on_way_next, on_way_leaf, on_way_cut, on_way_group}
use Rattle.nested_itp.proofs.triple_walks.stops.stop_from.Goals as goal

pub loop-i-preserved : goal.loop-i-preserved
loop-i-preserved c = λ v nodes rows s r h.
    on_way_next v (reverse (map taken_of c.args.taken.now)) nodes c.args.tree.now c.args.claims.now rows (stops_at v (reverse (map taken_of c.args.taken.now)) s) c.loop-i.spot c.in_ok-spot-in-Part.spot
    c.in-Some.sides c.in-Part.part (sym c.in-Some.ensures)
    (c.in-Part.ensures ∙
    ap (λ (b : Bool). way_told c.args.tree.now c.args.claims.now (reverse (map taken_of c.args.taken.now)) (teller b 0 (counted_by c.args.tree.now c.loop-i.spot.node c.args.claims.now)) c.loop-i.spot.node c.in-Some.sides)
    (sym r))
    c.in_ok-spot-in-Part.ensures.node c.in_ok-spot-in-Part.ensures.depth (c.loop-i.invariant v nodes rows s r h)

pub returns-in_default : goal.returns-in_default
returns-in_default c = λ v nodes rows s r h.
    on_way_leaf v (reverse (map taken_of c.args.taken.now)) nodes c.args.tree.now c.args.claims.now rows (stops_at v (reverse (map taken_of c.args.taken.now)) s) c.loop-i.spot (sym c.in_default.ensures)
    (c.loop-i.invariant v nodes rows s r h)

pub returns-in-Own : goal.returns-in-Own
returns-in-Own c = λ v nodes rows s r h.
    on_way_cut v (reverse (map taken_of c.args.taken.now)) nodes c.args.tree.now c.args.claims.now rows (stops_at v (reverse (map taken_of c.args.taken.now)) s) c.loop-i.spot c.in-Some.sides (sym c.in-Some.ensures)
    (c.in-Own.ensures ∙
    ap (λ (b : Bool). way_told c.args.tree.now c.args.claims.now (reverse (map taken_of c.args.taken.now)) (teller b 0 (counted_by c.args.tree.now c.loop-i.spot.node c.args.claims.now)) c.loop-i.spot.node c.in-Some.sides)
    (sym r))
    (c.loop-i.invariant v nodes rows s r h)

pub returns-in-NoMember : goal.returns-in-NoMember
returns-in-NoMember c = λ v nodes rows s r h.
    on_way_group v (reverse (map taken_of c.args.taken.now)) nodes c.args.tree.now c.args.claims.now rows (stops_at v (reverse (map taken_of c.args.taken.now)) s) c.loop-i.spot c.in-Some.sides (sym c.in-Some.ensures)
    (c.in-NoMember.ensures ∙
    ap (λ (b : Bool). way_told c.args.tree.now c.args.claims.now (reverse (map taken_of c.args.taken.now)) (teller b 0 (counted_by c.args.tree.now c.loop-i.spot.node c.args.claims.now)) c.loop-i.spot.node c.in-Some.sides)
    (sym r))
    (c.loop-i.invariant v nodes rows s r h)
