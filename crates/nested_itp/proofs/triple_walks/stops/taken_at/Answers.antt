use Rattle.std.proofs.Common.{◌∙◌, ◌-◌, false, length, map, reverse, get_or, refl, sym, arith}
use Rattle.nested_itp.specs.NestedRefutations.Refutations.{taken_at}
use Rattle.nested_itp.specs.TripleWalks.Stops.{taken_of}
use Rattle.nested_itp.specs.declared.triple_walks.stops.Taken.{Taken}
use Rattle.nested_itp.proofs.TripleWalks.StopLaws.{taken_passes, taken_found}
use Rattle.nested_itp.proofs.triple_walks.stops.taken_at.Goals as goal

abbrev other : Taken
other = record { claim = 0; node = 0; second = false }

pub loop-i-preserved : goal.loop-i-preserved
loop-i-preserved c =
    let r = c.is_of.ensures in
    let f = c.if-is_of.false in
    taken_passes c.args.taken.now c.loop-i.i (length c.args.taken.now - 1 - c.loop-i.i) c.args.claim c.args.node (get_or c.args.taken.now (length c.args.taken.now - 1 - c.loop-i.i) other) other
    (taken_at c.args.claim c.args.node (reverse (map taken_of c.args.taken.now))) (omega arith) refl refl (sym r ∙ f) c.loop-i.invariant

pub returns-then-is_of : goal.returns-then-is_of
returns-then-is_of c =
    let r = c.is_of.ensures in
    let f = c.if-is_of.true in
    taken_found c.args.taken.now c.loop-i.i (length c.args.taken.now - 1 - c.loop-i.i) c.args.claim c.args.node (get_or c.args.taken.now (length c.args.taken.now - 1 - c.loop-i.i) other) other
    (taken_at c.args.claim c.args.node (reverse (map taken_of c.args.taken.now))) (omega arith) refl refl (sym r ∙ f) c.loop-i.invariant
