use Rattle.std.proofs.Common.{◌-◌, get_or, length, refl}
use Rattle.nwa_base.specs.declared.letters.Letter.{Letter}
use Rattle.nwa_base.specs.declared.letters.Kind.TheVariants.{Inside}
use Rattle.nested_itp.proofs.NestedPredicates.ReturnLaws.{one_more, unmatched_next, tests_next}
use Rattle.nested_itp.proofs.nested_predicates.returns.returns.Goals as goal

pub loop-i-preserved : goal.loop-i-preserved
loop-i-preserved c =
    let d : Letter = record { id = 0; kind = Inside; call = 0 } in
    let a : Letter = get_or c.args.letters.now (length c.args.letters.now - 1 - c.loop-i.i) d in
    record {
      count = rw c.unmatched_before-unmatched.ensures (one_more a.kind c.loop-i.unmatched c.loop-i.i c.loop-i.invariant.count);
      unmatched = unmatched_next c.args.letters.now c.loop-i.i a d c.loop-i.unmatched c.unmatched_before-unmatched.result c.loop-i-test.true refl c.loop-i.invariant.unmatched
          c.unmatched_before-unmatched.ensures;
      tests = tests_next c.args.letters.now c.loop-i.i a d c.loop-i.unmatched c.loop-i.tests.items c.push.new.self.items c.loop-i-test.true refl c.loop-i.invariant.unmatched
          c.loop-i.invariant.tests c.in_ok-push.ensures.items;
    }
