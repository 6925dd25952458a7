use Rattle.proof_check.proofs.plan.Plan.new.Goals as goal

pub invariant_of-result : goal.invariant_of-result
invariant_of-result c =
    let lands = rw (c.deref-2.ensures.value, c.deref-3.ensures.value) at c.in_ok-new-2.ensures.landed in
    let backs = rw (c.deref-2.ensures.value, c.deref-3.ensures.value) at c.in_ok-new-2.ensures.back_landed in
    record {
      inside = rw c.deref.ensures.value at c.in_ok-new.ensures.insides;
      call = rw c.deref.ensures.value at c.in_ok-new.ensures.calls;
      back = rw c.deref.ensures.value at c.in_ok-new.ensures.backs;
      enters = rw c.deref-3.ensures.value at c.in_ok-new-2.ensures.entering;
      mark = rw c.deref-4.ensures.value at c.in_ok-marks_of.ensures;
      step = rw c.deref-3.ensures.value at c.in_ok-new-2.ensures.stepped;
      lands = lands c.args.outline.now.triples.items;
      back_lands = backs c.args.outline.now.triples.items;
    }
