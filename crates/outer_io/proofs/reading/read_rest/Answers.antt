use Rattle.std.proofs.Common.{refl, ◌∙◌, arith}
use Rattle.std.proofs.lemmas.List.{length-take}
use Rattle.outer_io.proofs.Fronts.{front-start, front-more, front-whole, front-takes, front-stays, front-longer}
use Rattle.outer_io.proofs.reading.read_rest.Goals as goal

pub loop-text-init : goal.loop-text-init
loop-text-init g c = record {
  piece = c.in_ok-buffer.ensures.len;
  texts = refl;
  within = omega arith;
  front = rw c.new-text.ensures.items (front-start _);
  no_fault = refl;
}

pub loop-text-preserved : goal.loop-text-preserved
loop-text-preserved g c = record {
  piece = c.loop-text.invariant.piece;
  texts = c.in_ok-count.ensures.texts ∙ c.loop-text.invariant.texts;
  within = omega (arith, c.in_ok-extend_from_slice.ensures.len, length-take c.in_ok-count.count c.read.new.buf);
  front = rw c.in_ok-extend_from_slice.ensures.items
      (front-more _ _ _ _ _ _ c.loop-text.invariant.front c.in_ok-count.ensures.moved);
  no_fault = c.in_ok-count.ensures.kept ∙ c.loop-text.invariant.no_fault;
}

pub returns-in_err-count-clause-fault : goal.returns-in_err-count-clause-fault
returns-in_err-count-clause-fault g c = λ _. rw (← c.loop-text.invariant.no_fault) c.in_err-count.ensures.counted

pub returns-in_err-count-clause-takes : goal.returns-in_err-count-clause-takes
returns-in_err-count-clause-takes g c =
    front-stays _ _ _ _ _ c.loop-text.invariant.front c.in_err-count.ensures.stays (omega (arith, c.loop-text.invariant.within))

pub returns-then-count-eq0-clause-whole : goal.returns-then-count-eq0-clause-whole
returns-then-count-eq0-clause-whole g c =
    front-whole _ _ _ c.loop-text.invariant.front (c.in_ok-count.ensures.ended c.if-count-eq0.true)

pub returns-then-count-eq0-clause-takes : goal.returns-then-count-eq0-clause-takes
returns-then-count-eq0-clause-takes g c =
    front-takes _ _ _ _ _ _ _ c.loop-text.invariant.front c.in_ok-count.ensures.moved (omega arith)

pub returns-then-count-room-clause-too_long : goal.returns-then-count-room-clause-too_long
returns-then-count-room-clause-too_long g c = λ l same.
    (cc, front-longer _ _ _ _ _ _ _ c.loop-text.invariant.front c.in_ok-count.ensures.moved (omega arith))

pub returns-then-count-room-clause-takes : goal.returns-then-count-room-clause-takes
returns-then-count-room-clause-takes g c =
    front-takes _ _ _ _ _ _ _ c.loop-text.invariant.front c.in_ok-count.ensures.moved
    (omega (arith, c.in_ok-count.ensures.room, length-take c.piece_len.result c.deref_mut.result.now))

pub returns-in_err-extend_from_slice-clause-takes : goal.returns-in_err-extend_from_slice-clause-takes
returns-in_err-extend_from_slice-clause-takes g c =
    front-takes _ _ _ _ _ _ _ c.loop-text.invariant.front c.in_ok-count.ensures.moved (omega arith)

pub returns-in_err-extend_from_slice-clause-out_of_memory :
    goal.returns-in_err-extend_from_slice-clause-out_of_memory
returns-in_err-extend_from_slice-clause-out_of_memory g c = λ _.
    front-takes _ _ _ _ _ _ _ c.loop-text.invariant.front c.in_ok-count.ensures.moved (omega arith)
