use Rattle.std.proofs.Common.{◌↔◌, ◌∙◌, ℕ, ◌+◌, drop, sym, ap, subst, arith}
use Rattle.letter_acts.specs.Frames.{places, is_result, result_columns}
use Rattle.letter_acts.specs.Invariant.{Take}
use Rattle.letter_acts.proofs.LoopLemmas.{refuted, one_member}
use Rattle.letter_acts.proofs.TakeLemmas.{take_miss, take_pass, take_stops, take_done, take_short}
use Rattle.letter_acts.proofs.checks.acts.take.Goals as goal
use Rattle.letter_acts.proofs.checks.acts.take.Goals.{then-is_result+else-taken-targets+else-not-has_type_of, else-is_result}

pub loop-i-preserved : goal.loop-i-preserved
loop-i-preserved c =
    let caller = c.args.caller.now in
    let callee = c.args.callee.now in
    let targets = c.args.targets.now in
    let Left : ℕ → Type 0 = λ n. Take caller callee (drop n targets) (places is_result (c.loop-i.i + 1) (drop (c.loop-i.i + 1) callee)) ↔ Take caller callee targets (result_columns callee) in
    elim c.if-is_result.branch [
      | then-is_result+else-taken-targets+else-not-has_type_of w ↦
          let same = one_member callee c.loop-i.i c.index-callee-i.result w.index-callee-i-then-is_result.result c.loop-i-test.true c.index-callee-i.is w.index-callee-i-then-is_result.is in
          let passes = ap is_result (sym same) ∙ sym c.is_result.ensures ∙ w.if-is_result.true in (
            omega arith,
            subst Left (sym w.taken-is)
                (take_pass caller callee targets _ c.loop-i.taken c.loop-i.i _ w.index-callee-i-then-is_result.is c.loop-i-test.true passes w.if-taken-targets.false (w.has_type_of.ensures.0 w.if-not-has_type_of.false) c.loop-i.invariant.1),
          )
      | else-is_result w ↦ (
        omega arith,
        subst Left (sym w.taken-is)
            (take_miss caller callee (drop c.loop-i.taken targets) _ c.loop-i.i _ c.index-callee-i.is c.loop-i-test.true (sym c.is_result.ensures ∙ w.if-is_result.false) c.loop-i.invariant.1),
      )
    ]

pub returns-then-taken-targets : goal.returns-then-taken-targets
returns-then-taken-targets c = take_done c.args.caller.now c.args.callee.now c.args.targets.now _ _ c.loop-i.taken c.if-taken-targets.true c.loop-i.invariant.1

pub returns-then-not-has_type_of : goal.returns-then-not-has_type_of
returns-then-not-has_type_of c =
    let callee = c.args.callee.now in
    let same = one_member callee c.loop-i.i c.index-callee-i.result c.index-callee-i-then-is_result.result c.loop-i-test.true c.index-callee-i.is c.index-callee-i-then-is_result.is in
    let passes = ap is_result (sym same) ∙ sym c.is_result.ensures ∙ c.if-is_result.true in
    take_stops c.args.caller.now callee c.args.targets.now _ c.loop-i.taken c.loop-i.i _ c.index-callee-i-then-is_result.is c.loop-i-test.true passes c.if-taken-targets.false
    (refuted _ _ c.has_type_of.ensures c.if-not-has_type_of.true)
    c.loop-i.invariant.1

pub returns-then-taken-targets-2 : goal.returns-then-taken-targets-2
returns-then-taken-targets-2 c =
    take_short c.args.caller.now c.args.callee.now c.args.targets.now _ c.loop-i.taken c.loop-i.i c.if-taken-targets-2.true c.loop-i-test.false c.loop-i.invariant.1

pub returns : goal.returns
returns c = take_done c.args.caller.now c.args.callee.now c.args.targets.now _ _ c.loop-i.taken c.if-taken-targets-2.false c.loop-i.invariant.1
