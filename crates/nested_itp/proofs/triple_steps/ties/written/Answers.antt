use Rattle.std.proofs.Common.{ℕ, List, ◌++◌, refl, ap}
use Rattle.std.specs.Prelude.{filter, not}
use Rattle.letter_acts.specs.Frames.{variables_of}
use Rattle.letter_acts.specs.Invariant.{is_global_at}
use Rattle.nested_itp.proofs.TripleSteps.ColumnLaws.{filtered_behind, filtered_all}
use Rattle.nested_itp.proofs.triple_steps.ties.written.Goals as goal

pub loop-i-init : goal.loop-i-init
loop-i-init c = ap (λ (l : List ℕ). l ++ filter (λ x. not (is_global_at c.args.caller.now x)) c.args.targets.now) c.in_ok-written.ensures

pub loop-i-preserved : goal.loop-i-preserved
loop-i-preserved c =
    filtered_behind (λ x. not (is_global_at c.args.caller.now x)) c.args.targets.now c.loop-i.i _ (variables_of c.args.caller.now) c.loop-i.written.items c.add_if.new.columns.items _ c.loop-i-test.true refl
    (ap not c.is_global_at-is_global.ensures) c.in_ok-add_if.ensures c.loop-i.invariant

pub returns : goal.returns
returns c = filtered_all (λ x. not (is_global_at c.args.caller.now x)) c.args.targets.now c.loop-i.i (variables_of c.args.caller.now) c.loop-i.written.items c.loop-i-test.false c.loop-i.invariant
