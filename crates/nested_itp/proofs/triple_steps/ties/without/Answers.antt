use Rattle.std.proofs.Common.{◌∙◌, ℕ, List, [], ◌++◌, refl, ap}
use Rattle.std.specs.Prelude.{filter, not}
use Rattle.letter_acts.specs.Reading.{is_listed}
use Rattle.nested_itp.proofs.TripleSteps.ColumnLaws.{filtered_behind, filtered_all}
use Rattle.nested_itp.proofs.triple_steps.ties.without.Goals as goal

pub loop-i-init : goal.loop-i-init
loop-i-init c = ap (λ (l : List ℕ). l ++ filter (λ x. not (is_listed c.args.targets.now x)) c.args.columns.now) c.new-left.ensures.items

pub loop-i-preserved : goal.loop-i-preserved
loop-i-preserved c =
    filtered_behind (λ x. not (is_listed c.args.targets.now x)) c.args.columns.now c.loop-i.i _ [] c.loop-i.left.items c.add_if.new.columns.items _ c.loop-i-test.true refl
    (ap not (c.contains-is_listed.ensures ∙ c.in_ok-listed.ensures _)) c.in_ok-add_if.ensures c.loop-i.invariant

pub returns : goal.returns
returns c = filtered_all (λ x. not (is_listed c.args.targets.now x)) c.args.columns.now c.loop-i.i [] c.loop-i.left.items c.loop-i-test.false c.loop-i.invariant
