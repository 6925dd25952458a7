use Rattle.std.proofs.Common.{rules, ◌≡◌, ◌+◌, [], ◌∷◌, ◌++◌, drop, refl, subst, sym, FitsSigned}
use Rattle.std.specs.Int.{w128}
use Rattle.std.specs.List.{AllByRecursion}
use Rattle.std.proofs.lemmas.Int.{to_z-of_z}
use Rattle.math_facts.specs.Fits.{Fits}
use Rattle.lin_rows.specs.Points.{point_of}
use Rattle.path_rows.specs.Solutions.{read}
use Rattle.trace_replay.proofs.ToldChoices.Steps.{all_snoc}
use Rattle.trace_replay.proofs.ToldChoices.Turns.{turn}
use Rattle.trace_replay.proofs.LastTurns.{last_turn}
use Rattle.trace_replay.proofs.told_choices.values.values_of.Goals as goal

pub loop-column-preserved : goal.loop-column-preserved
loop-column-preserved c =
    let f : FitsSigned w128 c.value_at.result = search rules in
    let p : c.push.new.self.items ≡ c.loop-column.values.items ++ c.value_at.result ∷ [] = simp to_z-of_z at c.in_ok-push.ensures.items in
    record {
      value =
          turn (read (point_of c.args.point.now)) c.args.columns.now c.loop-column.column-index 0 c.loop-column.values.items c.push.new.self.items
          (read (point_of c.args.point.now) c.args.columns.now) (c.value_at.result ∷ []) c.loop-column-test.true
          (λ j. sym c.value_at.ensures.value j ∷ read (point_of c.args.point.now) (drop (c.loop-column.column-index + 1) c.args.columns.now)) p c.loop-column.invariant.value;
      fits = λ a. subst (AllByRecursion Fits) (sym p) (all_snoc Fits c.loop-column.values.items c.value_at.result (c.loop-column.invariant.fits a) (c.value_at.ensures.fits a));
    }

pub loop-column-init : goal.loop-column-init
loop-column-init c = record {
  value = rw c.in_ok-values.ensures.items refl;
  fits = λ a. rw c.in_ok-values.ensures.items tt;
}

pub returns-clause-value : goal.returns-clause-value
returns-clause-value c =
    last_turn (read (point_of c.args.point.now)) c.args.columns.now c.loop-column.column-index c.loop-column.values.items (read (point_of c.args.point.now) c.args.columns.now) refl
    c.loop-column-test.false c.loop-column.invariant.value

pub returns-clause-fits : goal.returns-clause-fits
returns-clause-fits c = c.loop-column.invariant.fits
