use Rattle.std.proofs.Common.{◌≡◌, ◌∙◌, ℕ, ◌+◌, arith, [], ◌∷◌, ◌++◌, sym, ap}
use Rattle.std.proofs.lemmas.List.{map-append}
use Rattle.std.proofs.Common.{rules}
use Rattle.std.specs.Int.{w128}
use mir.Val.{SFits}
use Rattle.std.proofs.lemmas.Int.{to_z-of_z}
use Rattle.math_facts.specs.Fits.{Fits}
use Rattle.lin_rows.specs.Points.{point_of}
use Rattle.path_rows.specs.Solutions.{read}
use Rattle.letter_acts.specs.FrameRows.Rows.{columns_from}
use Rattle.std.specs.List.{AllByRecursion}
use Rattle.std.proofs.Common.{subst}
use Rattle.trace_replay.proofs.ToldChoices.Steps.{columns_more, all_snoc}
use Rattle.trace_replay.proofs.told_choices.values.values_from.Goals as goal

pub loop-i-preserved : goal.loop-i-preserved
loop-i-preserved c =
    let fits : SFits w128 c.value_at.result = search rules in
    let items : c.push.new.self.items ≡ c.loop-i.values.items ++ c.value_at.result ∷ [] = rw to_z-of_z at c.in_ok-push.ensures.items in
    record {
      value = items ∙ (λ i. c.loop-i.invariant.value i ++ c.value_at.ensures.value i ∷ [])
          ∙ sym (ap (read (point_of c.args.point.now)) (columns_more c.args.first c.loop-i.i) ∙ map-append (point_of c.args.point.now) (columns_from c.args.first c.loop-i.i) ((c.args.first + c.loop-i.i) ∷ []));
      fits = λ h. subst (AllByRecursion Fits) (sym items) (all_snoc Fits c.loop-i.values.items c.value_at.result (c.loop-i.invariant.fits h) (c.value_at.ensures.fits h));
    }

pub loop-i-init : goal.loop-i-init
loop-i-init c = record {
  value = c.in_ok-values.ensures.items;
  fits = λ a. rw c.in_ok-values.ensures.items tt;
}

pub returns-clause-value : goal.returns-clause-value
returns-clause-value c =
    let e : c.loop-i.i ≡ c.args.count = omega (arith, c.loop-i-test.false, c.loop-i.auto.i-end) in
    c.loop-i.invariant.value ∙ ap (λ (n : ℕ). read (point_of c.args.point.now) (columns_from c.args.first n)) e

pub returns-clause-fits : goal.returns-clause-fits
returns-clause-fits c = c.loop-i.invariant.fits
