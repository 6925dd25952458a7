use Rattle.std.proofs.Common.{subst}
use Rattle.letter_acts.specs.Invariant.{alphabet_of}
use Rattle.int_decide.specs.declared.types.Uncut.{Uncut}
use Rattle.int_decide.specs.Answers.{RefutesWithin}
use Rattle.int_decide.specs.WithoutCuts.{IsUncutOf}
use Rattle.hoare_check.proofs.UnrefutedLaws.{met_unrefuted, uncut_unrefuted}
use Rattle.hoare_check.proofs.proving.tried_at.Goals as goal

pub returns-then-is_met_by_one : goal.returns-then-is_met_by_one
returns-then-is_met_by_one c =
    let met = c.is_met_by_one.ensures c.if-is_met_by_one.true in
    met_unrefuted (alphabet_of c.args.icfg.now) c.args.triple.now c.args.system.now c.in-Some.columns c.in-Some.ensures c.requires.fits c.requires.system
    c.in-Some-measure.ensures.0 met.0 met.1

pub returns-in-Refuted : goal.returns-in-Refuted
returns-in-Refuted c =
    let found : RefutesWithin 0 c.args.system.now c.in-Refuted.refutation =
    subst (λ (x : Uncut). IsUncutOf c.in-Some.columns c.args.system.now x) c.in-Refuted.is c.in_ok-refutation.ensures in
    (record { fits = c.requires.fits; system = c.args.system.now; is_system = c.requires.system; refutes = found.refutes }, found.tree)

pub returns-in_ok-push-in-Met : goal.returns-in_ok-push-in-Met
returns-in_ok-push-in-Met c =
    let found = subst (λ (x : Uncut). IsUncutOf c.in-Some.columns c.args.system.now x) c.in-Met.is c.in_ok-refutation.ensures in
    uncut_unrefuted (alphabet_of c.args.icfg.now) c.args.triple.now c.args.system.now c.in-Some.columns c.in-Some.ensures c.requires.system found.1

pub returns-in-Unrefuted : goal.returns-in-Unrefuted
returns-in-Unrefuted c =
    let found = subst (λ (x : Uncut). IsUncutOf c.in-Some.columns c.args.system.now x) c.in-Unrefuted.is c.in_ok-refutation.ensures in
    uncut_unrefuted (alphabet_of c.args.icfg.now) c.args.triple.now c.args.system.now c.in-Some.columns c.in-Some.ensures c.requires.system found
