use Rattle.std.proofs.Common.{subst}
use Rattle.int_decide.specs.declared.types.Uncut.{Uncut}
use Rattle.int_decide.specs.WithoutCuts.{IsUncutOf}
use Rattle.hoare_check.proofs.halves.decided.Goals as goal

pub returns-in-Refuted : goal.returns-in-Refuted
returns-in-Refuted c = subst (λ (x : Uncut). IsUncutOf c.args.columns c.args.system.now x) c.in-Refuted.is c.in_ok-refutation.ensures

pub returns-in_ok-add-in-Met : goal.returns-in_ok-add-in-Met
returns-in_ok-add-in-Met c = (subst (λ (x : Uncut). IsUncutOf c.args.columns c.args.system.now x) c.in-Met.is c.in_ok-refutation.ensures).1

pub returns-in-Unrefuted : goal.returns-in-Unrefuted
returns-in-Unrefuted c = subst (λ (x : Uncut). IsUncutOf c.args.columns c.args.system.now x) c.in-Unrefuted.is c.in_ok-refutation.ensures
