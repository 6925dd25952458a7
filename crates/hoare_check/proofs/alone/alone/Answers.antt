use Rattle.std.proofs.Common.{ℕ, subst}
use Rattle.int_decide.specs.WithoutCuts.{IsNotRefuted}
use Rattle.hoare_check.specs.Halves.{MayDecide}
use Rattle.hoare_check.proofs.JointLaws.{met_alone}
use Rattle.hoare_check.proofs.alone.alone.Goals as goal

pub returns-then-branch : goal.returns-then-branch
returns-then-branch c = λ n p h. let m = c.in_ok-is_met_alone.ensures c.if-branch.true in c.opened.ensures n p h (met_alone n p c.args.half h m.0 m.1)

pub returns-in-None : goal.returns-in-None
returns-in-None c = λ n p h. c.opened-in-None.ensures n p h
    (subst (λ (m : ℕ). IsNotRefuted m c.args.half.system) h.columns (subst (MayDecide c.args.half.columns c.args.half.system) c.in-None.is c.in_ok-refutation.ensures))
