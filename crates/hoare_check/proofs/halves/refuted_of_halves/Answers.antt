use Rattle.hoare_check.proofs.JointLaws.{false_refutes, met_refuses, bare_refuses}
use Rattle.hoare_check.proofs.LeafLaws.{some_of}
use Rattle.hoare_check.proofs.halves.refuted_of_halves.Goals as goal

pub returns-in-Some : goal.returns-in-Some
returns-in-Some c = λ n p q h k.
    false_refutes n p q c.args.first.now c.args.second.now h k c.in-Some.place c.in_ok-leaf_of.field-0 (c.in-Some.ensures n p q h k) c.in_ok-leaf_of.ensures

pub returns-in-Some-2 : goal.returns-in-Some-2
returns-in-Some-2 c = λ n p q h k. some_of c.in_ok-refutation.field-0 c.in-Some-2.refutation _ c.in-Some-2.is c.in_ok-refutation.ensures n p q h k

pub returns-then-is_bare : goal.returns-then-is_bare
returns-then-is_bare c = λ n p q h k. bare_refuses n p q c.args.first.now c.args.second.now h k (c.is_bare.ensures c.if-is_bare.true) (k.is_open c.if-second.true)

pub returns-then-branch : goal.returns-then-branch
returns-then-branch c = λ n p q h k. met_refuses n p q c.args.first.now c.args.second.now h k (c.in_ok-refuse.ensures c.if-branch.true)
