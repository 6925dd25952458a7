use Rattle.std.proofs.Common.{FitsSigned, rules, sym, subst}
use Rattle.std.specs.Int.{w128}
use Rattle.std.proofs.lemmas.Int.{to_z-of_z}
use Rattle.math_facts.specs.Fits.{Fits}
use Rattle.explained_proof.proofs.RowExpressions.SumLaws.{neg_fits}
use Rattle.explained_proof.proofs.fact_expressions.entry_rows.are_opposite.Goals as goal

pub overflow_sub-bound : goal.overflow_sub-bound
overflow_sub-bound c =
    let f : FitsSigned w128 c.bound-2.result = search rules in
    simp to_z-of_z (neg_fits c.bound-2.result (subst Fits (sym c.bound-2.ensures) c.terms-others.ensures.valid.bound_fits))
