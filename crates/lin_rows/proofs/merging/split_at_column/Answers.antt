use Rattle.std.proofs.Common.{rules, pos, get_or, FitsSigned, arith}
use Rattle.std.specs.Int.{w128}
use Rattle.std.proofs.lemmas.Int.{to_z-of_z}
use Rattle.lin_rows.proofs.MergingLemmas.{coefficient_found, coefficient_missed}
use Rattle.lin_rows.proofs.merging.split_at_column.Goals as goal

pub returns-then-first-column-clause-value : goal.returns-then-first-column-clause-value
returns-then-first-column-clause-value c =
    let f : FitsSigned w128 (get_or c.args.terms.now 0 (0, pos 0)).1 = search rules in
    simp to_z-of_z (coefficient_found c.args.column c.args.terms.now c.requires (omega arith) c.if-first-column.true)

pub returns-else-first-column-clause-value : goal.returns-else-first-column-clause-value
returns-else-first-column-clause-value c =
    coefficient_missed c.args.column c.args.terms.now c.requires c.if-first-column.false
