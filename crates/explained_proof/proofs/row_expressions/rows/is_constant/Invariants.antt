use Rattle.std.proofs.Common.{◌≡◌, true, map, take}
use Rattle.std.specs.List.{list_all}
use Rattle.std.specs.Option.{option_map}
use Rattle.explained_proof.specs.RowExpressions.Cases as by
use Rattle.explained_proof.specs.RowExpressions.Rows as spec
use Rattle.explained_proof.proofs.row_expressions.rows.is_constant.Given as goal

abbrev pub invariant-loop-case : goal.invariant-loop-case
invariant-loop-case l =
    list_all (λ c. spec.is_equal_to l.value (option_map (spec.stands l.equal) (by.rest l.bound l.split.truths.items c))) (map (λ c. c.items) (take l.case-index l.cases.items)) ≡ true
