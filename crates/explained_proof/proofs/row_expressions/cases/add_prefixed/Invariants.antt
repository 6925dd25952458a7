use Rattle.std.proofs.Common.{◌≡◌, ◌∷◌, ◌++◌, map, take}
use Rattle.explained_proof.proofs.row_expressions.cases.add_prefixed.Given as goal

abbrev pub invariant-loop-case : goal.invariant-loop-case
invariant-loop-case l =
    map (λ c. c.items) l.all.items ≡ map (λ c. c.items) l.initial.all.items ++ map (λ c. l.first ∷ c) (map (λ c. c.items) (take l.case-index l.cases.items))
