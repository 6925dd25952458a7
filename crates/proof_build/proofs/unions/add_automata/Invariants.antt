use Rattle.std.proofs.Common.{◌≡◌, ◌+◌, take, length}
use Rattle.std.specs.Prelude.{map}
use Rattle.proof_build.specs.Ties.Unions.{IsUnionOf}
use Rattle.proof_build.proofs.unions.add_automata.Given as goal

abbrev pub invariant-loop-automaton : goal.invariant-loop-automaton
invariant-loop-automaton l = record {
  union : IsUnionOf l.preds (map (λ c. c.now) (take l.automaton-index l.automata)) l.union;
  states : l.union.states ≡ 2 + length l.preds;
}
