use Rattle.std.proofs.Common.{◌≡◌, ◌∙◌, ℕ, ◌<◌, List, Bor, map, take, Option, Some, sym, subst, ap}
use Rattle.nwa_base.specs.Automata.{Automaton}
use Rattle.triple_rows.specs.declared.triples.Scoped.{Scoped}
use Rattle.itp_automaton.specs.Certified.{Certificate}
use Rattle.proof_build.specs.Numbering.{number_at, AreNumbers}
use Rattle.proof_build.specs.Ties.Unions.{with_edges, IsUnionOf}
use Rattle.proof_build.proofs.ListLaws.{images_next, images_end}
use Rattle.proof_build.proofs.UnionLaws.{union_more}
use Rattle.proof_build.proofs.unions.add_automata.Goals as goal

pub add_edges-requires : goal.add_edges-requires
add_edges-requires c = λ q k e.
    subst (λ (n : ℕ). k < n) (sym c.loop-automaton.invariant.states)
    (c.in_ok-numbers.ensures.within q k (subst (λ (ns : List (Option ℕ)). number_at ns q ≡ Some k) c.deref.ensures.value e))

pub loop-automaton-preserved : goal.loop-automaton-preserved
loop-automaton-preserved c = record {
  union = subst (λ (cs : List Certificate). IsUnionOf c.args.preds.now cs c.add_edges.new.union)
      (sym (images_next (λ (r : Bor Certificate). r.now) c.args.automata.now c.loop-automaton.automaton-index c.automaton-item.result c.automaton-item.result c.loop-automaton-test.true c.automaton-item.is))
      (union_more c.args.preds.now (map (λ (r : Bor Certificate). r.now) (take c.loop-automaton.automaton-index c.args.automata.now)) c.automaton-item.result.now (number_at c.in_ok-numbers.numbers.items)
      c.loop-automaton.union (subst (λ (ss : List Scoped). AreNumbers c.args.preds.now ss (number_at c.in_ok-numbers.numbers.items)) c.preds.ensures.value c.in_ok-numbers.ensures.numbers)
      c.add_edges.new.union c.loop-automaton.invariant.union
      (c.in_ok-add_edges.ensures ∙ (λ j. with_edges (number_at (c.deref.ensures.value j)) (c.nwa.ensures.value j) c.loop-automaton.union)));
  states = ap (λ (m : Automaton). m.states) c.in_ok-add_edges.ensures ∙ c.loop-automaton.invariant.states;
}

pub returns : goal.returns
returns c =
    subst (λ (cs : List Certificate). IsUnionOf c.args.preds.now cs c.loop-automaton.union)
    (images_end (λ (r : Bor Certificate). r.now) c.args.automata.now c.loop-automaton.automaton-index c.loop-automaton-test.false) c.loop-automaton.invariant.union
