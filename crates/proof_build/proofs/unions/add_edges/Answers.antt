use Rattle.std.proofs.Common.{◌≡◌, ◌<◌, ℕ, List, sym, subst}
use Rattle.std.specs.List.{AllByRecursion}
use Rattle.nwa_base.specs.declared.letters.Letter.{Letter}
use Rattle.nwa_base.specs.declared.letters.Kind.TheVariants.{Inside, Call, Back}
use Rattle.nwa_base.specs.Automata.{Automaton, IsEdge, IsBackEdge}
use Rattle.proof_build.specs.Numbering.{number_at}
use Rattle.proof_build.proofs.ListLaws.{all_mapped}
use Rattle.proof_build.proofs.EdgeLaws.{edges_added}
use Rattle.proof_build.proofs.unions.add_edges.Goals as goal

pub returns : goal.returns
returns c =
    edges_added (number_at c.args.numbers.now) c.args.automaton.now c.args.union.now c.add_insides.new.union c.add_calls.new.union c.add_backs.new.union
    c.insides.result.now c.calls.result.now c.backs.result.now c.add_backs.result c.insides.ensures c.calls.ensures c.backs.ensures
    c.in_ok-add_insides.ensures c.in_ok-add_calls.ensures c.add_backs.ensures

pub add_insides-requires-clause-within : goal.add_insides-requires-clause-within
add_insides-requires-clause-within c = c.requires

pub add_calls-requires-clause-within : goal.add_calls-requires-clause-within
add_calls-requires-clause-within c = λ q k e. subst (λ (m : Automaton). k < m.states) (sym c.in_ok-add_insides.ensures) (c.requires q k e)

pub add_backs-requires-clause-within : goal.add_backs-requires-clause-within
add_backs-requires-clause-within c = λ q k e.
    subst (λ (m : Automaton). k < m.states) (sym c.in_ok-add_calls.ensures) (subst (λ (m : Automaton). k < m.states) (sym c.in_ok-add_insides.ensures) (c.requires q k e))

pub add_insides-requires-clause-kinds : goal.add_insides-requires-clause-kinds
add_insides-requires-clause-kinds c =
    subst (λ (l : List (ℕ × Letter × ℕ)). AllByRecursion (λ e. e.1.kind ≡ Inside) l) (sym c.insides.ensures)
    (all_mapped (IsEdge c.args.automaton.now.states Inside) (λ e. e.1.kind ≡ Inside) c.args.automaton.now.insides (λ e i. i.letter) c.states.ensures.valid.insides)

pub add_calls-requires-clause-kinds : goal.add_calls-requires-clause-kinds
add_calls-requires-clause-kinds c =
    subst (λ (l : List (ℕ × Letter × ℕ)). AllByRecursion (λ e. e.1.kind ≡ Call) l) (sym c.calls.ensures)
    (all_mapped (IsEdge c.args.automaton.now.states Call) (λ e. e.1.kind ≡ Call) c.args.automaton.now.calls (λ e i. i.letter) c.states.ensures.valid.calls)

pub add_backs-requires-clause-kinds : goal.add_backs-requires-clause-kinds
add_backs-requires-clause-kinds c =
    subst (λ (l : List (ℕ × ℕ × Letter × ℕ)). AllByRecursion (λ e. e.2.kind ≡ Back) l) (sym c.backs.ensures)
    (all_mapped (IsBackEdge c.args.automaton.now.states) (λ e. e.2.kind ≡ Back) c.args.automaton.now.backs (λ e i. i.letter) c.states.ensures.valid.backs)
