-- Automata with one state more.
use Rattle.std.proofs.Common.{◌<◌, ◌+◌, ℕ, List, [], ◌∷◌, arith}
use Rattle.std.specs.List.{AllByRecursion}
use Rattle.nwa_base.specs.declared.letters.Kind.{Kind}
use Rattle.nwa_base.specs.declared.letters.Kind.TheVariants.{Inside, Call}
use Rattle.nwa_base.specs.declared.letters.Letter.{Letter}
use Rattle.nwa_base.specs.Automata.{Automaton, IsAutomaton, IsEdge, IsBackEdge}

all_goes : {X : Type 0} (P Q : X → Type 0) (xs : List X) → ((x : X) → P x → Q x) → AllByRecursion P xs → AllByRecursion Q xs
all_goes P Q [] f h = h
all_goes P Q (x ∷ xs) f h = (f x h.0, all_goes P Q xs f h.1)

edge_stays : (n : ℕ) (kind : Kind) (e : ℕ × Letter × ℕ) → IsEdge n kind e → IsEdge (n + 1) kind e
edge_stays n kind e h =
    let i = h.«from» in
    let j = h.to in
    record { «from» = omega arith; to = omega arith; letter = h.letter }

back_edge_stays : (n : ℕ) (e : ℕ × ℕ × Letter × ℕ) → IsBackEdge n e → IsBackEdge (n + 1) e
back_edge_stays n e h =
    let i = h.«from» in
    let j = h.before in
    let k = h.to in
    record { «from» = omega arith; before = omega arith; to = omega arith; letter = h.letter }

-- one state more
pub one_more : (m : Automaton) → IsAutomaton m → IsAutomaton (record m { states = m.states + 1 })
one_more m h =
    let s = h.start in
    record {
      start = omega arith;
      finals = all_goes (λ q. q < m.states) (λ q. q < m.states + 1) m.finals (λ q l. omega arith) h.finals;
      insides = all_goes (IsEdge m.states Inside) (IsEdge (m.states + 1) Inside) m.insides (edge_stays m.states Inside) h.insides;
      calls = all_goes (IsEdge m.states Call) (IsEdge (m.states + 1) Call) m.calls (edge_stays m.states Call) h.calls;
      backs = all_goes (IsBackEdge m.states) (IsBackEdge (m.states + 1)) m.backs (back_edge_stays m.states) h.backs;
    }
