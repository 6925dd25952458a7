use Rattle.std.proofs.Common.{◌≡◌, ◌∙◌, ℕ, ◌<◌, ap, sym, subst, true, arith}
use Rattle.std.specs.Prelude.{Some, slice_get}
use Rattle.nwa_base.specs.Automata.{Automaton}
use Rattle.nwa_base.specs.Members.{Member}
use Rattle.letter_acts.specs.Kept.{Keeps}
use Rattle.letter_acts.specs.Invariant.{IsGraph}
use Rattle.triple_rows.specs.declared.triples.Scoped.{Scoped}
use Rattle.itp_automaton.proofs.BuiltLaws.{some_place, place_exists}
use Rattle.itp_automaton.proofs.assembling.start_of.Goals as goal

start_below : (m n k : Automaton) (s t : ℕ) → s ≡ m.start → t ≡ n.states → m ≡ k → n ≡ k → s < t → k.start < k.states
start_below m n k s t a b d e lt =
    let x : m.start ≡ k.start = ap (λ (y : Automaton). y.start) d in
    let z : n.states ≡ k.states = ap (λ (y : Automaton). y.states) e in
    omega arith

pub unreachable-requires : goal.unreachable-requires
unfolding Keeps
unreachable-requires c =
    let g = c.args.icfg.now in
    let k : IsGraph g = c.place_procs.ensures.valid in
    let lt = start_below c.nwa.result.now c.nwa-2.result.now g.automaton c.start.result c.states.result c.start.ensures c.states.ensures.value c.nwa.ensures.value c.nwa-2.ensures.value c.if-prove.false in
    some_place g k lt (ap (λ l. slice_get l 0) (sym c.place_procs.ensures.value) ∙ sym c.in_default.ensures.value)

pub unreachable-requires-in-None : goal.unreachable-requires-in-None
unfolding Keeps
unreachable-requires-in-None c =
    let g = c.args.icfg.now in
    let k : IsGraph g = c.place_procs.ensures.valid in
    let first : slice_get g.place_procs 0 ≡ Some c.in-Some.proc.now = ap (λ l. slice_get l 0) (sym c.place_procs.ensures.value) ∙ sym c.in-Some.ensures.value in
    let there = c.requires c.in-Some.proc.now true (place_exists g c.in-Some.proc.now k first) in
    let none = rw c.in-None.is at c.in_ok-q.ensures.number in
    none (subst (λ (s : Scoped). Member c.args.states.now s) (sym c.in_ok-truth.ensures) there)
