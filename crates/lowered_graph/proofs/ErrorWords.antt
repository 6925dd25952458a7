-- Runs of an automaton by positions, and ways of it by a stack, that end in one state.
use Rattle.std.proofs.Common.{◌≡◌, ℕ, zero, suc, List, [], ◌∷◌, length, Some, slice_get, refl}
use Rattle.std.proofs.lemmas.Option.{same_Some}
use Rattle.nwa_base.specs.declared.letters.Letter.{Letter}
use Rattle.letter_acts.specs.Feasible.{edges}
use Rattle.letter_acts.specs.Invariant.{Graph}
use Rattle.letter_acts.specs.Ways.{Steps, Leads, Goes, GoesAlong, GoesThrough}
use Rattle.letter_acts.proofs.WayLemmas.{leads_stack, leads_with, along_by_stack}
use Rattle.lowered_graph.specs.Laws.{ErrorWord}

through_to : {X : Type 0} (steps : Steps X) (w : List Letter) (before : List X) (x z : X) (more : List X) → GoesThrough steps before x w more → slice_get (x ∷ more) (length w) ≡ Some z →
    (after : List X) × Goes steps before x w after z
through_to steps [] before x z [] h e = (before, (refl, same_Some x z e))
through_to steps [] before x z (y ∷ more) h e = absurd h
through_to steps (a ∷ w) before x z [] h e = absurd h
through_to steps (a ∷ w) before x z (y ∷ more) h e =
    let f = leads_stack steps a.kind a before x y (λ stack. GoesThrough steps stack y w more) h in
    let r = through_to steps w f.0 y z more f.2 e in
    (r.0, (y, leads_with steps a.kind a before x y f.0 (λ stack. Goes steps stack y w r.0 z) f.1 r.1))

through_from : {X : Type 0} (steps : Steps X) (w : List Letter) (before after : List X) (x z : X) → Goes steps before x w after z →
    (more : List X) × GoesThrough steps before x w more × (slice_get (x ∷ more) (length w) ≡ Some z)
through_from steps [] before after x z h = ([], tt, λ i. Some (h.1 i))
through_from steps (a ∷ w) before after x z h =
    let f = leads_stack steps a.kind a before x h.0 (λ stack. Goes steps stack h.0 w after z) h.1 in
    let r = through_from steps w f.0 after h.0 z f.2 in
    (h.0 ∷ r.0, leads_with steps a.kind a before x h.0 f.0 (λ stack. GoesThrough steps stack h.0 w r.0) f.1 r.1, r.2)

-- a way of an automaton is a run of it, by positions
pub way_runs : {X : Type 0} (steps : Steps X) (w : List Letter) (after : List X) (x z : X) → Goes steps [] x w after z →
    (more : List X) × GoesAlong steps w (x ∷ more) × (slice_get (x ∷ more) (length w) ≡ Some z)
way_runs steps w after x z h =
    let r = through_from steps w [] after x z h in
    (r.0, (along_by_stack steps w x r.0).1 r.1, r.2)

-- the run of an error word is a way of the automaton to where the assertion fails
pub error_way : (g : Graph) (i : ℕ) → (e : ErrorWord g i) → (open_calls : List ℕ) × Goes (edges g.automaton) [] g.automaton.start e.word open_calls e.site.place
error_way g i e = through_to (edges g.automaton) e.word [] g.automaton.start e.site.place e.run ((along_by_stack (edges g.automaton) e.word g.automaton.start e.run).0 e.goes) e.ends
