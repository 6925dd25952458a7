use Rattle.std.proofs.Common.{◌≡◌, ◌∙◌, ◌<◌, ℕ, List, length, get_or, sym, ap, subst}
use Rattle.nwa_base.specs.Automata.{Automaton, IsAutomaton}
use Rattle.letter_acts.specs.Acts.{frame_of}
use Rattle.letter_acts.specs.Invariant.{alphabet_of}
use Rattle.path_rows.proofs.MakingLemmas.{start_within, start_frame_is}
use Rattle.path_rows.proofs.making.frame_at_start.Goals as goal

pub bounds-procs-start : goal.bounds-procs-start
bounds-procs-start c =
    let g = c.args.icfg.now in
    let m : IsAutomaton g.automaton = subst IsAutomaton c.nwa-nwa.ensures.value c.states-states.ensures.valid in
    let s : c.start-start.result ≡ g.automaton.start = c.start-start.ensures ∙ ap (λ (a : Automaton). a.start) c.nwa-nwa.ensures.value in
    subst (λ (n : ℕ). n < length c.place_procs-procs.result.now) (sym s)
    (subst (λ (l : List ℕ). g.automaton.start < length l) (sym c.place_procs-procs.ensures.value) (start_within g c.nwa-nwa.ensures.valid m))

pub returns-clause-value : goal.returns-clause-value
returns-clause-value c =
    let g = c.args.icfg.now in
    let s : c.start-start.result ≡ g.automaton.start = c.start-start.ensures ∙ ap (λ (a : Automaton). a.start) c.nwa-nwa.ensures.value in
    start_frame_is g c.columns.result.now
    (c.columns.ensures.value ∙ ap (λ (n : ℕ). frame_of (alphabet_of g) (get_or c.place_procs-procs.result.now n 0)) s ∙
    ap (λ (l : List ℕ). frame_of (alphabet_of g) (get_or l g.automaton.start 0)) c.place_procs-procs.ensures.value)

pub returns-clause-automaton : goal.returns-clause-automaton
returns-clause-automaton c = subst IsAutomaton c.nwa-nwa.ensures.value c.states-states.ensures.valid
