-- The graph of a program.
use Rattle.std.specs.Prelude.{ℕ, suc, ◌+◌, List, [], ◌∷◌, ◌++◌, map, length, Option, Some}
use Rattle.std.specs.Option.{option_map}
use Rattle.boogie_tree.specs.declared.span.Span.{Span}
use Rattle.typed_tree.specs.TypedTree.{TypedProcedure, TypedProgram}
use Rattle.nwa_base.specs.Automata.{Automaton}
use Rattle.letter_acts.specs.declared.sites.Site.{Site}
use Rattle.letter_acts.specs.Invariant.{Graph, site_places}
use Rattle.boogie_run.specs.BoogiePoints.Actions as actions
use Rattle.boogie_run.specs.BoogiePoints.Actions.{Action, action_at}
use Rattle.boogie_run.specs.BoogiePoints.Starts.{point_of_call}
use Rattle.boogie_run.specs.BoogiePlaces.Places.{Place, program_places}
use Rattle.lowered_graph.specs.LoweredSteps.ProgramFrames.{frame_at}
use Rattle.lowered_graph.specs.Arcs.{place_number, first_error, error_place, return_place, program_arcs}
use Rattle.letter_acts.specs.LetterTable.Letters.{Lettered, lettered}

-- ---- assertions

-- the assertion at a place, with its procedure
abbrev pub site : TypedProgram → ℕ → ℕ → Span → ℕ × Site
site t n i at = (n, record { id = record { number = i; line = at.line }; place = error_place t i })

abbrev pub action_sites : TypedProgram → ℕ → Action → List (ℕ × Site)
action_sites t n (actions.Check i at e next) = site t n i at ∷ []
action_sites t n (actions.Demand i at e args next) = site t n i at ∷ []
action_sites t n action = []

-- those of several places in order
abbrev pub sites_of : TypedProgram → List Place → List (ℕ × Site)
sites_of t [] = []
sites_of t (p ∷ ps) = action_sites t p.proc (action_at t p.proc p.point) ++ sites_of t ps

abbrev pub program_sites : TypedProgram → List (ℕ × Site)
program_sites t = sites_of t (program_places t)

-- ---- procedures

-- the procedures in order, each with its number, from n on
abbrev pub counted_procs : ℕ → List TypedProcedure → List (ℕ × TypedProcedure)
counted_procs n [] = []
counted_procs n (q ∷ qs) = (n, q) ∷ counted_procs (suc n) qs

-- the place where the body of a procedure begins, and the one where it returns
abbrev pub entry_of : TypedProgram → ℕ × TypedProcedure → Option ℕ
entry_of t q = option_map (λ b. place_number t q.0 (point_of_call t q.0 (Some q.1))) q.1.body

abbrev pub exit_of : TypedProgram → ℕ × TypedProcedure → Option ℕ
exit_of t q = option_map (λ b. return_place t q.0) q.1.body

-- ---- the graph

-- Place 0 is the start, then come the places of the program, and then those where assertions fail.
abbrev pub place_owners : TypedProgram → List ℕ
place_owners t = t.entry ∷ (map (λ p. p.proc) (program_places t) ++ map (λ s. s.0) (program_sites t))

abbrev pub automaton_of : TypedProgram → Lettered → List Site → Automaton
automaton_of t d sites = record {
  states = first_error t + length sites;
  start = 0;
  finals = site_places sites;
  insides = d.insides;
  calls = d.calls;
  backs = d.backs;
}

-- The automaton of a program: its states are the places and its final states those where an assertion fails; its letters with their acts, and
-- of each procedure its frame, its name, and the places where it begins and returns.
abbrev pub lowered : TypedProgram → Graph
lowered t =
    let d : Lettered = lettered (program_arcs t) in
    let sites : List Site = map (λ s. s.1) (program_sites t) in
    let procs : List (ℕ × TypedProcedure) = counted_procs 0 t.procs in
    record {
      automaton = automaton_of t d sites;
      acts = map (λ a. a.act) d.acts;
      marks = map (λ a. a.coarse) d.acts;
      frames = map (λ q. frame_at t q.0) procs;
      names = map (λ q. q.name) t.procs;
      place_procs = place_owners t;
      entries = map (entry_of t) procs;
      exits = map (exit_of t) procs;
      sites = sites;
    }
