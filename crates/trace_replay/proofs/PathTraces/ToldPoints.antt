-- A point by which each letter leads tells a trace along each run.
use Rattle.std.proofs.Common.{◌≡◌, ℕ, suc, ℤ, List, [], ◌∷◌, map, Option, Some, refl, sym, ap, subst}
use Rattle.std.specs.Prelude.{slice_get}
use Rattle.nwa_base.specs.declared.letters.Kind.{Kind}
use Rattle.nwa_base.specs.declared.letters.Kind.TheVariants as kinds
use Rattle.nwa_base.specs.declared.letters.Letter.{Letter}
use Rattle.nwa_base.specs.Members.{Member}
use Rattle.nwa_base.specs.Acceptance.{Follows}
use Rattle.nwa_base.specs.Runs.{IsAcceptingRun}
use Rattle.nwa_base.proofs.RunLemmas.{RunOn, follows_stack, steps_run}
use Rattle.letter_acts.specs.declared.sites.Site.{Site}
use Rattle.letter_acts.specs.Acts.{PlainAct, call_act, back_act, Alphabet, frame_of, act_of}
use Rattle.letter_acts.specs.Meaning.{BackLeads}
use Rattle.letter_acts.specs.Ways.{Leads, GoesThrough}
use Rattle.letter_acts.specs.Invariant.{Graph, IsGraph, alphabet_of}
use Rattle.letter_acts.proofs.WayLemmas.{leads_with, along_by_stack}
use Rattle.path_rows.specs.Versions.{PathStage, act_part, part_of, return_part}
use Rattle.path_rows.specs.Paths.{start_frame, first_stage, path_along}
use Rattle.path_rows.specs.Solutions.{read, InsideObeyed, CallObeyed, ReturnObeyed, ActObeyed, ObeyedAlong, Solves}
use Rattle.path_rows.proofs.EdgeLemmas.{inside_acts, call_acts, back_acts}
use Rattle.lowered_graph.specs.LoweredChoices.Traces.{TracePosition, told_steps, last_place, IsTrace}
use Rattle.trace_replay.specs.PathTraces.Laws.{PositionsAreRead}
use Rattle.trace_replay.specs.PathTraces.Solved.{helper_columns, solved_position, positions_from, first_position, next_positions, EndsIn}

-- the positions before the open calls have the values that the point has at the versions there
abbrev SavedAt : (ℕ → ℤ) → List TracePosition → List (List ℕ) → Type 0
SavedAt point [] [] = Unit {0}
SavedAt point [] (v ∷ saved) = ⊥
SavedAt point (b ∷ before) [] = ⊥
SavedAt point (b ∷ before) (v ∷ saved) = (b.values ≡ read point v) × SavedAt point before saved

abbrev places_of : List TracePosition → List ℕ
places_of before = map (λ b. b.place) before

-- one letter: it leads to a position, and to these positions before the calls that are then open
record LetterTold (g : Graph) (point : ℕ → ℤ) (kind : Kind) (a : Letter) (before : List TracePosition) (x y : TracePosition) (saved : List (List ℕ)) (states : List ℕ) : Type 0 where
  after : List TracePosition
  led : Leads (told_steps g) kind a before x y (λ s. s ≡ after)
  places : states ≡ places_of after
  saved_at : SavedAt point after saved

-- the position behind a letter with this act
abbrev behind : (ℕ → ℤ) → Alphabet → ℕ → PathStage → Option PlainAct → TracePosition
behind point al e p o = solved_position point e (read point (helper_columns o p.made)) (act_part al o p).after

inside_told : (g : Graph) → IsGraph g → (point : ℕ → ℤ) (a : Letter) (before : List TracePosition) (q e : ℕ) (hs : List ℤ) (p : PathStage) (states : List ℕ) → SavedAt point before p.saved →
    Follows g.automaton kinds.Inside a (places_of before) q e (λ s. s ≡ states) → ActObeyed point (alphabet_of g) (act_of (alphabet_of g) a) p →
    LetterTold g point kinds.Inside a before (solved_position point q hs p) (behind point (alphabet_of g) e p (act_of (alphabet_of g) a)) (part_of (alphabet_of g) a p).after.saved states
inside_told g ok point a before q e hs p states saved h o =
    let al : Alphabet = alphabet_of g in
    let k = inside_acts g ok q e a h.0 in
    let obeyed : InsideObeyed point (frame_of al k.known.proc) k.known.written k.known.helpers k.known.rows p = subst (λ (o : Option PlainAct). ActObeyed point al o p) k.act_is o in
    subst (λ (o : Option PlainAct). LetterTold g point kinds.Inside a before (solved_position point q hs p) (behind point al e p o) (act_part al o p).after.saved states) (sym k.act_is) (record {
      after = before;
      led = (
        (
          h.0,
          record {
            proc = k.known.proc;
            written = k.known.written;
            helpers = k.known.helpers;
            rows = k.known.rows;
            act = k.act_is;
            leads = obeyed.leads;
            helped = obeyed.helped;
          },
        ),
        refl,
      );
      places = sym h.1;
      saved_at = saved;
    })

call_told : (g : Graph) → IsGraph g → (point : ℕ → ℤ) (a : Letter) (before : List TracePosition) (q e : ℕ) (hs : List ℤ) (p : PathStage) (states : List ℕ) → SavedAt point before p.saved →
    Follows g.automaton kinds.Call a (places_of before) q e (λ s. s ≡ states) → ActObeyed point (alphabet_of g) (act_of (alphabet_of g) a) p →
    LetterTold g point kinds.Call a before (solved_position point q hs p) (behind point (alphabet_of g) e p (act_of (alphabet_of g) a)) (part_of (alphabet_of g) a p).after.saved states
call_told g ok point a before q e hs p states saved h o =
    let al : Alphabet = alphabet_of g in
    let k = call_acts g ok q e a h.0 in
    let obeyed : CallObeyed point (frame_of al k.known.caller) (frame_of al k.known.callee) k.known.helpers k.known.rows p = subst (λ (o : Option PlainAct). ActObeyed point al o p) k.act_is o in
    subst (λ (o : Option PlainAct). LetterTold g point kinds.Call a before (solved_position point q hs p) (behind point al e p o) (act_part al o p).after.saved states) (sym k.act_is) (record {
      after = solved_position point q hs p ∷ before;
      led = (
        (
          h.0,
          record {
            caller = k.known.caller;
            callee = k.known.callee;
            helpers = k.known.helpers;
            rows = k.known.rows;
            act = k.act_is;
            leads = obeyed.leads;
          },
        ),
        refl,
      );
      places = sym h.1;
      saved_at = (refl, saved);
    })

-- a return, by the versions before the innermost call
back_at : (g : Graph) → IsGraph g → (point : ℕ → ℤ) (a : Letter) (b : TracePosition) (before : List TracePosition) (q e : ℕ) (hs : List ℤ) (made : ℕ) (here : List ℕ) (saved : List (List ℕ)) (states : List ℕ) → a.kind ≡ kinds.Back →
    SavedAt point (b ∷ before) saved → Follows g.automaton kinds.Back a (places_of (b ∷ before)) q e (λ s. s ≡ states) →
    ActObeyed point (alphabet_of g) (act_of (alphabet_of g) a) (record { made = made; here = here; saved = saved }) →
    LetterTold g point kinds.Back a (b ∷ before) (solved_position point q hs (record { made = made; here = here; saved = saved }))
    (behind point (alphabet_of g) e (record { made = made; here = here; saved = saved }) (act_of (alphabet_of g) a)) (part_of (alphabet_of g) a (record { made = made; here = here; saved = saved })).after.saved states
back_at g ok point a b before q e hs made here [] states kind at h o = absurd at
back_at g ok point a b before q e hs made here (v ∷ saved) states kind at h o =
    let al : Alphabet = alphabet_of g in
    let p : PathStage = record { made = made; here = here; saved = v ∷ saved } in
    let k = back_acts g ok q b.place e a kind h.0 in
    let call : PlainAct = call_act k.known.caller k.known.callee k.known.helpers k.known.rows in
    let returned : ReturnObeyed point al k.known.targets (slice_get al.acts a.call) p = subst (λ (o : Option PlainAct). ActObeyed point al o p) k.act_is o in
    let obeyed : ReturnObeyed point al k.known.targets (Some call) p = subst (λ (o : Option PlainAct). ReturnObeyed point al k.known.targets o p) k.known.call returned in
    let one : LetterTold g point kinds.Back a (b ∷ before) (solved_position point q hs p) (solved_position point e [] (return_part al k.known.targets (Some call) p).after) (return_part al k.known.targets (Some call) p).after.saved states =
    record {
      after = before;
      led = (
        (
          h.0,
          record {
            call = a.call;
            targets = k.known.targets;
            caller = k.known.caller;
            callee = k.known.callee;
            helpers = k.known.helpers;
            rows = k.known.rows;
            act = k.act_is;
            called = k.known.call;
            leads = subst (λ (s : List ℤ). BackLeads (frame_of al k.known.caller) (frame_of al k.known.callee) k.known.helpers k.known.rows k.known.targets (read point here) s (read point (return_part al k.known.targets (Some call) p).after.here)) (sym at.0) obeyed;
          },
        ),
        refl,
      );
      places = sym h.1;
      saved_at = at.1;
    } in
    let by_call : LetterTold g point kinds.Back a (b ∷ before) (solved_position point q hs p) (behind point al e p (Some (back_act a.call k.known.targets))) (act_part al (Some (back_act a.call k.known.targets)) p).after.saved states =
    subst (λ (o : Option PlainAct). LetterTold g point kinds.Back a (b ∷ before) (solved_position point q hs p) (solved_position point e [] (return_part al k.known.targets o p).after) (return_part al k.known.targets o p).after.saved states) (sym k.known.call) one in
    subst (λ (o : Option PlainAct). LetterTold g point kinds.Back a (b ∷ before) (solved_position point q hs p) (behind point al e p o) (act_part al o p).after.saved states) (sym k.act_is) by_call

letter_told : (g : Graph) → IsGraph g → (point : ℕ → ℤ) (kind : Kind) (a : Letter) (before : List TracePosition) (q e : ℕ) (hs : List ℤ) (p : PathStage) (states : List ℕ) → a.kind ≡ kind → SavedAt point before p.saved →
    Follows g.automaton kind a (places_of before) q e (λ s. s ≡ states) → ActObeyed point (alphabet_of g) (act_of (alphabet_of g) a) p →
    LetterTold g point kind a before (solved_position point q hs p) (behind point (alphabet_of g) e p (act_of (alphabet_of g) a)) (part_of (alphabet_of g) a p).after.saved states
letter_told g ok point kinds.Inside a before q e hs p states kind saved h o = inside_told g ok point a before q e hs p states saved h o
letter_told g ok point kinds.Call a before q e hs p states kind saved h o = call_told g ok point a before q e hs p states saved h o
letter_told g ok point kinds.Back a [] q e hs p states kind saved h o = absurd h
letter_told g ok point kinds.Back a (b ∷ before) q e hs p states kind saved h o = back_at g ok point a b before q e hs p.made p.here p.saved states kind saved h o

-- all letters
told_along : (g : Graph) → IsGraph g → (point : ℕ → ℤ) (w : List Letter) (before : List TracePosition) (q : ℕ) (hs : List ℤ) (p : PathStage) (states : List ℕ) → SavedAt point before p.saved → RunOn g.automaton (places_of before) q w states →
    ObeyedAlong point (alphabet_of g) p w → GoesThrough (told_steps g) before (solved_position point q hs p) w (positions_from point (alphabet_of g) p w states)
told_along g ok point [] before q hs p [] saved h o = tt
told_along g ok point [] before q hs p (e ∷ states) saved h o = absurd h
told_along g ok point (a ∷ w) before q hs p [] saved h o = absurd h
told_along g ok point (a ∷ w) before q hs p (e ∷ states) saved h o =
    let al : Alphabet = alphabet_of g in
    let f = follows_stack g.automaton a.kind a (places_of before) q e (λ stack. RunOn g.automaton stack e w states) h in
    let helpers : List ℤ = read point (helper_columns (act_of al a) p.made) in
    let next : PathStage = (part_of al a p).after in
    let y : TracePosition = solved_position point e helpers next in
    let one : LetterTold g point a.kind a before (solved_position point q hs p) y next.saved f.0 = letter_told g ok point a.kind a before q e hs p f.0 refl saved f.1 o.0 in
    let rest : GoesThrough (told_steps g) one.after y w (positions_from point al next w states) =
    told_along g ok point w one.after e helpers next states one.saved_at (subst (λ (s : List ℕ). RunOn g.automaton s e w states) one.places f.2) o.1 in
    leads_with (told_steps g) a.kind a before (solved_position point q hs p) y one.after (λ stack. GoesThrough (told_steps g) stack y w (positions_from point al next w states)) one.led rest

-- the last position is in the last state
last_told : (g : Graph) (point : ℕ → ℤ) (w : List Letter) (before : List ℕ) (q : ℕ) (p : PathStage) (states : List ℕ) (e : ℕ) → RunOn g.automaton before q w states → EndsIn e (q ∷ states) →
    last_place q (positions_from point (alphabet_of g) p w states) ≡ e
last_told g point [] before q p [] e h ends = ends
last_told g point [] before q p (r ∷ states) e h ends = absurd h
last_told g point (a ∷ w) before q p [] e h ends = absurd h
last_told g point (a ∷ w) before q p (r ∷ states) e h ends =
    let f = follows_stack g.automaton a.kind a before q r (λ stack. RunOn g.automaton stack r w states) h in
    last_told g point w f.0 r (part_of (alphabet_of g) a p).after states e f.2 ends

pub solved_trace : (g : Graph) (w : List Letter) (point : ℕ → ℤ) (states : List ℕ) (s : Site) → IsGraph g → IsAcceptingRun g.automaton w states → Solves point g w → Member g.sites s → EndsIn s.place states →
    IsTrace g s.id.number w (first_position point g) (next_positions point g w states)
solved_trace g w point [] s ok r solves m ends = absurd ends
solved_trace g w point (q ∷ states) s ok r solves m ends =
    let p : PathStage = first_stage (start_frame g) in
    let on : RunOn g.automaton [] q w states = steps_run g.automaton (q ∷ states) w [] [] q states refl refl r.is_run.steps in
    let same : q ≡ g.automaton.start = r.is_run.start in
    let run : RunOn g.automaton [] g.automaton.start w states = subst (λ (n : ℕ). RunOn g.automaton [] n w states) same on in
    let ends_so : EndsIn s.place (g.automaton.start ∷ states) = subst (λ (n : ℕ). EndsIn s.place (n ∷ states)) same ends in
    record {
      start = refl;
      along = (along_by_stack (told_steps g) w (first_position point g) (positions_from point (alphabet_of g) p w states)).1 (told_along g ok point w [] g.automaton.start [] p states tt run solves.along);
      site = s;
      is_site = m;
      number = refl;
      ends = last_told g point w [] g.automaton.start p states s.place run ends_so;
    }

-- ---- values

values_read : (g : Graph) (point : ℕ → ℤ) (w : List Letter) (before : List ℕ) (q n : ℕ) (hs : List ℤ) (p : PathStage) (states : List ℕ) → RunOn g.automaton before q w states →
    map (λ x. x.values) (solved_position point q hs p ∷ positions_from point (alphabet_of g) p w states) ≡ map (read point) (path_along (alphabet_of g) n p w).states
values_read g point [] before q n hs p [] h = refl
values_read g point [] before q n hs p (e ∷ states) h = absurd h
values_read g point (a ∷ w) before q n hs p [] h = absurd h
values_read g point (a ∷ w) before q n hs p (e ∷ states) h =
    let al : Alphabet = alphabet_of g in
    let f = follows_stack g.automaton a.kind a before q e (λ stack. RunOn g.automaton stack e w states) h in
    let helpers : List ℤ = read point (helper_columns (act_of al a) p.made) in
    ap (λ (vs : List (List ℤ)). read point p.here ∷ vs) (values_read g point w f.0 e (suc n) helpers (part_of al a p).after states f.2)

pub positions_read : PositionsAreRead
positions_read g w point [] r = absurd r.is_run.start
positions_read g w point (q ∷ states) r =
    let on : RunOn g.automaton [] q w states = steps_run g.automaton (q ∷ states) w [] [] q states refl refl r.is_run.steps in
    let run : RunOn g.automaton [] g.automaton.start w states = subst (λ (n : ℕ). RunOn g.automaton [] n w states) r.is_run.start on in
    values_read g point w [] g.automaton.start 1 [] (first_stage (start_frame g)) states run
