-- The arcs of a place are those of its edges and calls.
use Rattle.std.proofs.Common.{◌≡◌, ◌⊎◌, ℕ, true, false, List, [], ◌∷◌, map, Option, None, Some, inl, inr, refl, sym, ap, subst}
use Rattle.std.specs.Prelude.{slice_get}
use Rattle.boogie_tree.specs.declared.span.Span.{Span}
use Rattle.boogie_tree.specs.declared.tree.Column.{Column}
use Rattle.typed_tree.specs.TypedTree.{TypedExpression, TypedProcedure, TypedProgram}
use Rattle.nwa_base.specs.Members.{Member}
use Rattle.letter_acts.specs.declared.sites.Site.{Site}
use Rattle.letter_acts.specs.Acts.{inside_act, call_act}
use Rattle.cond_jumps.specs.FreeProducts.Letters.{MarkedConjunction}
use Rattle.cond_jumps.specs.FreeProducts.FrameLetters.{path_letters, passed_letters}
use Rattle.boogie_run.specs.BoogiePoints.Points.{Point, settled, past_first}
use Rattle.boogie_run.specs.BoogiePoints.Actions as actions
use Rattle.boogie_run.specs.BoogiePoints.Actions.{Action, action_at}
use Rattle.boogie_run.specs.BoogiePoints.Starts.{point_of_call, targets_at}
use Rattle.boogie_run.specs.BoogiePlaces.Places.{Place, IsPlaceIn, IsOneOf, onward}
use Rattle.lowered_graph.specs.LoweredSteps.ProgramFrames.{frame_at}
use Rattle.lowered_graph.specs.LoweredSteps.Edges.{Spot, At, Wrong, Edge, leads, no_rows, import_edges, import_written, import_letters, skips, inside_edges, call_letters, numbers_in, local_count}
use Rattle.lowered_graph.specs.LoweredSteps.Stacks.{IsAmong}
use Rattle.lowered_graph.specs.Arcs.{place_number, spot_number, return_place, inside_arcs, action_arcs, arcs_at, arcs_of}
use Rattle.letter_acts.specs.LetterTable.Letters.{MarkedAct, Arc, inside_arc, call_arc}
use Rattle.lowered_graph.specs.Lowered.{site, action_sites, sites_of}
use Rattle.lowered_graph.proofs.Lists.{among_either, member_either, member_front, member_rest}

-- ---- lists

pub among_map : {X Y : Type 0} (f : X → Y) (xs : List X) (x : X) → IsAmong xs x → Member (map f xs) (f x)
among_map f [] x m = absurd m
among_map f (y ∷ xs) x (inl e) = inl (ap f e)
among_map f (y ∷ xs) x (inr m) = inr (among_map f xs x m)

pub map_among : {X Y : Type 0} (f : X → Y) (xs : List X) (y : Y) → Member (map f xs) y → (x : X) × IsAmong xs x × (f x ≡ y)
map_among f [] y m = absurd m
map_among f (x ∷ xs) y (inl e) = (x, inl refl, e)
map_among f (x ∷ xs) y (inr m) = let h = map_among f xs y m in (h.0, inr h.1, h.2)

-- ---- the arcs of a program

pub arcs_so : (t : TypedProgram) (ps : List Place) (p : Place) (a : Arc) → IsPlaceIn ps p → Member (arcs_at t p) a → Member (arcs_of t ps) a
arcs_so t [] p a i m = absurd i
arcs_so t (r ∷ ps) p a (inl e) m = member_front (arcs_at t r) (arcs_of t ps) a (subst (λ (x : Place). Member (arcs_at t x) a) (sym e) m)
arcs_so t (r ∷ ps) p a (inr i) m = member_rest (arcs_at t r) (arcs_of t ps) a (arcs_so t ps p a i m)

pub arcs_back : (t : TypedProgram) (ps : List Place) (a : Arc) → Member (arcs_of t ps) a → (p : Place) × IsPlaceIn ps p × Member (arcs_at t p) a
arcs_back t [] a m = absurd m
arcs_back t (r ∷ ps) a m = elim (member_either (arcs_at t r) (arcs_of t ps) a m) [
  | inl h ↦ (r, inl refl, h)
  | inr h ↦ (let g = arcs_back t ps a h in (g.0, inr g.1, g.2))
]

pub sites_so : (t : TypedProgram) (ps : List Place) (p : Place) (s : ℕ × Site) → IsPlaceIn ps p → Member (action_sites t p.proc (action_at t p.proc p.point)) s → Member (sites_of t ps) s
sites_so t [] p s i m = absurd i
sites_so t (r ∷ ps) p s (inl e) m =
    member_front (action_sites t r.proc (action_at t r.proc r.point)) (sites_of t ps) s (subst (λ (x : Place). Member (action_sites t x.proc (action_at t x.proc x.point)) s) (sym e) m)
sites_so t (r ∷ ps) p s (inr i) m = member_rest (action_sites t r.proc (action_at t r.proc r.point)) (sites_of t ps) s (sites_so t ps p s i m)

-- ---- inside arcs

-- the act of an edge, and of the letter of a call
abbrev pub edge_act : ℕ → Edge → MarkedAct
edge_act n e = record { act = inside_act n e.written e.rows.helpers e.rows.rows; coarse = e.coarse }

abbrev pub called_act : ℕ → ℕ → MarkedConjunction → MarkedAct
called_act n f l = record { act = call_act n f l.plain.helpers l.plain.rows; coarse = l.coarse }

abbrev pub arc_of_edge : TypedProgram → ℕ → Point → Edge → Arc
arc_of_edge t n p e = inside_arc (place_number t n p) (edge_act n e) (spot_number t n e.to)

-- each inside edge has its arc
pub edge_arc : (t : TypedProgram) (n : ℕ) (p : Point) (a : Action) (e : Edge) → IsAmong (inside_edges t n p a) e → Member (action_arcs t n p a) (arc_of_edge t n p e)
edge_arc t n p (actions.Check id at c next) e m = among_map (arc_of_edge t n p) (inside_edges t n p (actions.Check id at c next)) e m
edge_arc t n p (actions.Suppose c next) e m = among_map (arc_of_edge t n p) (inside_edges t n p (actions.Suppose c next)) e m
edge_arc t n p (actions.Demand id at c args next) e m = among_map (arc_of_edge t n p) (inside_edges t n p (actions.Demand id at c args next)) e m
edge_arc t n p (actions.Write cs es next) e m = among_map (arc_of_edge t n p) (inside_edges t n p (actions.Write cs es next)) e m
edge_arc t n p (actions.Guess c next) e m = among_map (arc_of_edge t n p) (inside_edges t n p (actions.Guess c next)) e m
edge_arc t n p (actions.Test c hit miss) e m = among_map (arc_of_edge t n p) (inside_edges t n p (actions.Test c hit miss)) e m
edge_arc t n p (actions.Pick ways) e m = among_map (arc_of_edge t n p) (inside_edges t n p (actions.Pick ways)) e m
edge_arc t n p (actions.Jump next) e m = among_map (arc_of_edge t n p) (inside_edges t n p (actions.Jump next)) e m
edge_arc t n p (actions.Enter f args) e m = absurd m
edge_arc t n p (actions.Keep f args c next) e m = among_map (arc_of_edge t n p) (inside_edges t n p (actions.Keep f args c next)) e m
edge_arc t n p (actions.Grant f args c next) e m = among_map (arc_of_edge t n p) (inside_edges t n p (actions.Grant f args c next)) e m
edge_arc t n p (actions.Finish f args targets next) e m = among_map (arc_of_edge t n p) (inside_edges t n p (actions.Finish f args targets next)) e m
edge_arc t n p actions.Leave e m = absurd m

-- an inside arc is that of an edge
pub record EdgeOfArc (t : TypedProgram) (n : ℕ) (p : Point) (a : Action) (arc : Arc) : Type 0 where
  pub edge : Edge
  pub among : IsAmong (inside_edges t n p a) edge
  pub is : arc_of_edge t n p edge ≡ arc

mapped_arc : (t : TypedProgram) (n : ℕ) (p : Point) (a : Action) (arc : Arc) → Member (inside_arcs t n p (inside_edges t n p a)) arc → EdgeOfArc t n p a arc
mapped_arc t n p a arc m = let h = map_among (arc_of_edge t n p) (inside_edges t n p a) arc m in record { edge = h.0; among = h.1; is = h.2 }

-- a call's arc
abbrev pub arc_of_call : TypedProgram → ℕ → Point → ℕ → MarkedConjunction → Arc
arc_of_call t n p f l =
    call_arc (place_number t n p) (called_act n f l) (place_number t f (point_of_call t f (slice_get t.procs f)))
    (return_place t f) (numbers_in (frame_at t n) (targets_at p.todo)) (place_number t n (settled (past_first t.procs p.todo)))

pub record CallOfArc (t : TypedProgram) (n : ℕ) (p : Point) (a : Action) (arc : Arc) : Type 0 where
  pub callee : ℕ
  pub args : List TypedExpression
  pub action : a ≡ actions.Enter callee args
  pub letter : MarkedConjunction
  pub among : IsAmong (call_letters t n callee args) letter
  pub is : arc_of_call t n p callee letter ≡ arc

-- each arc of a place is that of an edge or of a call
pub arc_back : (t : TypedProgram) (n : ℕ) (p : Point) (a : Action) (arc : Arc) → Member (action_arcs t n p a) arc → EdgeOfArc t n p a arc ⊎ CallOfArc t n p a arc
arc_back t n p (actions.Check id at c next) arc m = inl (mapped_arc t n p (actions.Check id at c next) arc m)
arc_back t n p (actions.Suppose c next) arc m = inl (mapped_arc t n p (actions.Suppose c next) arc m)
arc_back t n p (actions.Demand id at c args next) arc m = inl (mapped_arc t n p (actions.Demand id at c args next) arc m)
arc_back t n p (actions.Write cs es next) arc m = inl (mapped_arc t n p (actions.Write cs es next) arc m)
arc_back t n p (actions.Guess c next) arc m = inl (mapped_arc t n p (actions.Guess c next) arc m)
arc_back t n p (actions.Test c hit miss) arc m = inl (mapped_arc t n p (actions.Test c hit miss) arc m)
arc_back t n p (actions.Pick ways) arc m = inl (mapped_arc t n p (actions.Pick ways) arc m)
arc_back t n p (actions.Jump next) arc m = inl (mapped_arc t n p (actions.Jump next) arc m)
arc_back t n p (actions.Enter f args) arc m =
    let h = map_among (arc_of_call t n p f) (call_letters t n f args) arc m in
    inr (record { callee = f; args = args; action = refl; letter = h.0; among = h.1; is = h.2 })
arc_back t n p (actions.Keep f args c next) arc m = inl (mapped_arc t n p (actions.Keep f args c next) arc m)
arc_back t n p (actions.Grant f args c next) arc m = inl (mapped_arc t n p (actions.Grant f args c next) arc m)
arc_back t n p (actions.Finish f args targets next) arc m = inl (mapped_arc t n p (actions.Finish f args targets next) arc m)
arc_back t n p actions.Leave arc m = absurd m

-- each call has its arc
pub call_arc_so : (t : TypedProgram) (n : ℕ) (p : Point) (a : Action) (f : ℕ) (args : List TypedExpression) (c : MarkedConjunction) → a ≡ actions.Enter f args → IsAmong (call_letters t n f args) c →
    Member (action_arcs t n p a) (arc_of_call t n p f c)
call_arc_so t n p a f args c e m = subst (λ (x : Action). Member (action_arcs t n p x) (arc_of_call t n p f c)) (sym e) (among_map (arc_of_call t n p f) (call_letters t n f args) c m)

-- ---- where edges lead

-- to a point to which the action leads, or to the failing of its assertion
abbrev pub Lands : TypedProgram → ℕ → Point → Action → Spot → Type 0
Lands t n p a (At r) = IsOneOf (onward t.procs p a) r
Lands t n p a (Wrong i) = (line : Span) × Member (action_sites t n a) (site t n i line)

led_to : (written : List ℕ) (cs : List MarkedConjunction) (to : Spot) (e : Edge) → IsAmong (leads written cs to) e → to ≡ e.to
led_to written [] to e m = absurd m
led_to written (c ∷ cs) to e (inl is) = ap (λ (x : Edge). x.to) is
led_to written (c ∷ cs) to e (inr m) = led_to written cs to e m

-- all edges of a list lead to one place
lands_there : (t : TypedProgram) (n : ℕ) (p : Point) (a : Action) (written : List ℕ) (cs : List MarkedConjunction) (to : Spot) (e : Edge) → Lands t n p a to → IsAmong (leads written cs to) e → Lands t n p a e.to
lands_there t n p a written cs to e l m = subst (Lands t n p a) (led_to written cs to e m) l

skips_land : (ways : List Point) (e : Edge) → IsAmong (skips ways) e → (r : Point) × IsOneOf ways r × (At r ≡ e.to)
skips_land [] e m = absurd m
skips_land (r ∷ ways) e m = elim (among_either (leads [] no_rows (At r)) (skips ways) e m) [
  | inl h ↦ (r, inl refl, led_to [] no_rows (At r) e h)
  | inr h ↦ (let g = skips_land ways e h in (g.0, inr g.1, g.2))
]

import_lands : (t : TypedProgram) (n : ℕ) (p : Point) (a : Action) (o : Option TypedProcedure) (args : List TypedExpression) (targets : List ℕ) (next : Point) (e : Edge) →
    IsOneOf (onward t.procs p a) next → IsAmong (import_edges (frame_at t n) (local_count t n) t.globals o args targets next) e → Lands t n p a e.to
import_lands t n p a None args targets next e l m = absurd m
import_lands t n p a (Some q) args targets next e l m =
    lands_there t n p a (import_written q.modifies targets) (import_letters (frame_at t n) (local_count t n) t.globals q args targets) (At next) e l m

pub edge_lands : (t : TypedProgram) (n : ℕ) (p : Point) (a : Action) (e : Edge) → IsAmong (inside_edges t n p a) e → Lands t n p a e.to
edge_lands t n p (actions.Check id at c next) e m =
    let a : Action = actions.Check id at c next in
    elim (among_either (leads [] (path_letters (frame_at t n) (local_count t n) c true) (At next)) (leads [] (path_letters (frame_at t n) (local_count t n) c false) (Wrong id)) e m) [
      | inl h ↦ lands_there t n p a [] (path_letters (frame_at t n) (local_count t n) c true) (At next) e (inl refl) h
      | inr h ↦ lands_there t n p a [] (path_letters (frame_at t n) (local_count t n) c false) (Wrong id) e (at, inl refl) h
    ]
edge_lands t n p (actions.Suppose c next) e m = lands_there t n p (actions.Suppose c next) [] (path_letters (frame_at t n) (local_count t n) c true) (At next) e (inl refl) m
edge_lands t n p (actions.Demand id at c args next) e m =
    let a : Action = actions.Demand id at c args next in
    elim (among_either (leads [] (passed_letters (frame_at t n) (local_count t n) args c true) (At next)) (leads [] (passed_letters (frame_at t n) (local_count t n) args c false) (Wrong id)) e m) [
      | inl h ↦ lands_there t n p a [] (passed_letters (frame_at t n) (local_count t n) args c true) (At next) e (inl refl) h
      | inr h ↦ lands_there t n p a [] (passed_letters (frame_at t n) (local_count t n) args c false) (Wrong id) e (at, inl refl) h
    ]
edge_lands t n p (actions.Write cs es next) e m = subst (Lands t n p (actions.Write cs es next)) (written_to t n p cs es next e m) (inl refl)
  where
    written_to : (t : TypedProgram) (n : ℕ) (p : Point) (cs : List Column) (es : List TypedExpression) (next : Point) (e : Edge) → IsAmong (inside_edges t n p (actions.Write cs es next)) e → At next ≡ e.to
    written_to t n p cs es next e m = led_to _ _ (At next) e m
edge_lands t n p (actions.Guess c next) e m = lands_there t n p (actions.Guess c next) _ no_rows (At next) e (inl refl) m
edge_lands t n p (actions.Test c hit miss) e m =
    let a : Action = actions.Test c hit miss in
    elim (among_either (leads [] (path_letters (frame_at t n) (local_count t n) c true) (At hit)) (leads [] (path_letters (frame_at t n) (local_count t n) c false) (At miss)) e m) [
      | inl h ↦ lands_there t n p a [] (path_letters (frame_at t n) (local_count t n) c true) (At hit) e (inl refl) h
      | inr h ↦ lands_there t n p a [] (path_letters (frame_at t n) (local_count t n) c false) (At miss) e (inr (inl refl)) h
    ]
edge_lands t n p (actions.Pick ways) e m = let h = skips_land ways e m in subst (Lands t n p (actions.Pick ways)) h.2 h.1
edge_lands t n p (actions.Jump next) e m = let h = skips_land (next ∷ []) e m in subst (Lands t n p (actions.Jump next)) h.2 h.1
edge_lands t n p (actions.Enter f args) e m = absurd m
edge_lands t n p (actions.Keep f args c next) e m =
    import_lands t n p (actions.Keep f args c next) (slice_get t.procs f) args (numbers_in (frame_at t n) (targets_at p.todo)) (settled (past_first t.procs p.todo)) e (inl refl) m
edge_lands t n p (actions.Grant f args c next) e m =
    import_lands t n p (actions.Grant f args c next) (slice_get t.procs f) args (numbers_in (frame_at t n) (targets_at p.todo)) (settled (past_first t.procs p.todo)) e (inl refl) m
edge_lands t n p (actions.Finish f args targets next) e m =
    import_lands t n p (actions.Finish f args targets next) (slice_get t.procs f) args (numbers_in (frame_at t n) (targets_at p.todo)) (settled (past_first t.procs p.todo)) e (inl refl) m
edge_lands t n p actions.Leave e m = absurd m
