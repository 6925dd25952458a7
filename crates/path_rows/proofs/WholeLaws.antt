-- The rows of a whole word: what a point that meets them says, and the point of frame states that obey it.
use Rattle.std.proofs.Common.{◌≡◌, ◌↔◌, ◌∙◌, ℕ, zero, suc, ◌<◌, ℤ, pos, List, [], ◌∷◌, ◌++◌, length, Option, Some, refl, sym, subst, inl, arith}
use Rattle.std.specs.Prelude.{slice_get, unwrap_or}
use Rattle.std.specs.List.{AllByRecursion}
use Rattle.lin_rows.specs.Rows.{Holds}
use Rattle.lin_rows.specs.Points.{point_of}
use Rattle.nwa_base.specs.declared.letters.Kind.{Kind}
use Rattle.nwa_base.specs.declared.letters.Kind.TheVariants.{Inside, Call, Back}
use Rattle.nwa_base.specs.declared.letters.Letter.{Letter}
use Rattle.nwa_base.specs.Automata.{IsAutomaton}
use Rattle.nwa_base.specs.Acceptance.{Accepts, Follows, AcceptsFrom}
use Rattle.boogie_tree.specs.declared.tree.Ty.{Ty}
use Rattle.boogie_tree.specs.declared.tree.Ty.TheVariants as types
use Rattle.letter_acts.specs.Frames.{Columns, IsState, IsValue}
use Rattle.letter_acts.specs.Acts.{PlainAct, frame_of}
use Rattle.letter_acts.specs.Meaning.{Situation, ActInside, ActCalls}
use Rattle.letter_acts.specs.Ways.{Leads, GoesThrough}
use Rattle.letter_acts.specs.Feasible.{Obeys, IsFeasible, meaning}
use Rattle.letter_acts.specs.Invariant.{Graph, IsGraph, alphabet_of, IsPlaceOf}
use Rattle.letter_acts.proofs.PointLemmas.{state_length}
use Rattle.letter_acts.proofs.WayLemmas.{along_by_stack}
use Rattle.letter_acts.specs.FrameRows.Rows.{bounds, types_of}
use Rattle.path_rows.specs.Paths.{start_frame, first_stage, path_along, path_of}
use Rattle.path_rows.specs.Solutions.{read, Solves, ReadOff, SolvedBy}
use Rattle.path_rows.proofs.ListLemmas.{all_joined}
use Rattle.path_rows.proofs.RowLemmas.{bounds_read}
use Rattle.path_rows.proofs.EdgeLemmas.{inside_acts, call_acts}
use Rattle.path_rows.proofs.HeardLaws.{Heard, heard}
use Rattle.path_rows.proofs.SaidLaws.{all_get, said}
use Rattle.path_rows.proofs.SolvedLaws.{Built, first_read, built_first, extends}

-- the procedure of the start
abbrev pub start_proc : Graph → ℕ
start_proc g = unwrap_or (slice_get g.place_procs g.automaton.start) 0

got : (xs : List ℕ) (i : ℕ) → i < length xs → slice_get xs i ≡ Some (unwrap_or (slice_get xs i) 0)
got [] i l = absurd (omega arith)
got (x ∷ xs) zero l = refl
got (x ∷ xs) (suc i) l = got xs i (omega arith)

pub start_place : (g : Graph) → IsGraph g → IsAutomaton g.automaton → IsPlaceOf g.place_procs (start_proc g) g.automaton.start
start_place g ok m = let p = ok.procedures.place_procs in let s = m.start in got g.place_procs g.automaton.start (omega (arith, p, s))

pub start_exists : (g : Graph) → IsGraph g → IsAutomaton g.automaton → start_proc g < length g.frames
start_exists g ok m = all_get (λ p. p < length g.frames) g.place_procs g.automaton.start (start_proc g) (start_place g ok m) ok.procedures.procs_exist

-- the situation that the point has at the start
abbrev start_at : (ℕ → ℤ) → Graph → Situation
start_at point g = record { proc = start_proc g; values = read point (first_stage (start_frame g)).here }

-- what a point that meets the rows says from the start on
record FromStart (point : ℕ → ℤ) (g : Graph) (w : List Letter) : Type 0 where
  begins : IsState (start_frame g) (read point (first_stage (start_frame g)).here)
  rest : Heard g point 1 [] (start_at point g) (first_stage (start_frame g)) w

from_start : (g : Graph) (w : List Letter) (point : ℕ → ℤ) → IsGraph g → IsAutomaton g.automaton → Accepts g.automaton w →
    AllByRecursion (Holds point) (path_of g w).rows → FromStart point g w
from_start g w point ok m acc h =
    let frame : Columns = start_frame g in
    let j = (all_joined (Holds point) (bounds 0 (types_of frame)) (path_along (alphabet_of g) 1 (first_stage frame) w).rows).0 h in
    let state : IsState frame (read point (first_stage frame).here) = (bounds_read point 0 frame).0 j.0 in
    record {
      begins = state;
      rest = heard g ok point w 1 [] g.automaton.start [] (start_at point g) (first_stage frame) acc
          (record {
            stands = record { place = start_place g ok m; exists = start_exists g ok m; state = state };
            values = refl;
            open_calls = tt;
            late = inl refl;
          }) j.1;
    }

pub rows_say_states : (g : Graph) (w : List Letter) (point : ℕ → ℤ) → IsGraph g → IsAutomaton g.automaton → Accepts g.automaton w →
    AllByRecursion (Holds point) (path_of g w).rows ↔ Solves point g w
rows_say_states g w point ok m acc = (
  λ h. (let f = from_start g w point ok m acc h in record { begins = f.begins; along = f.rest.obeyed }),
  λ h.
      (let frame : Columns = start_frame g in
      (all_joined (Holds point) (bounds 0 (types_of frame)) (path_along (alphabet_of g) 1 (first_stage frame) w).rows).1
      ((bounds_read point 0 frame).1 h.begins, said g ok point w 1 (first_stage frame) h.along)),
)

pub read_off : (g : Graph) (w : List Letter) (point : ℕ → ℤ) → IsGraph g → IsAutomaton g.automaton → Accepts g.automaton w →
    AllByRecursion (Holds point) (path_of g w).rows → ReadOff point g w
read_off g w point ok m acc h =
    let f = from_start g w point ok m acc h in
    record {
      first = start_at point g;
      more = f.rest.more;
      obey = record {
        begins = (start_exists g ok m, f.begins);
        along = (along_by_stack (meaning (alphabet_of g)) w (start_at point g) f.rest.more).1 f.rest.through;
      };
      read_off = f.rest.read_off;
    }

-- ---- from states to a point

-- the first letter leads from a situation in the procedure of the start
first_proc : (g : Graph) → IsGraph g → IsAutomaton g.automaton → (a : Letter) (w : List Letter) (s t : Situation) (more : List Situation) → Accepts g.automaton (a ∷ w) →
    GoesThrough (meaning (alphabet_of g)) [] s (a ∷ w) (t ∷ more) → s.proc ≡ start_proc g
first_proc g ok m a w s t more acc h = by_kind a.kind acc.1 h
  where
    same : (p : ℕ) → IsPlaceOf g.place_procs p g.automaton.start → s.proc ≡ p → s.proc ≡ start_proc g
    same p k e = let i : Some p ≡ Some (start_proc g) = sym k ∙ start_place g ok m in let j : p ≡ start_proc g = cc in e ∙ j

    by_kind : (kind : Kind) → Follows g.automaton kind a [] g.automaton.start acc.0 (λ st. AcceptsFrom g.automaton st acc.0 w) →
        Leads (meaning (alphabet_of g)) kind a [] s t (λ st. GoesThrough (meaning (alphabet_of g)) st t w more) → s.proc ≡ start_proc g
    by_kind Inside f h =
        let k = inside_acts g ok g.automaton.start acc.0 a f.0 in
        same k.known.proc k.known.starts (subst (λ (o : Option PlainAct). ActInside (alphabet_of g) o s t) k.act_is h.0).0.0
    by_kind Call f h =
        let k = call_acts g ok g.automaton.start acc.0 a f.0 in
        same k.known.caller k.known.starts (subst (λ (o : Option PlainAct). ActCalls (alphabet_of g) o s t) k.act_is h.0).0.0
    by_kind Back f h = absurd f

solved_from : (g : Graph) (w : List Letter) → IsGraph g → (s : Situation) (more : List Situation) → s.proc ≡ start_proc g →
    IsState (frame_of (alphabet_of g) s.proc) s.values → GoesThrough (meaning (alphabet_of g)) [] s w more → SolvedBy g w (s ∷ more)
solved_from g w ok s more e h t =
    let frame : Columns = start_frame g in
    let state : IsState frame s.values = subst (λ (p : ℕ). IsState (frame_of (alphabet_of g) p) s.values) e h in
    let long : length s.values ≡ length frame = state_length frame s.values state in
    let b : Built s.values (first_stage frame) [] s = built_first frame s long in
    let x = extends g ok w 1 s.values (first_stage frame) [] s more b t in
    let begins : IsState frame (read (point_of (s.values ++ x.rest)) (first_stage frame).here) =
    subst (IsState frame) (first_read s.values x.rest (length frame) long) state in
    record {
      point = point_of (s.values ++ x.rest);
      meets = (all_joined (Holds (point_of (s.values ++ x.rest))) (bounds 0 (types_of frame)) (path_along (alphabet_of g) 1 (first_stage frame) w).rows).1
          ((bounds_read (point_of (s.values ++ x.rest)) 0 frame).1 begins, said g ok (point_of (s.values ++ x.rest)) w 1 (first_stage frame) x.obeyed);
      read_off = x.read_off;
    }

-- where the word is empty the situation is at the start, and else by the first letter
start_known : (g : Graph) → IsGraph g → IsAutomaton g.automaton → (w : List Letter) (s : Situation) (more : List Situation) → Accepts g.automaton w →
    GoesThrough (meaning (alphabet_of g)) [] s w more → (w ≡ [] → IsPlaceOf g.place_procs s.proc g.automaton.start) → s.proc ≡ start_proc g
start_known g ok m [] s more acc h f = let i : Some s.proc ≡ Some (start_proc g) = sym (f refl) ∙ start_place g ok m in cc
start_known g ok m (a ∷ w) s [] acc h f = absurd h
start_known g ok m (a ∷ w) s (t ∷ more) acc h f = first_proc g ok m a w s t more acc h

pub solved : (g : Graph) (w : List Letter) (s : Situation) (more : List Situation) → IsGraph g → IsAutomaton g.automaton → Accepts g.automaton w →
    Obeys (alphabet_of g) w s more → (w ≡ [] → IsPlaceOf g.place_procs s.proc g.automaton.start) → SolvedBy g w (s ∷ more)
solved g w s more ok m acc o f =
    let h = (along_by_stack (meaning (alphabet_of g)) w s more).0 o.along in
    solved_from g w ok s more (start_known g ok m w s more acc h f) o.begins.1 h

-- ---- feasible words

-- a state of any frame: all values are 0
zeros : Columns → List ℤ
zeros [] = []
zeros (v ∷ vs) = pos 0 ∷ zeros vs

zero_is_value : (t : Ty) → IsValue t (pos 0)
zero_is_value types.Int = tt
zero_is_value types.Bool = inl refl

zeros_are_state : (frame : Columns) → IsState frame (zeros frame)
unfolding zeros
zeros_are_state [] = tt
zeros_are_state (v ∷ vs) = (zero_is_value v.1.ty, zeros_are_state vs)

empty_solved : (g : Graph) → IsGraph g → SolvedBy g [] (record { proc = start_proc g; values = zeros (start_frame g) } ∷ [])
empty_solved g ok = solved_from g [] ok (record { proc = start_proc g; values = zeros (start_frame g) }) [] refl (zeros_are_state (start_frame g)) tt

feasible_solved : (g : Graph) (w : List Letter) → IsGraph g → IsAutomaton g.automaton → Accepts g.automaton w → IsFeasible (alphabet_of g) w →
    (point : ℕ → ℤ) × AllByRecursion (Holds point) (path_of g w).rows
feasible_solved g [] ok m acc h = let s = empty_solved g ok in (s.point, s.meets)
feasible_solved g (a ∷ w) ok m acc h =
    let n : a ∷ w ≡ [] → ⊥ = λ e. cc in
    let s = solved g (a ∷ w) h.0 h.1 ok m acc h.2 (λ e. absurd (n e)) in
    (s.point, s.meets)

pub rows_are_exact : (g : Graph) (w : List Letter) → IsGraph g → IsAutomaton g.automaton → Accepts g.automaton w →
    ((point : ℕ → ℤ) × AllByRecursion (Holds point) (path_of g w).rows) ↔ IsFeasible (alphabet_of g) w
rows_are_exact g w ok m acc = (
  λ h. (let r = read_off g w h.0 ok m acc h.1 in (r.first, r.more, r.obey)),
  λ h. feasible_solved g w ok m acc h,
)
