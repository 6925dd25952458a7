-- The choices that the table and the inside edges tell of positions along a run are those of the trace.
use Rattle.std.proofs.Common.{◌≡◌, ◌∙◌, ℕ, zero, suc, ◌+◌, ◌-◌, ◌≤◌, ℤ, pos, Bool, true, false, nat_eq, List, [], ◌∷◌, ◌++◌, map, take, drop, length, Option, None, Some, inl, inr, refl, sym, ap, subst, arith, append_assoc, eq-eqb, IsTrue}
use Rattle.std.specs.Prelude.{slice_get, slice_index, if◌then◌else◌}
use Rattle.std.specs.Option.{option_map}
use Rattle.std.specs.List.{AllByRecursion}
use Rattle.std.proofs.lemmas.Option.{slice_get-map}
use Rattle.typed_tree.specs.TypedTree.{TypedExpression, TypedProgram}
use Rattle.typed_tree.specs.TypingRules.ValidProgram.{is_valid}
use Rattle.lin_rows.specs.Points.{point_of}
use Rattle.nwa_base.specs.declared.letters.Kind.{Kind}
use Rattle.nwa_base.specs.declared.letters.Kind.TheVariants as kinds
use Rattle.nwa_base.specs.declared.letters.Letter.{Letter}
use Rattle.nwa_base.specs.Members.{Member}
use Rattle.nwa_base.specs.Edges.{leaving}
use Rattle.nwa_base.specs.Runs.{StepsTo, StepsOn, IsAcceptingRun}
use Rattle.letter_acts.specs.Acts.{Alphabet, act_of}
use Rattle.letter_acts.specs.Invariant.{IsGraph, alphabet_of}
use Rattle.boogie_run.specs.BoogiePoints.Points.{Point}
use Rattle.boogie_run.specs.BoogiePoints.Actions as actions
use Rattle.boogie_run.specs.BoogiePoints.Actions.{Action, action_at}
use Rattle.boogie_run.specs.BoogiePlaces.Places.{Place, IsOneOf, IsPlaceIn, count_from, number_of, program_places, onward}
use Rattle.lowered_graph.specs.LoweredSteps.ProgramFrames.{frame_at, column_number}
use Rattle.lowered_graph.specs.LoweredSteps.Edges.{columns_before_locals, numbers_in}
use Rattle.boogie_run.specs.BoogiePoints.Starts.{targets_at}
use Rattle.lowered_graph.specs.LoweredRuns.Choices.{spot_place_number as number_at, way_to, call_choices, choices_of, spot_choices, told_choices}
use Rattle.lowered_graph.specs.Arcs.{place_number, return_point, program_arcs}
use Rattle.lowered_graph.specs.LetterLaws.{CallOf, BackOf}
use Rattle.lowered_graph.specs.Lowered.{lowered}
use Rattle.letter_acts.specs.LetterTable.Letters.{lettered}
use Rattle.lowered_graph.proofs.LetterSets.{calls_are, backs_are}
use Rattle.lowered_graph.proofs.KnownPlaces.{PlaceLaws, IsKnown, place_known, known_once, known_onward}
use Rattle.lowered_graph.proofs.CallPlaces.{entered_has_body, leaves_there, return_known}
use Rattle.lowered_graph.proofs.JoinedBack.{CallFrom, call_from}
use Rattle.lowered_graph.specs.LoweredChoices.Traces.{TracePosition}
use Rattle.lowered_graph.specs.LoweredChoices.Choices.{standing, stack_at, step_to, trace_choices}
use Rattle.lowered_graph.proofs.LoweredChoices.ReadOff.{found, standing_values}
use Rattle.path_rows.specs.Versions.{PathStage, part_of}
use Rattle.path_rows.specs.Paths.{start_frame, first_stage}
use Rattle.path_rows.specs.Solutions.{read}
use Rattle.trace_replay.specs.PathTraces.Solved.{helper_columns, solved_position, positions_from, next_positions}
use Rattle.trace_replay.specs.ToldChoices.Kinds.{PlainKind, kind_of, kind_at, place_kinds}
use Rattle.trace_replay.specs.ToldChoices.Telling.{first_to, kind_choices, choices_if_any, letter_choices, further_choices, all_choices}
use Rattle.trace_replay.proofs.ToldChoices.Ways.{pick_ends, pick_way}

-- ---- places by their numbers

place_at : (f : Place → ℕ) (xs : List Place) (n k m : ℕ) (p : Place) → map f xs ≡ count_from n k → slice_get xs m ≡ Some p → IsPlaceIn xs p × (f p ≡ n + m)
place_at f [] n k m p e got = absurd (let no : ⊥ = cc in no)
place_at f (x ∷ xs) n zero m p e got = absurd (let no : ⊥ = cc in no)
place_at f (x ∷ xs) n (suc k) zero p e got =
    let same : x ≡ p = cc in
    let first : f x ≡ n = cc in
    (inl same, ap f (sym same) ∙ first ∙ (let s : n ≡ n + 0 = omega arith in s))
place_at f (x ∷ xs) n (suc k) (suc m) p e got =
    let rest : map f xs ≡ count_from (n + 1) k = cc in
    let r = place_at f xs (n + 1) k m p rest got in
    (inr r.0, r.1 ∙ (let s : (n + 1) + m ≡ n + suc m = omega arith in s))

-- ---- where ways are chosen

end_later : (b : Bool) (x : ℕ × Letter × ℕ) (ys : List (ℕ × Letter × ℕ)) (e : ℕ) → Member (map (λ x. x.2) ys) e → Member (map (λ x. x.2) (if b then x ∷ ys else ys)) e
end_later true x ys e m = inr m
end_later false x ys e m = m

leaving_ends : (q : ℕ) (edges : List (ℕ × Letter × ℕ)) (a : Letter) (e : ℕ) → Member edges (q, a, e) → Member (map (λ x. x.2) (leaving q edges)) e
leaving_ends q [] a e m = absurd m
leaving_ends q (x ∷ xs) a e (inl h) =
    let leaves : nat_eq x.0 q ≡ true = eq-eqb x.0 q (ap (λ (y : ℕ × Letter × ℕ). y.0) h) in
    subst (λ (b : Bool). Member (map (λ x. x.2) (if b then x ∷ leaving q xs else leaving q xs)) e) (sym leaves) (inl (ap (λ (y : ℕ × Letter × ℕ). y.2) h))
leaving_ends q (x ∷ xs) a e (inr m) = end_later (nat_eq x.0 q) x (leaving q xs) e (leaving_ends q xs a e m)

member_way : (t : TypedProgram) (n : ℕ) (ways : List Point) (e : ℕ) → Member (map (place_number t n) ways) e → (p : Point) × IsOneOf ways p × (place_number t n p ≡ e)
member_way t n [] e m = absurd m
member_way t n (p ∷ ps) e (inl h) = (p, inl refl, h)
member_way t n (p ∷ ps) e (inr m) = let r = member_way t n ps e m in (r.0, inr r.1, r.2)

enter_no_pick : (f : ℕ) (args : List TypedExpression) (ways : List Point) (a : Action) → a ≡ actions.Enter f args → a ≡ actions.Pick ways → ⊥
enter_no_pick f args ways a e h = let both : actions.Enter f args ≡ actions.Pick ways = sym e ∙ h in cc

leave_no_pick : (ways : List Point) (a : Action) → a ≡ actions.Leave → a ≡ actions.Pick ways → ⊥
leave_no_pick ways a e h = let both : actions.Leave ≡ actions.Pick ways = sym e ∙ h in cc

module _ (l : PlaceLaws) (t : TypedProgram) (v : IsTrue (is_valid t)) (q : ℕ) (x : Place) (ways : List Point) (some : 1 ≤ q) (got : slice_get (program_places t) (q - 1) ≡ Some x)
    (is : action_at t x.proc x.point ≡ actions.Pick ways) where
  here : IsPlaceIn (program_places t) x × (number_of t x ≡ q)
  here = let r = place_at (number_of t) (program_places t) 1 (length (program_places t)) (q - 1) x (l.numbered t v) got in (r.0, r.1 ∙ (let s : 1 + (q - 1) ≡ q = omega arith in s))

  known : IsKnown t x.proc x.point
  known = place_known t v x.proc x.point here.0

  no_call : (a : Letter) (e : ℕ) → Member (lowered t).automaton.calls (q, a, e) → ⊥
  no_call a e m =
      let h : CallOf (program_arcs t) (lettered (program_arcs t)).acts q a e = (calls_are (program_arcs t) q e a).0 m in
      let w : CallFrom t h.act q e h.from h.targets h.behind = call_from t v h.act q e h.from h.targets h.behind h.arc in
      let same = known_once l t v w.proc x.proc w.point x.point w.known known (w.parts.place ∙ sym here.1) in
      enter_no_pick w.callee w.args ways (action_at t x.proc x.point) ((λ i. action_at t (sym same.0 i) (sym same.1 i)) ∙ w.action) is

  no_back : (before : ℕ) (a : Letter) (e : ℕ) → Member (lowered t).automaton.backs (q, before, a, e) → ⊥
  no_back before a e m =
      let h : BackOf (program_arcs t) (lettered (program_arcs t)).acts q before a e = (backs_are (program_arcs t) q before e a).0 m in
      let w : CallFrom t h.act before h.to q h.targets e = call_from t v h.act before h.to q h.targets e h.arc in
      let b = entered_has_body t w.proc w.point w.callee w.args w.known w.action in
      let exit : Point = return_point (slice_get t.procs w.callee) in
      let same = known_once l t v w.callee x.proc exit x.point (return_known t w.callee b.0 b.1 b.2 b.3) known (w.parts.from ∙ sym here.1) in
      leave_no_pick ways (action_at t x.proc x.point) ((λ i. action_at t (sym same.0 i) (sym same.1 i)) ∙ leaves_there t w.callee b.0 b.1 b.2 b.3) is

  inside_way : (a : Letter) (e : ℕ) → Member (lowered t).automaton.insides (q, a, e) → (p : Point) × IsOneOf ways p × (place_number t x.proc p ≡ e)
  inside_way a e m = member_way t x.proc ways e (subst (λ (es : List ℕ). Member es e) (pick_ends l t v q x ways some got here.1 is) (leaving_ends q (lowered t).automaton.insides a e m))

  way_taken : (run : List ℕ) (kind : Kind) (front : List Letter) (a : Letter) (e : ℕ) → StepsTo (lowered t).automaton run kind front q a e → (p : Point) × IsOneOf ways p × (place_number t x.proc p ≡ e)
  way_taken run kinds.Inside front a e s = inside_way a e s
  way_taken run kinds.Call front a e s = absurd (no_call a e s)
  way_taken run kinds.Back front a e s = absurd (no_back (slice_index run s.0) a e s.2)

  -- the number of the next place is read off its position
  next_number : (run : List ℕ) (kind : Kind) (front : List Letter) (a : Letter) (y : TracePosition) → StepsTo (lowered t).automaton run kind front q a y.place → number_at t x.proc (stack_at t y).spot ≡ y.place
  next_number run kind front a y s =
      let w = way_taken run kind front a y.place s in
      let onto : IsOneOf (onward t.procs x.point (action_at t x.proc x.point)) w.0 = subst (λ (o : Action). IsOneOf (onward t.procs x.point o) w.0) (sym is) w.1 in
      let k : IsKnown t x.proc w.0 = known_onward l t v x.proc x.point w.0 known onto in
      let at : slice_get (program_places t) (y.place - 1) ≡ Some (record { proc = x.proc; point = w.0 }) = ap (λ (r : ℕ). slice_get (program_places t) (r - 1)) (sym w.2) ∙ found l t v x.proc w.0 k in
      ap (λ (o : Option Place). number_at t x.proc (standing y.values o).spot) at ∙ w.2

  way_told : (run : List ℕ) (kind : Kind) (front : List Letter) (a : Letter) (y : TracePosition) → StepsTo (lowered t).automaton run kind front q a y.place →
      way_to t x.proc (number_at t x.proc (stack_at t y).spot) ways ≡ first_to y.place (leaving q (lowered t).automaton.insides)
  way_told run kind front a y s = ap (λ (r : ℕ). way_to t x.proc r ways) (next_number run kind front a y s) ∙ pick_way l t v q x ways some got here.1 is y.place

-- ---- one letter

action_told : (t : TypedProgram) (edges : List (ℕ × Letter × ℕ)) (n : ℕ) (p : Point) (y : TracePosition) (a : Action) →
    ((ways : List Point) → a ≡ actions.Pick ways → way_to t n (number_at t n (stack_at t y).spot) ways ≡ first_to y.place edges) →
    choices_of t n p a y.helpers (stack_at t y) ≡ kind_choices t edges (kind_of t n p a) y
action_told t edges n p y (actions.Check id at e next) h = refl
action_told t edges n p y (actions.Suppose e next) h = refl
action_told t edges n p y (actions.Demand id at e args next) h = refl
action_told t edges n p y (actions.Write cs es next) h = refl
action_told t edges n p y (actions.Guess c next) h = ap (λ (zs : List ℤ). Some (point_of zs (column_number (frame_at t n) c)) ∷ []) (standing_values y.values (slice_get (program_places t) (y.place - 1)))
action_told t edges n p y (actions.Test e hit miss) h = refl
action_told t edges n p y (actions.Pick ways) h = ap (λ (k : ℕ). Some (pos k) ∷ []) (h ways refl)
action_told t edges n p y (actions.Jump next) h = refl
action_told t edges n p y (actions.Enter f args) h = ap (λ (zs : List ℤ). None ∷ map Some (drop (columns_before_locals t + length args) zs)) (standing_values y.values (slice_get (program_places t) (y.place - 1)))
action_told t edges n p y (actions.Keep f args c next) h = ap (call_choices t.globals (slice_get t.procs f) (numbers_in (frame_at t n) (targets_at p.todo)) y.helpers) (standing_values y.values (slice_get (program_places t) (y.place - 1)))
action_told t edges n p y (actions.Grant f args e next) h = ap (call_choices t.globals (slice_get t.procs f) (numbers_in (frame_at t n) (targets_at p.todo)) y.helpers) (standing_values y.values (slice_get (program_places t) (y.place - 1)))
action_told t edges n p y (actions.Finish f args targets next) h = ap (call_choices t.globals (slice_get t.procs f) (numbers_in (frame_at t n) (targets_at p.todo)) y.helpers) (standing_values y.values (slice_get (program_places t) (y.place - 1)))
action_told t edges n p y actions.Leave h = refl

letter_told : (l : PlaceLaws) (t : TypedProgram) → IsTrue (is_valid t) → (run : List ℕ) (kind : Kind) (front : List Letter) (a : Letter) (x y : TracePosition) → 1 ≤ x.place → StepsTo (lowered t).automaton run kind front x.place a y.place →
    (o : Option Place) → slice_get (program_places t) (x.place - 1) ≡ o →
    spot_choices t (standing x.values o).proc (standing x.values o).spot y.helpers (stack_at t y) ≡ choices_if_any t (leaving x.place (lowered t).automaton.insides) (option_map (kind_at t) o) y
letter_told l t v run kind front a x y some s None got = refl
letter_told l t v run kind front a x y some s (Some p) got =
    action_told t (leaving x.place (lowered t).automaton.insides) p.proc p.point y (action_at t p.proc p.point) (λ ways is. way_told l t v x.place p ways some got is run kind front a y s)

-- ---- all further letters

all_member : {X : Type 0} (P : X → Type 0) (xs : List X) (x : X) → AllByRecursion P xs → Member xs x → P x
all_member P [] x h m = absurd m
all_member P (y ∷ ys) x h (inl e) = subst P e h.0
all_member P (y ∷ ys) x h (inr m) = all_member P ys x h.1 m

not_first : (t : TypedProgram) → IsGraph (lowered t) → (run : List ℕ) (kind : Kind) (front : List Letter) (q : ℕ) (a : Letter) (e : ℕ) → StepsTo (lowered t).automaton run kind front q a e → (e ≡ 0 → ⊥)
not_first t ok run kinds.Inside front q a e s = (all_member _ (lowered t).automaton.insides (q, a, e) ok.edges.insides s).to
not_first t ok run kinds.Call front q a e s = (all_member _ (lowered t).automaton.calls (q, a, e) ok.edges.calls s).to
not_first t ok run kinds.Back front q a e s = (all_member _ (lowered t).automaton.backs (q, slice_index run s.0, a, e) ok.edges.backs s.2).to

above_zero : (n : ℕ) → (n ≡ 0 → ⊥) → 1 ≤ n
above_zero zero h = absurd (h refl)
above_zero (suc n) h = omega arith

further_told : (l : PlaceLaws) (t : TypedProgram) → IsTrue (is_valid t) → IsGraph (lowered t) → (point : ℕ → ℤ) (al : Alphabet) (run : List ℕ) (p : PathStage) (front w : List Letter) (x : TracePosition) (states : List ℕ) → 1 ≤ x.place →
    StepsOn (lowered t).automaton run front w (x.place ∷ states) →
    told_choices t (stack_at t x) (map (step_to t) (positions_from point al p w states)) ≡ further_choices t (place_kinds t) (lowered t).automaton.insides x.place (positions_from point al p w states)
further_told l t v ok point al run p front [] x states some s = refl
further_told l t v ok point al run p front (a ∷ w) x [] some s = refl
further_told l t v ok point al run p front (a ∷ w) x (e ∷ states) some s =
    let y : TracePosition = solved_position point e (read point (helper_columns (act_of al a) p.made)) (part_of al a p).after in
    let first : spot_choices t (stack_at t x).proc (stack_at t x).spot y.helpers (stack_at t y) ≡ letter_choices t (place_kinds t) (lowered t).automaton.insides x.place y =
    letter_told l t v run a.kind front a x y some s.0 (slice_get (program_places t) (x.place - 1)) refl
    ∙ ap (λ (o : Option PlainKind). choices_if_any t (leaving x.place (lowered t).automaton.insides) o y) (sym (slice_get-map (kind_at t) (program_places t) (x.place - 1))) in
    let rest = further_told l t v ok point al run (part_of al a p).after (a ∷ front) w y states (above_zero e (not_first t ok run a.kind front x.place a e s.0)) s.1 in
    (λ i. first i ++ rest i)

-- ---- the whole run

pub all_told : (l : PlaceLaws) (t : TypedProgram) → IsTrue (is_valid t) → IsGraph (lowered t) → (point : ℕ → ℤ) (w : List Letter) (run : List ℕ) → IsAcceptingRun (lowered t).automaton w run →
    all_choices t (place_kinds t) (lowered t).automaton.insides (next_positions point (lowered t) w run) ≡ trace_choices t (next_positions point (lowered t) w run)
all_told l t v ok point w [] r = refl
all_told l t v ok point [] (q ∷ states) r = refl
all_told l t v ok point (a ∷ w) (q ∷ []) r = refl
all_told l t v ok point (a ∷ w) (q ∷ e ∷ states) r =
    let al : Alphabet = alphabet_of (lowered t) in
    let p : PathStage = first_stage (start_frame (lowered t)) in
    let run : List ℕ = q ∷ e ∷ states in
    let y : TracePosition = solved_position point e (read point (helper_columns (act_of al a) p.made)) (part_of al a p).after in
    let more : List TracePosition = positions_from point al (part_of al a p).after w states in
    let values = standing_values y.values (slice_get (program_places t) (y.place - 1)) in
    let s = r.is_run.steps in
    let rest = further_told l t v ok point al run (part_of al a p).after (a ∷ []) w y states (above_zero e (not_first t ok run a.kind [] q a e s.0)) s.1 in
    append_assoc (map Some (take (length t.globals) y.values)) (map Some (drop (columns_before_locals t) y.values)) (further_choices t (place_kinds t) (lowered t).automaton.insides y.place more)
    ∙ (λ i. map Some (take (length t.globals) (sym values i)) ++ (map Some (drop (columns_before_locals t) (sym values i)) ++ sym rest i))
