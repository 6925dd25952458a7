-- What choices are read off: the number of the place behind a step, and the values there.
use Rattle.std.proofs.Common.{◌≡◌, ◌∙◌, ℕ, zero, suc, ◌+◌, ◌-◌, ◌≤◌, ℤ, pos, List, [], ◌∷◌, map, length, drop, Option, None, Some, inl, inr, refl, sym, ap, arith, IsTrue}
use Rattle.std.specs.Prelude.{slice_get}
use Rattle.std.proofs.lemmas.Option.{slice_get_past}
use Rattle.typed_tree.specs.TypedTree.{TypedExpression, TypedProgram}
use Rattle.typed_tree.specs.TypingRules.ValidProgram.{is_valid}
use Rattle.lin_rows.specs.Points.{point_of}
use Rattle.boogie_run.specs.BoogiePoints.Points.{Point}
use Rattle.boogie_run.specs.BoogiePoints.Actions as actions
use Rattle.boogie_run.specs.BoogiePoints.Actions.{Action, action_at}
use Rattle.boogie_run.specs.BoogiePoints.Starts.{targets_at}
use Rattle.boogie_run.specs.BoogiePlaces.Places.{Place, IsPlaceIn, count_from, number_of, program_places}
use Rattle.lowered_graph.specs.LoweredSteps.ProgramFrames.{frame_at, column_number}
use Rattle.lowered_graph.specs.LoweredSteps.Edges.{Spot, At, Wrong, columns_before_locals, numbers_in}
use Rattle.lowered_graph.specs.LoweredSteps.Stacks.{Stack}
use Rattle.lowered_graph.specs.LoweredRuns.Choices.{spot_place_number, way_to, call_choices, choices_of, spot_choices}
use Rattle.lowered_graph.specs.Arcs as arcs
use Rattle.lowered_graph.proofs.KnownPlaces.{PlaceLaws, IsKnown, known_place}
use Rattle.lowered_graph.proofs.Joined.{IsKnownSpot}
use Rattle.lowered_graph.specs.LoweredChoices.Choices.{standing}

-- ---- a place by its number

found_in : (f : Place → ℕ) (xs : List Place) (n k : ℕ) (p : Place) → map f xs ≡ count_from n k → IsPlaceIn xs p → (n ≤ f p) × (slice_get xs (f p - n) ≡ Some p)
found_in f [] n k p e h = absurd h
found_in f (x ∷ xs) n zero p e h = absurd (cc)
found_in f (x ∷ xs) n (suc k) p e (inl is) =
    let first : f x ≡ n = cc in
    let same : f x ≡ f p = ap f is in
    let at : f p - n ≡ 0 = omega arith in
    (omega arith, ap (slice_get (x ∷ xs)) at ∙ ap Some is)
found_in f (x ∷ xs) n (suc k) p e (inr more) =
    let rest : map f xs ≡ count_from (n + 1) k = cc in
    let h = found_in f xs (n + 1) k p rest more in
    let lower : n + 1 ≤ f p = h.0 in
    let at : f p - n ≡ suc (f p - (n + 1)) = omega arith in
    (omega arith, ap (slice_get (x ∷ xs)) at ∙ h.1)

-- a known point is found by its number
pub found : (l : PlaceLaws) (t : TypedProgram) → IsTrue (is_valid t) → (n : ℕ) (p : Point) → IsKnown t n p →
    slice_get (program_places t) (arcs.place_number t n p - 1) ≡ Some (record { proc = n; point = p })
found l t v n p k =
    let h = found_in (number_of t) (program_places t) 1 (length (program_places t)) (record { proc = n; point = p }) (l.numbered t v) (known_place t n p k) in
    h.1

-- no place is found where an assertion fails
none_found : (t : TypedProgram) (i : ℕ) → slice_get (program_places t) (arcs.error_place t i - 1) ≡ None
none_found t i =
    let past : length (program_places t) ≤ arcs.error_place t i - 1 = omega arith in
    slice_get_past (program_places t) (arcs.error_place t i - 1) past

pub standing_values : (values : List ℤ) (o : Option Place) → (standing values o).values ≡ values
standing_values values None = refl
standing_values values (Some p) = refl

-- the number that choices read
pub number_read : (l : PlaceLaws) (t : TypedProgram) → IsTrue (is_valid t) → (m : ℕ) (spot : Spot) → IsKnownSpot t m spot → (q : ℕ) (values : List ℤ) → arcs.spot_number t m spot ≡ q → (n : ℕ) →
    spot_place_number t n spot ≡ spot_place_number t n (standing values (slice_get (program_places t) (q - 1))).spot
number_read l t v m (At p) k q values e n =
    let at : slice_get (program_places t) (q - 1) ≡ Some (record { proc = m; point = p }) = ap (λ (r : ℕ). slice_get (program_places t) (r - 1)) (sym e) ∙ found l t v m p k in
    ap (λ (o : Option Place). spot_place_number t n (standing values o).spot) (sym at)
number_read l t v m (Wrong i) k q values e n =
    let at : slice_get (program_places t) (q - 1) ≡ None = ap (λ (r : ℕ). slice_get (program_places t) (r - 1)) (sym e) ∙ none_found t i in
    ap (λ (o : Option Place). spot_place_number t n (standing values o).spot) (sym at)

-- ---- choices

-- the choices of an action are those that another stack with the same values and a place of the same number tells
pub same_choices : (t : TypedProgram) (n : ℕ) (p : Point) (a : Action) (helpers : List ℤ) (x y : Stack) → x.values ≡ y.values → spot_place_number t n x.spot ≡ spot_place_number t n y.spot →
    choices_of t n p a helpers x ≡ choices_of t n p a helpers y
same_choices t n p (actions.Check id at e next) helpers x y values place = refl
same_choices t n p (actions.Suppose e next) helpers x y values place = refl
same_choices t n p (actions.Demand id at e args next) helpers x y values place = refl
same_choices t n p (actions.Write cs es next) helpers x y values place = refl
same_choices t n p (actions.Guess c next) helpers x y values place = ap (λ (zs : List ℤ). Some (point_of zs (column_number (frame_at t n) c)) ∷ []) values
same_choices t n p (actions.Test e hit miss) helpers x y values place = refl
same_choices t n p (actions.Pick ways) helpers x y values place = ap (λ (q : ℕ). Some (pos (way_to t n q ways)) ∷ []) place
same_choices t n p (actions.Jump next) helpers x y values place = refl
same_choices t n p (actions.Enter f args) helpers x y values place = ap (λ (zs : List ℤ). None ∷ map Some (drop (columns_before_locals t + length args) zs)) values
same_choices t n p (actions.Keep f args c next) helpers x y values place = ap (call_choices t.globals (slice_get t.procs f) (numbers_in (frame_at t n) (targets_at p.todo)) helpers) values
same_choices t n p (actions.Grant f args e next) helpers x y values place = ap (call_choices t.globals (slice_get t.procs f) (numbers_in (frame_at t n) (targets_at p.todo)) helpers) values
same_choices t n p (actions.Finish f args targets next) helpers x y values place = ap (call_choices t.globals (slice_get t.procs f) (numbers_in (frame_at t n) (targets_at p.todo)) helpers) values
same_choices t n p actions.Leave helpers x y values place = refl

pub same_spot_choices : (t : TypedProgram) (n : ℕ) (spot : Spot) (helpers : List ℤ) (x y : Stack) → x.values ≡ y.values → spot_place_number t n x.spot ≡ spot_place_number t n y.spot →
    spot_choices t n spot helpers x ≡ spot_choices t n spot helpers y
same_spot_choices t n (At p) helpers x y values place = same_choices t n p (action_at t n p) helpers x y values place
same_spot_choices t n (Wrong i) helpers x y values place = refl

-- an entry and a return read no helpers
pub enter_reads_none : (t : TypedProgram) (n : ℕ) (p : Point) (f : ℕ) (args : List TypedExpression) (hs gs : List ℤ) (y : Stack) → action_at t n p ≡ actions.Enter f args → spot_choices t n (At p) hs y ≡ spot_choices t n (At p) gs y
enter_reads_none t n p f args hs gs y is = ap (λ (a : Action). choices_of t n p a hs y) is ∙ ap (λ (a : Action). choices_of t n p a gs y) (sym is)

pub leave_reads_none : (t : TypedProgram) (n : ℕ) (p : Point) (hs gs : List ℤ) (y : Stack) → action_at t n p ≡ actions.Leave → spot_choices t n (At p) hs y ≡ spot_choices t n (At p) gs y
leave_reads_none t n p hs gs y is = ap (λ (a : Action). choices_of t n p a hs y) is ∙ ap (λ (a : Action). choices_of t n p a gs y) (sym is)
