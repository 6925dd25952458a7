-- A trace is a run of the stack machine, of which the same choices are told.
use Rattle.std.proofs.Common.{◌≡◌, ◌∙◌, ℕ, ◌+◌, ◌-◌, ◌<◌, ◌≤◌, ℤ, List, [], ◌∷◌, ◌++◌, map, length, take, drop, Option, Some, inl, inr, refl, sym, ap, subst, arith, append_assoc, IsTrue}
use Rattle.std.specs.Prelude.{slice_get}
use Rattle.std.specs.List.{AllByRecursion}
use Rattle.boogie_tree.specs.declared.span.Span.{Span}
use Rattle.typed_tree.specs.TypedTree.{TypedProgram}
use Rattle.typed_tree.specs.TypingRules.ValidProgram.{is_valid}
use Rattle.nwa_base.specs.Members.{Member}
use Rattle.nwa_base.specs.declared.letters.Kind.{Kind}
use Rattle.nwa_base.specs.declared.letters.Kind.TheVariants as kinds
use Rattle.nwa_base.specs.declared.letters.Letter.{Letter}
use Rattle.letter_acts.specs.declared.sites.Site.{Site}
use Rattle.letter_acts.specs.Ways.{Leads, GoesThrough}
use Rattle.letter_acts.proofs.WayLemmas.{leads_stack, along_by_stack}
use Rattle.boogie_run.specs.BoogiePoints.Points.{Point}
use Rattle.boogie_run.specs.BoogiePoints.Starts.{start_point_of}
use Rattle.boogie_run.specs.BoogiePlaces.Places.{Place, program_places}
use Rattle.boogie_run.specs.Steps.{start}
use Rattle.boogie_run.specs.Runs.{run}
use Rattle.lowered_graph.specs.LoweredSteps.Edges.{Spot, At, Wrong, columns_before_locals}
use Rattle.lowered_graph.specs.LoweredSteps.Stacks.{Pending, Stack, IsStep, inside, call, back, IsStart}
use Rattle.lowered_graph.specs.LoweredSteps.Moves.{shown_stack}
use Rattle.lowered_graph.specs.LoweredImports.Laws.{helpers_of}
use Rattle.lowered_graph.specs.LoweredRuns.Choices.{spot_place_number as number_at, spot_choices, ToldStep, AreToldSteps, told_choices, machine_choices}
use Rattle.lowered_graph.specs.Arcs.{place_number, error_place, spot_number}
use Rattle.lowered_graph.specs.Lowered.{site, program_sites, lowered}
use Rattle.lowered_graph.specs.Laws.{IsExactWord}
use Rattle.lowered_graph.proofs.KnownPlaces.{PlaceLaws, IsKnown, known_start, known_number}
use Rattle.lowered_graph.proofs.Alphabet.{letters_of}
use Rattle.lowered_graph.proofs.Joined.{IsKnownSpot, IsKnownStack, step_known}
use Rattle.lowered_graph.proofs.SiteNumbers.{site_positive, site_place}
use Rattle.lowered_graph.specs.LoweredChoices.Traces.{TracePosition, LeadsBack, told_steps, last_place, IsTrace}
use Rattle.lowered_graph.specs.LoweredChoices.Choices.{standing, stack_at, step_to, trace_choices, FailsAtLast, ComesTo}
use Rattle.lowered_graph.specs.LoweredChoices.Laws.{TracesFail, TracesAreRun}
use Rattle.lowered_graph.proofs.LoweredChoices.LastStep.{behind, fails_last, comes_behind}
use Rattle.lowered_graph.proofs.LoweredChoices.ReadOff.{found, standing_values, number_read, same_spot_choices}
use Rattle.lowered_graph.proofs.LoweredChoices.ToldLetters.{standing_at, PendAt, ToldBack, inside_told, call_told, back_told, FirstTold, first_told, no_first_call}

-- ---- where a trace ends

site_number : (t : TypedProgram) → IsTrue (is_valid t) → (n m i j : ℕ) (line span : Span) → Member (program_sites t) (site t n i line) → Member (program_sites t) (site t m j span) → error_place t i ≡ error_place t j → i ≡ j
site_number t v n m i j line span a b e =
    let x : 1 ≤ i = site_positive t v (site t n i line) a in
    let y : 1 ≤ j = site_positive t v (site t m j span) b in
    omega arith

wrong_spot : (l : PlaceLaws) (t : TypedProgram) → IsTrue (is_valid t) → (n : ℕ) (spot : Spot) → IsKnownSpot t n spot → (m i : ℕ) (line : Span) → Member (program_sites t) (site t m i line) → spot_number t n spot ≡ error_place t i → spot ≡ Wrong i
wrong_spot l t v n (At p) k m i line s e =
    let bounds = known_number l t v n p k in
    let upper : place_number t n p < 1 + length (program_places t) = bounds.1 in
    absurd (omega arith)
wrong_spot l t v n (Wrong j) k m i line s e = ap Wrong (site_number t v n m j i k.0 line k.1 s e)

member_site : (ss : List (ℕ × Site)) (s : Site) → Member (map (λ s. s.1) ss) s → (n : ℕ) × Member ss (n, s)
member_site [] s m = absurd m
member_site (r ∷ ss) s (inl e) = (r.0, inl (λ i. (r.0, e i)))
member_site (r ∷ ss) s (inr m) = let h = member_site ss s m in (h.0, inr h.1)

start_known : (l : PlaceLaws) (t : TypedProgram) → IsTrue (is_valid t) → (x : Stack) → IsStart t x → IsKnownStack t x
start_known l t v x s =
    let here : IsKnownSpot t t.entry (At (start_point_of t (slice_get t.procs t.entry))) = known_start l t v in
    let at : IsKnownSpot t t.entry x.spot = subst (IsKnownSpot t t.entry) (sym s.spot) here in
    record {
      spot = subst (λ (n : ℕ). IsKnownSpot t n x.spot) (sym s.proc) at;
      below = subst (AllByRecursion (λ b. IsKnown t b.proc b.point)) (sym s.below) tt;
    }

-- ---- one letter

abbrev Led : TypedProgram → Kind → Letter → List TracePosition → TracePosition → TracePosition → List TracePosition → Type 0
Led t kind a before x y after = Leads (told_steps (lowered t)) kind a before x y (λ s. s ≡ after)

by_below : (l : PlaceLaws) (t : TypedProgram) → IsTrue (is_valid t) → (x : Stack) → IsKnownStack t x → (a : Letter) (hs : List ℤ) (b : TracePosition) (before : List TracePosition) (y : TracePosition) (below : List Pending) → x.below ≡ below → PendAt t below (b ∷ before) →
    Member (lowered t).automaton.backs (spot_number t x.proc x.spot, b.place, a, y.place) → LeadsBack (letters_of t) a (standing_at t x hs) b y → ToldBack t x a y before
by_below l t v x k a hs b before y [] e pend m led = absurd pend
by_below l t v x k a hs b before y (c ∷ rest) e pend m led =
    back_told l t v x k a hs b.helpers y before c rest e
    (subst (λ (p : TracePosition). Member (lowered t).automaton.backs (spot_number t x.proc x.spot, p.place, a, y.place)) (sym pend.0) m)
    (subst (λ (p : TracePosition). LeadsBack (letters_of t) a (standing_at t x hs) p y) (sym pend.0) led) pend.1

letter_told : (l : PlaceLaws) (t : TypedProgram) → IsTrue (is_valid t) → (x : Stack) → IsKnownStack t x → (kind : Kind) (a : Letter) (hs : List ℤ) (before : List TracePosition) (y : TracePosition) (after : List TracePosition) → PendAt t x.below before →
    Led t kind a before (standing_at t x hs) y after → ToldBack t x a y after
letter_told l t v x k kinds.Inside a hs before y after pend h = subst (ToldBack t x a y) h.1 (inside_told l t v x k a hs y before h.0.0 h.0.1 pend)
letter_told l t v x k kinds.Call a hs before y after pend h = subst (ToldBack t x a y) h.1 (call_told l t v x k a hs y before h.0.0 h.0.1 pend)
letter_told l t v x k kinds.Back a hs [] y after pend h = absurd h
letter_told l t v x k kinds.Back a hs (b ∷ before) y after pend h = subst (ToldBack t x a y) h.1 (by_below l t v x k a hs b before y x.below refl pend h.0.0 h.0.1)

-- ---- its choices

-- a step leads from a point
step_from : (t : TypedProgram) (x y : Stack) → IsStep t x y → (p : Point) × (x.spot ≡ At p)
step_from t x y (inside p e at among leads proc spot below) = (p, at)
step_from t x y (call p f args c at is among leads proc spot below) = (p, at)
step_from t x y (back p b args c at is opened calls among leads proc spot) = (p, at)

here_found : (l : PlaceLaws) (t : TypedProgram) → IsTrue (is_valid t) → (x : Stack) → IsKnownStack t x → (q : TracePosition) → spot_number t x.proc x.spot ≡ q.place → (p : Point) → x.spot ≡ At p → (helpers : List ℤ) (z : Stack) →
    spot_choices t x.proc x.spot helpers z ≡ spot_choices t (stack_at t q).proc (stack_at t q).spot helpers z
here_found l t v x k q e p at helpers z =
    let known : IsKnown t x.proc p = subst (IsKnownSpot t x.proc) at k.spot in
    let number : place_number t x.proc p ≡ q.place = ap (spot_number t x.proc) (sym at) ∙ e in
    let got : slice_get (program_places t) (q.place - 1) ≡ Some (record { proc = x.proc; point = p }) = ap (λ (r : ℕ). slice_get (program_places t) (r - 1)) (sym number) ∙ found l t v x.proc p known in
    ap (λ (s : Spot). spot_choices t x.proc s helpers z) at ∙ ap (λ (o : Option Place). spot_choices t (standing q.values o).proc (standing q.values o).spot helpers z) (sym got)

letter_choices : (l : PlaceLaws) (t : TypedProgram) → IsTrue (is_valid t) → (x : Stack) → IsKnownStack t x → (a : Letter) (q y : TracePosition) (after : List TracePosition) → standing_at t x q.helpers ≡ q → (b : ToldBack t x a y after) →
    spot_choices t x.proc x.spot (helpers_of t x b.next b.step) b.next ≡ spot_choices t (stack_at t q).proc (stack_at t q).spot y.helpers (stack_at t y)
letter_choices l t v x k a q y after stands b =
    let from = step_from t x b.next b.step in
    let known : IsKnownStack t b.next = step_known l t v x b.next k b.step in
    let values : b.next.values ≡ (stack_at t y).values = ap (λ (p : TracePosition). p.values) b.stands ∙ sym (standing_values y.values (slice_get (program_places t) (y.place - 1))) in
    let number : number_at t x.proc b.next.spot ≡ number_at t x.proc (stack_at t y).spot =
    number_read l t v b.next.proc b.next.spot known.spot y.place y.values (ap (λ (p : TracePosition). p.place) b.stands) x.proc in
    b.told b.next ∙ same_spot_choices t x.proc x.spot y.helpers b.next (stack_at t y) values number
    ∙ here_found l t v x k q (ap (λ (p : TracePosition). p.place) stands) from.0 from.1 y.helpers (stack_at t y)

-- ---- the letters behind the first

-- Steps that tell the same as positions, one for each: each stack stands at its position, and the same is chosen.
abbrev Aligned : TypedProgram → Stack → TracePosition → List ToldStep → List TracePosition → Type 0
Aligned t x q [] [] = standing_at t x q.helpers ≡ q
Aligned t x q [] (y ∷ more) = ⊥
Aligned t x q (s ∷ ss) [] = ⊥
Aligned t x q (s ∷ ss) (y ∷ more) =
    (standing_at t x q.helpers ≡ q) × (spot_choices t x.proc x.spot s.helpers s.after ≡ spot_choices t (stack_at t q).proc (stack_at t q).spot y.helpers (stack_at t y)) × Aligned t s.after y ss more

same_told : (t : TypedProgram) (x : Stack) (q : TracePosition) (ss : List ToldStep) (more : List TracePosition) → Aligned t x q ss more → told_choices t x ss ≡ told_choices t (stack_at t q) (map (step_to t) more)
same_told t x q [] [] h = refl
same_told t x q [] (y ∷ more) h = absurd h
same_told t x q (s ∷ ss) [] h = absurd h
same_told t x q (s ∷ ss) (y ∷ more) h = let rest = same_told t s.after y ss more h.2 in (λ j. h.1 j ++ rest j)

record Told (t : TypedProgram) (i : ℕ) (x : Stack) (q : TracePosition) (more : List TracePosition) : Type 0 where
  steps : List ToldStep
  are : AreToldSteps t i x steps
  aligned : Aligned t x q steps more

goes_told : (l : PlaceLaws) (t : TypedProgram) → IsTrue (is_valid t) → (m i : ℕ) (line : Span) → Member (program_sites t) (site t m i line) → (w : List Letter) → IsExactWord (lowered t) w → (x : Stack) → IsKnownStack t x → (before : List TracePosition) (q : TracePosition) (more : List TracePosition) →
    standing_at t x q.helpers ≡ q → PendAt t x.below before → GoesThrough (told_steps (lowered t)) before q w more → last_place q.place more ≡ error_place t i → Told t i x q more
goes_told l t v m i line s [] marks x k before q [] stands pend h e = record {
  steps = [];
  are = wrong_spot l t v x.proc x.spot k.spot m i line s (ap (λ (p : TracePosition). p.place) stands ∙ e);
  aligned = stands;
}
goes_told l t v m i line s [] marks x k before q (y ∷ more) stands pend h e = absurd h
goes_told l t v m i line s (a ∷ w) marks x k before q [] stands pend h e = absurd h
goes_told l t v m i line s (a ∷ w) marks x k before q (y ∷ more) stands pend h e =
    let f = leads_stack (told_steps (lowered t)) a.kind a before q y (λ stack. GoesThrough (told_steps (lowered t)) stack y w more) h in
    let led : Led t a.kind a before (standing_at t x q.helpers) y f.0 = subst (λ (p : TracePosition). Led t a.kind a before p y f.0) (sym stands) f.1 in
    let b : ToldBack t x a y f.0 = letter_told l t v x k a.kind a q.helpers before y f.0 pend led in
    let first : spot_choices t x.proc x.spot (helpers_of t x b.next b.step) b.next ≡ spot_choices t (stack_at t q).proc (stack_at t q).spot y.helpers (stack_at t y) = letter_choices l t v x k a q y f.0 stands b in
    let r : Told t i b.next y more = goes_told l t v m i line s w marks.1 b.next (step_known l t v x b.next k b.step) f.0 y more b.stands b.pend f.2 e in
    record {
      steps = record { after = b.next; helpers = helpers_of t x b.next b.step } ∷ r.steps;
      are = (record { step = b.step; exact = b.exact marks.0; helpers = refl }, r.are);
      aligned = (stands, first, r.aligned);
    }

-- ---- whole traces

first_letter : (l : PlaceLaws) (t : TypedProgram) → IsTrue (is_valid t) → (kind : Kind) (a : Letter) (x y : TracePosition) (after : List TracePosition) → x.place ≡ 0 → Led t kind a [] x y after → FirstTold t y × ([] ≡ after)
first_letter l t v kinds.Inside a x y after e h = (first_told l t v a x y (subst (λ (q : ℕ). Member (lowered t).automaton.insides (q, a, y.place)) e h.0.0) h.0.1, h.1)
first_letter l t v kinds.Call a x y after e h = absurd (no_first_call l t v a y.place (subst (λ (q : ℕ). Member (lowered t).automaton.calls (q, a, y.place)) e h.0.0))
first_letter l t v kinds.Back a x y after e h = absurd h

-- a trace from its first position on, as a run of the machine
record Started (t : TypedProgram) (i : ℕ) (y : TracePosition) (more : List TracePosition) : Type 0 where
  stack : Stack
  start : IsStart t stack
  told : Told t i stack y more

-- the same choices are told of steps and of positions that are aligned
same_machine : (t : TypedProgram) (x : Stack) (y : TracePosition) (ss : List ToldStep) (more : List TracePosition) → standing_at t x y.helpers ≡ y → told_choices t x ss ≡ told_choices t (stack_at t y) (map (step_to t) more) →
    machine_choices t x ss ≡ trace_choices t (y ∷ more)
same_machine t x y ss more stands same =
    let values : x.values ≡ (stack_at t y).values = ap (λ (p : TracePosition). p.values) stands ∙ sym (standing_values y.values (slice_get (program_places t) (y.place - 1))) in
    (λ j. map Some (take (length t.globals) (values j)) ++ (map Some (drop (columns_before_locals t) (values j)) ++ same j))

aligned_stands : (t : TypedProgram) (x : Stack) (q : TracePosition) (ss : List ToldStep) (more : List TracePosition) → Aligned t x q ss more → standing_at t x q.helpers ≡ q
aligned_stands t x q [] [] h = h
aligned_stands t x q [] (y ∷ more) h = absurd h
aligned_stands t x q (s ∷ ss) [] h = absurd h
aligned_stands t x q (s ∷ ss) (y ∷ more) h = h.0

-- a trace has a first letter
started_trace : (l : PlaceLaws) (t : TypedProgram) → IsTrue (is_valid t) → (m i : ℕ) (line : Span) → Member (program_sites t) (site t m i line) → (w : List Letter) → IsExactWord (lowered t) w → (first : TracePosition) (more : List TracePosition) → first.place ≡ 0 →
    GoesThrough (told_steps (lowered t)) [] first w more → last_place first.place more ≡ error_place t i → (y : TracePosition) × (rest : List TracePosition) × (more ≡ y ∷ rest) × Started t i y rest
started_trace l t v m i line s [] marks first [] e h ends = absurd (omega arith)
started_trace l t v m i line s [] marks first (y ∷ more) e h ends = absurd h
started_trace l t v m i line s (a ∷ w) marks first [] e h ends = absurd h
started_trace l t v m i line s (a ∷ w) marks first (y ∷ more) e h ends =
    let f = leads_stack (told_steps (lowered t)) a.kind a [] first y (λ stack. GoesThrough (told_steps (lowered t)) stack y w more) h in
    let b = first_letter l t v a.kind a first y f.0 e f.1 in
    let x : Stack = b.0.stack in
    let pend : PendAt t x.below f.0 = subst (PendAt t x.below) b.1 (subst (λ (bs : List Pending). PendAt t bs []) (sym b.0.none_open) tt) in
    (y, more, refl, record { stack = x; start = b.0.start; told = goes_told l t v m i line s w marks.1 x (start_known l t v x b.0.start) f.0 y more b.0.stands pend f.2 ends })

trace_started : (l : PlaceLaws) (t : TypedProgram) (i : ℕ) (w : List Letter) (first : TracePosition) (more : List TracePosition) → IsTrue (is_valid t) → IsExactWord (lowered t) w → IsTrace (lowered t) i w first more →
    (y : TracePosition) × (rest : List TracePosition) × (more ≡ y ∷ rest) × Started t i y rest
trace_started l t i w first more v marks r =
    let owner = member_site (program_sites t) r.site r.is_site in
    let n : ℕ = owner.0 in
    let line : Span = record { line = r.site.id.line; col = 0 } in
    let to : r.site.place ≡ error_place t i = site_place t (n, r.site) owner.1 ∙ ap (error_place t) r.number in
    let is : ◌≡◌ {A = ℕ × Site} (n, r.site) (site t n i line) = (λ j. (n, record { id = record { number = r.number j; line = r.site.id.line }; place = to j })) in
    started_trace l t v n i line (subst (Member (program_sites t)) is owner.1) w marks first more r.start ((along_by_stack (told_steps (lowered t)) w first more).0 r.along) (r.ends ∙ to)

pub traces_fail : PlaceLaws → TracesFail
traces_fail l t i w first more v marks r =
    let b = trace_started l t i w first more v marks r in
    let s : Started t i b.0 b.1 = b.3 in
    let x : Stack = s.stack in
    let same : machine_choices t x s.told.steps ≡ trace_choices t (b.0 ∷ b.1) =
    same_machine t x b.0 s.told.steps b.1 (aligned_stands t x b.0 s.told.steps b.1 s.told.aligned) (same_told t x b.0 s.told.steps b.1 s.told.aligned) in
    subst (λ (choices : List (Option ℤ)). FailsAtLast t choices i) (same ∙ ap (trace_choices t) (sym b.2)) (fails_last t v i x s.told.steps s.start s.told.are)

-- ---- positions within a trace

-- the last of the positions from q on
abbrev last_position : TracePosition → List TracePosition → TracePosition
last_position q [] = q
last_position q (y ∷ more) = last_position y more

-- the steps of the positions before y
record Split (t : TypedProgram) (x : Stack) (q : TracePosition) (steps : List ToldStep) (front : List TracePosition) : Type 0 where
  first : List ToldStep
  next : ToldStep
  rest : List ToldStep
  are : steps ≡ first ++ next ∷ rest
  same : told_choices t x first ≡ told_choices t (stack_at t q) (map (step_to t) front)
  stands : standing_at t (behind x first) (last_position q front).helpers ≡ last_position q front

split : (t : TypedProgram) (front : List TracePosition) (y : TracePosition) (rest : List TracePosition) (x : Stack) (q : TracePosition) (steps : List ToldStep) → Aligned t x q steps (front ++ y ∷ rest) → Split t x q steps front
split t [] y rest x q [] h = absurd h
split t [] y rest x q (s ∷ ss) h = record { first = []; next = s; rest = ss; are = refl; same = refl; stands = h.0 }
split t (z ∷ front) y rest x q [] h = absurd h
split t (z ∷ front) y rest x q (s ∷ ss) h =
    let r : Split t s.after z ss front = split t front y rest s.after z ss h.2 in
    record {
      first = s ∷ r.first;
      next = r.next;
      rest = r.rest;
      are = ap (λ (xs : List ToldStep). s ∷ xs) r.are;
      same = (λ j. h.1 j ++ r.same j);
      stands = r.stands;
    }

-- in a trace that begins with this position, at the last of these
comes_to : (t : TypedProgram) → IsTrue (is_valid t) → (i : ℕ) (q : TracePosition) (front : List TracePosition) (y : TracePosition) (rest : List TracePosition) → Started t i q (front ++ y ∷ rest) → ComesTo t (trace_choices t (q ∷ front)) (last_position q front)
comes_to t v i q front y rest s =
    let x : Stack = s.stack in
    let p : Split t x q s.told.steps front = split t front y rest x q s.told.steps s.told.aligned in
    let b = comes_behind t v i x p.first p.next p.rest s.start (subst (AreToldSteps t i x) p.are s.told.are) in
    let stands : standing_at t (shown_stack t b.0) (last_position q front).helpers ≡ last_position q front = ap (λ (z : Stack). standing_at t z (last_position q front).helpers) (sym b.2) ∙ p.stands in
    let same : machine_choices t x p.first ≡ trace_choices t (q ∷ front) = same_machine t x q p.first front (aligned_stands t x q s.told.steps (front ++ y ∷ rest) s.told.aligned) p.same in
    record {
      here = b.0;
      leads = ap (run t (start t)) (sym same) ∙ b.1;
      place = ap (λ (z : TracePosition). z.place) stands;
      values = ap (λ (z : TracePosition). z.values) stands;
    }

last_is : (q : TracePosition) (front : List TracePosition) (x : TracePosition) → last_position q (front ++ x ∷ []) ≡ x
last_is q [] x = refl
last_is q (y ∷ front) x = last_is y front x

pub traces_are_run : PlaceLaws → TracesAreRun
traces_are_run l t i w first [] x y rest v marks r =
    let b = trace_started l t i w first (x ∷ y ∷ rest) v marks r in
    let head : b.0 ≡ x = cc in
    let tail : b.1 ≡ y ∷ rest = cc in
    comes_to t v i x [] y rest (subst (Started t i x) tail (subst (λ (q : TracePosition). Started t i q b.1) head b.3))
traces_are_run l t i w first (q ∷ front) x y rest v marks r =
    let b = trace_started l t i w first (q ∷ (front ++ x ∷ y ∷ rest)) v marks r in
    let head : b.0 ≡ q = cc in
    let tail : b.1 ≡ front ++ x ∷ y ∷ rest = cc in
    let apart : front ++ x ∷ y ∷ rest ≡ (front ++ x ∷ []) ++ y ∷ rest = sym (append_assoc front (x ∷ []) (y ∷ rest)) in
    subst (ComesTo t (trace_choices t (q ∷ (front ++ x ∷ [])))) (last_is q front x)
    (comes_to t v i q (front ++ x ∷ []) y rest (subst (Started t i q) (tail ∙ apart) (subst (λ (p : TracePosition). Started t i p b.1) head b.3)))
