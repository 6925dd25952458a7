-- Where the stack machine over points fails an assertion, some feasible word leads to where it fails; and where such a word has no coarse letter, the
-- machine fails it by exact steps.
use Rattle.std.proofs.Common.{◌≡◌, ◌∙◌, ℕ, zero, suc, ◌+◌, ◌<◌, ◌≤◌, List, [], ◌∷◌, map, length, Option, Some, inl, inr, refl, sym, ap, subst, arith, IsTrue}
use Rattle.std.specs.Prelude.{slice_get}
use Rattle.std.specs.List.{AllByRecursion}
use Rattle.boogie_tree.specs.declared.span.Span.{Span}
use Rattle.typed_tree.specs.TypedTree.{TypedProgram}
use Rattle.typed_tree.specs.TypingRules.ValidProgram.{is_valid}
use Rattle.typed_tree.proofs.TypingRules.ValidLaws as valid
use Rattle.nwa_base.specs.Members.{Member}
use Rattle.nwa_base.specs.declared.letters.Kind.{Kind}
use Rattle.nwa_base.specs.declared.letters.Kind.TheVariants as kinds
use Rattle.nwa_base.specs.declared.letters.Letter.{Letter}
use Rattle.lin_rows.specs.Rows.{LinearRow}
use Rattle.letter_acts.specs.declared.sites.Site.{Site}
use Rattle.letter_acts.specs.Frames.{Columns, IsState, olds_of}
use Rattle.letter_acts.specs.Acts.{PlainAct, letter_of, act_of}
use Rattle.letter_acts.specs.Meaning.{InsideLeads, Situation, ActInside}
use Rattle.letter_acts.specs.Ways.{Leads, Goes}
use Rattle.letter_acts.specs.Feasible.{IsSituation, meaning, edges, machine, FeasibleWay}
use Rattle.letter_acts.proofs.WayLemmas.{leads_stack, leads_with}
use Rattle.letter_acts.proofs.MachineLemmas.{goes_together, goes_apart, firsts, seconds, feasible_by_way}
use Rattle.boogie_run.specs.BoogiePoints.Points.{Point}
use Rattle.boogie_run.specs.BoogiePoints.Starts.{start_point_of}
use Rattle.boogie_run.specs.BoogiePlaces.Places.{program_places}
use Rattle.lowered_graph.specs.LoweredSteps.ProgramFrames.{frame_at, width_at}
use Rattle.lowered_graph.specs.LoweredSteps.Edges.{Spot, At, Wrong}
use Rattle.lowered_graph.specs.LoweredSteps.Stacks.{Stack, IsStart, Reaches, MachineFails, ExactlyReaches, MachineFailsExactly}
use Rattle.lowered_graph.specs.Arcs.{place_number, error_place, spot_number, entering_rows, entering, program_arcs}
use Rattle.letter_acts.specs.LetterTable.Letters.{MarkedAct, exact_act, inside_arc, call_arc, no_letters, lettered}
use Rattle.lowered_graph.specs.LetterLaws.{InsideOf, CallOf}
use Rattle.lowered_graph.specs.Lowered.{site, program_sites, lowered}
use Rattle.lowered_graph.specs.Laws.{ErrorWord, IsExactWord, MachineJoins}
use Rattle.lowered_graph.proofs.ErrorWords.{way_runs, error_way}
use Rattle.lowered_graph.proofs.ActNumbers.{act_got}
use Rattle.lowered_graph.proofs.LetterEdges.{HasInside, inside_lettered}
use Rattle.lowered_graph.proofs.LetterSets.{insides_are, calls_are}
use Rattle.lowered_graph.proofs.KnownPlaces.{PlaceLaws, IsKnown, known_start, known_number}
use Rattle.lowered_graph.proofs.StartLetter.{IsEntered, start_led, start_leads}
use Rattle.lowered_graph.proofs.Alphabet.{letters_of, situation, frame_is, proc_exists, inside_means, inside_meant}
use Rattle.lowered_graph.proofs.Joined.{seen, stacked, StepsTo, IsKnownSpot, IsKnownStack, from_start_or_place, step_known, step_seen}
use Rattle.lowered_graph.proofs.JoinedBack.{inside_parts, letter_act, StepBack, step_back}
use Rattle.lowered_graph.proofs.EdgeArcs.{edge_act}
use Rattle.lowered_graph.proofs.SiteNumbers.{site_positive, site_place}

-- a way of the automaton and its letters
abbrev Ways : TypedProgram → List (ℕ × Situation) → ℕ × Situation → List Letter → List (ℕ × Situation) → ℕ × Situation → Type 0
Ways t before x w after y = Goes (machine (lowered t).automaton (letters_of t)) before x w after y

-- ---- from points to places

record ReachesWord (t : TypedProgram) (i : ℕ) (x : Stack) : Type 0 where
  word : List Letter
  open_calls : List (ℕ × Situation)
  last : ℕ × Situation
  goes : Ways t (stacked t x.below) (seen t x) word open_calls last
  owner : ℕ
  line : Span
  is_site : Member (program_sites t) (site t owner i line)
  ends : last.0 ≡ error_place t i

wrong_site : (t : TypedProgram) (n : ℕ) (spot : Spot) (i : ℕ) → spot ≡ Wrong i → IsKnownSpot t n spot → (line : Span) × Member (program_sites t) (site t n i line)
wrong_site t n spot i e k = subst (IsKnownSpot t n) e k

reaches_word : (l : PlaceLaws) (t : TypedProgram) → IsTrue (is_valid t) → (i k : ℕ) (x : Stack) → IsKnownStack t x → Reaches t i k x → ReachesWord t i x
reaches_word l t v i zero x known h =
    let s = wrong_site t x.proc x.spot i h known.spot in
    record {
      word = [];
      open_calls = stacked t x.below;
      last = seen t x;
      goes = (refl, refl);
      owner = x.proc;
      line = s.0;
      is_site = s.1;
      ends = ap (spot_number t x.proc) h;
    }
reaches_word l t v i (suc k) x known h =
    let y : Stack = h.0 in
    let s = step_seen t x y known h.1 in
    let r : ReachesWord t i y = reaches_word l t v i k y (step_known l t v x y known h.1) h.2 in
    record {
      word = s.0 ∷ r.word;
      open_calls = r.open_calls;
      last = r.last;
      goes = (seen t y, leads_with (machine (lowered t).automaton (letters_of t)) s.0.kind s.0 (stacked t x.below) (seen t x) (seen t y) (stacked t y.below) (λ stack. Ways t stack (seen t y) r.word r.open_calls r.last) s.1 r.goes);
      owner = r.owner;
      line = r.line;
      is_site = r.is_site;
      ends = r.ends;
    }

-- ---- from places to points

site_number : (t : TypedProgram) → IsTrue (is_valid t) → (n m i j : ℕ) (line span : Span) → Member (program_sites t) (site t n i line) → Member (program_sites t) (site t m j span) → error_place t i ≡ error_place t j → i ≡ j
site_number t v n m i j line span a b e =
    let x : 1 ≤ i = site_positive t v (site t n i line) a in
    let y : 1 ≤ j = site_positive t v (site t m j span) b in
    omega arith

-- a spot whose place is that where the assertion fails
wrong_spot : (l : PlaceLaws) (t : TypedProgram) → IsTrue (is_valid t) → (n : ℕ) (spot : Spot) → IsKnownSpot t n spot → (m i : ℕ) (line : Span) → Member (program_sites t) (site t m i line) → spot_number t n spot ≡ error_place t i → spot ≡ Wrong i
wrong_spot l t v n (At p) k m i line s e =
    let bounds = known_number l t v n p k in
    let upper : place_number t n p < 1 + length (program_places t) = bounds.1 in
    absurd (omega arith)
wrong_spot l t v n (Wrong j) k m i line s e = ap Wrong (site_number t v n m j i k.0 line k.1 s e)

-- a way by letters that are not coarse is one of exact steps
goes_reach : (l : PlaceLaws) (t : TypedProgram) → IsTrue (is_valid t) → (w : List Letter) → IsExactWord (lowered t) w → (x : Stack) → IsKnownStack t x → (after : List (ℕ × Situation)) (last : ℕ × Situation) → Ways t (stacked t x.below) (seen t x) w after last →
    (m i : ℕ) (line : Span) → Member (program_sites t) (site t m i line) → last.0 ≡ error_place t i → (k : ℕ) × ExactlyReaches t i k x
goes_reach l t v [] marks x known after last h m i line s e = (0, wrong_spot l t v x.proc x.spot known.spot m i line s (ap (λ (y : ℕ × Situation). y.0) h.1 ∙ e))
goes_reach l t v (a ∷ w) marks x known after last h m i line s e =
    let f = leads_stack (machine (lowered t).automaton (letters_of t)) a.kind a (stacked t x.below) (seen t x) h.0 (λ stack. Ways t stack h.0 w after last) h.1 in
    let b : StepBack t x a h.0 f.0 = step_back l t v x known a h.0 f.0 f.1 in
    let y : Stack = b.next in
    let on : Ways t (stacked t y.below) (seen t y) w after last =
    subst (λ (z : ℕ × Situation). Ways t (stacked t y.below) z w after last) (sym b.seen_so) (subst (λ (stack : List (ℕ × Situation)). Ways t stack h.0 w after last) (sym b.stacked_so) f.2) in
    let r = goes_reach l t v w marks.1 y (step_known l t v x y known b.step) after last on m i line s e in
    (suc r.0, (y, b.step, b.exact marks.0, r.1))

-- ---- the start

abbrev first_point : TypedProgram → Point
first_point t = start_point_of t (slice_get t.procs t.entry)

start_known : (l : PlaceLaws) (t : TypedProgram) → IsTrue (is_valid t) → (x : Stack) → IsStart t x → IsKnownStack t x
start_known l t v x s =
    let here : IsKnownSpot t t.entry (At (first_point t)) = known_start l t v in
    let at : IsKnownSpot t t.entry x.spot = subst (IsKnownSpot t t.entry) (sym s.spot) here in
    record {
      spot = subst (λ (n : ℕ). IsKnownSpot t n x.spot) (sym s.proc) at;
      below = subst (AllByRecursion (λ b. IsKnown t b.proc b.point)) (sym s.below) tt;
    }

-- the letter of the start leads to a start
record StartsBy (t : TypedProgram) (x : Stack) : Type 0 where
  letter : Letter
  begins : IsSituation (letters_of t) (situation t.entry x.values)
  step : StepsTo t letter [] (0, situation t.entry x.values) (seen t x) (stacked t x.below)

start_steps : (t : TypedProgram) → IsTrue (is_valid t) → (x : Stack) → IsStart t x → StartsBy t x
start_steps t v x s =
    let entry = valid.entry t v in
    let frame : Columns = frame_at t t.entry in
    let written : List ℕ = map (λ o. o.0) (olds_of frame) in
    let act : PlainAct = entering t.entry frame in
    let to : ℕ = place_number t t.entry (first_point t) in
    let h : HasInside (lettered (program_arcs t)) 0 (exact_act act) to = inside_lettered no_letters (program_arcs t) 0 (exact_act act) to (inl refl) in
    let entered : IsEntered t x.values = record { globals = s.globals; as_many = s.as_many; locals = s.locals; is = s.values } in
    let led : InsideLeads frame written 0 (entering_rows (width_at t t.entry) (olds_of frame)) x.values x.values = start_leads t t.entry x.values s.state entered in
    let means : ActInside (letters_of t) (act_of (letters_of t) (letter_of h.id act)) (situation t.entry x.values) (situation t.entry x.values) =
    inside_means t t.entry h.id entry.0 written 0 (entering_rows (width_at t t.entry) (olds_of frame)) x.values x.values entry.2 (act_got (lettered (program_arcs t)).acts h.id (exact_act act) h.act) led in
    let here : Stack = record { proc = t.entry; spot = At (first_point t); values = x.values; below = [] } in
    let same : here ≡ x = (λ i. record { proc = sym s.proc i; spot = sym s.spot i; values = x.values; below = sym s.below i }) in
    let one : StepsTo t (letter_of h.id act) [] (0, situation t.entry x.values) (seen t here) (stacked t here.below) = ((h.edge, means), refl) in
    record {
      letter = letter_of h.id act;
      begins = (proc_exists t t.entry entry.0 entry.2, subst (λ (f : Columns). IsState f x.values) (sym (frame_is t t.entry entry.0 entry.2)) s.state);
      step = subst (λ (z : Stack). StepsTo t (letter_of h.id act) [] (0, situation t.entry x.values) (seen t z) (stacked t z.below)) same one;
    }

site_member : (ss : List (ℕ × Site)) (s : ℕ × Site) → Member ss s → Member (map (λ s. s.1) ss) s.1
site_member [] s m = absurd m
site_member (r ∷ ss) s (inl e) = inl (ap (λ (x : ℕ × Site). x.1) e)
site_member (r ∷ ss) s (inr m) = inr (site_member ss s m)

pub fails_word : (l : PlaceLaws) (t : TypedProgram) → IsTrue (is_valid t) → (i : ℕ) → MachineFails t i → ErrorWord (lowered t) i
fails_word l t v i h =
    let x : Stack = h.1 in
    let s : StartsBy t x = start_steps t v x h.2 in
    let r : ReachesWord t i x = reaches_word l t v i h.0 x (start_known l t v x h.2) h.3 in
    let first : Situation = situation t.entry x.values in
    let word : List Letter = s.letter ∷ r.word in
    let goes : Ways t [] (0, first) word r.open_calls r.last =
    (seen t x, leads_with (machine (lowered t).automaton (letters_of t)) s.letter.kind s.letter [] (0, first) (seen t x) (stacked t x.below) (λ stack. Ways t stack (seen t x) r.word r.open_calls r.last) s.step r.goes) in
    let apart = goes_apart (edges (lowered t).automaton) (meaning (letters_of t)) word [] r.open_calls (0, first) r.last goes in
    let place : Site = (site t r.owner i r.line).1 in
    let way : FeasibleWay (letters_of t) word = record { first = first; last = r.last.1; open_calls = seconds r.open_calls; begins = s.begins; goes = apart.1 } in
    let edge_way = way_runs (edges (lowered t).automaton) word (firsts r.open_calls) 0 (error_place t i) (subst (λ (e : ℕ). Goes (edges (lowered t).automaton) [] 0 word (firsts r.open_calls) e) r.ends apart.0) in
    record {
      word = word;
      run = edge_way.0;
      site = place;
      is_site = site_member (program_sites t) (site t r.owner i r.line) r.is_site;
      number = refl;
      goes = edge_way.1;
      ends = edge_way.2;
      feasible = (feasible_by_way (letters_of t) word).1 way;
    }

-- ---- back from the start

member_site : (ss : List (ℕ × Site)) (s : Site) → Member (map (λ s. s.1) ss) s → (n : ℕ) × Member ss (n, s)
member_site [] s m = absurd m
member_site (r ∷ ss) s (inl e) = (r.0, inl (λ i. (r.0, e i)))
member_site (r ∷ ss) s (inr m) = let h = member_site ss s m in (h.0, inr h.1)

-- the first step from place 0
record FirstStep (t : TypedProgram) (y : ℕ × Situation) (after : List (ℕ × Situation)) : Type 0 where
  stack : Stack
  start : IsStart t stack
  seen_so : seen t stack ≡ y
  stacked_so : stacked t stack.below ≡ after

place_not_zero : (l : PlaceLaws) (t : TypedProgram) → IsTrue (is_valid t) → (n : ℕ) (p : Point) → IsKnown t n p → place_number t n p ≡ 0 → ⊥
place_not_zero l t v n p k e =
    let bounds = known_number l t v n p k in
    let lower : 1 ≤ place_number t n p = bounds.0 in
    omega arith

first_inside : (l : PlaceLaws) (t : TypedProgram) → IsTrue (is_valid t) → (a : Letter) (first : Situation) (y : ℕ × Situation) (after : List (ℕ × Situation)) →
    Member (lowered t).automaton.insides (0, a, y.0) → ActInside (letters_of t) (act_of (letters_of t) a) first y.1 → [] ≡ after → FirstStep t y after
first_inside l t v a first y after m means e =
    let h : InsideOf (program_arcs t) (lettered (program_arcs t)).acts 0 a y.0 = (insides_are (program_arcs t) 0 y.0 a).0 m in
    let frame : Columns = frame_at t t.entry in
    let written : List ℕ = map (λ o. o.0) (olds_of frame) in
    let rows : List LinearRow = entering_rows (width_at t t.entry) (olds_of frame) in
    let entry = valid.entry t v in
    elim (from_start_or_place t v (inside_arc 0 h.act y.0) h.arc) [
      | inl start ↦ (let parts = inside_parts 0 0 (exact_act (entering t.entry frame)) h.act (place_number t t.entry (first_point t)) y.0 start in
          let means_so : ActInside (letters_of t) (Some (entering t.entry frame)) first y.1 =
          subst (λ (o : Option PlainAct). ActInside (letters_of t) o first y.1) (letter_act t a h.act h.letter ∙ ap (λ (m : MarkedAct). Some m.act) (sym parts.1)) means in
          let meant = inside_meant t t.entry entry.0 written 0 rows first y.1 entry.2 means_so in
          let entered : IsEntered t y.1.values = start_led t t.entry first.values y.1.values meant.2 in
          record {
            stack = record { proc = t.entry; spot = At (first_point t); values = y.1.values; below = [] };
            start = record {
              globals = entered.globals;
              as_many = entered.as_many;
              locals = entered.locals;
              proc = refl;
              spot = refl;
              values = entered.is;
              state = meant.2.after;
              below = refl;
            };
            seen_so = λ i. (parts.2 i, record { proc = sym meant.1 i; values = y.1.values });
            stacked_so = e;
          })
      | inr w ↦ elim w.3 [
        | inl edge ↦ (let parts = inside_parts (place_number t w.0 w.1) 0 (edge_act w.0 edge.edge) h.act (spot_number t w.0 edge.edge.to) y.0 edge.is in
            absurd (place_not_zero l t v w.0 w.1 w.2 parts.0))
        | inr c ↦ absurd (cc)
      ]
    ]

first_call : (l : PlaceLaws) (t : TypedProgram) → IsTrue (is_valid t) → (a : Letter) (q : ℕ) → Member (lowered t).automaton.calls (0, a, q) → ⊥
first_call l t v a q m =
    let h : CallOf (program_arcs t) (lettered (program_arcs t)).acts 0 a q = (calls_are (program_arcs t) 0 q a).0 m in
    elim (from_start_or_place t v (call_arc 0 h.act q h.from h.targets h.behind) h.arc) [
      | inl start ↦ cc
      | inr w ↦ elim w.3 [
        | inl edge ↦ cc
        | inr c ↦ (let is : place_number t w.0 w.1 ≡ 0 = cc in place_not_zero l t v w.0 w.1 w.2 is)
      ]
    ]

first_step : (l : PlaceLaws) (t : TypedProgram) → IsTrue (is_valid t) → (kind : Kind) (a : Letter) (first : Situation) (y : ℕ × Situation) (after : List (ℕ × Situation)) →
    Leads (machine (lowered t).automaton (letters_of t)) kind a [] (0, first) y (λ s. s ≡ after) → FirstStep t y after
first_step l t v kinds.Inside a first y after h = first_inside l t v a first y after h.0.0 h.0.1 h.1
first_step l t v kinds.Call a first y after h = absurd (first_call l t v a y.0 h.0.0)
first_step l t v kinds.Back a first y after h = absurd h

way_fails : (l : PlaceLaws) (t : TypedProgram) → IsTrue (is_valid t) → (w : List Letter) → IsExactWord (lowered t) w → (first : Situation) (after : List (ℕ × Situation)) (last : ℕ × Situation) → Ways t [] (0, first) w after last →
    (m i : ℕ) (line : Span) → Member (program_sites t) (site t m i line) → last.0 ≡ error_place t i → MachineFailsExactly t i
way_fails l t v [] marks first after last h m i line s e =
    let zero_is : 0 ≡ last.0 = ap (λ (x : ℕ × Situation). x.0) h.1 in
    absurd (let is : 0 ≡ error_place t i = zero_is ∙ e in omega arith)
way_fails l t v (a ∷ w) marks first after last h m i line s e =
    let f = leads_stack (machine (lowered t).automaton (letters_of t)) a.kind a [] (0, first) h.0 (λ stack. Ways t stack h.0 w after last) h.1 in
    let b : FirstStep t h.0 f.0 = first_step l t v a.kind a first h.0 f.0 f.1 in
    let x : Stack = b.stack in
    let on : Ways t (stacked t x.below) (seen t x) w after last =
    subst (λ (z : ℕ × Situation). Ways t (stacked t x.below) z w after last) (sym b.seen_so) (subst (λ (stack : List (ℕ × Situation)). Ways t stack h.0 w after last) (sym b.stacked_so) f.2) in
    let r = goes_reach l t v w marks.1 x (start_known l t v x b.start) after last on m i line s e in
    (r.0, x, b.start, r.1)

pub word_fails : (l : PlaceLaws) (t : TypedProgram) → IsTrue (is_valid t) → (i : ℕ) → (h : ErrorWord (lowered t) i) → IsExactWord (lowered t) h.word → MachineFailsExactly t i
word_fails l t v i h marks =
    let way : FeasibleWay (letters_of t) h.word = (feasible_by_way (letters_of t) h.word).0 h.feasible in
    let edge_way = error_way (lowered t) i h in
    let r = goes_together (edges (lowered t).automaton) (meaning (letters_of t)) h.word [] edge_way.0 way.open_calls 0 h.site.place way.first way.last edge_way.1 way.goes in
    let owner = member_site (program_sites t) h.site h.is_site in
    let n : ℕ = owner.0 in
    let place : h.site.place ≡ error_place t h.site.id.number = site_place t (n, h.site) owner.1 in
    let to : h.site.place ≡ error_place t i = place ∙ ap (error_place t) h.number in
    let is : ◌≡◌ {A = ℕ × Site} (n, h.site) (site t n i (record { line = h.site.id.line; col = 0 })) =
    (λ j. (n, record { id = record { number = h.number j; line = h.site.id.line }; place = to j })) in
    way_fails l t v h.word marks way.first r.0 (h.site.place, way.last) r.3 n i (record { line = h.site.id.line; col = 0 }) (subst (Member (program_sites t)) is owner.1) to

pub machine_fails : (l : PlaceLaws) (t : TypedProgram) → IsTrue (is_valid t) → (i : ℕ) → MachineJoins t i
machine_fails l t v i = record { follows = λ h. fails_word l t v i h; leads = λ h marks. word_fails l t v i h marks }
