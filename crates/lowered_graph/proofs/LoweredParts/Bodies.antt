-- What a body and the start add: the conditions around the statements, and the return.
use Rattle.std.proofs.Common.{◌≡◌, ℕ, zero, suc, ◌+◌, ◌<◌, Bool, true, false, List, [], ◌∷◌, ◌++◌, map, length, take, Option, None, Some, refl, sym, ap, ◌∙◌, subst, append_assoc, arith}
use Rattle.std.specs.Prelude.{slice_get}
use Rattle.boogie_tree.specs.declared.span.Span.{Span}
use Rattle.typed_tree.specs.TypedTree.{TypedExpression, TypedInvariant, Assert, Assume, Havoc, Assign, Call, If, While, Break, Goto, Return, Label, TypedBlock, Empty, Then, TypedProcedure, TypedProgram}
use Rattle.typed_tree.specs.TypingRules.Counts.{block_assertions, block_points, plain_invariants}
use Rattle.letter_acts.specs.declared.sites.Site.{Site}
use Rattle.cond_jumps.specs.FreeProducts.FrameLetters.{path_letters}
use Rattle.boogie_run.specs.BoogiePoints.Points.{Todo, Start, Entry, Point, at_exit, settled}
use Rattle.boogie_run.specs.BoogiePoints.Actions.{Suppose, Leave, checked, next_part, free_conditions, ensured_conditions, plain_conditions, start_conditions, entry_point, first_point, entry_action, exit_action, start_action, first_assertion, first_place}
use Rattle.boogie_run.specs.BoogiePoints.Starts.{point_of_call, point_of_procedure, start_point_of, unless_none}
use Rattle.boogie_run.specs.BoogiePlaces.Places.{Place, parts_from, points_of, points_with, start_points, starts_if_any, places_from, program_places, located, place_of}
use Rattle.letter_acts.specs.LetterTable.Letters.{with_arc, with_arcs, no_letters}
use Rattle.lowered_graph.specs.LoweredSteps.ProgramFrames.{frame_at}
use Rattle.lowered_graph.specs.LoweredSteps.Edges.{local_count}
use Rattle.lowered_graph.specs.Arcs.{place_number, return_point, return_place, start_arc, arcs_of}
use Rattle.lowered_graph.specs.Lowered.{sites_of}
use Rattle.lowered_graph.specs.Items.{path_needed, condition_span, start_span, earlier, first_of, items_of}
use Rattle.boogie_tree.specs.Apart.{nowhere}
use Rattle.lowered_graph.specs.LoweredParts.Parts.{Walked, Adds, IsWalked}
use Rattle.lowered_graph.specs.LoweredParts.Lists.{list_arcs}
use Rattle.lowered_graph.specs.LoweredParts.Making.{MakesItem}
use Rattle.lowered_graph.specs.LoweredParts.Items.{checked_sites, checked_arcs, checked_needed, only_labels}
use Rattle.lowered_graph.proofs.LoweredParts.Joining.{joined, nothing, no_more}
use Rattle.lowered_graph.proofs.LoweredParts.OneItem.{placed, plain_item, nothing_led}
use Rattle.lowered_graph.proofs.LoweredParts.Numbers as numbers
use Rattle.lowered_graph.proofs.LoweredParts.Numbers.{both_added, part_added}
use Rattle.lowered_graph.proofs.LoweredParts.Statements.{checked_edges, checked_lists, checked_at}

-- ---- numbers

-- the last member of a list has its last place
at_end : {X : Type 0} (xs : List X) (i : ℕ) (x : X) → slice_get xs i ≡ Some x → slice_get xs (suc i) ≡ None → suc i ≡ length xs
at_end [] i x e d = cc
at_end (y ∷ []) zero x e d = refl
at_end (y ∷ z ∷ xs) zero x e d = cc
at_end (y ∷ xs) (suc i) x e d = ap suc (at_end xs i x e d)

-- labels have no places
labels_points : (procs : List TypedProcedure) (b : TypedBlock) → only_labels b ≡ true → block_points procs b ≡ 0
labels_points procs Empty h = refl
labels_points procs (Then (Label k) b) h = omega (arith, labels_points procs b h)
labels_points procs (Then (Assert span e) b) h = cc
labels_points procs (Then (Assume span e) b) h = cc
labels_points procs (Then (Havoc span cs) b) h = cc
labels_points procs (Then (Assign span cs es) b) h = cc
labels_points procs (Then (Call span cs f es) b) h = cc
labels_points procs (Then (If span g x y) b) h = cc
labels_points procs (Then (While span g is x) b) h = cc
labels_points procs (Then (Break span m) b) h = cc
labels_points procs (Then (Goto span ks) b) h = cc
labels_points procs (Then (Return span) b) h = cc

-- ---- a body

module _ (t : TypedProgram) (n : ℕ) (q : TypedProcedure) (body : TypedBlock) (found : slice_get t.procs n ≡ Some q) (whole : q.body ≡ Some body) where
  abbrev frees : List TypedInvariant
  frees = free_conditions q.specs

  abbrev ensured : List TypedInvariant
  ensured = ensured_conditions q.specs

  abbrev first : ℕ
  first = first_assertion t.procs n

  abbrev pub start : ℕ
  start = first_place t n + length (free_conditions q.specs)

  abbrev pub exit : ℕ
  exit = first_place t n + length (free_conditions q.specs) + block_points t.procs body

  abbrev all_statements : Todo
  all_statements = record { rest = body; of_loop = false; id = first; at = start }

  abbrev pub entry : Point
  entry = record { stage = Entry; todo = record { rest = body; of_loop = false; id = first_assertion t.procs n; at = first_place t n + length (free_conditions q.specs) } ∷ []; part = 0 }

  number_is : (p : Point) → place_number t n p ≡ place_of t n q body p
  number_is p = numbers.number_is t n q body found whole p

  pub exit_is : place_number t n at_exit ≡ exit
  exit_is = number_is at_exit ∙ (let e : exit + 0 ≡ exit = omega arith in e)

  pub return_is : return_place t n ≡ exit + length (ensured_conditions q.specs)
  return_is =
      ap (λ (o : Option TypedProcedure). place_number t n (return_point o)) found
      ∙ number_is (record at_exit { part = length ensured })

  begins_by : (v : Bool) → only_labels body ≡ v → place_number t n (settled (all_statements ∷ [])) ≡ start
  begins_by true h =
      let none : block_points t.procs body ≡ 0 = labels_points t.procs body h in
      numbers.number_ended t n q body found whole body false first start [] h ∙ exit_is ∙ (let e : start + block_points t.procs body ≡ start = omega arith in e)
  begins_by false h = numbers.number_left t n q body found whole body false first start [] h

  -- the place before the statements
  pub statements_begin : place_number t n (settled (record { rest = body; of_loop = false; id = first_assertion t.procs n; at = first_place t n + length (free_conditions q.specs) } ∷ [])) ≡ start
  statements_begin = begins_by (only_labels body) refl

  entry_by : (is : List TypedInvariant) → frees ≡ is → place_number t n (entry_point is all_statements) ≡ first_place t n
  entry_by [] e =
      let none : length frees ≡ 0 = ap length e in
      statements_begin ∙ (let s : start ≡ first_place t n = omega arith in s)
  entry_by (i ∷ is) e = number_is (record { stage = Entry; todo = all_statements ∷ []; part = 0 }) ∙ (let s : first_place t n + 0 ≡ first_place t n = omega arith in s)

  -- the first place of the body
  pub first_is : place_number t n (first_point q body (first_assertion t.procs n) (first_place t n)) ≡ first_place t n
  first_is = entry_by frees refl

  pub called_is : place_number t n (point_of_call t n (slice_get t.procs n)) ≡ first_place t n
  called_is =
      ap (λ (o : Option TypedProcedure). place_number t n (point_of_call t n o)) found
      ∙ ap (λ (o : Option TypedBlock). place_number t n (point_of_procedure t n q o)) whole ∙ first_is

  -- ---- free requires

  abbrev entry_part : ℕ → Point
  entry_part i = record entry { part = i }

  entry_next : (o : Option TypedInvariant) (inv : TypedInvariant) (i : ℕ) → slice_get frees i ≡ Some inv → slice_get frees (i + 1) ≡ o →
      (next : Point) × (entry_action (Some inv) o (entry_part i) ≡ Suppose inv.cond next) × (place_number t n next ≡ first_place t n + (i + 1))
  entry_next None inv i e d =
      let m : i + 1 ≡ suc i = omega arith in
      let last : suc i ≡ length frees = at_end frees i inv e (ap (slice_get frees) (sym m) ∙ d) in
      (settled (all_statements ∷ []), refl, statements_begin ∙ (let s : start ≡ first_place t n + (i + 1) = omega arith in s))
  entry_next (Some j) inv i e d = (next_part (entry_part i), refl, number_is (next_part (entry_part i)))

  pub entry_added : (i : ℕ) (inv : TypedInvariant) (old new : Walked) → old.program ≡ t → slice_get (free_conditions q.specs) i ≡ Some inv →
      MakesItem inv.span [] (list_arcs n (first_place t n + i) [] (path_letters (frame_at t n) (local_count t n) inv.cond true) (first_place t n + (i + 1))) (path_needed (frame_at t n) (local_count t n) inv.cond true ∷ []) old new →
      Adds (located n (record entry { part = i } ∷ [])) old new
  entry_added i inv old new p e h =
      let here : Point = entry_part i in
      let next = entry_next (slice_get frees (i + 1)) inv i e refl in
      placed t n here (Suppose inv.cond next.0) inv.span _ _ _ old new
      (numbers.action_is t n q body found whole here ∙ ap (λ (o : Option TypedInvariant). entry_action o (slice_get frees (i + 1)) here) e ∙ next.1)
      (numbers.span_is t n q body found whole here ∙ ap (condition_span nowhere) e) refl p refl
      (checked_edges t n here (first_place t n + i) (first_place t n + (i + 1)) next.0 (number_is here) (sym next.2) true 0 inv.span inv.cond)
      refl h

  -- ---- ensures

  abbrev exit_part : ℕ → Point
  exit_part i = record at_exit { part = i }

  pub ensures_added : (i : ℕ) (inv : TypedInvariant) (number : ℕ) (old new : Walked) → old.program ≡ t → slice_get (ensured_conditions q.specs) i ≡ Some inv →
      number ≡ first_assertion t.procs n + (block_assertions t.procs body + plain_invariants (take i (ensured_conditions q.specs))) →
      MakesItem inv.span (checked_sites t inv.free number inv.span) (checked_arcs t n (exit + i) inv.free number inv.cond (exit + (i + 1))) (checked_needed (frame_at t n) (local_count t n) inv.free inv.cond) old new →
      Adds (located n (record at_exit { part = i } ∷ [])) old new
  ensures_added i inv number old new p e is_number h =
      let here : Point = exit_part i in
      let next : Point = next_part here in
      let action : exit_action (slice_get ensured i) (first + (block_assertions t.procs body + plain_invariants (take i ensured))) here ≡ checked inv.free number inv.span inv.cond next =
      ap (λ (o : Option TypedInvariant). exit_action o (first + (block_assertions t.procs body + plain_invariants (take i ensured))) here) e
      ∙ ap (λ (m : ℕ). checked inv.free m inv.span inv.cond next) (sym is_number) in
      placed t n here (checked inv.free number inv.span inv.cond next) inv.span _ _ _ old new
      (numbers.action_is t n q body found whole here ∙ action)
      (numbers.span_is t n q body found whole here ∙ ap (condition_span nowhere) e) refl p
      (checked_at t n here (exit + i) (exit + (i + 1)) next (number_is here) (sym (number_is next)) inv.free number inv.span inv.cond)
      (checked_edges t n here (exit + i) (exit + (i + 1)) next (number_is here) (sym (number_is next)) inv.free number inv.span inv.cond)
      (checked_lists t n here (exit + i) (exit + (i + 1)) next (number_is here) (sym (number_is next)) inv.free number inv.span inv.cond) h

  none_behind : {X : Type 0} (xs : List X) → slice_get xs (length xs) ≡ None
  none_behind [] = refl
  none_behind (x ∷ xs) = none_behind xs

  -- no edge leads from the return: a letter of a call has it
  pub return_added : (w : Walked) → w.program ≡ t → Adds (located n (record at_exit { part = length (ensured_conditions q.specs) } ∷ [])) w w
  return_added w p =
      let here : Point = exit_part (length ensured) in
      placed t n here Leave nowhere [] [] [] w w
      (numbers.action_is t n q body found whole here
      ∙ ap (λ (o : Option TypedInvariant). exit_action o (first + (block_assertions t.procs body + plain_invariants (take (length ensured) ensured))) here) (none_behind ensured))
      (numbers.span_is t n q body found whole here ∙ ap (condition_span nowhere) (none_behind ensured)) refl p refl refl refl
      (plain_item nowhere [] w w (nothing_led w))

  -- ---- the whole body

  pub body_added : (old entries statements exits : Walked) → exits.program ≡ t →
      Adds (located n (parts_from entry 0 (length (free_conditions q.specs)))) old entries →
      Adds (located n (points_of t.procs body false (first_assertion t.procs n) (first_place t n + length (free_conditions q.specs)) [])) entries statements →
      Adds (located n (parts_from at_exit 0 (length (ensured_conditions q.specs)))) statements exits →
      Adds (located n (points_with t n q q.body)) old exits
  body_added old entries statements exits p h k l =
      let rest : Adds (located n (parts_from at_exit 0 (length ensured + 1))) statements exits = part_added n at_exit (length ensured) statements exits exits l (return_added exits p) in
      subst (λ (o : Option TypedBlock). Adds (located n (points_with t n q o)) old exits) (sym whole)
      (both_added n (parts_from entry 0 (length frees)) _ old entries exits h
      (both_added n (points_of t.procs body false first start []) (parts_from at_exit 0 (length ensured + 1)) entries statements exits k rest))

-- ---- the start

module _ (t : TypedProgram) (q : TypedProcedure) (body : TypedBlock) (found : slice_get t.procs t.entry ≡ Some q) (whole : q.body ≡ Some body) where
  abbrev pub starting : Point
  starting = record { stage = Start; todo = []; part = 0 }

  abbrev conditions : List TypedExpression
  conditions = start_conditions t q

  abbrev first_body : Point
  first_body = first_point q body (first_assertion t.procs t.entry) (first_place t t.entry)

  start_next : (o : Option TypedExpression) (e : TypedExpression) (i to : ℕ) → ((d : TypedExpression) → o ≡ Some d → to ≡ 1 + (i + 1)) → (o ≡ None → to ≡ first_place t t.entry) →
      (next : Point) × (start_action (Some e) o (record starting { part = i }) first_body ≡ Suppose e next) × (to ≡ place_number t t.entry next)
  start_next None e i to go end = (first_body, refl, end refl ∙ sym (first_is t t.entry q body found whole))
  start_next (Some d) e i to go end =
      let next : Point = next_part (record starting { part = i }) in
      (next, refl, go d refl ∙ sym (numbers.number_is t t.entry q body found whole next))

  pub start_added : (i : ℕ) (e : TypedExpression) (sp : Span) (to : ℕ) (old new : Walked) → old.program ≡ t → slice_get (start_conditions t q) i ≡ Some e →
      ((d : TypedExpression) → slice_get (start_conditions t q) (i + 1) ≡ Some d → to ≡ 1 + (i + 1)) → (slice_get (start_conditions t q) (i + 1) ≡ None → to ≡ first_place t t.entry) →
      start_span t.axioms (plain_conditions q.specs) i ≡ sp →
      MakesItem sp [] (list_arcs t.entry (1 + i) [] (path_letters (frame_at t t.entry) (local_count t t.entry) e true) to) (path_needed (frame_at t t.entry) (local_count t t.entry) e true ∷ []) old new →
      Adds (located t.entry (record starting { part = i } ∷ [])) old new
  start_added i e sp to old new p d go end is_span h =
      let here : Point = record starting { part = i } in
      let next = start_next (slice_get conditions (i + 1)) e i to go end in
      placed t t.entry here (Suppose e next.0) sp _ _ _ old new
      (numbers.action_is t t.entry q body found whole here ∙ ap (λ (o : Option TypedExpression). start_action o (slice_get conditions (i + 1)) here first_body) d ∙ next.1)
      (numbers.span_is t t.entry q body found whole here ∙ is_span) refl p refl
      (checked_edges t t.entry here (1 + i) to next.0 (numbers.number_is t t.entry q body found whole here) next.2 true 0 sp e)
      refl h

  start_by : (es : List TypedExpression) → place_number t t.entry (unless_none es first_body) ≡ (elim es [ [] ↦ first_place t t.entry | x ∷ xs ↦ 1 ])
  start_by [] = first_is t t.entry q body found whole
  start_by (e ∷ es) = numbers.number_is t t.entry q body found whole starting

  start_of : place_number t t.entry (start_point_of t (slice_get t.procs t.entry)) ≡ place_number t t.entry (unless_none (start_conditions t q) first_body)
  start_of =
      ap (λ (o : Option TypedProcedure). place_number t t.entry (start_point_of t o)) found
      ∙ ap (λ (o : Option TypedBlock). place_number t t.entry (unless_none conditions (point_of_procedure t t.entry q o))) whole

  -- the first place of a run
  pub starts_at : (to : ℕ) → (0 < length (start_conditions t q) → to ≡ 1) → (length (start_conditions t q) ≡ 0 → to ≡ first_place t t.entry) →
      to ≡ place_number t t.entry (start_point_of t (slice_get t.procs t.entry))
  starts_at to some none = by conditions refl ∙ sym (start_of ∙ start_by conditions)
    where
      by : (es : List TypedExpression) → conditions ≡ es → to ≡ (elim conditions [ [] ↦ first_place t t.entry | x ∷ xs ↦ 1 ])
      by [] e = none (ap length e) ∙ sym (ap (λ (l : List TypedExpression). elim l [ [] ↦ first_place t t.entry | x ∷ xs ↦ 1 ]) e)
      by (x ∷ xs) e =
          some (let l : length conditions ≡ suc (length xs) = ap length e in omega arith)
          ∙ sym (ap (λ (l : List TypedExpression). elim l [ [] ↦ first_place t t.entry | x ∷ xs ↦ 1 ]) e)

-- ---- the whole program

places_with : (t : TypedProgram) (n : ℕ) (qs : List TypedProcedure) (q : TypedProcedure) →
    places_from t n (qs ++ q ∷ []) ≡ places_from t n qs ++ located (n + length qs) (points_with t (n + length qs) q q.body)
places_with t n [] q =
    let e : n ≡ n + 0 = omega arith in
    no_more (located n (points_with t n q q.body)) ∙ ap (λ (m : ℕ). located m (points_with t m q q.body)) e
places_with t n (p ∷ qs) q =
    let e : (n + 1) + length qs ≡ n + suc (length qs) = omega arith in
    let here : List Place = located n (points_with t n p p.body) in
    ap (λ (l : List Place). here ++ l) (places_with t (n + 1) qs q ∙ ap (λ (m : ℕ). places_from t (n + 1) qs ++ located m (points_with t m q q.body)) e)
    ∙ sym (append_assoc here (places_from t (n + 1) qs) (located (n + suc (length qs)) (points_with t (n + suc (length qs)) q q.body)))

-- one more procedure
pub procedure_added : (t : TypedProgram) (qs : List TypedProcedure) (q : TypedProcedure) (old mid new : Walked) → Adds (places_from t 0 qs) old mid →
    Adds (located (length qs) (points_with t (length qs) q q.body)) mid new → Adds (places_from t 0 (qs ++ q ∷ [])) old new
procedure_added t qs q old mid new h k =
    let e : length qs ≡ 0 + length qs = omega arith in
    let last : Adds (located (0 + length qs) (points_with t (0 + length qs) q q.body)) mid new = subst (λ (m : ℕ). Adds (located m (points_with t m q q.body)) mid new) e k in
    subst (λ (l : List Place). Adds l old new) (sym (places_with t 0 qs q)) (joined (places_from t 0 qs) _ old mid new h last)

-- one without body has no places
pub unseen_added : (t : TypedProgram) (n : ℕ) (q : TypedProcedure) (w : Walked) → q.body ≡ None → Adds (located n (points_with t n q q.body)) w w
unseen_added t n q w e = subst (λ (o : Option TypedBlock). Adds (located n (points_with t n q o)) w w) (sym e) (nothing w)

pub starts_added : (t : TypedProgram) (q : TypedProcedure) (old new : Walked) → slice_get t.procs t.entry ≡ Some q → Adds (located t.entry (start_points t q)) old new →
    Adds (located t.entry (starts_if_any t (slice_get t.procs t.entry))) old new
starts_added t q old new e h = subst (λ (o : Option TypedProcedure). Adds (located t.entry (starts_if_any t o)) old new) (sym e) h

-- The edge of the start, its conditions, and all procedures.
pub all_walked : (t : TypedProgram) (begun started new : Walked) → begun.program ≡ t → begun.sites ≡ [] → begun.fault ≡ None → begun.lettered ≡ with_arc no_letters (start_arc t) →
    Adds (located t.entry (starts_if_any t (slice_get t.procs t.entry))) begun started → Adds (places_from t 0 t.procs) started new → IsWalked t new
all_walked t begun started new p s f l h k =
    let all : Adds (program_places t) begun new = joined (located t.entry (starts_if_any t (slice_get t.procs t.entry))) (places_from t 0 t.procs) begun started new h k in
    record {
      program = all.program ∙ p;
      sites = all.sites ∙ ap (λ (ss : List Site). ss ++ map (λ s. s.1) (sites_of begun.program (program_places t))) s ∙ ap (λ (u : TypedProgram). map (λ s. s.1) (sites_of u (program_places t))) p;
      fault = all.fault ∙ ap (λ g. earlier g (first_of (items_of begun.program (program_places t)))) f ∙ ap (λ (u : TypedProgram). first_of (items_of u (program_places t))) p;
      edges = λ e.
          all.edges e ∙ ap (λ d. with_arcs d (arcs_of begun.program (program_places t))) l ∙ ap (λ (u : TypedProgram). with_arcs (with_arc no_letters (start_arc t)) (arcs_of u (program_places t))) p;
    }
