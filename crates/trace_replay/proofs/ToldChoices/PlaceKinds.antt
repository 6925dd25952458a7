-- The kinds read off the statements are those of the places.
use Rattle.std.proofs.Common.{◌≡◌, ◌∙◌, ℕ, zero, suc, ◌+◌, ◌-◌, ◌<◌, Bool, true, false, List, [], ◌∷◌, ◌++◌, map, length, Option, None, Some, refl, inl, inr, sym, ap, arith, length-append}
use Rattle.std.specs.Prelude.{take, slice_get}
use Rattle.std.proofs.lemmas.List.{map-append, length-map, replicate-append-replicate}
use Rattle.std.proofs.lemmas.Option.{slice_get_past, slice_get_cases}
use Rattle.boogie_tree.specs.declared.span.Span.{Span}
use Rattle.boogie_tree.specs.declared.tree.Column.{Column}
use Rattle.typed_tree.specs.TypedTree.{TypedExpression, TypedGuard, Any, Cond, TypedInvariant, TypedStatement, Assert, Assume, Havoc, Assign, Call, If, While, Break, Goto, Return, Label, TypedBlock, Empty, Then, TypedProcedure, TypedProgram}
use Rattle.typed_tree.specs.TypingRules.Counts.{assertions, points, block_assertions, block_points, plain_invariants, checked_at_call}
use Rattle.boogie_run.specs.BoogiePoints.Points.{Todo, Start, Entry, Point, at_exit, before, settled, past}
use Rattle.boogie_run.specs.BoogiePoints.Actions.{next_part, guarded, checked, plain_conditions, free_conditions, ensured_conditions, chosen_columns, unseen_action, called_action, call_action, call_if_any, head_action, havoc_action, entry_action, exit_action, start_conditions, start_action, first_assertion, first_place, first_point, stage_action, body_or_leave, procedure_action}
use Rattle.boogie_run.specs.BoogiePoints.Starts.{targets_at}
use Rattle.boogie_run.proofs.BoogiePoints.ConditionLaws.{plain_requires_counted}
use Rattle.boogie_run.specs.BoogiePlaces.Places.{parts_from, at_statement, points_in, points_of, points_of_body, start_points, located, points_with, places_from, starts_if_any}
use Rattle.letter_acts.specs.Frames.{Columns}
use Rattle.lowered_graph.specs.LoweredSteps.ProgramFrames.{frame_at, column_number}
use Rattle.lowered_graph.specs.LoweredSteps.Edges.{numbers_in}
use Rattle.trace_replay.specs.ToldChoices.Kinds.{PlainKind, Silent, Guesses, Imports, kind_of, kind_at, place_kinds}
use Rattle.trace_replay.specs.ToldChoices.Ties.Walks.{silent, guess, guard_kind, goto_kind, called_kind, call_kinds, statement_kinds, block_kinds, body_kinds, kinds_from, start_kinds, program_kinds}

-- ---- kinds of actions

module _ (t : TypedProgram) (n : ℕ) (p : Point) where
  guess_kind : (c : Column) (m : Option Column) (here after : Point) → kind_of t n p (havoc_action (Some c) m here after) ≡ Guesses (column_number (frame_at t n) c)
  guess_kind c None here after = refl
  guess_kind c (Some d) here after = refl

  guarded_kind : (g : TypedGuard) (hit miss : Point) → kind_of t n p (guarded g hit miss) ≡ guard_kind g
  guarded_kind Any hit miss = refl
  guarded_kind (Cond e) hit miss = refl

  checked_kind : (free : Bool) (id : ℕ) (at : Span) (e : TypedExpression) (next : Point) → kind_of t n p (checked free id at e next) ≡ Silent
  checked_kind true id at e next = refl
  checked_kind false id at e next = refl

  entry_kind : (i j : Option TypedInvariant) (here : Point) → kind_of t n p (entry_action i j here) ≡ Silent
  entry_kind None j here = refl
  entry_kind (Some i) None here = refl
  entry_kind (Some i) (Some j) here = refl

  exit_kind : (i : Option TypedInvariant) (id : ℕ) (here : Point) → kind_of t n p (exit_action i id here) ≡ Silent
  exit_kind None id here = refl
  exit_kind (Some i) id here = checked_kind i.free id i.span i.cond (next_part here)

  start_kind : (e d : Option TypedExpression) (here first : Point) → kind_of t n p (start_action e d here first) ≡ Silent
  start_kind None d here first = refl
  start_kind (Some e) None here first = refl
  start_kind (Some e) (Some d) here first = refl

  unseen_kind : (c : Option Column) (i : Option TypedInvariant) (f : ℕ) (cs : List Column) (es : List TypedExpression) (here next : Point) (targets : List ℕ) →
      numbers_in (frame_at t n) (targets_at p.todo) ≡ targets → kind_of t n p (unseen_action c i f cs es here next) ≡ Imports f targets
  unseen_kind (Some c) i f cs es here next targets e = ap (Imports f) e
  unseen_kind None (Some i) f cs es here next targets e = ap (Imports f) e
  unseen_kind None None f cs es here next targets e = ap (Imports f) e

-- ---- parts of a point

parts_next : (p : Point) (k m : ℕ) → parts_from p k (m + 1) ≡ parts_from p k m ++ record p { part = k + m } ∷ []
parts_next p k zero =
    let e : k ≡ k + 0 = omega arith in
    ap (λ (i : ℕ). record p { part = i } ∷ []) e
parts_next p k (suc m) =
    let e : suc m + 1 ≡ suc (m + 1) = omega arith in
    let f : (k + 1) + m ≡ k + suc m = omega arith in
    ap (parts_from p k) e ∙ ap (λ (l : List Point). record p { part = k } ∷ l) (parts_next p (k + 1) m ∙ ap (λ (i : ℕ). parts_from p (k + 1) m ++ record p { part = i } ∷ []) f)

parts_silent : (kind : Point → PlainKind) (p : Point) (k m : ℕ) → ((j : ℕ) → j < k + m → kind (record p { part = j }) ≡ Silent) → map kind (parts_from p k m) ≡ silent m
parts_silent kind p k zero h = refl
parts_silent kind p k (suc m) h =
    let here : kind (record p { part = k }) ≡ Silent = h k (omega arith) in
    let rest : map kind (parts_from p (k + 1) m) ≡ silent m = parts_silent kind p (k + 1) m (λ j less. h j (omega arith)) in
    (λ i. here i ∷ rest i)

-- parts that choose nothing, and a last one
parts_ended : (kind : Point → PlainKind) (p : Point) (m : ℕ) (last : PlainKind) → ((j : ℕ) → j < m → kind (record p { part = j }) ≡ Silent) → kind (record p { part = m }) ≡ last →
    map kind (parts_from p 0 (m + 1)) ≡ silent m ++ last ∷ []
parts_ended kind p m last h e =
    let zero_m : m ≡ 0 + m = omega arith in
    let first : map kind (parts_from p 0 m) ≡ silent m = parts_silent kind p 0 m (λ j less. h j (omega arith)) in
    let here : kind (record p { part = 0 + m }) ≡ last = ap (λ (j : ℕ). kind (record p { part = j })) (sym zero_m) ∙ e in
    ap (map kind) (parts_next p 0 m) ∙ map-append kind (parts_from p 0 m) (record p { part = 0 + m } ∷ []) ∙ (λ i. first i ++ here i ∷ [])

module _ (t : TypedProgram) (n : ℕ) (q : TypedProcedure) (body : TypedBlock) (found : slice_get t.procs n ≡ Some q) (whole : q.body ≡ Some body) where
  abbrev kind_here : Point → PlainKind
  kind_here p = kind_at t (record { proc = n; point = p })

  abbrev frame : Columns
  frame = frame_at t n

  kind_is : (p : Point) → kind_here p ≡ kind_of t n p (stage_action t n q body p.stage p)
  kind_is p = ap (λ (o : Option TypedProcedure). kind_of t n p (procedure_action t n o p)) found ∙ ap (λ (o : Option TypedBlock). kind_of t n p (body_or_leave t n q o p)) whole

  -- ---- havocs

  havoc_places : (sp : Span) (all : List Column) (b : TypedBlock) (loop : Bool) (id at : ℕ) (under : List Todo) (k : ℕ) (cs : List Column) → ((j : ℕ) → slice_get all (k + j) ≡ slice_get cs j) →
      map kind_here (parts_from (at_statement (Havoc sp all) b loop id at under) k (length cs)) ≡ map (guess frame) cs
  havoc_places sp all b loop id at under k [] h = refl
  havoc_places sp all b loop id at under k (c ∷ cs) h =
      let p : Point = record (at_statement (Havoc sp all) b loop id at under) { part = k } in
      let after : Point = settled (past t.procs (Havoc sp all) b loop id at ∷ under) in
      let k_is : k + 0 ≡ k = omega arith in
      let e : slice_get all k ≡ Some c = ap (slice_get all) (sym k_is) ∙ h 0 in
      let here : kind_here p ≡ Guesses (column_number frame c) =
      kind_is p ∙ ap (λ (o : Option Column). kind_of t n p (havoc_action o (slice_get all (k + 1)) p after)) e ∙ guess_kind t n p c (slice_get all (k + 1)) p after in
      let rest : map kind_here (parts_from (at_statement (Havoc sp all) b loop id at under) (k + 1) (length cs)) ≡ map (guess frame) cs =
      havoc_places sp all b loop id at under (k + 1) cs (λ j. (let s : (k + 1) + j ≡ k + suc j = omega arith in ap (slice_get all) s ∙ h (suc j))) in
      (λ i. here i ∷ rest i)

  -- ---- calls

  module _ (sp : Span) (cs : List Column) (f : ℕ) (es : List TypedExpression) (b : TypedBlock) (loop : Bool) (id at : ℕ) (under : List Todo) where
    abbrev call : Point
    call = at_statement (Call sp cs f es) b loop id at under

    abbrev part_of : ℕ → Point
    part_of j = record call { part = j }

    abbrev behind : Point
    behind = settled (past t.procs (Call sp cs f es) b loop id at ∷ under)

    demanded_here : (r : TypedProcedure) → slice_get t.procs f ≡ Some r → (j : ℕ) → j < length (plain_conditions r.specs) → kind_here (part_of j) ≡ Silent
    demanded_here r e j less =
        kind_is (part_of j) ∙ ap (λ (o : Option TypedProcedure). kind_of t n (part_of j) (call_if_any o id f sp cs es (part_of j) behind)) e
        ∙ elim (slice_get_cases (plain_conditions r.specs) j).1 [
          | inl h ↦ ap (λ (o : Option TypedInvariant). kind_of t n (part_of j) (call_action o (id + j) f r sp cs es (j - length (plain_conditions r.specs)) (part_of j) behind)) h.2
          | inr h ↦ absurd (omega (arith, h.0))
        ]

    called_here : (r : TypedProcedure) → slice_get t.procs f ≡ Some r → kind_here (part_of (length (plain_conditions r.specs))) ≡ called_kind frame r.body f cs es
    called_here r e =
        let m : ℕ = length (plain_conditions r.specs) in
        let p : Point = part_of m in
        let past_all : slice_get (plain_conditions r.specs) m ≡ None = slice_get_past (plain_conditions r.specs) m (omega arith) in
        let none : m - m ≡ 0 = omega arith in
        kind_is p ∙ ap (λ (o : Option TypedProcedure). kind_of t n p (call_if_any o id f sp cs es p behind)) e
        ∙ ap (λ (o : Option TypedInvariant). kind_of t n p (call_action o (id + m) f r sp cs es (m - m) p behind)) past_all
        ∙ by_body r.body (m - m)
      where
        by_body : (o : Option TypedBlock) (done : ℕ) → kind_of t n (part_of (length (plain_conditions r.specs))) (called_action f r o cs es done (part_of (length (plain_conditions r.specs))) behind) ≡ called_kind frame o f cs es
        by_body None done = unseen_kind t n (part_of (length (plain_conditions r.specs))) (slice_get (chosen_columns r) done) (slice_get (ensured_conditions r.specs) (done - length (chosen_columns r))) f cs es (part_of (length (plain_conditions r.specs))) behind (numbers_in frame cs) refl
        by_body (Some c) done = refl

    call_places : (o : Option TypedProcedure) → slice_get t.procs f ≡ o → map kind_here (parts_from call 0 (checked_at_call o + 1)) ≡ call_kinds frame o f cs es
    call_places None e =
        let here : kind_here (part_of 0) ≡ Silent = kind_is (part_of 0) ∙ ap (λ (o : Option TypedProcedure). kind_of t n (part_of 0) (call_if_any o id f sp cs es (part_of 0) behind)) e in
        ap (λ (k : PlainKind). k ∷ []) here
    call_places (Some r) e =
        ap (λ (m : ℕ). map kind_here (parts_from call 0 (m + 1))) (sym (plain_requires_counted r.specs))
        ∙ parts_ended kind_here call (length (plain_conditions r.specs)) (called_kind frame r.body f cs es) (demanded_here r e) (called_here r e)

  -- ---- loops

  head_places : (sp : Span) (g : TypedGuard) (is : List TypedInvariant) (x b : TypedBlock) (loop : Bool) (id at : ℕ) (under : List Todo) →
      map kind_here (parts_from (at_statement (While sp g is x) b loop id at under) 0 (length is + 1)) ≡ silent (length is) ++ guard_kind g ∷ []
  head_places sp g is x b loop id at under =
      let here : Todo = record { rest = Then (While sp g is x) b; of_loop = loop; id = id; at = at } in
      let p : Point = before (here ∷ under) in
      let hit : Point = settled (record { rest = x; of_loop = true; id = id + plain_invariants is; at = at + length is + 1 } ∷ here ∷ under) in
      let miss : Point = settled (past t.procs (While sp g is x) b loop id at ∷ under) in
      parts_ended kind_here p (length is) (guard_kind g)
      (λ j less. kind_is (record p { part = j }) ∙ elim (slice_get_cases is j).1 [
        | inl h ↦ ap (λ (o : Option TypedInvariant). kind_of t n (record p { part = j }) (head_action o (id + plain_invariants (take j is)) (record p { part = j }) (guarded g hit miss))) h.2
            ∙ checked_kind t n (record p { part = j }) h.0.free (id + plain_invariants (take j is)) h.0.span h.0.cond (next_part (record p { part = j }))
        | inr h ↦ absurd (omega (arith, h.0))
      ])
      (kind_is (record p { part = length is }) ∙ ap (λ (o : Option TypedInvariant). kind_of t n (record p { part = length is }) (head_action o (id + plain_invariants (take (length is) is)) (record p { part = length is }) (guarded g hit miss)))
      (slice_get_past is (length is) (omega arith)) ∙ guarded_kind t n (record p { part = length is }) g hit miss)

  goto_place : (sp : Span) (ks : List ℕ) (b : TypedBlock) (loop : Bool) (id at : ℕ) (under : List Todo) → kind_here (at_statement (Goto sp ks) b loop id at under) ≡ goto_kind ks
  goto_place sp [] b loop id at under = kind_is (at_statement (Goto sp []) b loop id at under)
  goto_place sp (k ∷ []) b loop id at under = kind_is (at_statement (Goto sp (k ∷ [])) b loop id at under)
  goto_place sp (k ∷ l ∷ ks) b loop id at under = kind_is (at_statement (Goto sp (k ∷ l ∷ ks)) b loop id at under)

  -- ---- statements

  mutual
    statement_places : (s : TypedStatement) (b : TypedBlock) (loop : Bool) (id at : ℕ) (under : List Todo) → map kind_here (points_in t.procs s b loop id at under) ≡ statement_kinds t.procs frame s
    statement_places (Assert sp e) b loop id at under = ap (λ (k : PlainKind). k ∷ []) (kind_is (at_statement (Assert sp e) b loop id at under))
    statement_places (Assume sp e) b loop id at under = ap (λ (k : PlainKind). k ∷ []) (kind_is (at_statement (Assume sp e) b loop id at under))
    statement_places (Havoc sp cs) b loop id at under = havoc_places sp cs b loop id at under 0 cs (λ j. (let e : 0 + j ≡ j = omega arith in ap (slice_get cs) e))
    statement_places (Assign sp cs es) b loop id at under = ap (λ (k : PlainKind). k ∷ []) (kind_is (at_statement (Assign sp cs es) b loop id at under))
    statement_places (Call sp cs f es) b loop id at under = call_places sp cs f es b loop id at under (slice_get t.procs f) refl
    statement_places (If sp g x y) b loop id at under =
        let after : List Todo = past t.procs (If sp g x y) b loop id at ∷ under in
        let p : Point = at_statement (If sp g x y) b loop id at under in
        let hit : Point = settled (record { rest = x; of_loop = false; id = id; at = at + 1 } ∷ after) in
        let miss : Point = settled (record { rest = y; of_loop = false; id = id + block_assertions t.procs x; at = at + 1 + block_points t.procs x } ∷ after) in
        let here : kind_here p ≡ guard_kind g = kind_is p ∙ guarded_kind t n p g hit miss in
        let one = block_places x false id (at + 1) after in
        let two = block_places y false (id + block_assertions t.procs x) (at + 1 + block_points t.procs x) after in
        let both = map-append kind_here (points_of t.procs x false id (at + 1) after) (points_of t.procs y false (id + block_assertions t.procs x) (at + 1 + block_points t.procs x) after) ∙ (λ i. one i ++ two i) in
        (λ i. here i ∷ both i)
    statement_places (While sp g is x) b loop id at under =
        let here : Todo = record { rest = Then (While sp g is x) b; of_loop = loop; id = id; at = at } in
        let head = head_places sp g is x b loop id at under in
        let inside = block_places x true (id + plain_invariants is) (at + length is + 1) (here ∷ under) in
        map-append kind_here (parts_from (before (here ∷ under)) 0 (length is + 1)) (points_of t.procs x true (id + plain_invariants is) (at + length is + 1) (here ∷ under)) ∙ (λ i. head i ++ inside i)
    statement_places (Break sp k) b loop id at under = ap (λ (k : PlainKind). k ∷ []) (kind_is (at_statement (Break sp k) b loop id at under))
    statement_places (Goto sp ks) b loop id at under = ap (λ (k : PlainKind). k ∷ []) (goto_place sp ks b loop id at under)
    statement_places (Return sp) b loop id at under = ap (λ (k : PlainKind). k ∷ []) (kind_is (at_statement (Return sp) b loop id at under))
    statement_places (Label k) b loop id at under = refl

    block_places : (b : TypedBlock) (loop : Bool) (id at : ℕ) (under : List Todo) → map kind_here (points_of t.procs b loop id at under) ≡ block_kinds t.procs frame b
    block_places Empty loop id at under = refl
    block_places (Then s b) loop id at under =
        let one = statement_places s b loop id at under in
        let two = block_places b loop (id + assertions t.procs s) (at + points t.procs s) under in
        map-append kind_here (points_in t.procs s b loop id at under) (points_of t.procs b loop (id + assertions t.procs s) (at + points t.procs s) under) ∙ (λ i. one i ++ two i)

  -- ---- bodies

  body_places : map kind_here (points_of_body t n q body) ≡ body_kinds t.procs frame q (Some body)
  body_places =
      let free : ℕ = length (free_conditions q.specs) in
      let said : ℕ = length (ensured_conditions q.specs) in
      let start : ℕ = first_place t n + free in
      let all : Todo = record { rest = body; of_loop = false; id = first_assertion t.procs n; at = start } in
      let entry : Point = record { stage = Entry; todo = all ∷ []; part = 0 } in
      let one : map kind_here (parts_from entry 0 free) ≡ silent free =
      parts_silent kind_here entry 0 free (λ j less. kind_is (record entry { part = j }) ∙ entry_kind t n (record entry { part = j }) (slice_get (free_conditions q.specs) j) (slice_get (free_conditions q.specs) (j + 1)) (record entry { part = j })) in
      let two = block_places body false (first_assertion t.procs n) start [] in
      let three : map kind_here (parts_from at_exit 0 (said + 1)) ≡ silent (said + 1) =
      parts_silent kind_here at_exit 0 (said + 1) (λ j less. kind_is (record at_exit { part = j }) ∙ exit_kind t n (record at_exit { part = j }) (slice_get (ensured_conditions q.specs) j)
      (first_assertion t.procs n + (block_assertions t.procs body + plain_invariants (take j (ensured_conditions q.specs)))) (record at_exit { part = j })) in
      let last : silent (said + 1) ≡ silent said ++ silent 1 = sym (replicate-append-replicate said 1 Silent) in
      let rest = map-append kind_here (points_of t.procs body false (first_assertion t.procs n) start []) (parts_from at_exit 0 (said + 1)) ∙ (λ i. two i ++ (three ∙ last) i) in
      map-append kind_here (parts_from entry 0 free) (points_of t.procs body false (first_assertion t.procs n) start [] ++ parts_from at_exit 0 (said + 1)) ∙ (λ i. one i ++ rest i)

-- ---- programs

located_kinds : (t : TypedProgram) (n : ℕ) (ps : List Point) → map (kind_at t) (located n ps) ≡ map (λ p. kind_at t (record { proc = n; point = p })) ps
located_kinds t n [] = refl
located_kinds t n (p ∷ ps) = ap (λ (ks : List PlainKind). kind_at t (record { proc = n; point = p }) ∷ ks) (located_kinds t n ps)

procedure_kinds : (t : TypedProgram) (n : ℕ) (q : TypedProcedure) → slice_get t.procs n ≡ Some q → (o : Option TypedBlock) → q.body ≡ o → map (kind_at t) (located n (points_with t n q o)) ≡ body_kinds t.procs (frame_at t n) q o
procedure_kinds t n q found None whole = refl
procedure_kinds t n q found (Some b) whole = located_kinds t n (points_of_body t n q b) ∙ body_places t n q b found whole

all_kinds : (t : TypedProgram) (n : ℕ) (qs : List TypedProcedure) → ((j : ℕ) → slice_get t.procs (n + j) ≡ slice_get qs j) → map (kind_at t) (places_from t n qs) ≡ kinds_from t n qs
all_kinds t n [] h = refl
all_kinds t n (q ∷ qs) h =
    let n_is : n + 0 ≡ n = omega arith in
    let found : slice_get t.procs n ≡ Some q = ap (slice_get t.procs) (sym n_is) ∙ h 0 in
    let one = procedure_kinds t n q found q.body refl in
    let two = all_kinds t (n + 1) qs (λ j. (let s : (n + 1) + j ≡ n + suc j = omega arith in ap (slice_get t.procs) s ∙ h (suc j))) in
    map-append (kind_at t) (located n (points_with t n q q.body)) (places_from t (n + 1) qs) ∙ (λ i. one i ++ two i)

start_here : (t : TypedProgram) (q : TypedProcedure) → slice_get t.procs t.entry ≡ Some q → (j : ℕ) → kind_at t (record { proc = t.entry; point = record { stage = Start; todo = []; part = j } }) ≡ Silent
start_here t q found j =
    let p : Point = record { stage = Start; todo = []; part = j } in
    ap (λ (o : Option TypedProcedure). kind_of t t.entry p (procedure_action t t.entry o p)) found ∙ by_body t q p j q.body
  where
    by_body : (t : TypedProgram) (q : TypedProcedure) (p : Point) (j : ℕ) (o : Option TypedBlock) → kind_of t t.entry (record { stage = Start; todo = []; part = j }) (body_or_leave t t.entry q o (record { stage = Start; todo = []; part = j })) ≡ Silent
    by_body t q p j None = refl
    by_body t q p j (Some b) = start_kind t t.entry (record { stage = Start; todo = []; part = j }) (slice_get (start_conditions t q) j) (slice_get (start_conditions t q) (j + 1)) (record { stage = Start; todo = []; part = j })
        (first_point q b (first_assertion t.procs t.entry) (first_place t t.entry))

starts : (t : TypedProgram) (o : Option TypedProcedure) → slice_get t.procs t.entry ≡ o → map (kind_at t) (located t.entry (starts_if_any t o)) ≡ start_kinds t o
starts t None e = refl
starts t (Some q) e =
    let axioms : ℕ = length t.axioms in
    let plain : ℕ = length (plain_conditions q.specs) in
    let p : Point = record { stage = Start; todo = []; part = 0 } in
    let many : length (start_conditions t q) ≡ axioms + plain = length-append t.axioms (map (λ (i : TypedInvariant). i.cond) (plain_conditions q.specs)) ∙ ap (λ (m : ℕ). axioms + m) (length-map (plain_conditions q.specs) (λ (i : TypedInvariant). i.cond)) in
    located_kinds t t.entry (start_points t q)
    ∙ parts_silent (λ p. kind_at t (record { proc = t.entry; point = p })) p 0 (length (start_conditions t q)) (λ j less. start_here t q e j)
    ∙ ap silent many ∙ sym (replicate-append-replicate axioms plain Silent)

pub program_kinds_are : (t : TypedProgram) → program_kinds t ≡ place_kinds t
program_kinds_are t =
    let one = starts t (slice_get t.procs t.entry) refl in
    let two = all_kinds t 0 t.procs (λ j. (let e : 0 + j ≡ j = omega arith in ap (slice_get t.procs) e)) in
    sym (map-append (kind_at t) (located t.entry (starts_if_any t (slice_get t.procs t.entry))) (places_from t 0 t.procs) ∙ (λ i. one i ++ two i))
