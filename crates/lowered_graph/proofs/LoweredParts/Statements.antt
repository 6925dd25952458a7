-- What each statement adds, from the edges of its places.
use Rattle.std.proofs.Common.{◌≡◌, ℕ, ◌+◌, Bool, true, false, List, [], ◌∷◌, ◌++◌, map, length, take, Option, None, Some, refl, sym, ap, ◌∙◌}
use Rattle.std.specs.Prelude.{slice_get}
use Rattle.boogie_tree.specs.declared.span.Span.{Span}
use Rattle.boogie_tree.specs.declared.tree.Column.{Column}
use Rattle.typed_tree.specs.TypedTree.{TypedExpression, TypedGuard, TypedInvariant, TypedStatement, Assert, Assume, Havoc, Assign, If, While, Break, Goto, Return, Label, TypedBlock, Then, TypedProcedure, TypedProgram}
use Rattle.typed_tree.specs.TypingRules.Counts.{block_assertions, block_points, plain_invariants}
use Rattle.letter_acts.specs.Frames.{Columns}
use Rattle.cond_jumps.specs.FreeProducts.FrameLetters.{path_letters, assign_letters}
use Rattle.boogie_run.specs.BoogiePoints.Points.{Todo, Point, at_exit, settled, past, broken, found_block}
use Rattle.boogie_run.specs.BoogiePoints.Actions.{Action, action_at, statement_action, Check, Suppose, Write, Guess, Jump, checked, guarded, head_action, havoc_action, one_of, ways_to, point_behind, next_part}
use Rattle.boogie_run.specs.BoogiePlaces.Places.{at_statement, points_in, points_of, located, parts_from}
use Rattle.letter_acts.specs.LetterTable.Letters.{Arc}
use Rattle.lowered_graph.specs.LoweredSteps.ProgramFrames.{frame_at, column_number}
use Rattle.lowered_graph.specs.LoweredSteps.Edges.{numbers_in, local_count}
use Rattle.lowered_graph.specs.Arcs.{place_number, error_place, action_arcs}
use Rattle.lowered_graph.specs.Lowered.{action_sites}
use Rattle.lowered_graph.specs.Items.{path_needed, needed_by, place_span, span_of, statement_parts, condition_span}
use Rattle.lowered_graph.specs.LoweredParts.Parts.{Walked, Leads, Adds}
use Rattle.lowered_graph.specs.LoweredParts.Lists.{list_arcs, skip_arcs, test_arcs, guard_arcs, guard_needed, write_needed}
use Rattle.lowered_graph.specs.LoweredParts.Making.{MakesItem}
use Rattle.lowered_graph.specs.LoweredParts.Items.{checked_sites, checked_arcs, checked_needed, ways_arcs}
use Rattle.lowered_graph.proofs.LoweredParts.Joining.{nothing}
use Rattle.lowered_graph.proofs.LoweredParts.OneItem.{placed, plain_item}
use Rattle.lowered_graph.proofs.LoweredParts.ActionArcs as arcs
use Rattle.lowered_graph.proofs.LoweredParts.Numbers as numbers
use Rattle.lowered_graph.proofs.LoweredParts.Numbers.{both_added, part_added}

-- a test by the numbers of places
tests_at : (frame : Columns) (count n : ℕ) (e : TypedExpression) (p q a b m : ℕ) → p ≡ q → a ≡ b → test_arcs frame count n p e a m ≡ test_arcs frame count n q e b m
tests_at frame count n e p q a b m h k = ap (λ (x : ℕ). test_arcs frame count n x e a m) h ∙ ap (λ (x : ℕ). test_arcs frame count n q e x m) k

-- ---- conditions that may be free

module _ (t : TypedProgram) (n : ℕ) (here : Point) (place to : ℕ) (next : Point) (is_place : place_number t n here ≡ place) (is_to : to ≡ place_number t n next) where
  pub checked_edges : (free : Bool) (id : ℕ) (at : Span) (e : TypedExpression) → action_arcs t n here (checked free id at e next) ≡ checked_arcs t n place free id e to
  checked_edges true id at e =
      arcs.suppose_arcs t n here e next ∙ ap (λ (x : ℕ). list_arcs n x [] (path_letters (frame_at t n) (local_count t n) e true) (place_number t n next)) is_place
      ∙ ap (λ (x : ℕ). list_arcs n place [] (path_letters (frame_at t n) (local_count t n) e true) x) (sym is_to)
  checked_edges false id at e =
      arcs.check_arcs t n here id at e next ∙ tests_at (frame_at t n) (local_count t n) n e (place_number t n here) place (place_number t n next) to (error_place t id) is_place (sym is_to)

  pub checked_lists : (free : Bool) (id : ℕ) (at : Span) (e : TypedExpression) → needed_by t n here (checked free id at e next) ≡ checked_needed (frame_at t n) (local_count t n) free e
  checked_lists true id at e = refl
  checked_lists false id at e = refl

  pub checked_at : (free : Bool) (id : ℕ) (at : Span) (e : TypedExpression) → map (λ s. s.1) (action_sites t n (checked free id at e next)) ≡ checked_sites t free id at
  checked_at true id at e = refl
  checked_at false id at e = refl

-- ---- statements of a body

module _ (t : TypedProgram) (n : ℕ) (q : TypedProcedure) (body : TypedBlock) (found : slice_get t.procs n ≡ Some q) (whole : q.body ≡ Some body) where
  abbrev first : ℕ
  first = numbers.first t n q body found whole

  abbrev start : ℕ
  start = numbers.start t n q body found whole

  module _ (b : TypedBlock) (loop : Bool) (id at : ℕ) (under : List Todo) where
    abbrev point : TypedStatement → ℕ → Point
    point s i = record (at_statement s b loop id at under) { part = i }

    does : (s : TypedStatement) (i : ℕ) → action_at t n (point s i) ≡ statement_action t.procs body first start s b loop id at under (point s i)
    does s i = numbers.statement_does t n q body found whole s b loop id at under i

    numbered : (s : TypedStatement) (i : ℕ) → place_number t n (point s i) ≡ at + i
    numbered s i = numbers.number_at t n q body found whole s b loop id at under i

    numbered_first : (s : TypedStatement) → place_number t n (at_statement s b loop id at under) ≡ at
    numbered_first s = numbers.number_here t n q body found whole s b loop id at under

    span : (s : TypedStatement) (i : ℕ) → place_span t (record { proc = n; point = point s i }) ≡ span_of s i
    span s i = numbers.span_at t n q body found whole s b loop id at under i

    -- behind a statement
    abbrev pub behind : TypedStatement → ℕ
    behind s = place_number t n (settled (past t.procs s b loop id at ∷ under))

    pub assert_added : (sp : Span) (e : TypedExpression) (after : ℕ) (old new : Walked) → old.program ≡ t → after ≡ behind (Assert sp e) →
        MakesItem sp (checked_sites t false id sp) (checked_arcs t n at false id e after) (checked_needed (frame_at t n) (local_count t n) false e) old new →
        Adds (located n (points_in t.procs (Assert sp e) b loop id at under)) old new
    assert_added sp e after old new p is_after h =
        placed t n (at_statement (Assert sp e) b loop id at under) (Check id sp e (settled (past t.procs (Assert sp e) b loop id at ∷ under))) sp _ _ _ old new
        (does (Assert sp e) 0) (span (Assert sp e) 0) refl p refl
        (checked_edges t n (at_statement (Assert sp e) b loop id at under) at after (settled (past t.procs (Assert sp e) b loop id at ∷ under)) (numbered_first (Assert sp e)) is_after false id sp e)
        refl h

    pub assume_added : (sp : Span) (e : TypedExpression) (after : ℕ) (old new : Walked) → old.program ≡ t → after ≡ behind (Assume sp e) →
        MakesItem sp [] (list_arcs n at [] (path_letters (frame_at t n) (local_count t n) e true) after) (path_needed (frame_at t n) (local_count t n) e true ∷ []) old new →
        Adds (located n (points_in t.procs (Assume sp e) b loop id at under)) old new
    assume_added sp e after old new p is_after h =
        placed t n (at_statement (Assume sp e) b loop id at under) (Suppose e (settled (past t.procs (Assume sp e) b loop id at ∷ under))) sp _ _ _ old new
        (does (Assume sp e) 0) (span (Assume sp e) 0) refl p refl
        (checked_edges t n (at_statement (Assume sp e) b loop id at under) at after (settled (past t.procs (Assume sp e) b loop id at ∷ under)) (numbered_first (Assume sp e)) is_after true id sp e)
        refl h

    pub assign_added : (sp : Span) (cs : List Column) (es : List TypedExpression) (after : ℕ) (old new : Walked) → old.program ≡ t → after ≡ behind (Assign sp cs es) →
        MakesItem sp [] (list_arcs n at (numbers_in (frame_at t n) cs) (assign_letters (frame_at t n) (local_count t n) (length es) es) after) (write_needed (frame_at t n) (local_count t n) es (length cs)) old new →
        Adds (located n (points_in t.procs (Assign sp cs es) b loop id at under)) old new
    assign_added sp cs es after old new p is_after h =
        let here : Point = at_statement (Assign sp cs es) b loop id at under in
        let next : Point = settled (past t.procs (Assign sp cs es) b loop id at ∷ under) in
        placed t n here (Write cs es next) sp _ _ _ old new
        (does (Assign sp cs es) 0) (span (Assign sp cs es) 0) refl p refl
        (arcs.write_arcs t n here cs es next
        ∙ ap (λ (x : ℕ). list_arcs n x (numbers_in (frame_at t n) cs) (assign_letters (frame_at t n) (local_count t n) (length es) es) (place_number t n next)) (numbered_first (Assign sp cs es))
        ∙ ap (λ (x : ℕ). list_arcs n at (numbers_in (frame_at t n) cs) (assign_letters (frame_at t n) (local_count t n) (length es) es) x) (sym is_after))
        refl h

    -- a jump to a point
    jumped : (s : TypedStatement) (sp : Span) (next : Point) (to : ℕ) (old new : Walked) → old.program ≡ t → to ≡ place_number t n next →
        numbers.statement_action_of t n q body found whole s b loop id at under ≡ Jump next → span_of s 0 ≡ sp → statement_parts t s ≡ 1 →
        Leads (skip_arcs n at [] to) [] false false old new → Adds (located n (at_statement s b loop id at under ∷ [])) old new
    jumped s sp next to old new p is_to a is_span one h =
        let here : Point = at_statement s b loop id at under in
        placed t n here (Jump next) sp [] (skip_arcs n at [] to) [] old new
        (does s 0 ∙ a) (span s 0 ∙ is_span) one p refl
        (arcs.jump_arcs t n here next ∙ ap (λ (x : ℕ). skip_arcs n x [] (place_number t n next)) (numbered_first s) ∙ ap (λ (x : ℕ). skip_arcs n at [] x) (sym is_to))
        refl (plain_item sp (skip_arcs n at [] to) old new h)

    pub break_added : (sp : Span) (k to : ℕ) (old new : Walked) → old.program ≡ t →
        to ≡ place_number t n (settled (broken t.procs k (record { rest = Then (Break sp k) b; of_loop = loop; id = id; at = at } ∷ under))) →
        Leads (skip_arcs n at [] to) [] false false old new → Adds (located n (points_in t.procs (Break sp k) b loop id at under)) old new
    break_added sp k to old new p is_to h = jumped (Break sp k) sp _ to old new p is_to refl refl refl h

    pub return_added : (sp : Span) (to : ℕ) (old new : Walked) → old.program ≡ t → to ≡ place_number t n at_exit →
        Leads (skip_arcs n at [] to) [] false false old new → Adds (located n (points_in t.procs (Return sp) b loop id at under)) old new
    return_added sp to old new p is_to h = jumped (Return sp) sp at_exit to old new p is_to refl refl refl h

    pub label_added : (k : ℕ) (w : Walked) → Adds (located n (points_in t.procs (Label k) b loop id at under)) w w
    label_added k w = nothing w

    -- to each of several labels, or to the exit
    abbrev ways_of : List ℕ → List Point
    ways_of ks = ways_to t.procs body first start ks

    pub no_goto_added : (sp : Span) (to : ℕ) (old new : Walked) → old.program ≡ t → to ≡ place_number t n at_exit →
        Leads (skip_arcs n at [] to) [] false false old new → Adds (located n (points_in t.procs (Goto sp []) b loop id at under)) old new
    no_goto_added sp to old new p is_to h = jumped (Goto sp []) sp at_exit to old new p is_to refl refl refl h

    pub goto_added : (sp : Span) (k : ℕ) (ks : List ℕ) (tos : List ℕ) (old new : Walked) → old.program ≡ t →
        tos ≡ map (λ j. place_number t n (point_behind (found_block t.procs j body false first start []))) (k ∷ ks) →
        Leads (ways_arcs n at tos) [] false false old new → Adds (located n (points_in t.procs (Goto sp (k ∷ ks)) b loop id at under)) old new
    goto_added sp k ks tos old new p are h =
        let here : Point = at_statement (Goto sp (k ∷ ks)) b loop id at under in
        let plain : _ = arcs.one_of_plain t n here (ways_of (k ∷ ks)) in
        placed t n here (one_of (ways_of (k ∷ ks))) sp [] (ways_arcs n at tos) [] old new
        (does (Goto sp (k ∷ ks)) 0) (span (Goto sp (k ∷ ks)) 0) refl p (ap (map (λ s. s.1)) plain.0)
        (arcs.one_of_arcs t n here (point_behind (found_block t.procs k body false first start [])) (ways_of ks)
        ∙ ap (λ (x : ℕ). ways_arcs n x (map (place_number t n) (ways_of (k ∷ ks)))) (numbered_first (Goto sp (k ∷ ks)))
        ∙ ap (ways_arcs n at) (told (k ∷ ks) ∙ sym are))
        plain.1 (plain_item sp (ways_arcs n at tos) old new h)
      where
        told : (ks : List ℕ) → map (place_number t n) (ways_of ks) ≡ map (λ j. place_number t n (point_behind (found_block t.procs j body false first start []))) ks
        told [] = refl
        told (k ∷ ks) = ap (λ (l : List ℕ). place_number t n (point_behind (found_block t.procs k body false first start [])) ∷ l) (told ks)

    -- ---- one variable of a havoc

    havoc_does : (o m : Option Column) (c : Column) (here after : Point) → o ≡ Some c → (to : ℕ) → ((d : Column) → m ≡ Some d → to ≡ place_number t n (next_part here)) → (m ≡ None → to ≡ place_number t n after) →
        (next : Point) × (havoc_action o m here after ≡ Guess c next) × (to ≡ place_number t n next)
    havoc_does None m c here after e to go end = cc
    havoc_does (Some d) None c here after e to go end = (after, ap (λ (x : Option Column). havoc_action x None here after) e, end refl)
    havoc_does (Some d) (Some g) c here after e to go end = (next_part here, ap (λ (x : Option Column). havoc_action x (Some g) here after) e, go g refl)

    pub havoc_added : (sp : Span) (cs : List Column) (i : ℕ) (c : Column) (to : ℕ) (old new : Walked) → old.program ≡ t → slice_get cs i ≡ Some c →
        ((d : Column) → slice_get cs (i + 1) ≡ Some d → to ≡ at + (i + 1)) → (slice_get cs (i + 1) ≡ None → to ≡ behind (Havoc sp cs)) →
        Leads (skip_arcs n (at + i) (column_number (frame_at t n) c ∷ []) to) [] false false old new → Adds (located n (point (Havoc sp cs) i ∷ [])) old new
    havoc_added sp cs i c to old new p e go end h =
        let here : Point = point (Havoc sp cs) i in
        let d = havoc_does (slice_get cs i) (slice_get cs (i + 1)) c here (settled (past t.procs (Havoc sp cs) b loop id at ∷ under)) e to
        (λ x y. go x y ∙ sym (numbered (Havoc sp cs) (i + 1))) end in
        let edges : List Arc = skip_arcs n (at + i) (column_number (frame_at t n) c ∷ []) to in
        placed t n here (Guess c d.0) sp [] edges [] old new
        (does (Havoc sp cs) i ∙ d.1) (span (Havoc sp cs) i) refl p refl
        (arcs.guess_arcs t n here c d.0 ∙ ap (λ (x : ℕ). skip_arcs n x (column_number (frame_at t n) c ∷ []) (place_number t n d.0)) (numbered (Havoc sp cs) i)
        ∙ ap (λ (x : ℕ). skip_arcs n (at + i) (column_number (frame_at t n) c ∷ []) x) (sym d.2))
        refl (plain_item sp edges old new h)

    -- ---- an if, and the head of a loop

    guards_at : (here hit miss : Point) (g : TypedGuard) (place x y : ℕ) → place_number t n here ≡ place → x ≡ place_number t n hit → y ≡ place_number t n miss →
        action_arcs t n here (guarded g hit miss) ≡ guard_arcs (frame_at t n) (local_count t n) n place g x y
    guards_at here hit miss g place x y h k l =
        arcs.guarded_arcs t n here g hit miss ∙ ap (λ (z : ℕ). guard_arcs (frame_at t n) (local_count t n) n z g (place_number t n hit) (place_number t n miss)) h
        ∙ ap (λ (z : ℕ). guard_arcs (frame_at t n) (local_count t n) n place g z (place_number t n miss)) (sym k) ∙ ap (λ (z : ℕ). guard_arcs (frame_at t n) (local_count t n) n place g x z) (sym l)

    pub if_added : (sp : Span) (g : TypedGuard) (x y : TypedBlock) (hit miss : ℕ) (old new : Walked) → old.program ≡ t →
        hit ≡ place_number t n (settled (record { rest = x; of_loop = false; id = id; at = at + 1 } ∷ (past t.procs (If sp g x y) b loop id at ∷ under))) →
        miss ≡ place_number t n (settled (record { rest = y; of_loop = false; id = id + block_assertions t.procs x; at = at + 1 + block_points t.procs x } ∷ (past t.procs (If sp g x y) b loop id at ∷ under))) →
        MakesItem sp [] (guard_arcs (frame_at t n) (local_count t n) n at g hit miss) (guard_needed (frame_at t n) (local_count t n) g) old new → Adds (located n (at_statement (If sp g x y) b loop id at under ∷ [])) old new
    if_added sp g x y hit miss old new p is_hit is_miss h =
        let here : Point = at_statement (If sp g x y) b loop id at under in
        let after : List Todo = past t.procs (If sp g x y) b loop id at ∷ under in
        let then_point : Point = settled (record { rest = x; of_loop = false; id = id; at = at + 1 } ∷ after) in
        let else_point : Point = settled (record { rest = y; of_loop = false; id = id + block_assertions t.procs x; at = at + 1 + block_points t.procs x } ∷ after) in
        placed t n here (guarded g then_point else_point) sp [] (guard_arcs (frame_at t n) (local_count t n) n at g hit miss) (guard_needed (frame_at t n) (local_count t n) g) old new
        (does (If sp g x y) 0) (span (If sp g x y) 0) refl p (ap (map (λ s. s.1)) (arcs.guarded_sites t n here g then_point else_point))
        (guards_at here then_point else_point g at hit miss (numbered_first (If sp g x y)) is_hit is_miss) (arcs.guarded_needed t n here g then_point else_point) h

    -- the parts of an if
    pub if_joined : (sp : Span) (g : TypedGuard) (x y : TypedBlock) (old head then_done new : Walked) → Adds (located n (at_statement (If sp g x y) b loop id at under ∷ [])) old head →
        Adds (located n (points_of t.procs x false id (at + 1) (past t.procs (If sp g x y) b loop id at ∷ under))) head then_done →
        Adds (located n (points_of t.procs y false (id + block_assertions t.procs x) (at + 1 + block_points t.procs x) (past t.procs (If sp g x y) b loop id at ∷ under))) then_done new →
        Adds (located n (points_in t.procs (If sp g x y) b loop id at under)) old new
    if_joined sp g x y old head then_done new h k l =
        let after : List Todo = past t.procs (If sp g x y) b loop id at ∷ under in
        let xs : List Point = points_of t.procs x false id (at + 1) after in
        let ys : List Point = points_of t.procs y false (id + block_assertions t.procs x) (at + 1 + block_points t.procs x) after in
        both_added n (at_statement (If sp g x y) b loop id at under ∷ []) (xs ++ ys) old head new h (both_added n xs ys head then_done new k l)

    -- an invariant of a loop
    pub invariant_added : (sp : Span) (g : TypedGuard) (is : List TypedInvariant) (x : TypedBlock) (i : ℕ) (inv : TypedInvariant) (number : ℕ) (old new : Walked) → old.program ≡ t → slice_get is i ≡ Some inv →
        number ≡ id + plain_invariants (take i is) →
        MakesItem inv.span (checked_sites t inv.free number inv.span) (checked_arcs t n (at + i) inv.free number inv.cond (at + (i + 1))) (checked_needed (frame_at t n) (local_count t n) inv.free inv.cond) old new →
        Adds (located n (point (While sp g is x) i ∷ [])) old new
    invariant_added sp g is x i inv number old new p e is_number h =
        let s : TypedStatement = While sp g is x in
        let here : Point = point s i in
        let next : Point = next_part here in
        let guard : Action = guarded g (settled (record { rest = x; of_loop = true; id = id + plain_invariants is; at = at + length is + 1 } ∷ here.todo)) (settled (past t.procs s b loop id at ∷ under)) in
        let action : head_action (slice_get is i) (id + plain_invariants (take i is)) here guard ≡ checked inv.free number inv.span inv.cond next =
        ap (λ (o : Option TypedInvariant). head_action o (id + plain_invariants (take i is)) here guard) e ∙ ap (λ (m : ℕ). checked inv.free m inv.span inv.cond next) (sym is_number) in
        placed t n here (checked inv.free number inv.span inv.cond next) inv.span _ _ _ old new
        (does s i ∙ action) (span s i ∙ ap (condition_span sp) e) refl p
        (checked_at t n here (at + i) (at + (i + 1)) next (numbered s i) (sym (numbered s (i + 1))) inv.free number inv.span inv.cond)
        (checked_edges t n here (at + i) (at + (i + 1)) next (numbered s i) (sym (numbered s (i + 1))) inv.free number inv.span inv.cond)
        (checked_lists t n here (at + i) (at + (i + 1)) next (numbered s i) (sym (numbered s (i + 1))) inv.free number inv.span inv.cond) h

    none_behind : {X : Type 0} (xs : List X) → slice_get xs (length xs) ≡ None
    none_behind [] = refl
    none_behind (x ∷ xs) = none_behind xs

    -- its guard
    pub loop_added : (sp : Span) (g : TypedGuard) (is : List TypedInvariant) (x : TypedBlock) (hit miss : ℕ) (old new : Walked) → old.program ≡ t →
        hit ≡ place_number t n (settled (record { rest = x; of_loop = true; id = id + plain_invariants is; at = at + length is + 1 } ∷ (record { rest = Then (While sp g is x) b; of_loop = loop; id = id; at = at } ∷ under))) →
        miss ≡ behind (While sp g is x) →
        MakesItem sp [] (guard_arcs (frame_at t n) (local_count t n) n (at + length is) g hit miss) (guard_needed (frame_at t n) (local_count t n) g) old new → Adds (located n (point (While sp g is x) (length is) ∷ [])) old new
    loop_added sp g is x hit miss old new p is_hit is_miss h =
        let s : TypedStatement = While sp g is x in
        let i : ℕ = length is in
        let here : Point = point s i in
        let inside : Point = settled (record { rest = x; of_loop = true; id = id + plain_invariants is; at = at + length is + 1 } ∷ here.todo) in
        let past_it : Point = settled (past t.procs s b loop id at ∷ under) in
        placed t n here (guarded g inside past_it) sp [] _ _ old new
        (does s i ∙ ap (λ (o : Option TypedInvariant). head_action o (id + plain_invariants (take i is)) here (guarded g inside past_it)) (none_behind is))
        (span s i ∙ ap (condition_span sp) (none_behind is)) refl p (ap (map (λ s. s.1)) (arcs.guarded_sites t n here g inside past_it))
        (guards_at here inside past_it g (at + i) hit miss (numbered s i) is_hit is_miss) (arcs.guarded_needed t n here g inside past_it) h

    -- the parts of a loop
    pub loop_joined : (sp : Span) (g : TypedGuard) (is : List TypedInvariant) (x : TypedBlock) (old invariants head new : Walked) →
        Adds (located n (parts_from (at_statement (While sp g is x) b loop id at under) 0 (length is))) old invariants →
        Adds (located n (point (While sp g is x) (length is) ∷ [])) invariants head →
        Adds (located n (points_of t.procs x true (id + plain_invariants is) (at + length is + 1) (record { rest = Then (While sp g is x) b; of_loop = loop; id = id; at = at } ∷ under))) head new →
        Adds (located n (points_in t.procs (While sp g is x) b loop id at under)) old new
    loop_joined sp g is x old invariants head new h k l =
        let here : Point = at_statement (While sp g is x) b loop id at under in
        both_added n (parts_from here 0 (length is + 1)) _ old head new (part_added n here (length is) old invariants head h k) l
