-- The edges, lists and assertions of an action, by the numbers of places.
use Rattle.std.proofs.Common.{◌≡◌, ℕ, true, false, List, [], ◌∷◌, ◌++◌, map, length, Option, None, Some, refl, ap, ◌∙◌}
use Rattle.std.specs.Prelude.{slice_get}
use Rattle.std.proofs.lemmas.List.{map-append}
use Rattle.boogie_tree.specs.declared.span.Span.{Span}
use Rattle.boogie_tree.specs.declared.tree.Column.{Column}
use Rattle.typed_tree.specs.TypedTree.{TypedExpression, TypedGuard, Any, Cond, TypedInvariant, TypedProcedure, TypedProgram}
use Rattle.letter_acts.specs.Acts.{inside_act}
use Rattle.cond_jumps.specs.FreeProducts.Letters.{MarkedConjunction}
use Rattle.cond_jumps.specs.FreeProducts.FrameLetters.{path_letters, assign_letters, passed_letters}
use Rattle.boogie_run.specs.BoogiePoints.Points.{Point, settled, past_first}
use Rattle.boogie_run.specs.BoogiePoints.Actions.{Check, Suppose, Demand, Write, Guess, Test, Jump, Enter, guarded, one_of, unseen_action}
use Rattle.boogie_run.specs.BoogiePoints.Starts.{point_of_call, targets_at}
use Rattle.letter_acts.specs.LetterTable.Letters.{Arc, inside_arc}
use Rattle.lowered_graph.specs.LoweredSteps.ProgramFrames.{frame_at, column_number}
use Rattle.lowered_graph.specs.LoweredSteps.Edges.{Spot, At, Wrong, Edge, leads, no_rows, skips, import_written, import_letters, import_edges, call_letters, numbers_in, local_count}
use Rattle.lowered_graph.specs.Arcs.{place_number, error_place, spot_number, return_place, inside_arcs, action_arcs}
use Rattle.lowered_graph.specs.Lowered.{action_sites}
use Rattle.lowered_graph.specs.Items.{import_needed, needed_by}
use Rattle.lowered_graph.specs.LoweredParts.Lists.{list_arcs, skip_arcs, test_arcs, guard_arcs, guard_needed, demand_arcs, entered_arcs}
use Rattle.lowered_graph.specs.LoweredParts.Items.{ways_arcs}
use Rattle.lowered_graph.proofs.LoweredParts.Joining.{no_more}

map_twice : {X Y Z : Type 0} (g : Y → Z) (f : X → Y) (xs : List X) → map g (map f xs) ≡ map (λ x. g (f x)) xs
map_twice g f [] = refl
map_twice g f (x ∷ xs) = ap (λ l. g (f x) ∷ l) (map_twice g f xs)

-- the edges of a call of a procedure without body, from one place to another
abbrev pub unseen_list : TypedProgram → ℕ → ℕ → TypedProcedure → List TypedExpression → List Column → ℕ → List Arc
unseen_list t n place q args targets after =
    let ts : List ℕ = numbers_in (frame_at t n) targets in
    list_arcs n place (import_written q.modifies ts) (import_letters (frame_at t n) (local_count t n) t.globals q args ts) after

module _ (t : TypedProgram) (n : ℕ) (here : Point) where
  abbrev place : ℕ
  place = place_number t n here

  -- an edge for each member of a list
  pub inside_list : (written : List ℕ) (cs : List MarkedConjunction) (to : Spot) → inside_arcs t n here (leads written cs to) ≡ list_arcs n place written cs (spot_number t n to)
  inside_list written cs to =
      map_twice (λ e. inside_arc place (record { act = inside_act n e.written e.rows.helpers e.rows.rows; coarse = e.coarse }) (spot_number t n e.to)) (λ c. record { to = to; written = written; rows = c.plain; coarse = c.coarse }) cs

  pub inside_both : (xs ys : List Edge) → inside_arcs t n here (xs ++ ys) ≡ inside_arcs t n here xs ++ inside_arcs t n here ys
  inside_both xs ys = map-append (λ e. inside_arc place (record { act = inside_act n e.written e.rows.helpers e.rows.rows; coarse = e.coarse }) (spot_number t n e.to)) xs ys

  two_lists : (cs ds : List MarkedConjunction) (hit miss : Spot) →
      inside_arcs t n here (leads [] cs hit ++ leads [] ds miss) ≡ list_arcs n place [] cs (spot_number t n hit) ++ list_arcs n place [] ds (spot_number t n miss)
  two_lists cs ds hit miss =
      inside_both (leads [] cs hit) (leads [] ds miss) ∙ ap (λ (l : List Arc). l ++ inside_arcs t n here (leads [] ds miss)) (inside_list [] cs hit)
      ∙ ap (λ (l : List Arc). list_arcs n place [] cs (spot_number t n hit) ++ l) (inside_list [] ds miss)

  pub check_arcs : (id : ℕ) (at : Span) (e : TypedExpression) (next : Point) →
      action_arcs t n here (Check id at e next) ≡ test_arcs (frame_at t n) (local_count t n) n place e (place_number t n next) (error_place t id)
  check_arcs id at e next = two_lists (path_letters (frame_at t n) (local_count t n) e true) (path_letters (frame_at t n) (local_count t n) e false) (At next) (Wrong id)

  pub suppose_arcs : (e : TypedExpression) (next : Point) → action_arcs t n here (Suppose e next) ≡ list_arcs n place [] (path_letters (frame_at t n) (local_count t n) e true) (place_number t n next)
  suppose_arcs e next = inside_list [] (path_letters (frame_at t n) (local_count t n) e true) (At next)

  pub choice_arcs : (e : TypedExpression) (hit miss : Point) →
      action_arcs t n here (Test e hit miss) ≡ test_arcs (frame_at t n) (local_count t n) n place e (place_number t n hit) (place_number t n miss)
  choice_arcs e hit miss = two_lists (path_letters (frame_at t n) (local_count t n) e true) (path_letters (frame_at t n) (local_count t n) e false) (At hit) (At miss)

  pub demanded_arcs : (id : ℕ) (at : Span) (e : TypedExpression) (args : List TypedExpression) (next : Point) →
      action_arcs t n here (Demand id at e args next) ≡ demand_arcs (frame_at t n) (local_count t n) n place args e (place_number t n next) (error_place t id)
  demanded_arcs id at e args next = two_lists (passed_letters (frame_at t n) (local_count t n) args e true) (passed_letters (frame_at t n) (local_count t n) args e false) (At next) (Wrong id)

  pub write_arcs : (cs : List Column) (es : List TypedExpression) (next : Point) →
      action_arcs t n here (Write cs es next) ≡ list_arcs n place (numbers_in (frame_at t n) cs) (assign_letters (frame_at t n) (local_count t n) (length es) es) (place_number t n next)
  write_arcs cs es next = inside_list (numbers_in (frame_at t n) cs) (assign_letters (frame_at t n) (local_count t n) (length es) es) (At next)

  pub guess_arcs : (c : Column) (next : Point) → action_arcs t n here (Guess c next) ≡ skip_arcs n place (column_number (frame_at t n) c ∷ []) (place_number t n next)
  guess_arcs c next = inside_list (column_number (frame_at t n) c ∷ []) no_rows (At next)

  skips_arcs : (ways : List Point) → inside_arcs t n here (skips ways) ≡ ways_arcs n place (map (place_number t n) ways)
  skips_arcs [] = refl
  skips_arcs (p ∷ ps) =
      inside_both (leads [] no_rows (At p)) (skips ps) ∙ ap (λ (l : List Arc). l ++ inside_arcs t n here (skips ps)) (inside_list [] no_rows (At p))
      ∙ ap (λ (l : List Arc). skip_arcs n place [] (place_number t n p) ++ l) (skips_arcs ps)

  pub jump_arcs : (next : Point) → action_arcs t n here (Jump next) ≡ skip_arcs n place [] (place_number t n next)
  jump_arcs next = skips_arcs (next ∷ []) ∙ no_more (skip_arcs n place [] (place_number t n next))

  -- one of several ways, or the only one; without any the way is to the exit
  pub one_of_arcs : (w : Point) (ways : List Point) → action_arcs t n here (one_of (w ∷ ways)) ≡ ways_arcs n place (map (place_number t n) (w ∷ ways))
  one_of_arcs w [] = skips_arcs (w ∷ [])
  one_of_arcs w (p ∷ ps) = skips_arcs (w ∷ p ∷ ps)

  pub one_of_plain : (ways : List Point) → (action_sites t n (one_of ways) ≡ []) × (needed_by t n here (one_of ways) ≡ [])
  one_of_plain [] = (refl, refl)
  one_of_plain (p ∷ []) = (refl, refl)
  one_of_plain (p ∷ q ∷ ps) = (refl, refl)

  -- ---- guards, and conditions that may be free

  pub guarded_arcs : (g : TypedGuard) (hit miss : Point) → action_arcs t n here (guarded g hit miss) ≡ guard_arcs (frame_at t n) (local_count t n) n place g (place_number t n hit) (place_number t n miss)
  guarded_arcs Any hit miss =
      skips_arcs (hit ∷ miss ∷ [])
      ∙ ap (λ (l : List Arc). skip_arcs n place [] (place_number t n hit) ++ l) (no_more (skip_arcs n place [] (place_number t n miss)))
  guarded_arcs (Cond e) hit miss = choice_arcs e hit miss

  pub guarded_needed : (g : TypedGuard) (hit miss : Point) → needed_by t n here (guarded g hit miss) ≡ guard_needed (frame_at t n) (local_count t n) g
  guarded_needed Any hit miss = refl
  guarded_needed (Cond e) hit miss = refl

  pub guarded_sites : (g : TypedGuard) (hit miss : Point) → action_sites t n (guarded g hit miss) ≡ []
  guarded_sites Any hit miss = refl
  guarded_sites (Cond e) hit miss = refl

  -- ---- calls

  pub call_arcs_are : (f : ℕ) (args : List TypedExpression) → action_arcs t n here (Enter f args)
      ≡ entered_arcs n f place (place_number t f (point_of_call t f (slice_get t.procs f))) (return_place t f) (numbers_in (frame_at t n) (targets_at here.todo))
      (place_number t n (settled (past_first t.procs here.todo))) (call_letters t n f args)
  call_arcs_are f args = refl

  imported_arcs : (f : ℕ) (q : TypedProcedure) (args : List TypedExpression) (ts : List ℕ) (next : Point) → slice_get t.procs f ≡ Some q →
      inside_arcs t n here (import_edges (frame_at t n) (local_count t n) t.globals (slice_get t.procs f) args ts next)
      ≡ list_arcs n place (import_written q.modifies ts) (import_letters (frame_at t n) (local_count t n) t.globals q args ts) (place_number t n next)
  imported_arcs f q args ts next e =
      ap (λ (o : Option TypedProcedure). inside_arcs t n here (import_edges (frame_at t n) (local_count t n) t.globals o args ts next)) e
      ∙ inside_list (import_written q.modifies ts) (import_letters (frame_at t n) (local_count t n) t.globals q args ts) (At next)

  -- of a procedure without body
  pub unseen_arcs_are : (o : Option Column) (i : Option TypedInvariant) (f : ℕ) (q : TypedProcedure) (targets : List Column) (args : List TypedExpression) (next : Point) →
      slice_get t.procs f ≡ Some q → targets_at here.todo ≡ targets →
      action_arcs t n here (unseen_action o i f targets args here next) ≡ unseen_list t n place q args targets (place_number t n (settled (past_first t.procs here.todo)))
  unseen_arcs_are (Some c) i f q targets args next e d =
      imported_arcs f q args (numbers_in (frame_at t n) (targets_at here.todo)) (settled (past_first t.procs here.todo)) e
      ∙ ap (λ (cs : List Column). unseen_list t n place q args cs (place_number t n (settled (past_first t.procs here.todo)))) d
  unseen_arcs_are None (Some i) f q targets args next e d =
      imported_arcs f q args (numbers_in (frame_at t n) (targets_at here.todo)) (settled (past_first t.procs here.todo)) e
      ∙ ap (λ (cs : List Column). unseen_list t n place q args cs (place_number t n (settled (past_first t.procs here.todo)))) d
  unseen_arcs_are None None f q targets args next e d =
      imported_arcs f q args (numbers_in (frame_at t n) (targets_at here.todo)) (settled (past_first t.procs here.todo)) e
      ∙ ap (λ (cs : List Column). unseen_list t n place q args cs (place_number t n (settled (past_first t.procs here.todo)))) d

  unseen_by : (o : Option TypedProcedure) (f : ℕ) (q : TypedProcedure) (args : List TypedExpression) (cs targets : List Column) → o ≡ Some q → cs ≡ targets →
      import_needed (frame_at t n) (local_count t n) t.globals o args (numbers_in (frame_at t n) cs) ≡ import_needed (frame_at t n) (local_count t n) t.globals (Some q) args (numbers_in (frame_at t n) targets)
  unseen_by o f q args cs targets e d =
      ap (λ (p : Option TypedProcedure). import_needed (frame_at t n) (local_count t n) t.globals p args (numbers_in (frame_at t n) cs)) e
      ∙ ap (λ (ds : List Column). import_needed (frame_at t n) (local_count t n) t.globals (Some q) args (numbers_in (frame_at t n) ds)) d

  pub unseen_needed : (o : Option Column) (i : Option TypedInvariant) (f : ℕ) (q : TypedProcedure) (targets : List Column) (args : List TypedExpression) (next : Point) →
      slice_get t.procs f ≡ Some q → targets_at here.todo ≡ targets →
      needed_by t n here (unseen_action o i f targets args here next) ≡ import_needed (frame_at t n) (local_count t n) t.globals (Some q) args (numbers_in (frame_at t n) targets)
  unseen_needed (Some c) i f q targets args next e d = unseen_by (slice_get t.procs f) f q args (targets_at here.todo) targets e d
  unseen_needed None (Some i) f q targets args next e d = unseen_by (slice_get t.procs f) f q args (targets_at here.todo) targets e d
  unseen_needed None None f q targets args next e d = unseen_by (slice_get t.procs f) f q args (targets_at here.todo) targets e d

  pub unseen_sites : (o : Option Column) (i : Option TypedInvariant) (f : ℕ) (targets : List Column) (args : List TypedExpression) (next : Point) →
      action_sites t n (unseen_action o i f targets args here next) ≡ []
  unseen_sites (Some c) i f targets args next = refl
  unseen_sites None (Some i) f targets args next = refl
  unseen_sites None None f targets args next = refl
