-- Where a frame of a valid program goes, it stands at a point where something is to be done.
use Rattle.std.proofs.Common.{◌≡◌, ℕ, ◌+◌, ◌-◌, ◌<◌, ◌≤◌, min, Bool, true, false, not, List, [], ◌∷◌, length, Option, None, Some, IfSome, IsSomeAnd, slice_get, sym, ap, ◌∙◌, subst, arith}
use Rattle.std.specs.List.{AllByRecursion, list_all}
use Rattle.std.proofs.lemmas.Bool.{and_parts}
use Rattle.boogie_tree.specs.declared.span.Span.{Span}
use Rattle.boogie_tree.specs.declared.tree.Column.{Column}
use Rattle.typed_tree.specs.AffineForm.{is_empty}
use Rattle.typed_tree.specs.TypedTree.{TypedExpression, TypedInvariant, TypedStatement, Assert, Assume, Havoc, Assign, Call, If, While, Break, Goto, Return, Label, TypedBlock, Empty, Then, TypedProcedure, TypedProgram}
use Rattle.typed_tree.specs.TypingRules.Rules.{Context, meets, is_member, are_targets, is_call, is_statement, is_block}
use Rattle.typed_tree.specs.TypingRules.Shape.{block_labels}
use Rattle.boogie_run.specs.BoogiePoints.Points as points
use Rattle.boogie_run.specs.BoogiePoints.Points.{Todo, Stage, Point, at_exit, unless_ended, settled, found_block}
use Rattle.boogie_run.specs.BoogiePoints.Actions.{plain_conditions, free_conditions, chosen_columns, point_behind, ways_to, entry_point, first_assertion, first_place}
use Rattle.boogie_run.specs.RunDefaults.Standing.{FindsLabel, call_parts, StatementStands, StageStands}
use Rattle.boogie_run.proofs.RunDefaults.Parts.{below_of, meets_some, some_and, not_empty}
use Rattle.boogie_run.proofs.RunDefaults.Searches.{label_found}
use Rattle.boogie_run.proofs.RunDefaults.Nesting.{IsNested, AreNested, rest_nested, found_block_nested, finds_loop}

-- ---- what is kept at a call without body

-- of that procedure: as many values as columns are chosen
abbrev pub KeptOf : Option TypedProcedure → ℕ → ℕ → Type 0
KeptOf None part k = Unit {0}
KeptOf (Some p) part k = k ≡ min (part - length (plain_conditions p.specs)) (length (chosen_columns p))

abbrev pub KeptAtBlock : TypedProgram → TypedBlock → ℕ → ℕ → Type 0
KeptAtBlock t (Then (Call at cs f es) b) part k = KeptOf (slice_get t.procs f) part k
KeptAtBlock t b part k = Unit {0}

abbrev pub KeptAt : TypedProgram → List Todo → ℕ → ℕ → Type 0
KeptAt t [] part k = Unit {0}
KeptAt t (d ∷ ds) part k = KeptAtBlock t d.rest part k

-- so many values are kept
abbrev pub KeptIn : TypedProgram → Stage → List Todo → ℕ → ℕ → Type 0
KeptIn t points.Start ds part k = Unit {0}
KeptIn t points.Entry ds part k = Unit {0}
KeptIn t points.Body ds part k = KeptAt t ds part k
KeptIn t points.Exit ds part k = Unit {0}

none_kept : (o : Option TypedProcedure) → KeptOf o 0 0
none_kept None = tt
none_kept (Some p) = omega arith

module _ (t : TypedProgram) (n : ℕ) (q : TypedProcedure) (body : TypedBlock) where
  -- The blocks are nested as in the body, something is to be done, and so many values are kept.
  pub record Keeps (p : Point) (k : ℕ) : Type 0 where
    pub nested : AreNested t q body p.todo
    pub stands : StageStands t n q body p.stage p.todo p.part
    pub kept : KeptIn t p.stage p.todo p.part k

  -- ---- the first statement of a block, with no part done

  statement_kept : (s : TypedStatement) (b : TypedBlock) (l : Bool) (ds : List Todo) (h : IsNested t q body (Then s b) l ds) → is_statement h.context s ≡ true
  statement_kept s b l ds h = (and_parts (is_statement h.context s) (is_block h.context b) h.kept).0

  abbrev Stands : TypedStatement → TypedBlock → Bool → ℕ → ℕ → List Todo → Type 0
  Stands s b l id at ds =
      StatementStands t.procs body (first_assertion t.procs n) (first_place t n + length (free_conditions q.specs))
      (record { rest = Then s b; of_loop = l; id = id; at = at } ∷ ds) 0 s

  havoc_stands : (s : Span) (cs : List Column) (b : TypedBlock) (l : Bool) (ds : List Todo) → IsNested t q body (Then (Havoc s cs) b) l ds → 0 < length cs
  havoc_stands s cs b l ds h =
      not_empty cs (and_parts (not (is_empty cs)) (are_targets h.context cs) (statement_kept (Havoc s cs) b l ds h)).0

  -- the called procedure
  pub callee_found : (s : Span) (cs : List Column) (f : ℕ) (es : List TypedExpression) (b : TypedBlock) (l : Bool) (ds : List Todo) → (h : IsNested t q body (Then (Call s cs f es) b) l ds) →
      (p : TypedProcedure) × (slice_get t.procs f ≡ Some p) × (is_call h.context cs es p ≡ true)
  callee_found s cs f es b l ds h =
      let k : Context = h.context in
      let there = (and_parts (are_targets k cs) (meets (is_call k cs es) (slice_get k.procs f)) (statement_kept (Call s cs f es) b l ds h)).1 in
      let p = meets_some (is_call k cs es) (slice_get k.procs f) there in
      (p.0, ap (λ (ps : List TypedProcedure). slice_get ps f) (sym h.inside.procs) ∙ p.1, p.2)

  call_stands : (s : Span) (cs : List Column) (f : ℕ) (es : List TypedExpression) (b : TypedBlock) (l : Bool) (ds : List Todo) → IsNested t q body (Then (Call s cs f es) b) l ds →
      IsSomeAnd (slice_get t.procs f) (λ (p : TypedProcedure). 0 ≤ call_parts p)
  call_stands s cs f es b l ds h =
      let p = callee_found s cs f es b l ds h in some_and (λ (r : TypedProcedure). 0 ≤ call_parts r) (slice_get t.procs f) p.0 p.1 (omega arith)

  break_stands : (s : Span) (m : ℕ) (b : TypedBlock) (l : Bool) (id at : ℕ) (ds : List Todo) → IsNested t q body (Then (Break s m) b) l ds → AreNested t q body ds →
      Stands (Break s m) b l id at ds
  break_stands s m b l id at ds h u =
      let less : m < h.context.loops = below_of m h.context.loops (statement_kept (Break s m) b l ds h) in
      finds_loop t q body m (record { rest = Then (Break s m) b; of_loop = l; id = id; at = at } ∷ ds) (h, u) (omega (arith, less, h.loops))

  labels_stand : (k : Context) (ks : List ℕ) → ((m : ℕ) → is_member m k.labels ≡ true → is_member m (block_labels body) ≡ true) →
      list_all (λ m. is_member m k.labels) ks ≡ true →
      AllByRecursion (FindsLabel t.procs body (first_assertion t.procs n) (first_place t n + length (free_conditions q.specs))) ks
  labels_stand k [] own h = tt
  labels_stand k (m ∷ ks) own h =
      let parts = and_parts (is_member m k.labels) (list_all (λ j. is_member j k.labels) ks) h in (
        label_found t.procs m body false (first_assertion t.procs n) (first_place t n + length (free_conditions q.specs)) [] (own m parts.0),
        labels_stand k ks own parts.1,
      )

  goto_stands : (s : Span) (ks : List ℕ) (b : TypedBlock) (l : Bool) (id at : ℕ) (ds : List Todo) → IsNested t q body (Then (Goto s ks) b) l ds → Stands (Goto s ks) b l id at ds
  goto_stands s ks b l id at ds h =
      let parts = and_parts (not (is_empty ks)) (list_all (λ m. is_member m h.context.labels) ks) (statement_kept (Goto s ks) b l ds h) in
      (not_empty ks parts.0, labels_stand h.context ks h.inside.labels parts.1)

  -- ---- the points to which an action leads

  unless_keeps : (b : TypedBlock) (l : Bool) (id at : ℕ) (under : List Todo) (after : Point) → IsNested t q body b l under → AreNested t q body under → Keeps after 0 →
      Keeps (unless_ended b l id at under after) 0
  unless_keeps Empty l id at under after h u r = r
  unless_keeps (Then (Label m) b) l id at under after h u r = unless_keeps b l id at under after (rest_nested t q body (Label m) b l under h) u r
  unless_keeps (Then (Assert s e) b) l id at under after h u r = record { nested = (h, u); stands = tt; kept = tt }
  unless_keeps (Then (Assume s e) b) l id at under after h u r = record { nested = (h, u); stands = tt; kept = tt }
  unless_keeps (Then (Havoc s cs) b) l id at under after h u r = record { nested = (h, u); stands = havoc_stands s cs b l under h; kept = tt }
  unless_keeps (Then (Assign s cs es) b) l id at under after h u r = record { nested = (h, u); stands = tt; kept = tt }
  unless_keeps (Then (Call s cs f es) b) l id at under after h u r =
      record { nested = (h, u); stands = call_stands s cs f es b l under h; kept = none_kept (slice_get t.procs f) }
  unless_keeps (Then (If s g x y) b) l id at under after h u r = record { nested = (h, u); stands = tt; kept = tt }
  unless_keeps (Then (While s g is x) b) l id at under after h u r = record { nested = (h, u); stands = omega arith; kept = tt }
  unless_keeps (Then (Break s m) b) l id at under after h u r = record { nested = (h, u); stands = break_stands s m b l id at under h u; kept = tt }
  unless_keeps (Then (Goto s ks) b) l id at under after h u r = record { nested = (h, u); stands = goto_stands s ks b l id at under h; kept = tt }
  unless_keeps (Then (Return s) b) l id at under after h u r = record { nested = (h, u); stands = tt; kept = tt }

  pub exit_keeps : Keeps at_exit 0
  exit_keeps = record { nested = tt; stands = omega arith; kept = tt }

  pub settled_keeps : (ds : List Todo) → AreNested t q body ds → Keeps (settled ds) 0
  settled_keeps [] h = exit_keeps
  settled_keeps (d ∷ ds) h = unless_keeps d.rest d.of_loop d.id d.at ds (settled ds) h.0 h.1 (settled_keeps ds h.1)

  way_keeps : (o : Option (List Todo)) → IfSome o (AreNested t q body) → Keeps (point_behind o) 0
  way_keeps None h = exit_keeps
  way_keeps (Some ds) h = settled_keeps ds h

  pub ways_keep : (id at : ℕ) (ks : List ℕ) → IsNested t q body body false [] → AllByRecursion (λ (p : Point). Keeps p 0) (ways_to t.procs body id at ks)
  ways_keep id at [] w = tt
  ways_keep id at (k ∷ ks) w =
      (way_keeps (found_block t.procs k body false id at []) (found_block_nested t q body k body false id at [] w tt), ways_keep id at ks w)

  pub entry_keeps : (is : List TypedInvariant) (d : Todo) → is ≡ free_conditions q.specs → IsNested t q body d.rest d.of_loop [] → Keeps (entry_point is d) 0
  entry_keeps [] d e h = settled_keeps (d ∷ []) (h, tt)
  entry_keeps (i ∷ is) d e h =
      let less : 0 < length (i ∷ is) = omega arith in
      record { nested = (h, tt); stands = subst (λ (js : List TypedInvariant). 0 < length js) e less; kept = tt }
