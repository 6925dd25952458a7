-- The points of a procedure's body lead to points of the body, and so do those of the start.
use Rattle.std.proofs.Common.{◌≡◌, ℕ, zero, suc, ◌+◌, ◌<◌, Bool, true, false, List, [], ◌∷◌, ◌++◌, length, Option, None, Some, slice_get, refl, sym, subst, arith}
use Rattle.std.specs.List.{AllByRecursion}
use Rattle.std.proofs.lemmas.Option.{slice_get_within}
use Rattle.typed_tree.specs.TypedTree.{TypedExpression, TypedInvariant, TypedStatement, Assert, Assume, Havoc, Assign, Call, If, While, Break, Goto, Return, Label, TypedBlock, Empty, Then, TypedProcedure, TypedProgram}
use Rattle.typed_tree.specs.TypingRules.Counts.{plain_invariants, assertions, points, block_assertions, block_points, checked_at_call}
use Rattle.boogie_run.specs.BoogiePoints.Points.{Todo, Stage, Start, Entry, Body, Point, at_exit, before, settled, past, found_block}
use Rattle.boogie_run.specs.BoogiePoints.Actions.{next_part, free_conditions, ensured_conditions, entry_point, first_point, first_assertion, first_place, start_conditions, entry_action, exit_action, start_action, stage_action, point_behind}
use Rattle.boogie_run.specs.BoogiePlaces.Places.{parts_from, at_statement, points_in, points_of, points_of_body, start_points, BlockWrites}
use Rattle.boogie_run.proofs.BoogiePlaces.Closed.{all_append, front_all, rest_all, each_part, part_of_all, begins, Leads, checked_leads, Stays, Outs, closed_of, way_of}

pub both_all : {X : Type 0} (A B C : X → Type 0) (xs : List X) → ((x : X) → A x → B x → C x) → AllByRecursion A xs → AllByRecursion B xs → AllByRecursion C xs
both_all A B C [] f h k = tt
both_all A B C (x ∷ xs) f h k = (f x h.0 k.0, both_all A B C xs f h.1 k.1)

-- ---- the points of a block are of the stage of statements

abbrev pub IsInBody : Point → Type 0
IsInBody p = p.stage ≡ Body

mutual
  in_body : (procs : List TypedProcedure) (s : TypedStatement) (b : TypedBlock) (loop : Bool) (id at : ℕ) (under : List Todo) → AllByRecursion IsInBody (points_in procs s b loop id at under)
  in_body procs (Assert span e) b loop id at under = (refl, tt)
  in_body procs (Assume span e) b loop id at under = (refl, tt)
  in_body procs (Havoc span cs) b loop id at under = each_part IsInBody (at_statement (Havoc span cs) b loop id at under) 0 (length cs) (λ i l. refl)
  in_body procs (Assign span cs es) b loop id at under = (refl, tt)
  in_body procs (Call span cs f es) b loop id at under = each_part IsInBody (at_statement (Call span cs f es) b loop id at under) 0 (checked_at_call (slice_get procs f) + 1) (λ i l. refl)
  in_body procs (If span g x y) b loop id at under =
      let behind : Todo = past procs (If span g x y) b loop id at in (
        refl,
        all_append IsInBody (points_of procs x false id (at + 1) (behind ∷ under)) (points_of procs y false (id + block_assertions procs x) (at + 1 + block_points procs x) (behind ∷ under))
            (all_in_body procs x false id (at + 1) (behind ∷ under)) (all_in_body procs y false (id + block_assertions procs x) (at + 1 + block_points procs x) (behind ∷ under)),
      )
  in_body procs (While span g is x) b loop id at under =
      let here : Todo = record { rest = Then (While span g is x) b; of_loop = loop; id = id; at = at } in
      all_append IsInBody (parts_from (before (here ∷ under)) 0 (length is + 1)) (points_of procs x true (id + plain_invariants is) (at + length is + 1) (here ∷ under))
      (each_part IsInBody (before (here ∷ under)) 0 (length is + 1) (λ i l. refl)) (all_in_body procs x true (id + plain_invariants is) (at + length is + 1) (here ∷ under))
  in_body procs (Break span n) b loop id at under = (refl, tt)
  in_body procs (Goto span ks) b loop id at under = (refl, tt)
  in_body procs (Return span) b loop id at under = (refl, tt)
  in_body procs (Label k) b loop id at under = tt

  pub all_in_body : (procs : List TypedProcedure) (b : TypedBlock) (loop : Bool) (id at : ℕ) (under : List Todo) → AllByRecursion IsInBody (points_of procs b loop id at under)
  all_in_body procs Empty loop id at under = tt
  all_in_body procs (Then s b) loop id at under =
      all_append IsInBody (points_in procs s b loop id at under) (points_of procs b loop (id + assertions procs s) (at + points procs s) under)
      (in_body procs s b loop id at under) (all_in_body procs b loop (id + assertions procs s) (at + points procs s) under)

-- ---- entries and exits

module _ (P : Point → Type 0) (procs : List TypedProcedure) where
  entry_leads : (o more : Option TypedInvariant) (here : Point) → ((i : TypedInvariant) → more ≡ Some i → P (next_part here)) → P (settled here.todo) → Leads P procs here (entry_action o more here)
  entry_leads None more here h k = (k, tt)
  entry_leads (Some i) None here h k = (k, tt)
  entry_leads (Some i) (Some j) here h k = (h j refl, tt)

  exit_leads : (o : Option TypedInvariant) (id : ℕ) (here : Point) → ((i : TypedInvariant) → o ≡ Some i → P (next_part here)) → Leads P procs here (exit_action o id here)
  exit_leads None id here h = tt
  exit_leads (Some i) id here h = checked_leads P procs i.free id i.span i.cond here (next_part here) (h i refl)

  start_leads : (o more : Option TypedExpression) (here first : Point) → ((e : TypedExpression) → more ≡ Some e → P (next_part here)) → P first → Leads P procs here (start_action o more here first)
  start_leads None more here first h k = (k, tt)
  start_leads (Some e) None here first h k = (k, tt)
  start_leads (Some e) (Some d) here first h k = (h d refl, tt)

  entry_begins : (is : List TypedInvariant) (body : Todo) → AllByRecursion P (parts_from (record { stage = Entry; todo = body ∷ []; part = 0 }) 0 (length is)) → P (settled (body ∷ [])) → P (entry_point is body)
  entry_begins [] body h k = k
  entry_begins (i ∷ is) body h k = h.0

-- ---- a procedure with a body

module _ (P : Point → Type 0) (t : TypedProgram) (n : ℕ) (q : TypedProcedure) (b : TypedBlock) (w : BlockWrites b) (h : AllByRecursion P (points_of_body t n q b)) where
  abbrev free : ℕ
  free = length (free_conditions q.specs)

  abbrev first : ℕ
  first = first_assertion t.procs n

  abbrev start : ℕ
  start = first_place t n + free

  abbrev whole : Todo
  whole = record { rest = b; of_loop = false; id = first; at = start }

  abbrev entry : Point
  entry = record { stage = Entry; todo = whole ∷ []; part = 0 }

  abbrev entries : List Point
  entries = parts_from entry 0 free

  abbrev inner : List Point
  inner = points_of t.procs b false first start []

  abbrev exits : List Point
  exits = parts_from at_exit 0 (length (ensured_conditions q.specs) + 1)

  entries_hold : AllByRecursion P entries
  entries_hold = front_all P entries (inner ++ exits) h

  inner_holds : AllByRecursion P inner
  inner_holds = front_all P inner exits (rest_all P entries (inner ++ exits) h)

  exits_hold : AllByRecursion P exits
  exits_hold = rest_all P inner exits (rest_all P entries (inner ++ exits) h)

  exit_holds : P at_exit
  exit_holds = part_of_all P at_exit 0 (length (ensured_conditions q.specs) + 1) 0 exits_hold (omega arith) (omega arith)

  -- the point before the statements
  statements_hold : P (settled (whole ∷ []))
  statements_hold = begins P t.procs b false first start [] w inner_holds exit_holds

  -- the first point of the body
  pub first_holds : P (first_point q b (first_assertion t.procs n) (first_place t n))
  first_holds = entry_begins P t.procs (free_conditions q.specs) whole entries_hold statements_hold

  no_loops : Outs P t.procs b first start exit_holds (λ k. way_of P t.procs k exit_holds b false first start [] w inner_holds exit_holds) false []
  no_loops r i j zero = exit_holds
  no_loops r i j (suc k) = exit_holds

  -- whatever the stage
  abbrev pub StageLeads : Point → Type 0
  StageLeads p = Leads P t.procs p (stage_action t n q b p.stage p)

  entries_lead : AllByRecursion StageLeads entries
  entries_lead =
      each_part StageLeads entry 0 free
      (λ i l. entry_leads P t.procs (slice_get (free_conditions q.specs) i) (slice_get (free_conditions q.specs) (i + 1)) (record entry { part = i })
      (λ j e. part_of_all P entry 0 free (i + 1) entries_hold (omega arith) (let m : i + 1 < free = slice_get_within (free_conditions q.specs) (i + 1) j e in omega arith)) statements_hold)

  exits_lead : AllByRecursion StageLeads exits
  exits_lead =
      let count : ℕ = length (ensured_conditions q.specs) in
      each_part StageLeads at_exit 0 (count + 1)
      (λ i l. exit_leads P t.procs (slice_get (ensured_conditions q.specs) i) _ (record at_exit { part = i })
      (λ j e. part_of_all P at_exit 0 (count + 1) (i + 1) exits_hold (omega arith) (let m : i < count = slice_get_within (ensured_conditions q.specs) i j e in omega arith)))

  inner_leads : AllByRecursion StageLeads inner
  inner_leads =
      let gotos : (k : ℕ) → P (point_behind (found_block t.procs k b false first start [])) = λ k. way_of P t.procs k exit_holds b false first start [] w inner_holds exit_holds in
      both_all (Stays P t.procs b first start exit_holds gotos) IsInBody StageLeads inner
      (λ p s e. subst (λ (st : Stage). Leads P t.procs p (stage_action t n q b st p)) (sym e) s)
      (closed_of P t.procs b first start exit_holds gotos b false first start [] w inner_holds exit_holds no_loops)
      (all_in_body t.procs b false first start [])

  -- each point of the body leads to such points
  pub body_leads : AllByRecursion StageLeads (points_of_body t n q b)
  body_leads = all_append StageLeads entries (inner ++ exits) entries_lead (all_append StageLeads inner exits inner_leads exits_lead)

  -- so does each of the start, where they are such points
  pub starts_lead : AllByRecursion P (start_points t q) → AllByRecursion StageLeads (start_points t q)
  starts_lead k =
      let here : Point = record { stage = Start; todo = []; part = 0 } in
      let count : ℕ = length (start_conditions t q) in
      each_part StageLeads here 0 count
      (λ i l. start_leads P t.procs (slice_get (start_conditions t q) i) (slice_get (start_conditions t q) (i + 1)) (record here { part = i }) _
      (λ d e. part_of_all P here 0 count (i + 1) k (omega arith) (let m : i + 1 < count = slice_get_within (start_conditions t q) (i + 1) d e in omega arith)) first_holds)
