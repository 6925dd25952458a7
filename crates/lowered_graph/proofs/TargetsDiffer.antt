-- The columns that an assignment or a call of a typed program writes differ.
use Rattle.std.proofs.Common.{◌≡◌, ◌∙◌, ℕ, ◌+◌, Bool, true, false, not, ◌&&◌, ◌||◌, List, [], ◌∷◌, ◌++◌, length, Option, None, Some, inl, inr, sym, ap, subst, IsTrue}
use Rattle.std.specs.Prelude.{slice_get, take}
use Rattle.std.specs.List.{list_all, list_any}
use Rattle.std.proofs.lemmas.Bool.{and_parts}
use Rattle.boogie_tree.specs.declared.tree.Column.{Column}
use Rattle.boogie_tree.specs.declared.tree.Column.TheVariants as columns
use Rattle.typed_tree.specs.TypedTree.{TypedExpression, TypedInvariant, TypedStatement, Assert, Assume, Havoc, Assign, Call, If, While, Break, Goto, Return, Label, TypedBlock, Empty, Then, TypedProcedure, TypedProgram}
use Rattle.typed_tree.specs.AffineForm.{is_empty}
use Rattle.typed_tree.specs.TypingRules.Counts.{plain_invariants, assertions, points, block_assertions, block_points, checked_at_call}
use Rattle.typed_tree.specs.TypingRules.Rules.{Context, all_differ, same_column, is_writable, are_targets, values_agree, meets, is_call, within, looped, context_of}
use Rattle.typed_tree.specs.TypingRules.Laws.{StandsIn, here, after, in_then, in_else, in_loop, in_body}
use Rattle.typed_tree.specs.TypingRules.ValidProgram.{is_valid}
use Rattle.typed_tree.proofs.TypingRules.ValidLaws as valid
use Rattle.nwa_base.specs.Members.{Member}
use Rattle.nwa_base.proofs.LetterLemmas.{eqb-refl}
use Rattle.letter_acts.specs.Invariant.{AreDistinct}
use Rattle.boogie_run.specs.BoogiePoints.Points.{Todo, Start, Entry, Point, at_exit, before, past, Exit}
use Rattle.boogie_run.specs.BoogiePoints.Actions as actions
use Rattle.boogie_run.specs.BoogiePoints.Actions.{Action, next_part, action_at, stage_action, exit_action, checked, free_conditions, ensured_conditions, start_conditions, first_assertion, first_place}
use Rattle.boogie_run.specs.BoogiePoints.Starts.{targets_of_statement, targets_at}
use Rattle.boogie_run.specs.BoogiePlaces.Places.{parts_from, at_statement, points_in, points_of, points_of_body, IsOneOf}
use Rattle.lowered_graph.proofs.KnownPlaces.{IsKnown, point_either}
use Rattle.lowered_graph.proofs.CallPlaces.{GoesOn, StatementWrites, BlockWrites, TodoWrites, stage_on, part_back, known_stage, action_is}
use Rattle.lowered_graph.proofs.Lists.{contained, not_both, or_right}

-- ---- what differs

abbrev Differ : TypedStatement → Type 0
Differ (Assert at e) = Unit {0}
Differ (Assume at e) = Unit {0}
Differ (Havoc at cs) = Unit {0}
Differ (Assign at cs es) = AreDistinct cs
Differ (Call at cs f es) = AreDistinct cs
Differ (If at g x y) = Unit {0}
Differ (While at g is x) = Unit {0}
Differ (Break at n) = Unit {0}
Differ (Goto at ks) = Unit {0}
Differ (Return at) = Unit {0}
Differ (Label n) = Unit {0}

abbrev BlockDiffers : TypedBlock → Type 0
BlockDiffers Empty = Unit {0}
BlockDiffers (Then s b) = Differ s

-- of the first statement that is still to do
abbrev TodoDiffers : List Todo → Type 0
TodoDiffers [] = Unit {0}
TodoDiffers (d ∷ ds) = BlockDiffers d.rest

written_so : (s : TypedStatement) → Differ s → StatementWrites AreDistinct s
written_so (Assert at e) h = tt
written_so (Assume at e) h = tt
written_so (Havoc at cs) h = tt
written_so (Assign at cs es) h = h
written_so (Call at cs f es) h = tt
written_so (If at g x y) h = tt
written_so (While at g is x) h = tt
written_so (Break at n) h = tt
written_so (Goto at ks) h = tt
written_so (Return at) h = tt
written_so (Label n) h = tt

block_written : (b : TypedBlock) → BlockDiffers b → BlockWrites AreDistinct b
block_written Empty h = tt
block_written (Then s b) h = written_so s h

todo_written : (todo : List Todo) → TodoDiffers todo → TodoWrites AreDistinct todo
todo_written [] h = tt
todo_written (d ∷ ds) h = block_written d.rest h

targets_so : (s : TypedStatement) (b : TypedBlock) → Differ s → AreDistinct (targets_of_statement (Then s b))
targets_so (Assert at e) b h = tt
targets_so (Assume at e) b h = tt
targets_so (Havoc at cs) b h = tt
targets_so (Assign at cs es) b h = tt
targets_so (Call at cs f es) b h = h
targets_so (If at g x y) b h = tt
targets_so (While at g is x) b h = tt
targets_so (Break at n) b h = tt
targets_so (Goto at ks) b h = tt
targets_so (Return at) b h = tt
targets_so (Label n) b h = tt

block_targets : (b : TypedBlock) → BlockDiffers b → AreDistinct (targets_of_statement b)
block_targets Empty h = tt
block_targets (Then s b) h = targets_so s b h

todo_targets : (todo : List Todo) → TodoDiffers todo → AreDistinct (targets_at todo)
todo_targets [] h = tt
todo_targets (d ∷ ds) h = block_targets d.rest h

-- ---- statements

itself : (c : Column) → same_column c c ≡ true
itself (columns.Global m) = eqb-refl m
itself (columns.Old m) = eqb-refl m
itself (columns.Local m) = eqb-refl m

any_of : (c : Column) (cs : List Column) → Member cs c → list_any (same_column c) cs ≡ true
any_of c [] m = absurd m
any_of c (d ∷ cs) (inl e) = ap (λ (b : Bool). b || list_any (same_column c) cs) (ap (same_column c) e ∙ itself c)
any_of c (d ∷ cs) (inr m) = or_right (same_column c d) (list_any (same_column c) cs) (any_of c cs m)

differ_so : (cs : List Column) → all_differ same_column cs ≡ true → AreDistinct cs
differ_so [] e = tt
differ_so (c ∷ cs) e =
    let parts = and_parts (not (list_any (same_column c) cs)) (all_differ same_column cs) e in
    (λ m. not_both (list_any (same_column c) cs) (any_of c cs m) parts.0, differ_so cs parts.1)

-- each statement of a body
statement_differs : (t : TypedProgram) → IsTrue (is_valid t) → (n : ℕ) (q : TypedProcedure) (b : TypedBlock) → slice_get t.procs n ≡ Some q → q.body ≡ Some b → (k : Context) (s : TypedStatement) →
    StandsIn (within (context_of t.globals t.procs q) b) b k s → Differ s
statement_differs t v n q b e h k (Assign at cs es) d =
    let held = (valid.statements t q k (Assign at cs es) v (in_body b (contained t.procs n q e) h d)).0 in
    let rest = and_parts (not (is_empty cs)) (are_targets k cs && values_agree k.scope cs es) held in
    let both = and_parts (are_targets k cs) (values_agree k.scope cs es) rest.1 in
    differ_so cs (and_parts (list_all (is_writable k) cs) (all_differ same_column cs) both.0).1
statement_differs t v n q b e h k (Call at cs f es) d =
    let held = (valid.statements t q k (Call at cs f es) v (in_body b (contained t.procs n q e) h d)).0 in
    let rest = and_parts (are_targets k cs) (meets (is_call k cs es) (slice_get k.procs f)) held in
    differ_so cs (and_parts (list_all (is_writable k) cs) (all_differ same_column cs) rest.0).1
statement_differs t v n q b e h k (Assert at c) d = tt
statement_differs t v n q b e h k (Assume at c) d = tt
statement_differs t v n q b e h k (Havoc at cs) d = tt
statement_differs t v n q b e h k (If at g x y) d = tt
statement_differs t v n q b e h k (While at g is x) d = tt
statement_differs t v n q b e h k (Break at m) d = tt
statement_differs t v n q b e h k (Goto at ks) d = tt
statement_differs t v n q b e h k (Return at) d = tt
statement_differs t v n q b e h k (Label m) d = tt

-- ---- points

abbrev AllDiffer : Context → TypedBlock → Type 0
AllDiffer c b = (k : Context) (s : TypedStatement) → StandsIn c b k s → Differ s

only : (r p : Point) → TodoDiffers p.todo → IsOneOf (p ∷ []) r → TodoDiffers r.todo
only r p h (inl e) = subst (λ (x : Point). TodoDiffers x.todo) e h
only r p h (inr m) = absurd m

parts_differ : (p : Point) (k n : ℕ) (r : Point) → TodoDiffers p.todo → IsOneOf (parts_from p k n) r → TodoDiffers r.todo
parts_differ p k n r h m =
    let i = part_back p k n r m in
    subst (λ (x : Point). TodoDiffers x.todo) (sym i.3) h

mutual
  differ_in : (procs : List TypedProcedure) (s : TypedStatement) (c : Context) (b : TypedBlock) (loop : Bool) (id at : ℕ) (under : List Todo) → AllDiffer c (Then s b) → (r : Point) →
      IsOneOf (points_in procs s b loop id at under) r → TodoDiffers r.todo
  differ_in procs (Assert span e) c b loop id at under h r m = only r (at_statement (Assert span e) b loop id at under) tt m
  differ_in procs (Assume span e) c b loop id at under h r m = only r (at_statement (Assume span e) b loop id at under) tt m
  differ_in procs (Havoc span cs) c b loop id at under h r m = parts_differ (at_statement (Havoc span cs) b loop id at under) 0 (length cs) r tt m
  differ_in procs (Assign span cs es) c b loop id at under h r m = only r (at_statement (Assign span cs es) b loop id at under) (h c (Assign span cs es) (here c (Assign span cs es) b)) m
  differ_in procs (Call span cs f es) c b loop id at under h r m =
      parts_differ (at_statement (Call span cs f es) b loop id at under) 0 (checked_at_call (slice_get procs f) + 1) r (h c (Call span cs f es) (here c (Call span cs f es) b)) m
  differ_in procs (If span g x y) c b loop id at under h r m =
      let behind : List Todo = past procs (If span g x y) b loop id at ∷ under in
      let xs : List Point = points_of procs x false id (at + 1) behind in
      let ys : List Point = points_of procs y false (id + block_assertions procs x) (at + 1 + block_points procs x) behind in
      elim m [
        | inl e ↦ subst (λ (p : Point). TodoDiffers p.todo) e tt
        | inr l ↦ elim (point_either xs ys r l) [
          | inl i ↦ differ_of procs x (within c x) false id (at + 1) behind (λ k s d. h k s (in_then c k span g x y b s d)) r i
          | inr i ↦ differ_of procs y (within c y) false (id + block_assertions procs x) (at + 1 + block_points procs x) behind (λ k s d. h k s (in_else c k span g x y b s d)) r i
        ]
      ]
  differ_in procs (While span g is x) c b loop id at under h r m =
      let at_loop : Todo = record { rest = Then (While span g is x) b; of_loop = loop; id = id; at = at } in
      elim (point_either (parts_from (before (at_loop ∷ under)) 0 (length is + 1)) (points_of procs x true (id + plain_invariants is) (at + length is + 1) (at_loop ∷ under)) r m) [
        | inl i ↦ parts_differ (before (at_loop ∷ under)) 0 (length is + 1) r tt i
        | inr i ↦ differ_of procs x (within (looped c) x) true (id + plain_invariants is) (at + length is + 1) (at_loop ∷ under) (λ k s d. h k s (in_loop c k span g is x b s d)) r i
      ]
  differ_in procs (Break span k) c b loop id at under h r m = only r (at_statement (Break span k) b loop id at under) tt m
  differ_in procs (Goto span ks) c b loop id at under h r m = only r (at_statement (Goto span ks) b loop id at under) tt m
  differ_in procs (Return span) c b loop id at under h r m = only r (at_statement (Return span) b loop id at under) tt m
  differ_in procs (Label k) c b loop id at under h r m = absurd m

  differ_of : (procs : List TypedProcedure) (b : TypedBlock) (c : Context) (loop : Bool) (id at : ℕ) (under : List Todo) → AllDiffer c b → (r : Point) → IsOneOf (points_of procs b loop id at under) r → TodoDiffers r.todo
  differ_of procs Empty c loop id at under h r m = absurd m
  differ_of procs (Then s b) c loop id at under h r m =
      elim (point_either (points_in procs s b loop id at under) (points_of procs b loop (id + assertions procs s) (at + points procs s) under) r m) [
        | inl i ↦ differ_in procs s c b loop id at under h r i
        | inr i ↦ differ_of procs b c loop (id + assertions procs s) (at + points procs s) under (λ k x d. h k x (after c k s x b d)) r i
      ]

block_first : (c : Context) (b : TypedBlock) → AllDiffer c b → BlockDiffers b
block_first c Empty h = tt
block_first c (Then s b) h = h c s (here c s b)

body_differs : (t : TypedProgram) → IsTrue (is_valid t) → (n : ℕ) (q : TypedProcedure) (b : TypedBlock) → slice_get t.procs n ≡ Some q → q.body ≡ Some b → (r : Point) → IsOneOf (points_of_body t n q b) r → TodoDiffers r.todo
body_differs t v n q b e k r m =
    let free : ℕ = length (free_conditions q.specs) in
    let whole : Todo = record { rest = b; of_loop = false; id = first_assertion t.procs n; at = first_place t n + free } in
    let entry : Point = record { stage = Entry; todo = whole ∷ []; part = 0 } in
    let inner : List Point = points_of t.procs b false (first_assertion t.procs n) (first_place t n + free) [] in
    let exits : List Point = parts_from at_exit 0 (length (ensured_conditions q.specs) + 1) in
    let c : Context = within (context_of t.globals t.procs q) b in
    let all : AllDiffer c b = λ j s d. statement_differs t v n q b e k j s d in
    elim (point_either (parts_from entry 0 free) (inner ++ exits) r m) [
      | inl i ↦ parts_differ entry 0 free r (block_first c b all) i
      | inr h ↦ elim (point_either inner exits r h) [
        | inl i ↦ differ_of t.procs b c false (first_assertion t.procs n) (first_place t n + free) [] all r i
        | inr i ↦ parts_differ at_exit 0 (length (ensured_conditions q.specs) + 1) r tt i
      ]
    ]

known_differs : (t : TypedProgram) → IsTrue (is_valid t) → (n : ℕ) (p : Point) → IsKnown t n p → TodoDiffers p.todo
known_differs t v n p k = elim k.stands [
  | inl h ↦ parts_differ (record { stage = Start; todo = []; part = 0 }) 0 (length (start_conditions t k.procedure)) p tt h.1
  | inr h ↦ body_differs t v n k.procedure k.body k.is k.has_body p h
]

-- the targets of the call at a point
pub targets_differ : (t : TypedProgram) → IsTrue (is_valid t) → (n : ℕ) (p : Point) → IsKnown t n p → AreDistinct (targets_at p.todo)
targets_differ t v n p k = todo_targets p.todo (known_differs t v n p k)

exit_writes : (o : Option TypedInvariant) (id : ℕ) (p : Point) (cs : List Column) (es : List TypedExpression) (next : Point) → exit_action o id p ≡ actions.Write cs es next → ⊥
exit_writes None id p cs es next e = cc
exit_writes (Some i) id p cs es next e = by_free i.free e
  where
    by_free : (free : Bool) → checked free id i.span i.cond (next_part p) ≡ actions.Write cs es next → ⊥
    by_free true e = cc
    by_free false e = cc

-- the columns of an assignment
pub assigned_differ : (t : TypedProgram) → IsTrue (is_valid t) → (n : ℕ) (p : Point) (cs : List Column) (es : List TypedExpression) (next : Point) → IsKnown t n p → action_at t n p ≡ actions.Write cs es next → AreDistinct cs
assigned_differ t v n p cs es next k e =
    let stage : stage_action t n k.procedure k.body p.stage p ≡ actions.Write cs es next = sym (action_is t n k.procedure k.body p k.is k.has_body) ∙ e in
    elim (known_stage t n p k) [
      | inl h ↦ subst (GoesOn AreDistinct t) stage (stage_on AreDistinct t n k.procedure k.body p.stage p h (todo_written p.todo (known_differs t v n p k)))
      | inr h ↦ (let at_end : Point = record at_exit { part = h.0 } in
          let at : stage_action t n k.procedure k.body Exit at_end ≡ actions.Write cs es next = subst (λ (r : Point). stage_action t n k.procedure k.body r.stage r ≡ actions.Write cs es next) h.2 stage in
          absurd (exit_writes (slice_get (ensured_conditions k.procedure.specs) h.0)
          (first_assertion t.procs n + (block_assertions t.procs k.body + plain_invariants (take h.0 (ensured_conditions k.procedure.specs)))) at_end cs es next at))
    ]
