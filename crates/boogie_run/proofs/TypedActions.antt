-- Where an action of a valid program leads, blocks keep the typing rules, and it writes no constant.
use Rattle.std.proofs.Common.{◌≡◌, ℕ, zero, suc, ◌+◌, Bool, true, false, ◌&&◌, not, List, [], ◌∷◌, length, refl, ap, sym, ◌∙◌, subst, Option, None, Some, slice_get}
use Rattle.std.specs.List.{AllByRecursion, list_all}
use Rattle.std.proofs.lemmas.Bool.{and_parts}
use Rattle.boogie_tree.specs.declared.span.Span.{Span}
use Rattle.boogie_tree.specs.declared.tree.Column.{Column}
use Rattle.boogie_tree.specs.declared.tree.Column.TheVariants as columns
use Rattle.boogie_tree.specs.declared.tree.VarInfo.{VarInfo}
use Rattle.typed_tree.specs.AffineForm.{is_empty}
use Rattle.typed_tree.specs.Scope.{Scope, body_scope}
use Rattle.typed_tree.specs.TypedTree.{TypedExpression, TypedGuard, Any, Cond, TypedInvariant, TypedStatement, Assert, Assume, Havoc, Assign, Call, If, While, Break, Goto, Return, Label, TypedBlock, Empty, Then, TypedProcedure, TypedProgram}
use Rattle.typed_tree.specs.TypingRules.Counts.{block_assertions, block_points, plain_invariants}
use Rattle.typed_tree.specs.TypingRules.Rules.{Context, meets, all_differ, same_column, is_member, is_writable, are_targets, values_agree, is_call, is_statement, is_block}
use Rattle.boogie_run.specs.BoogiePoints.Points as points
use Rattle.boogie_run.specs.BoogiePoints.Points.{Todo, Point, at_exit, settled, past, broken, found_block}
use Rattle.boogie_run.specs.BoogiePoints.Actions as actions
use Rattle.boogie_run.specs.BoogiePoints.Actions.{Action, next_part, guarded, checked, unseen_action, called_action, call_action, call_if_any, head_action, point_behind, ways_to, one_of, havoc_action, statement_action, block_action, body_action, entry_point, first_point, entry_action, exit_action, start_action, stage_action, body_or_leave, procedure_action}
use Rattle.boogie_run.proofs.TypedPoints as typed
use Rattle.boogie_run.proofs.TypedPoints.{IsKept, AreKept}

-- a global in the column is no constant
abbrev pub Varies : TypedProgram → Column → Type 0
Varies t (columns.Global n) = (v : VarInfo) → slice_get t.globals n ≡ Some v → v.constant ≡ false
Varies t (columns.Old n) = Unit {0}
Varies t (columns.Local n) = Unit {0}

not_of : (b : Bool) → not b ≡ true → b ≡ false
not_of true h = sym h
not_of false h = refl

varies : (t : TypedProgram) (q : TypedProcedure) (k : Context) (c : Column) → k.scope ≡ body_scope t.globals q.locals → is_writable k c ≡ true → Varies t c
varies t q k (columns.Global n) e h =
    let there : meets (λ (w : VarInfo). not w.constant) (slice_get k.scope.globals n) ≡ true =
    (and_parts (meets (λ (w : VarInfo). not w.constant) (slice_get k.scope.globals n)) (is_member n k.modifies) h).0 in
    λ v at.
    let same : slice_get k.scope.globals n ≡ Some v = ap (λ (s : Scope). slice_get s.globals n) e ∙ at in
    not_of v.constant (subst (λ (o : Option VarInfo). meets (λ (w : VarInfo). not w.constant) o ≡ true) same there)
varies t q k (columns.Old n) e h = tt
varies t q k (columns.Local n) e h = tt

all_vary : (t : TypedProgram) (q : TypedProcedure) (k : Context) (cs : List Column) → k.scope ≡ body_scope t.globals q.locals → list_all (is_writable k) cs ≡ true →
    AllByRecursion (Varies t) cs
all_vary t q k [] e h = tt
all_vary t q k (c ∷ cs) e h =
    let parts = and_parts (is_writable k c) (list_all (is_writable k) cs) h in
    (varies t q k c e parts.0, all_vary t q k cs e parts.1)

targets_vary : (t : TypedProgram) (q : TypedProcedure) (k : Context) (cs : List Column) → k.scope ≡ body_scope t.globals q.locals → are_targets k cs ≡ true →
    AllByRecursion (Varies t) cs
targets_vary t q k cs e h = all_vary t q k cs e (and_parts (list_all (is_writable k) cs) (all_differ same_column cs) h).0

-- the columns that the first statement writes vary
pub havoc_varies : (t : TypedProgram) (q : TypedProcedure) (at : Span) (cs : List Column) (b : TypedBlock) → IsKept t q (Then (Havoc at cs) b) → AllByRecursion (Varies t) cs
havoc_varies t q at cs b h =
    let k : Context = h.context in
    targets_vary t q k cs h.inside.scope (and_parts (not (is_empty cs)) (are_targets k cs) (and_parts (is_statement k (Havoc at cs)) (is_block k b) h.kept).0).1

pub assign_varies : (t : TypedProgram) (q : TypedProcedure) (at : Span) (cs : List Column) (es : List TypedExpression) (b : TypedBlock) →
    IsKept t q (Then (Assign at cs es) b) → AllByRecursion (Varies t) cs
assign_varies t q at cs es b h =
    let k : Context = h.context in
    let whole = (and_parts (is_statement k (Assign at cs es)) (is_block k b) h.kept).0 in
    let both = (and_parts (not (is_empty cs)) (are_targets k cs && values_agree k.scope cs es) whole).1 in
    targets_vary t q k cs h.inside.scope (and_parts (are_targets k cs) (values_agree k.scope cs es) both).0

pub call_varies : (t : TypedProgram) (q : TypedProcedure) (at : Span) (cs : List Column) (f : ℕ) (es : List TypedExpression) (b : TypedBlock) →
    IsKept t q (Then (Call at cs f es) b) → AllByRecursion (Varies t) cs
call_varies t q at cs f es b h =
    let k : Context = h.context in
    let whole = (and_parts (is_statement k (Call at cs f es)) (is_block k b) h.kept).0 in
    targets_vary t q k cs h.inside.scope (and_parts (are_targets k cs) (meets (is_call k cs es) (slice_get k.procs f)) whole).0

OptionVaries : TypedProgram → Option Column → Type 0
OptionVaries t None = Unit {0}
OptionVaries t (Some c) = Varies t c

one_varies : (t : TypedProgram) (cs : List Column) (n : ℕ) → AllByRecursion (Varies t) cs → OptionVaries t (slice_get cs n)
unfolding OptionVaries
one_varies t [] n h = tt
one_varies t (c ∷ cs) zero h = h.0
one_varies t (c ∷ cs) (suc n) h = one_varies t cs n h.1

module _ (t : TypedProgram) (q : TypedProcedure) where
  abbrev pub PointKept : Point → Type 0
  PointKept p = AreKept t q p.todo

  abbrev pub ActionKept : Action → Type 0
  ActionKept (actions.Check id at e next) = PointKept next
  ActionKept (actions.Suppose e next) = PointKept next
  ActionKept (actions.Demand id at e args next) = PointKept next
  ActionKept (actions.Write cs es next) = AllByRecursion (Varies t) cs × PointKept next
  ActionKept (actions.Guess c next) = Varies t c × PointKept next
  ActionKept (actions.Test e hit miss) = PointKept hit × PointKept miss
  ActionKept (actions.Pick ways) = AllByRecursion PointKept ways
  ActionKept (actions.Jump next) = PointKept next
  ActionKept (actions.Enter f args) = (p : TypedProcedure) × (slice_get t.procs f ≡ Some p)
  ActionKept (actions.Keep f args c next) = PointKept next
  ActionKept (actions.Grant f args e next) = PointKept next
  ActionKept (actions.Finish f args targets next) = AllByRecursion (Varies t) targets × PointKept next
  ActionKept actions.Leave = Unit {0}

  guarded_kept : (g : TypedGuard) (hit miss : Point) → PointKept hit → PointKept miss → ActionKept (guarded g hit miss)
  guarded_kept Any hit miss h m = (h, (m, tt))
  guarded_kept (Cond e) hit miss h m = (h, m)

  checked_kept : (b : Bool) (id : ℕ) (at : Span) (e : TypedExpression) (next : Point) → PointKept next → ActionKept (checked b id at e next)
  checked_kept true id at e next h = h
  checked_kept false id at e next h = h

  havoc_kept : (c d : Option Column) (here after : Point) → OptionVaries t c → PointKept here → PointKept after → ActionKept (havoc_action c d here after)
  unfolding OptionVaries
  havoc_kept None d here after v h a = a
  havoc_kept (Some c) None here after v h a = (v, a)
  havoc_kept (Some c) (Some d) here after v h a = (v, h)

  unseen_kept : (c : Option Column) (i : Option TypedInvariant) (f : ℕ) (targets : List Column) (args : List TypedExpression) (here after : Point) →
      AllByRecursion (Varies t) targets → PointKept here → PointKept after → ActionKept (unseen_action c i f targets args here after)
  unseen_kept (Some c) i f targets args here after v h a = h
  unseen_kept None (Some i) f targets args here after v h a = h
  unseen_kept None None f targets args here after v h a = (v, a)

  called_kept : (f : ℕ) (p : TypedProcedure) (b : Option TypedBlock) (targets : List Column) (args : List TypedExpression) (done : ℕ) (here after : Point) →
      slice_get t.procs f ≡ Some p → AllByRecursion (Varies t) targets → PointKept here → PointKept after →
      ActionKept (called_action f p b targets args done here after)
  called_kept f p None targets args done here after e v h a = unseen_kept _ _ f targets args here after v h a
  called_kept f p (Some b) targets args done here after e v h a = (p, e)

  call_kept : (i : Option TypedInvariant) (id f : ℕ) (p : TypedProcedure) (at : Span) (targets : List Column) (args : List TypedExpression) (done : ℕ) (here after : Point) →
      slice_get t.procs f ≡ Some p → AllByRecursion (Varies t) targets → PointKept here → PointKept after →
      ActionKept (call_action i id f p at targets args done here after)
  call_kept (Some i) id f p at targets args done here after e v h a = h
  call_kept None id f p at targets args done here after e v h a = called_kept f p p.body targets args done here after e v h a

  any_call_kept : (o : Option TypedProcedure) (id f : ℕ) (at : Span) (targets : List Column) (args : List TypedExpression) (here after : Point) →
      slice_get t.procs f ≡ o → AllByRecursion (Varies t) targets → PointKept here → PointKept after →
      ActionKept (call_if_any o id f at targets args here after)
  any_call_kept None id f at targets args here after e v h a = a
  any_call_kept (Some p) id f at targets args here after e v h a = call_kept _ _ f p at targets args _ here after e v h a

  head_kept : (i : Option TypedInvariant) (id : ℕ) (here : Point) (guard : Action) → PointKept here → ActionKept guard → ActionKept (head_action i id here guard)
  head_kept (Some i) id here guard h g = checked_kept i.free id i.span i.cond (next_part here) h
  head_kept None id here guard h g = g

  way_kept : (o : Option (List Todo)) → typed.FoundKept t q o → PointKept (point_behind o)
  way_kept None h = tt
  way_kept (Some ts) h = typed.settled_kept t q ts h

  ways_kept : (body : TypedBlock) (id at : ℕ) (ks : List ℕ) → IsKept t q body → AllByRecursion PointKept (ways_to t.procs body id at ks)
  ways_kept body id at [] h = tt
  ways_kept body id at (k ∷ ks) h = (way_kept (found_block t.procs k body false id at []) (typed.found_block_kept t q k body false id at [] h tt), ways_kept body id at ks h)

  one_kept : (ps : List Point) → AllByRecursion PointKept ps → ActionKept (one_of ps)
  one_kept [] h = tt
  one_kept (p ∷ []) h = h.0
  one_kept (p ∷ r ∷ ps) h = h

  statement_kept : (body : TypedBlock) (first start : ℕ) (s : TypedStatement) (b : TypedBlock) (l : Bool) (id place : ℕ) (under : List Todo) (here : Point) →
      IsKept t q body → IsKept t q (Then s b) → AreKept t q under → PointKept here → ActionKept (statement_action t.procs body first start s b l id place under here)
  statement_kept body first start (Assert at e) b l id place under here w h u p =
      typed.settled_kept t q (past t.procs (Assert at e) b l id place ∷ under) (typed.rest_kept t q (Assert at e) b h, u)
  statement_kept body first start (Assume at e) b l id place under here w h u p =
      typed.settled_kept t q (past t.procs (Assume at e) b l id place ∷ under) (typed.rest_kept t q (Assume at e) b h, u)
  statement_kept body first start (Havoc at cs) b l id place under here w h u p =
      havoc_kept (slice_get cs here.part) (slice_get cs (here.part + 1)) here _ (one_varies t cs here.part (havoc_varies t q at cs b h)) p
      (typed.settled_kept t q (past t.procs (Havoc at cs) b l id place ∷ under) (typed.rest_kept t q (Havoc at cs) b h, u))
  statement_kept body first start (Assign at cs es) b l id place under here w h u p = (
    assign_varies t q at cs es b h,
    typed.settled_kept t q (past t.procs (Assign at cs es) b l id place ∷ under) (typed.rest_kept t q (Assign at cs es) b h, u),
  )
  statement_kept body first start (Call at cs f es) b l id place under here w h u p =
      any_call_kept (slice_get t.procs f) id f at cs es here _ refl (call_varies t q at cs f es b h) p
      (typed.settled_kept t q (past t.procs (Call at cs f es) b l id place ∷ under) (typed.rest_kept t q (Call at cs f es) b h, u))
  statement_kept body first start (If at g x y) b l id place under here w h u p =
      let both = typed.branches_kept t q at g x y b h in
      let after : AreKept t q (past t.procs (If at g x y) b l id place ∷ under) = (typed.rest_kept t q (If at g x y) b h, u) in
      guarded_kept g _ _
      (typed.settled_kept t q (record { rest = x; of_loop = false; id = id; at = place + 1 } ∷ past t.procs (If at g x y) b l id place ∷ under) (both.0, after))
      (typed.settled_kept t q
      (record { rest = y; of_loop = false; id = id + block_assertions t.procs x; at = place + 1 + block_points t.procs x } ∷ past t.procs (If at g x y) b l id place ∷ under)
      (both.1, after))
  statement_kept body first start (While at g is x) b l id place under here w h u p =
      head_kept (slice_get is here.part) _ here _ p
      (guarded_kept g _ _
      (typed.settled_kept t q (record { rest = x; of_loop = true; id = id + plain_invariants is; at = place + length is + 1 } ∷ here.todo) (typed.loop_kept t q at g is x b h, p))
      (typed.settled_kept t q (past t.procs (While at g is x) b l id place ∷ under) (typed.rest_kept t q (While at g is x) b h, u)))
  statement_kept body first start (Break at n) b l id place under here w h u p =
      typed.settled_kept t q (broken t.procs n here.todo) (typed.broken_kept t q n here.todo p)
  statement_kept body first start (Goto at ks) b l id place under here w h u p =
      one_kept (ways_to t.procs body first start ks) (ways_kept body first start ks w)
  statement_kept body first start (Return at) b l id place under here w h u p = tt
  statement_kept body first start (Label n) b l id place under here w h u p =
      typed.settled_kept t q (past t.procs (Label n) b l id place ∷ under) (typed.rest_kept t q (Label n) b h, u)

  block_kept : (body : TypedBlock) (first start : ℕ) (r : TypedBlock) (l : Bool) (id place : ℕ) (under : List Todo) (here : Point) →
      IsKept t q body → IsKept t q r → AreKept t q under → PointKept here → ActionKept (block_action t.procs body first start r l id place under here)
  block_kept body first start Empty l id place under here w h u p = tt
  block_kept body first start (Then s b) l id place under here w h u p = statement_kept body first start s b l id place under here w h u p

  body_kept : (body : TypedBlock) (first start : ℕ) (ts : List Todo) (here : Point) → IsKept t q body → AreKept t q ts → PointKept here →
      ActionKept (body_action t.procs body first start ts here)
  body_kept body first start [] here w h p = tt
  body_kept body first start (d ∷ ts) here w h p = block_kept body first start d.rest d.of_loop d.id d.at ts here w h.0 h.1 p

  pub entry_point_kept : (is : List TypedInvariant) (d : Todo) → IsKept t q d.rest → PointKept (entry_point is d)
  entry_point_kept [] d h = typed.settled_kept t q (d ∷ []) (h, tt)
  entry_point_kept (i ∷ is) d h = (h, tt)

  entry_kept : (i j : Option TypedInvariant) (here : Point) → PointKept here → ActionKept (entry_action i j here)
  entry_kept None j here h = typed.settled_kept t q here.todo h
  entry_kept (Some i) None here h = typed.settled_kept t q here.todo h
  entry_kept (Some i) (Some j) here h = h

  exit_kept : (i : Option TypedInvariant) (id : ℕ) (here : Point) → PointKept here → ActionKept (exit_action i id here)
  exit_kept None id here h = tt
  exit_kept (Some i) id here h = checked_kept i.free id i.span i.cond (next_part here) h

  start_kept : (e d : Option TypedExpression) (here first : Point) → PointKept here → PointKept first → ActionKept (start_action e d here first)
  start_kept None d here first h f = f
  start_kept (Some e) None here first h f = f
  start_kept (Some e) (Some d) here first h f = h

  stage_kept : (n : ℕ) (b : TypedBlock) (s : points.Stage) (here : Point) → IsKept t q b → PointKept here → ActionKept (stage_action t n q b s here)
  stage_kept n b points.Start here w h = start_kept _ _ here _ h (entry_point_kept (actions.free_conditions q.specs) _ w)
  stage_kept n b points.Entry here w h = entry_kept _ _ here h
  stage_kept n b points.Body here w h = body_kept b _ _ here.todo here w h h
  stage_kept n b points.Exit here w h = exit_kept _ _ here h

  any_body_kept : (n : ℕ) (o : Option TypedBlock) (here : Point) → ((b : TypedBlock) → o ≡ Some b → IsKept t q b) → PointKept here → ActionKept (body_or_leave t n q o here)
  any_body_kept n None here w h = tt
  any_body_kept n (Some b) here w h = stage_kept n b here.stage here (w b refl) h

  -- the action at a point of the procedure
  pub action_kept : (n : ℕ) (here : Point) → ((b : TypedBlock) → q.body ≡ Some b → IsKept t q b) → slice_get t.procs n ≡ Some q → PointKept here →
      ActionKept (actions.action_at t n here)
  action_kept n here w e h =
      subst (λ (o : Option TypedProcedure). ActionKept (procedure_action t n o here)) (sym e) (any_body_kept n q.body here w h)
