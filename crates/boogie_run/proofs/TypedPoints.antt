-- Where a frame stands in a valid program, each block that is still to do keeps the typing rules.
use Rattle.std.proofs.Common.{◌≡◌, ℕ, zero, suc, ◌+◌, Bool, true, false, ◌&&◌, cond, nat_eq, List, [], ◌∷◌, length, Option, None, Some}
use Rattle.std.specs.List.{AllByRecursion, list_all}
use Rattle.std.specs.Option.{option_or}
use Rattle.std.proofs.lemmas.Bool.{and_parts}
use Rattle.boogie_tree.specs.declared.span.Span.{Span}
use Rattle.typed_tree.specs.Scope.{body_scope}
use Rattle.typed_tree.specs.TypedTree.{TypedGuard, TypedInvariant, TypedStatement, Assert, Assume, Havoc, Assign, Call, If, While, Break, Goto, Return, Label, TypedBlock, Empty, Then, TypedProcedure, TypedProgram}
use Rattle.typed_tree.specs.TypingRules.Counts.{assertions, points, block_assertions, block_points, plain_invariants}
use Rattle.typed_tree.specs.TypingRules.Rules.{Context, is_guard, is_invariant, is_statement, is_block, within, looped}
use Rattle.boogie_run.specs.BoogiePoints.Points.{Todo, Point, unless_ended, settled, past, past_block, past_first, broken, found_in, found_block}

module _ (t : TypedProgram) (q : TypedProcedure) where
  -- the context is one of the procedure's body
  pub record IsInside (k : Context) : Type 0 where
    pub scope : k.scope ≡ body_scope t.globals q.locals
    pub procs : k.procs ≡ t.procs
    pub modifies : k.modifies ≡ q.modifies

  -- the block keeps the typing rules of some place in the body
  pub record IsKept (b : TypedBlock) : Type 0 where
    pub context : Context
    pub inside : IsInside context
    pub kept : is_block context b ≡ true

  -- so does each block that is still to do
  abbrev pub AreKept : List Todo → Type 0
  AreKept ts = AllByRecursion (λ (d : Todo). IsKept d.rest) ts

  pub rest_kept : (s : TypedStatement) (b : TypedBlock) → IsKept (Then s b) → IsKept b
  rest_kept s b h = record { context = h.context; inside = h.inside; kept = (and_parts (is_statement h.context s) (is_block h.context b) h.kept).1 }

  pub branches_kept : (at : Span) (g : TypedGuard) (x y b : TypedBlock) → IsKept (Then (If at g x y) b) → IsKept x × IsKept y
  branches_kept at g x y b h =
      let k : Context = h.context in
      let whole = (and_parts (is_statement k (If at g x y)) (is_block k b) h.kept).0 in
      let both = (and_parts (is_guard k.scope g) (is_block (within k x) x && is_block (within k y) y) whole).1 in
      let parts = and_parts (is_block (within k x) x) (is_block (within k y) y) both in (
        record { context = within k x; inside = record { scope = h.inside.scope; procs = h.inside.procs; modifies = h.inside.modifies }; kept = parts.0 },
        record { context = within k y; inside = record { scope = h.inside.scope; procs = h.inside.procs; modifies = h.inside.modifies }; kept = parts.1 },
      )

  pub loop_kept : (at : Span) (g : TypedGuard) (is : List TypedInvariant) (x b : TypedBlock) → IsKept (Then (While at g is x) b) → IsKept x
  loop_kept at g is x b h =
      let k : Context = h.context in
      let whole = (and_parts (is_statement k (While at g is x)) (is_block k b) h.kept).0 in
      let both = (and_parts (is_guard k.scope g) (list_all (is_invariant k.scope) is && is_block (within (looped k) x) x) whole).1 in
      record {
        context = within (looped k) x;
        inside = record { scope = h.inside.scope; procs = h.inside.procs; modifies = h.inside.modifies };
        kept = (and_parts (list_all (is_invariant k.scope) is) (is_block (within (looped k) x) x) both).1;
      }

  unless_kept : (b : TypedBlock) (l : Bool) (id at : ℕ) (under : List Todo) (after : Point) → IsKept b → AreKept under → AreKept after.todo →
      AreKept (unless_ended b l id at under after).todo
  unless_kept Empty l id at under after h u r = r
  unless_kept (Then (Label n) b) l id at under after h u r = unless_kept b l id at under after (rest_kept (Label n) b h) u r
  unless_kept (Then (Assert s e) b) l id at under after h u r = (h, u)
  unless_kept (Then (Assume s e) b) l id at under after h u r = (h, u)
  unless_kept (Then (Havoc s cs) b) l id at under after h u r = (h, u)
  unless_kept (Then (Assign s cs es) b) l id at under after h u r = (h, u)
  unless_kept (Then (Call s cs f es) b) l id at under after h u r = (h, u)
  unless_kept (Then (If s g x y) b) l id at under after h u r = (h, u)
  unless_kept (Then (While s g is x) b) l id at under after h u r = (h, u)
  unless_kept (Then (Break s n) b) l id at under after h u r = (h, u)
  unless_kept (Then (Goto s ks) b) l id at under after h u r = (h, u)
  unless_kept (Then (Return s) b) l id at under after h u r = (h, u)

  pub settled_kept : (ts : List Todo) → AreKept ts → AreKept (settled ts).todo
  settled_kept [] h = tt
  settled_kept (d ∷ ts) h = unless_kept d.rest d.of_loop d.id d.at ts (settled ts) h.0 h.1 (settled_kept ts h.1)

  past_kept : (b : TypedBlock) (l : Bool) (id at : ℕ) (ts : List Todo) → IsKept b → AreKept ts → AreKept (past_block t.procs b l id at ts)
  past_kept Empty l id at ts h u = u
  past_kept (Then s b) l id at ts h u = (rest_kept s b h, u)

  pub past_first_kept : (ts : List Todo) → AreKept ts → AreKept (past_first t.procs ts)
  past_first_kept [] h = tt
  past_first_kept (d ∷ ts) h = past_kept d.rest d.of_loop d.id d.at ts h.0 h.1

  either_kept : (b : Bool) (xs ys : List Todo) → AreKept xs → AreKept ys → AreKept (cond b xs ys)
  either_kept true xs ys h k = h
  either_kept false xs ys h k = k

  pub broken_kept : (n : ℕ) (ts : List Todo) → AreKept ts → AreKept (broken t.procs n ts)
  broken_kept zero [] h = tt
  broken_kept (suc n) [] h = tt
  broken_kept zero (d ∷ ts) h = either_kept d.of_loop _ _ (past_first_kept ts h.1) (broken_kept zero ts h.1)
  broken_kept (suc n) (d ∷ ts) h = either_kept d.of_loop _ _ (broken_kept n ts h.1) (broken_kept (suc n) ts h.1)

  abbrev pub FoundKept : Option (List Todo) → Type 0
  FoundKept None = Unit {0}
  FoundKept (Some ts) = AreKept ts

  or_kept : (o p : Option (List Todo)) → FoundKept o → FoundKept p → FoundKept (option_or o p)
  or_kept None p h k = k
  or_kept (Some ts) p h k = h

  label_kept : (b : Bool) (d : Todo) (ts : List Todo) → IsKept d.rest → AreKept ts → FoundKept (cond b (Some (d ∷ ts)) None)
  label_kept true d ts h k = (h, k)
  label_kept false d ts h k = tt

  mutual
    found_in_kept : (k : ℕ) (s : TypedStatement) (b : TypedBlock) (l : Bool) (id at : ℕ) (under : List Todo) → IsKept (Then s b) → AreKept under →
        FoundKept (found_in t.procs k s b l id at under)
    found_in_kept k (Label n) b l id at under h u =
        label_kept (nat_eq n k) (record { rest = b; of_loop = l; id = id; at = at }) under (rest_kept (Label n) b h) u
    found_in_kept k (If s g x y) b l id at under h u =
        let both = branches_kept s g x y b h in
        let after : AreKept (past t.procs (If s g x y) b l id at ∷ under) = (rest_kept (If s g x y) b h, u) in
        or_kept _ _
        (found_block_kept k x false id (at + 1) (past t.procs (If s g x y) b l id at ∷ under) both.0 after)
        (found_block_kept k y false (id + block_assertions t.procs x) (at + 1 + block_points t.procs x) (past t.procs (If s g x y) b l id at ∷ under) both.1 after)
    found_in_kept k (While s g is x) b l id at under h u =
        found_block_kept k x true (id + plain_invariants is) (at + length is + 1)
        (record { rest = Then (While s g is x) b; of_loop = l; id = id; at = at } ∷ under) (loop_kept s g is x b h) (h, u)
    found_in_kept k (Assert s e) b l id at under h u = tt
    found_in_kept k (Assume s e) b l id at under h u = tt
    found_in_kept k (Havoc s cs) b l id at under h u = tt
    found_in_kept k (Assign s cs es) b l id at under h u = tt
    found_in_kept k (Call s cs f es) b l id at under h u = tt
    found_in_kept k (Break s n) b l id at under h u = tt
    found_in_kept k (Goto s ks) b l id at under h u = tt
    found_in_kept k (Return s) b l id at under h u = tt

    pub found_block_kept : (k : ℕ) (b : TypedBlock) (l : Bool) (id at : ℕ) (under : List Todo) → IsKept b → AreKept under → FoundKept (found_block t.procs k b l id at under)
    found_block_kept k Empty l id at under h u = tt
    found_block_kept k (Then s b) l id at under h u =
        or_kept _ _ (found_in_kept k s b l id at under h u)
        (found_block_kept k b l (id + assertions t.procs s) (at + points t.procs s) under (rest_kept s b h) u)
