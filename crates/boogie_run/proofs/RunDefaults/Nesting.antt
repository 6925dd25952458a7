-- The blocks that are still to do in a valid program are nested as in the body, so a break finds its loops and a goto its labels.
use Rattle.std.proofs.Common.{◌≡◌, ⊎_elim, ℕ, zero, suc, ◌+◌, ◌<◌, Bool, true, false, ◌&&◌, cond, nat_eq, List, [], ◌∷◌, ◌++◌, length, None, Some, IfSome, MatchBool, refl, ap, arith}
use Rattle.std.specs.List.{list_all}
use Rattle.std.proofs.lemmas.Bool.{and_parts}
use Rattle.boogie_tree.specs.declared.span.Span.{Span}
use Rattle.typed_tree.specs.Scope.{body_scope}
use Rattle.typed_tree.specs.TypedTree.{TypedGuard, TypedInvariant, TypedStatement, Assert, Assume, Havoc, Assign, Call, If, While, Break, Goto, Return, Label, TypedBlock, Empty, Then, TypedProcedure, TypedProgram}
use Rattle.typed_tree.specs.TypingRules.Counts.{one_if, assertions, points, block_assertions, block_points, plain_invariants}
use Rattle.typed_tree.specs.TypingRules.Rules.{Context, is_member, own_labels, is_guard, is_invariant, is_statement, is_block, within, looped}
use Rattle.typed_tree.specs.TypingRules.Shape.{statement_labels, block_labels}
use Rattle.boogie_run.specs.BoogiePoints.Points.{Todo, past, past_block, past_first, broken, found_in, found_block}
use Rattle.boogie_run.specs.RunDefaults.Standing.{AtLoop, FindsLoop}
use Rattle.boogie_run.proofs.RunDefaults.Parts.{or_if, in_left, in_right, in_either, own_in}

-- how many bodies of loops are among the blocks
abbrev pub loops_in : List Todo → ℕ
loops_in [] = 0
loops_in (d ∷ ds) = one_if d.of_loop + loops_in ds

-- behind the body of a loop stands the block in which the loop comes first
abbrev pub LoopBelow : Bool → List Todo → Type 0
LoopBelow true ds = AtLoop ds
LoopBelow false ds = Unit {0}

module _ (t : TypedProgram) (q : TypedProcedure) (body : TypedBlock) where
  -- the context is one of the procedure's body
  pub record IsInside (k : Context) : Type 0 where
    pub scope : k.scope ≡ body_scope t.globals q.locals
    pub procs : k.procs ≡ t.procs
    pub labels : (n : ℕ) → is_member n k.labels ≡ true → is_member n (block_labels body) ≡ true

  -- The block keeps the typing rules of some place in the body, with as many loops around it as stand here, and its labels are labels of the body.
  pub record IsNested (b : TypedBlock) (l : Bool) (ds : List Todo) : Type 0 where
    pub context : Context
    pub inside : IsInside context
    pub kept : is_block context b ≡ true
    pub loops : context.loops ≡ one_if l + loops_in ds
    pub own : (n : ℕ) → is_member n (block_labels b) ≡ true → is_member n (block_labels body) ≡ true
    pub loop : LoopBelow l ds

  abbrev pub AreNested : List Todo → Type 0
  AreNested [] = Unit {0}
  AreNested (d ∷ ds) = IsNested d.rest d.of_loop ds × AreNested ds

  pub rest_nested : (s : TypedStatement) (b : TypedBlock) (l : Bool) (ds : List Todo) → IsNested (Then s b) l ds → IsNested b l ds
  rest_nested s b l ds h =
      record {
        context = h.context;
        inside = h.inside;
        kept = (and_parts (is_statement h.context s) (is_block h.context b) h.kept).1;
        loops = h.loops;
        own = λ n m. h.own n (in_right n (statement_labels s) (block_labels b) m);
        loop = h.loop;
      }

  -- one list further in
  within_inside : (k : Context) (x : TypedBlock) → IsInside k → ((n : ℕ) → is_member n (block_labels x) ≡ true → is_member n (block_labels body) ≡ true) →
      IsInside (within k x)
  within_inside k x h own =
      record {
        scope = h.scope;
        procs = h.procs;
        labels = λ n m. ⊎_elim (λ e. own n (own_in n x e)) (λ e. h.labels n e) (in_either n (own_labels x) k.labels m);
      }

  pub branches_nested : (at : Span) (g : TypedGuard) (x y b : TypedBlock) (l : Bool) (after : Todo) (ds : List Todo) → IsNested (Then (If at g x y) b) l ds →
      after.of_loop ≡ l → IsNested x false (after ∷ ds) × IsNested y false (after ∷ ds)
  branches_nested at g x y b l after ds h same =
      let k : Context = h.context in
      let whole = (and_parts (is_statement k (If at g x y)) (is_block k b) h.kept).0 in
      let both = (and_parts (is_guard k.scope g) (is_block (within k x) x && is_block (within k y) y) whole).1 in
      let parts = and_parts (is_block (within k x) x) (is_block (within k y) y) both in
      let labels : List ℕ = block_labels x ++ block_labels y in
      let in_x : (n : ℕ) → is_member n (block_labels x) ≡ true → is_member n (block_labels body) ≡ true =
      λ n m. h.own n (in_left n labels (block_labels b) (in_left n (block_labels x) (block_labels y) m)) in
      let in_y : (n : ℕ) → is_member n (block_labels y) ≡ true → is_member n (block_labels body) ≡ true =
      λ n m. h.own n (in_left n labels (block_labels b) (in_right n (block_labels x) (block_labels y) m)) in
      let loops : k.loops ≡ 0 + (one_if after.of_loop + loops_in ds) = omega (arith, h.loops, ap one_if same) in (
        record { context = within k x; inside = within_inside k x h.inside in_x; kept = parts.0; loops = loops; own = in_x; loop = tt },
        record { context = within k y; inside = within_inside k y h.inside in_y; kept = parts.1; loops = loops; own = in_y; loop = tt },
      )

  pub loop_nested : (at : Span) (g : TypedGuard) (is : List TypedInvariant) (x b : TypedBlock) (l : Bool) (id place : ℕ) (ds : List Todo) →
      IsNested (Then (While at g is x) b) l ds →
      IsNested x true (record { rest = Then (While at g is x) b; of_loop = l; id = id; at = place } ∷ ds)
  loop_nested at g is x b l id place ds h =
      let k : Context = h.context in
      let whole = (and_parts (is_statement k (While at g is x)) (is_block k b) h.kept).0 in
      let both = (and_parts (is_guard k.scope g) (list_all (is_invariant k.scope) is && is_block (within (looped k) x) x) whole).1 in
      let in_x : (n : ℕ) → is_member n (block_labels x) ≡ true → is_member n (block_labels body) ≡ true =
      λ n m. h.own n (in_left n (block_labels x) (block_labels b) m) in
      record {
        context = within (looped k) x;
        inside = within_inside (looped k) x (record { scope = h.inside.scope; procs = h.inside.procs; labels = h.inside.labels }) in_x;
        kept = (and_parts (list_all (is_invariant k.scope) is) (is_block (within (looped k) x) x) both).1;
        loops = omega (arith, h.loops);
        own = in_x;
        loop = tt;
      }

  past_nested : (b : TypedBlock) (l : Bool) (id at : ℕ) (ds : List Todo) → IsNested b l ds → AreNested ds → AreNested (past_block t.procs b l id at ds)
  past_nested Empty l id at ds h u = u
  past_nested (Then s b) l id at ds h u = (rest_nested s b l ds h, u)

  pub past_first_nested : (ds : List Todo) → AreNested ds → AreNested (past_first t.procs ds)
  past_first_nested [] h = tt
  past_first_nested (d ∷ ds) h = past_nested d.rest d.of_loop d.id d.at ds h.0 h.1

  either_nested : (b : Bool) (xs ys : List Todo) → AreNested xs → AreNested ys → AreNested (cond b xs ys)
  either_nested true xs ys h k = h
  either_nested false xs ys h k = k

  pub broken_nested : (n : ℕ) (ds : List Todo) → AreNested ds → AreNested (broken t.procs n ds)
  broken_nested zero [] h = tt
  broken_nested (suc n) [] h = tt
  broken_nested zero (d ∷ ds) h = either_nested d.of_loop _ _ (past_first_nested ds h.1) (broken_nested zero ds h.1)
  broken_nested (suc n) (d ∷ ds) h = either_nested d.of_loop _ _ (broken_nested n ds h.1) (broken_nested (suc n) ds h.1)

  -- ---- searches for labels

  label_nested : (b : Bool) (d : Todo) (ds : List Todo) → IsNested d.rest d.of_loop ds → AreNested ds → IfSome (cond b (Some (d ∷ ds)) None) AreNested
  label_nested true d ds h k = (h, k)
  label_nested false d ds h k = tt

  mutual
    found_in_nested : (k : ℕ) (s : TypedStatement) (b : TypedBlock) (l : Bool) (id at : ℕ) (under : List Todo) → IsNested (Then s b) l under → AreNested under →
        IfSome (found_in t.procs k s b l id at under) AreNested
    found_in_nested k (Label n) b l id at under h u =
        label_nested (nat_eq n k) (record { rest = b; of_loop = l; id = id; at = at }) under (rest_nested (Label n) b l under h) u
    found_in_nested k (If s g x y) b l id at under h u =
        let after : Todo = past t.procs (If s g x y) b l id at in
        let both = branches_nested s g x y b l after under h refl in
        let rest : AreNested (after ∷ under) = (rest_nested (If s g x y) b l under h, u) in
        or_if AreNested (found_block t.procs k x false id (at + 1) (after ∷ under))
        (found_block t.procs k y false (id + block_assertions t.procs x) (at + 1 + block_points t.procs x) (after ∷ under))
        (found_block_nested k x false id (at + 1) (after ∷ under) both.0 rest)
        (found_block_nested k y false (id + block_assertions t.procs x) (at + 1 + block_points t.procs x) (after ∷ under) both.1 rest)
    found_in_nested k (While s g is x) b l id at under h u =
        found_block_nested k x true (id + plain_invariants is) (at + length is + 1)
        (record { rest = Then (While s g is x) b; of_loop = l; id = id; at = at } ∷ under) (loop_nested s g is x b l id at under h) (h, u)
    found_in_nested k (Assert s e) b l id at under h u = tt
    found_in_nested k (Assume s e) b l id at under h u = tt
    found_in_nested k (Havoc s cs) b l id at under h u = tt
    found_in_nested k (Assign s cs es) b l id at under h u = tt
    found_in_nested k (Call s cs f es) b l id at under h u = tt
    found_in_nested k (Break s n) b l id at under h u = tt
    found_in_nested k (Goto s ks) b l id at under h u = tt
    found_in_nested k (Return s) b l id at under h u = tt

    pub found_block_nested : (k : ℕ) (b : TypedBlock) (l : Bool) (id at : ℕ) (under : List Todo) → IsNested b l under → AreNested under →
        IfSome (found_block t.procs k b l id at under) AreNested
    found_block_nested k Empty l id at under h u = tt
    found_block_nested k (Then s b) l id at under h u =
        or_if AreNested (found_in t.procs k s b l id at under) (found_block t.procs k b l (id + assertions t.procs s) (at + points t.procs s) under)
        (found_in_nested k s b l id at under h u)
        (found_block_nested k b l (id + assertions t.procs s) (at + points t.procs s) under (rest_nested s b l under h) u)

  -- ---- breaks

  leaves_innermost : (l : Bool) (ds : List Todo) → LoopBelow l ds → (0 < loops_in ds → FindsLoop zero ds) → 0 < one_if l + loops_in ds →
      MatchBool l (AtLoop ds) (FindsLoop zero ds)
  leaves_innermost true ds b rest less = b
  leaves_innermost false ds b rest less = rest (omega (arith, less))

  leaves_more : (n : ℕ) (l : Bool) (ds : List Todo) → LoopBelow l ds → (n < loops_in ds → FindsLoop n ds) → (suc n < loops_in ds → FindsLoop (suc n) ds) →
      suc n < one_if l + loops_in ds → MatchBool l (AtLoop ds × FindsLoop n ds) (FindsLoop (suc n) ds)
  leaves_more n true ds b one rest less = (b, one (omega (arith, less)))
  leaves_more n false ds b one rest less = rest (omega (arith, less))

  -- a break that leaves fewer loops than stand here finds them
  pub finds_loop : (n : ℕ) (ds : List Todo) → AreNested ds → n < loops_in ds → FindsLoop n ds
  finds_loop n [] h less = absurd (omega (arith, less))
  finds_loop zero (d ∷ ds) h less = leaves_innermost d.of_loop ds h.0.loop (λ k. finds_loop zero ds h.1 k) less
  finds_loop (suc n) (d ∷ ds) h less = leaves_more n d.of_loop ds h.0.loop (λ k. finds_loop n ds h.1 k) (λ k. finds_loop (suc n) ds h.1 k) less
