-- The targets of a typed body stand in its frame.
use Rattle.std.proofs.Common.{◌≡◌, ℕ, zero, suc, ◌+◌, ◌≤◌, Bool, true, false, not, ◌&&◌, List, [], ◌∷◌, ◌++◌, length, Option, Some, IsSome, slice_get, inl, inr, refl, sym, ap, subst, ◌∙◌, arith, IsTrue, Contains, if◌then◌else◌}
use Rattle.std.specs.Prelude.{nat_eq}
use Rattle.std.specs.Option.{is_some}
use Rattle.std.specs.List.{AllByRecursion, list_all}
use Rattle.std.proofs.lemmas.Bool.Decides.{nat_tests}
use Rattle.std.proofs.lemmas.Option.{slice_get_within, get_or_from_slice_get}
use Rattle.boogie_tree.specs.declared.tree.Column.{Column}
use Rattle.boogie_tree.specs.declared.tree.Column.TheVariants as columns
use Rattle.boogie_tree.specs.declared.tree.VarInfo.{VarInfo}
use Rattle.typed_tree.specs.TypedTree.{TypedExpression, TypedStatement, Assert, Assume, Havoc, Assign, Call, If, While, Break, Goto, Return, Label, TypedBlock, Empty, Then, TypedProcedure, TypedProgram}
use Rattle.typed_tree.specs.TypingRules.Rules.{Context, within, looped, context_of, is_writable, meets, is_call, are_targets, values_agree, all_differ, same_column}
use Rattle.typed_tree.specs.AffineForm.{is_empty}
use Rattle.typed_tree.specs.Scope.{variable_at}
use Rattle.typed_tree.specs.KeptRules.{is_right}
use Rattle.typed_tree.specs.TypingRules.Laws as law
use Rattle.typed_tree.specs.TypingRules.Laws.{here, after, in_then, in_else, in_loop, in_body, IsStatementOf}
use Rattle.typed_tree.specs.TypingRules.ValidProgram.{is_valid}
use Rattle.typed_tree.proofs.TypingRules.ValidLaws as valid
use Rattle.letter_acts.specs.Frames.{Columns, globals_from, old_columns, locals_from}
use Rattle.cond_jumps.specs.Frames as column
use Rattle.cond_jumps.specs.Frames.{place_from}
use Rattle.boogie_run.specs.Needs.{locals_at, locals_if_any}
use Rattle.lowered_graph.specs.LoweredSteps.ProgramFrames.{frame_at}
use Rattle.icfg_lower.specs.ProgramLayout.Layouts.{StandsIn}
use Rattle.icfg_lower.specs.ProgramWalk.Ties.Bounds.{TargetsStand, AllTargetsStand}

pub contained : {X : Type 0} (xs : List X) (n : ℕ) (x : X) → slice_get xs n ≡ Some x → Contains xs x
contained xs n x e = (n, slice_get_within xs n x e, get_or_from_slice_get xs n x x e)

-- ---- where columns are found

some_here : (b : Bool) (x : ℕ × VarInfo) (o : Option (ℕ × VarInfo)) → b ≡ true → IsSome (if b then Some x else o)
some_here true x o e = refl
some_here false x o e = cc

some_later : (b : Bool) (x : ℕ × VarInfo) (o : Option (ℕ × VarInfo)) → IsSome o → IsSome (if b then Some x else o)
some_later true x o h = refl
some_later false x o h = h

front_by : (a b : Bool) → a ≡ b → (x : ℕ × VarInfo) (o m : Option (ℕ × VarInfo)) → (IsSome o → IsSome m) → IsSome (if b then Some x else o) → IsSome (if a then Some x else m)
front_by a true e x o m f h = some_here a x m e
front_by a false e x o m f h = some_later a x m (f h)

found_front : (k : ℕ) (xs ys : Columns) (c : Column) → IsSome (place_from k xs c) → IsSome (place_from k (xs ++ ys) c)
found_front k [] ys c h = cc
found_front k (x ∷ xs) ys c h =
    front_by (column.same_frame_column x.0 c) (column.same_frame_column x.0 c) refl (k, x.1) (place_from (suc k) xs c) (place_from (suc k) (xs ++ ys) c) (λ l. found_front (suc k) xs ys c l) h

found_behind : (k : ℕ) (xs ys : Columns) (c : Column) → ((j : ℕ) → IsSome (place_from j ys c)) → IsSome (place_from k (xs ++ ys) c)
found_behind k [] ys c h = h k
found_behind k (x ∷ xs) ys c h = some_later (column.same_frame_column x.0 c) (k, x.1) (place_from (suc k) (xs ++ ys) c) (found_behind (suc k) xs ys c h)

global_found : (j k g m : ℕ) (vs : List VarInfo) (v : VarInfo) → m ≡ k + g → slice_get vs g ≡ Some v → IsSome (place_from j (globals_from k vs) (columns.Global m))
global_found j k g m [] v e d = cc
global_found j k zero m (w ∷ vs) v e d =
    let same : nat_eq k m ≡ true = grind (arith, nat_tests) in
    some_here (nat_eq k m) (j, w) (place_from (suc j) (globals_from (suc k) vs) (columns.Global m)) same
global_found j k (suc g) m (w ∷ vs) v e d =
    some_later (nat_eq k m) (j, w) (place_from (suc j) (globals_from (suc k) vs) (columns.Global m)) (global_found (suc j) (suc k) g m vs v (omega arith) d)

local_found : (j k l m : ℕ) (vs : List VarInfo) (v : VarInfo) → m ≡ k + l → slice_get vs l ≡ Some v → IsSome (place_from j (locals_from k vs) (columns.Local m))
local_found j k l m [] v e d = cc
local_found j k zero m (w ∷ vs) v e d =
    let same : nat_eq k m ≡ true = grind (arith, nat_tests) in
    some_here (nat_eq k m) (j, w) (place_from (suc j) (locals_from (suc k) vs) (columns.Local m)) same
local_found j k (suc l) m (w ∷ vs) v e d =
    some_later (nat_eq k m) (j, w) (place_from (suc j) (locals_from (suc k) vs) (columns.Local m)) (local_found (suc j) (suc k) l m vs v (omega arith) d)

global_stands : (t : TypedProgram) (n g : ℕ) (v : VarInfo) → slice_get t.globals g ≡ Some v → StandsIn (frame_at t n) (columns.Global g)
global_stands t n g v e =
    found_front 0 (globals_from 0 t.globals) (old_columns 0 t.globals ++ locals_from 0 (locals_at t n)) (columns.Global g) (global_found 0 0 g g t.globals v (let z : g ≡ 0 + g = omega arith in z) e)

local_stands : (t : TypedProgram) (n l : ℕ) (v : VarInfo) → slice_get (locals_at t n) l ≡ Some v → StandsIn (frame_at t n) (columns.Local l)
local_stands t n l v e =
    found_behind 0 (globals_from 0 t.globals) (old_columns 0 t.globals ++ locals_from 0 (locals_at t n)) (columns.Local l)
    (λ j. found_behind j (old_columns 0 t.globals) (locals_from 0 (locals_at t n)) (columns.Local l) (λ i. local_found i 0 l l (locals_at t n) v (let z : l ≡ 0 + l = omega arith in z) e))

-- ---- the targets of one statement

pub left_true : (a b : Bool) → (a && b) ≡ true → a ≡ true
left_true true b e = refl
left_true false b e = e

pub right_true : (a b : Bool) → (a && b) ≡ true → b ≡ true
right_true true b e = e
right_true false b e = cc

module _ (t : TypedProgram) (n : ℕ) (q : TypedProcedure) (v : IsTrue (is_valid t)) (found : slice_get t.procs n ≡ Some q) where
  abbrev frame : Columns
  frame = frame_at t n

  locals_are : locals_at t n ≡ q.locals
  locals_are = ap locals_if_any found

  writable_stands : (k : Context) (s : TypedStatement) (c : Column) → IsStatementOf t q k s → is_writable k c ≡ true → StandsIn frame c
  writable_stands k s c i w = elim (valid.targets t q k s c v i w) [
    | inl g ↦ subst (StandsIn frame) (sym g.2) (global_stands t n g.0 g.1 g.3)
    | inr l ↦ subst (StandsIn frame) (sym l.2) (local_stands t n l.0 l.1 (ap (λ (vs : List VarInfo). slice_get vs l.0) locals_are ∙ l.3))
  ]

  all_stand : (k : Context) (s : TypedStatement) (cs : List Column) → IsStatementOf t q k s → list_all (is_writable k) cs ≡ true → AllByRecursion (StandsIn frame) cs
  all_stand k s [] i h = tt
  all_stand k s (c ∷ cs) i h = (writable_stands k s c i (left_true (is_writable k c) (list_all (is_writable k) cs) h), all_stand k s cs i (right_true (is_writable k c) (list_all (is_writable k) cs) h))

  targets_stand : (k : Context) (s : TypedStatement) (cs : List Column) → IsStatementOf t q k s → are_targets k cs ≡ true → AllByRecursion (StandsIn frame) cs
  targets_stand k s cs i h = all_stand k s cs i (left_true (list_all (is_writable k) cs) (all_differ same_column cs) h)

  as_many : (k : Context) (cs : List Column) (es : List TypedExpression) → values_agree k.scope cs es ≡ true → length cs ≡ length es
  as_many k [] [] h = refl
  as_many k [] (e ∷ es) h = cc
  as_many k (c ∷ cs) [] h = cc
  as_many k (c ∷ cs) (e ∷ es) h = ap suc (as_many k cs es (right_true (meets (λ v. is_right k.scope v.ty e) (variable_at k.scope c)) (values_agree k.scope cs es) h))

  -- the targets of a statement, those of the statements inside it left out
  abbrev OwnStand : TypedStatement → Type 0
  OwnStand (If at g x y) = Unit {0}
  OwnStand (While at g is x) = Unit {0}
  OwnStand (Havoc at cs) = AllByRecursion (StandsIn frame) cs
  OwnStand (Assign at cs es) = AllByRecursion (StandsIn frame) cs × (length cs ≡ length es)
  OwnStand (Call at cs f es) = AllByRecursion (StandsIn frame) cs × IsSome (slice_get t.procs f) × (length es ≤ length (locals_at t f))
  OwnStand s = Unit {0}

  own_stand : (k : Context) (s : TypedStatement) → IsStatementOf t q k s → OwnStand s
  own_stand k (Assert at e) i = tt
  own_stand k (Assume at e) i = tt
  own_stand k (Havoc at cs) i =
      let typed : (not (is_empty cs) && are_targets k cs) ≡ true = (valid.statements t q k (Havoc at cs) v i).0 in
      targets_stand k (Havoc at cs) cs i (right_true (not (is_empty cs)) (are_targets k cs) typed)
  own_stand k (Assign at cs es) i =
      let typed : (not (is_empty cs) && (are_targets k cs && values_agree k.scope cs es)) ≡ true = (valid.statements t q k (Assign at cs es) v i).0 in
      let both : (are_targets k cs && values_agree k.scope cs es) ≡ true = right_true (not (is_empty cs)) (are_targets k cs && values_agree k.scope cs es) typed in
      (targets_stand k (Assign at cs es) cs i (left_true (are_targets k cs) (values_agree k.scope cs es) both), as_many k cs es (right_true (are_targets k cs) (values_agree k.scope cs es) both))
  own_stand k (Call at cs f es) i =
      let typed : (are_targets k cs && meets (is_call k cs es) (slice_get k.procs f)) ≡ true = (valid.statements t q k (Call at cs f es) v i).0 in
      let call = valid.calls t q k at cs f es v i in
      let callee : TypedProcedure = call.0 in
      let there : slice_get t.procs f ≡ Some callee = call.1 in
      let count : length es ≡ callee.params = call.2 in
      let room : callee.params + callee.results ≤ length callee.locals = valid.locals t callee v (contained t.procs f callee there) in
      let same : length (locals_at t f) ≡ length callee.locals = ap (λ (o : Option TypedProcedure). length (locals_if_any o)) there in
      (targets_stand k (Call at cs f es) cs i (left_true (are_targets k cs) (meets (is_call k cs es) (slice_get k.procs f)) typed), ap is_some there, omega arith)
  own_stand k (If at g x y) i = tt
  own_stand k (While at g is x) i = tt
  own_stand k (Break at m) i = tt
  own_stand k (Goto at ks) i = tt
  own_stand k (Return at) i = tt
  own_stand k (Label m) i = tt

  abbrev AllOwn : Context → TypedBlock → Type 0
  AllOwn c b = (k : Context) (s : TypedStatement) → law.StandsIn c b k s → OwnStand s

  mutual
    statement_stands : (c : Context) (s : TypedStatement) (b : TypedBlock) → AllOwn c (Then s b) → TargetsStand t frame s
    statement_stands c (Assert at e) b h = tt
    statement_stands c (Assume at e) b h = tt
    statement_stands c (Havoc at cs) b h = h c (Havoc at cs) (here c (Havoc at cs) b)
    statement_stands c (Assign at cs es) b h = h c (Assign at cs es) (here c (Assign at cs es) b)
    statement_stands c (Call at cs f es) b h = h c (Call at cs f es) (here c (Call at cs f es) b)
    statement_stands c (If at g x y) b h = (
      block_stands (within c x) x (λ k s d. h k s (in_then c k at g x y b s d)),
      block_stands (within c y) y (λ k s d. h k s (in_else c k at g x y b s d)),
    )
    statement_stands c (While at g is x) b h = block_stands (within (looped c) x) x (λ k s d. h k s (in_loop c k at g is x b s d))
    statement_stands c (Break at m) b h = tt
    statement_stands c (Goto at ks) b h = tt
    statement_stands c (Return at) b h = tt
    statement_stands c (Label m) b h = tt

    block_stands : (c : Context) (b : TypedBlock) → AllOwn c b → AllTargetsStand t frame b
    block_stands c Empty h = tt
    block_stands c (Then s b) h = (statement_stands c s b h, block_stands c b (λ k x d. h k x (after c k s x b d)))

  -- all targets of the body stand in its frame
  pub body_stands : (b : TypedBlock) → q.body ≡ Some b → AllTargetsStand t (frame_at t n) b
  body_stands b k =
      block_stands (within (context_of t.globals t.procs q) b) b
      (λ j s d. own_stand j s (in_body b (contained t.procs n q found) k d))
