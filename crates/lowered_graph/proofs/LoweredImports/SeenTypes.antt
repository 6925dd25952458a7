-- An expression that has a type where certain variables are seen has it where what stands for the columns has their types.
use Rattle.std.proofs.Common.{◌≡◌, ℕ, zero, suc, ◌+◌, ◌<◌, Bool, true, false, not, ◌||◌, nat_eq, List, [], ◌∷◌, ◌++◌, map, length, take, drop, Option, None, Some, slice_get, option_and_then, refl, sym, ap, subst, ◌∙◌, arith, eq-eqb, if◌then◌else◌}
use Rattle.std.specs.Option.{option_map}
use Rattle.std.proofs.lemmas.Bool.{and_parts, false≢true}
use Rattle.std.proofs.lemmas.Bool.Decides.{nat_tests}
use Rattle.boogie_tree.specs.declared.tree.Op.{Op}
use Rattle.boogie_tree.specs.declared.tree.Ty.{Ty}
use Rattle.boogie_tree.specs.declared.tree.Ty.TheVariants as types
use Rattle.boogie_tree.specs.declared.tree.Column.{Column}
use Rattle.boogie_tree.specs.declared.tree.Column.TheVariants as columns
use Rattle.boogie_tree.specs.declared.tree.VarInfo.{VarInfo}
use Rattle.typed_tree.specs.TypedTree.{TypedExpression, Lit, Truth, Var, Old, Not, Neg, Bin, TypedProcedure, TypedProgram}
use Rattle.typed_tree.specs.Scope.{Scope, unless_hidden, variable_at, fixed}
use Rattle.typed_tree.specs.Typing.{same_type, is_some_of, only, operation_type, type_of, has_type}
use Rattle.typed_tree.specs.AffineForm.{read_at, forms_fit}
use Rattle.typed_tree.specs.Divided.{is_divided}
use Rattle.typed_tree.specs.KeptRules.{is_arithmetic, is_right}
use Rattle.letter_acts.specs.Frames.{Columns, added, globals_from, old_columns, locals_from}
use Rattle.cond_jumps.specs.Frames.{place_from, column_place_in, if_constant, or_else, frame_environment}
use Rattle.cond_jumps.specs.Environments.{Environment, type_in}
use Rattle.cond_jumps.specs.Passing.{Numbered, Passed, standing_type, standing_environment, passed, left_in, passed_locals}
use Rattle.cond_jumps.proofs.TypeLemmas.{only_is}
use Rattle.boogie_run.specs.Needs.{locals_at}
use Rattle.lowered_graph.specs.LoweredSteps.ProgramFrames.{frame_at}
use Rattle.lowered_graph.specs.LoweredSteps.Edges.{found_from, those_in, import_written, typed_column, left_if, results_at, numbers_in}
use Rattle.lowered_graph.specs.LoweredImports.Imports.{ensures_environment}
use Rattle.lowered_graph.specs.LoweredSteps.Moves.{AreArguments, AreTargets}
use Rattle.typed_tree.specs.TypingRules.Rules.{results_of}
use Rattle.lowered_graph.proofs.LoweredSteps.Places.{global_place, local_place}

-- what stands for the columns has the types of the variables that are seen, now and at the entry
pub record Sees (s : Scope) (v : Environment) : Type 0 where
  pub now : (c : Column) (x : VarInfo) → variable_at s c ≡ Some x → v.type c ≡ Some x.ty
  pub entry : (c : Column) (x : VarInfo) → variable_at s c ≡ Some x → v.type (read_at true c) ≡ Some x.ty

-- ---- expressions

if_kept : (b : Bool) (o : Option Ty) (ty : Ty) → (if b then o else None) ≡ Some ty → o ≡ Some ty
if_kept true o ty h = h
if_kept false o ty h = absurd (cc)

record AreOperands (op : Op) (o p : Option Ty) (r : Ty) : Type 0 where
  first : Ty
  second : Ty
  first_is : o ≡ Some first
  second_is : p ≡ Some second
  operation_is : operation_type op first second ≡ Some r

operands_of : (op : Op) (o p : Option Ty) (r : Ty) → option_and_then (λ t. option_and_then (operation_type op t) p) o ≡ Some r → AreOperands op o p r
operands_of op None p r h = absurd (cc)
operands_of op (Some t) None r h = absurd (cc)
operands_of op (Some t) (Some u) r h = record { first = t; second = u; first_is = refl; second_is = refl; operation_is = h }

read_type : (s : Scope) (v : Environment) (h : Sees s v) (old : Bool) (c : Column) (x : VarInfo) → variable_at s c ≡ Some x → v.type (read_at old c) ≡ Some x.ty
read_type s v h true c x e = h.entry c x e
read_type s v h false c x e = h.now c x e

record IsSeen (o : Option VarInfo) (ty : Ty) : Type 0 where
  info : VarInfo
  is : o ≡ Some info
  typed : info.ty ≡ ty

seen_of : (o : Option VarInfo) (ty : Ty) → option_map (λ v. v.ty) o ≡ Some ty → IsSeen o ty
seen_of None ty h = absurd (cc)
seen_of (Some v) ty h = record { info = v; is = refl; typed = (let e : v.ty ≡ ty = cc in e) }

pub typed_in : (s : Scope) (v : Environment) → Sees s v → (old : Bool) (e : TypedExpression) (ty : Ty) → type_of s e ≡ Some ty → type_in v old e ≡ Some ty
typed_in s v h old (Lit at n) ty t = t
typed_in s v h old (Truth at b) ty t = t
typed_in s v h old (Var at c) ty t =
    let r : IsSeen (variable_at s c) ty = seen_of (variable_at s c) ty t in
    read_type s v h old c r.info r.is ∙ ap Some r.typed
typed_in s v h old (Old at e) ty t = typed_in s v h true e ty (if_kept s.old (type_of s e) ty t)
typed_in s v h old (Not at e) ty t =
    let r = only_is types.Bool (type_of s e) ty t in
    ap (option_and_then (only types.Bool)) (typed_in s v h old e types.Bool r.0) ∙ ap Some (sym r.1)
typed_in s v h old (Neg at e) ty t =
    let r = only_is types.Int (type_of s e) ty t in
    ap (option_and_then (only types.Int)) (typed_in s v h old e types.Int r.0) ∙ ap Some (sym r.1)
typed_in s v h old (Bin at op a b) ty t =
    let r : AreOperands op (type_of s a) (type_of s b) ty = operands_of op (type_of s a) (type_of s b) ty t in
    ap (λ (o : Option Ty). option_and_then (λ x. option_and_then (operation_type op x) (type_in v old b)) o) (typed_in s v h old a r.first r.first_is)
    ∙ ap (option_and_then (operation_type op r.first)) (typed_in s v h old b r.second r.second_is)
    ∙ r.operation_is

pub same_types : (a b : Ty) → same_type a b ≡ true → a ≡ b
same_types types.Int types.Int h = refl
same_types types.Int types.Bool h = absurd (false≢true h)
same_types types.Bool types.Int h = absurd (false≢true h)
same_types types.Bool types.Bool h = refl

some_type : (wanted : Ty) (o : Option Ty) → is_some_of wanted o ≡ true → o ≡ Some wanted
some_type wanted None h = absurd (false≢true h)
some_type wanted (Some found) h = ap Some (sym (same_types wanted found h))

-- an expression that is right is typed there, and its divisors keep their rule
pub right_typed : (s : Scope) (v : Environment) (ty : Ty) (e : TypedExpression) → Sees s v → is_right s ty e ≡ true → type_in v false e ≡ Some ty
right_typed s v ty e h r = typed_in s v h false e ty (some_type ty (type_of s e) (and_parts (has_type s ty e) (is_arithmetic (fixed s) false e) r).0)

pub right_divided : (s : Scope) (ty : Ty) (e : TypedExpression) → is_right s ty e ≡ true → is_divided e ≡ true
right_divided s ty e r = (and_parts (is_divided e) (forms_fit (fixed s) false e) (and_parts (has_type s ty e) (is_arithmetic (fixed s) false e) r).1).0

-- ---- the place of an old value

same_number : (n : ℕ) → nat_eq n n ≡ true
same_number n = eq-eqb n n refl

other_number : (m n : ℕ) → m < n → nat_eq m n ≡ false
other_number m n l = grind (arith, nat_tests)

other_later : (m n : ℕ) → m < n → nat_eq n m ≡ false
other_later m n l = grind (arith, nat_tests)

skip_globals : (k j : ℕ) (vs : List VarInfo) (rest : Columns) (n : ℕ) → place_from k (globals_from j vs ++ rest) (columns.Old n) ≡ place_from (k + length vs) rest (columns.Old n)
skip_globals k j [] rest n = let a : k + 0 ≡ k = omega arith in rw a refl
skip_globals k j (v ∷ vs) rest n =
    let a : k + suc (length vs) ≡ suc k + length vs = omega arith in
    rw a (skip_globals (suc k) (suc j) vs rest n)

none_in_locals : (k j : ℕ) (vs : List VarInfo) (n : ℕ) → place_from k (locals_from j vs) (columns.Old n) ≡ None
none_in_locals k j [] n = refl
none_in_locals k j (v ∷ vs) n = none_in_locals (suc k) (suc j) vs n

-- where no later column is that old one
abbrev NoneLater : Columns → ℕ → Type 0
NoneLater rest n = (i : ℕ) → place_from i rest (columns.Old n) ≡ None

none_added : (b : Bool) (k j n : ℕ) (w : VarInfo) (cs : Columns) → n < j → NoneLater cs n → place_from k (added b (columns.Old j, w) cs) (columns.Old n) ≡ None
none_added true k j n w cs l h = let e : nat_eq j n ≡ false = other_later n j l in rw e (h (suc k))
none_added false k j n w cs l h = h k

none_past : (k j n : ℕ) (vs : List VarInfo) (rest : Columns) → n < j → NoneLater rest n → place_from k (old_columns j vs ++ rest) (columns.Old n) ≡ None
none_past k j n [] rest l h = h k
none_past k j n (v ∷ vs) rest l h = by_test (not v.constant) k (λ i. none_past i (suc j) n vs rest (omega arith) h)
  where
    by_test : (b : Bool) (k : ℕ) → ((i : ℕ) → place_from i (old_columns (suc j) vs ++ rest) (columns.Old n) ≡ None) →
        place_from k (added b (columns.Old j, v) (old_columns (suc j) vs) ++ rest) (columns.Old n) ≡ None
    by_test true k h = let e : nat_eq j n ≡ false = other_later n j l in rw e (h (suc k))
    by_test false k h = h k

-- the old column of a global stands where it varies, and none where it is constant
record IsOldPlace (o : Option (ℕ × VarInfo)) (v : VarInfo) : Type 0 where
  varies : v.constant ≡ false → (m : ℕ) × (o ≡ Some (m, v))
  constant : v.constant ≡ true → o ≡ None

old_place : (k j n : ℕ) (vs : List VarInfo) (rest : Columns) (v : VarInfo) → NoneLater rest (j + n) → slice_get vs n ≡ Some v →
    IsOldPlace (place_from k (old_columns j vs ++ rest) (columns.Old (j + n))) v
old_place k j n [] rest v h e = absurd (cc)
old_place k j zero (w ∷ ws) rest v h e = by_test w.constant refl
  where
    same : w ≡ v
    same = cc

    none : j + 0 ≡ j
    none = omega arith

    by_test : (b : Bool) → w.constant ≡ b → IsOldPlace (place_from k (added (not w.constant) (columns.Old j, w) (old_columns (suc j) ws) ++ rest) (columns.Old (j + 0))) v
    by_test true c = record {
      varies = λ d. absurd (false≢true (sym d ∙ ap (λ (x : VarInfo). x.constant) (sym same) ∙ c));
      constant = λ d. ap (λ (b : Bool). place_from k (added (not b) (columns.Old j, w) (old_columns (suc j) ws) ++ rest) (columns.Old (j + 0))) c
          ∙ none_past k (suc j) (j + 0) ws rest (omega arith) h;
    }
    by_test false c = record {
      varies = λ d. (
        k,
        ap (λ (b : Bool). place_from k (added (not b) (columns.Old j, w) (old_columns (suc j) ws) ++ rest) (columns.Old (j + 0))) c
            ∙ ap (λ (b : Bool). if b then Some (k, w) else place_from (suc k) (old_columns (suc j) ws ++ rest) (columns.Old (j + 0))) (ap (nat_eq j) none ∙ same_number j)
            ∙ ap (λ (x : VarInfo). Some (k, x)) same,
      );
      constant = λ d. absurd (false≢true (sym c ∙ ap (λ (x : VarInfo). x.constant) same ∙ d));
    }
old_place k j (suc n) (w ∷ ws) rest v h e = by_test (not w.constant) k (λ i. subst (λ (m : ℕ). IsOldPlace (place_from i (old_columns (suc j) ws ++ rest) (columns.Old m)) v) next (old_place i (suc j) n ws rest v (subst (NoneLater rest) (sym next) h) e))
  where
    next : suc j + n ≡ j + suc n
    next = omega arith

    by_test : (b : Bool) (k : ℕ) → ((i : ℕ) → IsOldPlace (place_from i (old_columns (suc j) ws ++ rest) (columns.Old (j + suc n))) v) →
        IsOldPlace (place_from k (added b (columns.Old j, w) (old_columns (suc j) ws) ++ rest) (columns.Old (j + suc n))) v
    by_test true k g = let d : nat_eq j (j + suc n) ≡ false = other_number j (j + suc n) (omega arith) in rw d (g (suc k))
    by_test false k g = g k

or_constant : (o p : Option (ℕ × VarInfo)) (m : ℕ) (v : VarInfo) → IsOldPlace o v → p ≡ Some (m, v) → (k : ℕ) × (or_else o (if_constant p) ≡ Some (k, v))
or_constant o p m v h e = by_test v.constant refl
  where
    by_test : (b : Bool) → v.constant ≡ b → (k : ℕ) × (or_else o (if_constant p) ≡ Some (k, v))
    by_test true c = (m, ap (λ (x : Option (ℕ × VarInfo)). or_else x (if_constant p)) (h.constant c) ∙ ap if_constant e ∙ ap (λ (b : Bool). if b then Some (m, v) else None) c)
    by_test false c = let r = h.varies c in (r.0, ap (λ (x : Option (ℕ × VarInfo)). or_else x (if_constant p)) r.1)

-- the old value of a global has a place
pub old_of_global : (t : TypedProgram) (n g : ℕ) (v : VarInfo) → slice_get t.globals g ≡ Some v → (k : ℕ) × (column_place_in (frame_at t n) (columns.Old g) ≡ Some (k, v))
old_of_global t n g v e =
    let locals : Columns = locals_from 0 (locals_at t n) in
    let zero_more : 0 + g ≡ g = omega arith in
    let start : ℕ = 0 + length t.globals in
    let here : IsOldPlace (place_from start (old_columns 0 t.globals ++ locals) (columns.Old g)) v =
    subst (λ (m : ℕ). IsOldPlace (place_from start (old_columns 0 t.globals ++ locals) (columns.Old m)) v) zero_more
    (old_place start 0 g t.globals locals v (λ i. none_in_locals i 0 (locals_at t n) (0 + g)) e) in
    let whole : IsOldPlace (place_from 0 (frame_at t n) (columns.Old g)) v =
    subst (λ (o : Option (ℕ × VarInfo)). IsOldPlace o v) (sym (skip_globals 0 0 t.globals (old_columns 0 t.globals ++ locals) g)) here in
    or_constant (place_from 0 (frame_at t n) (columns.Old g)) (place_from 0 (frame_at t n) (columns.Global g)) g v whole (global_place t n g v e)

-- ---- what is seen

pub unhidden : (b : Bool) (o : Option VarInfo) (v : VarInfo) → option_and_then (unless_hidden b) o ≡ Some v → o ≡ Some v
unhidden b None v h = absurd (cc)
unhidden true (Some w) v h = h
unhidden false (Some w) v h = by_test w.constant h
  where
    by_test : (c : Bool) → (if false || c then Some w else None) ≡ Some v → Some w ≡ Some v
    by_test true g = g
    by_test false g = absurd (cc)

-- the globals of the program are seen, and these locals
pub record IsScope (t : TypedProgram) (ls : List VarInfo) (s : Scope) : Type 0 where
  pub globals : s.globals ≡ t.globals
  pub locals : (l : ℕ) (x : VarInfo) → slice_get s.locals l ≡ Some x → slice_get ls l ≡ Some x

global_seen : (t : TypedProgram) (ls : List VarInfo) (s : Scope) (g : ℕ) (x : VarInfo) → IsScope t ls s → variable_at s (columns.Global g) ≡ Some x → slice_get t.globals g ≡ Some x
global_seen t ls s g x i h = ap (λ (vs : List VarInfo). slice_get vs g) (sym i.globals) ∙ unhidden s.variables (slice_get s.globals g) x h

pub frame_sees : (t : TypedProgram) (n : ℕ) (s : Scope) → IsScope t (locals_at t n) s → Sees s (frame_environment (frame_at t n))
frame_sees t n s i = record { now = λ c x h. now c x h; entry = λ c x h. entry c x h }
  where
    typed : (c : Column) (k : ℕ) (x : VarInfo) → column_place_in (frame_at t n) c ≡ Some (k, x) → option_map (λ y. y.1.ty) (column_place_in (frame_at t n) c) ≡ Some x.ty
    typed c k x e = ap (option_map (λ y. y.1.ty)) e

    now : (c : Column) (x : VarInfo) → variable_at s c ≡ Some x → (frame_environment (frame_at t n)).type c ≡ Some x.ty
    now (columns.Global g) x h = typed (columns.Global g) g x (global_place t n g x (global_seen t (locals_at t n) s g x i h))
    now (columns.Old g) x h = absurd (cc)
    now (columns.Local l) x h = typed (columns.Local l) _ x (local_place t n l x (i.locals l x h))

    entry : (c : Column) (x : VarInfo) → variable_at s c ≡ Some x → (frame_environment (frame_at t n)).type (read_at true c) ≡ Some x.ty
    entry (columns.Global g) x h = let r = old_of_global t n g x (global_seen t (locals_at t n) s g x i h) in typed (columns.Old g) r.0 x r.1
    entry (columns.Old g) x h = absurd (cc)
    entry (columns.Local l) x h = typed (columns.Local l) _ x (local_place t n l x (i.locals l x h))

-- ---- conditions of called procedures

argument_typed : (frame : Columns) (vs : List VarInfo) (args : List TypedExpression) (l : ℕ) (x : VarInfo) → AreArguments frame vs args → slice_get vs l ≡ Some x →
    standing_type (frame_environment frame) (option_map Passed (slice_get args l)) ≡ Some x.ty
argument_typed frame [] args l x a h = absurd (cc)
argument_typed frame (v ∷ vs) [] l x a h = absurd a
argument_typed frame (v ∷ vs) (e ∷ es) zero x a h = a.0.typed ∙ (let same : v ≡ x = cc in ap (λ (y : VarInfo). Some y.ty) same)
argument_typed frame (v ∷ vs) (e ∷ es) (suc l) x a h = argument_typed frame vs es l x a.1 h

pub passed_sees : (t : TypedProgram) (n : ℕ) (s : Scope) (params : List VarInfo) (args : List TypedExpression) → IsScope t params s → AreArguments (frame_at t n) params args →
    Sees s (standing_environment (frame_environment (frame_at t n)) (passed args))
passed_sees t n s params args i a = record { now = λ c x h. now c x h; entry = λ c x h. entry c x h }
  where
    typed : (c : Column) (k : ℕ) (x : VarInfo) → column_place_in (frame_at t n) c ≡ Some (k, x) → option_map (λ y. y.1.ty) (column_place_in (frame_at t n) c) ≡ Some x.ty
    typed c k x e = ap (option_map (λ y. y.1.ty)) e

    now : (c : Column) (x : VarInfo) → variable_at s c ≡ Some x → standing_type (frame_environment (frame_at t n)) (passed args c) ≡ Some x.ty
    now (columns.Global g) x h = typed (columns.Global g) g x (global_place t n g x (global_seen t params s g x i h))
    now (columns.Old g) x h = absurd (cc)
    now (columns.Local l) x h = argument_typed (frame_at t n) params args l x a (i.locals l x h)

    entry : (c : Column) (x : VarInfo) → variable_at s c ≡ Some x → standing_type (frame_environment (frame_at t n)) (passed args (read_at true c)) ≡ Some x.ty
    entry (columns.Global g) x h = let r = old_of_global t n g x (global_seen t params s g x i h) in typed (columns.Old g) r.0 x r.1
    entry (columns.Old g) x h = absurd (cc)
    entry (columns.Local l) x h = argument_typed (frame_at t n) params args l x a (i.locals l x h)

-- ---- ensures

left_typed : (frame : Columns) (globals : List VarInfo) (base g : ℕ) (k h : Option ℕ) (x : VarInfo) → slice_get globals g ≡ Some x →
    (frame_environment frame).type (columns.Global g) ≡ Some x.ty → standing_type (frame_environment frame) (Some (left_in g (left_if globals base g k h))) ≡ Some x.ty
left_typed frame globals base g None h x e d = d
left_typed frame globals base g (Some k) None x e d =
    ap (λ (o : Option VarInfo). standing_type (frame_environment frame) (Some (left_in g (typed_column (base + k) o)))) e
left_typed frame globals base g (Some k) (Some h) x e d =
    ap (λ (o : Option VarInfo). standing_type (frame_environment frame) (Some (left_in g (typed_column h o)))) e

results_typed : (t : TypedProgram) (n base : ℕ) (written : List ℕ) (v : Environment) (vs : List VarInfo) (cs : List Column) (l : ℕ) (x : VarInfo) → AreTargets t n vs cs →
    slice_get vs l ≡ Some x → standing_type v (slice_get (map (λ r. Numbered r.0 r.1) (results_at base written (numbers_in (frame_at t n) cs) vs)) l) ≡ Some x.ty
results_typed t n base written v [] cs l x a h = absurd (cc)
results_typed t n base written v (y ∷ ys) [] l x a h = absurd a
results_typed t n base written v (y ∷ ys) (c ∷ cs) zero x a h = let same : y ≡ x = cc in ap (λ (z : VarInfo). Some z.ty) same
results_typed t n base written v (y ∷ ys) (c ∷ cs) (suc l) x a h = results_typed t n base written v ys cs l x a.1 h

locals_typed : (t : TypedProgram) (n base : ℕ) (written : List ℕ) (p r : ℕ) (ls : List VarInfo) (args : List TypedExpression) (cs : List Column) (l : ℕ) (x : VarInfo) →
    AreArguments (frame_at t n) (take p ls) args → AreTargets t n (take r (drop p ls)) cs → slice_get (take (p + r) ls) l ≡ Some x →
    standing_type (frame_environment (frame_at t n)) (slice_get (passed_locals args (results_at base written (numbers_in (frame_at t n) cs) (take r (drop p ls)))) l) ≡ Some x.ty
locals_typed t n base written zero r ls [] cs l x a b h =
    let e : 0 + r ≡ r = omega arith in
    results_typed t n base written (frame_environment (frame_at t n)) (take r ls) cs l x b (ap (λ (m : ℕ). slice_get (take m ls) l) (sym e) ∙ h)
locals_typed t n base written zero r ls (e ∷ es) cs l x a b h = absurd a
locals_typed t n base written (suc p) r [] args cs l x a b h =
    let e : suc p + r ≡ suc (p + r) = omega arith in
    let g : slice_get (take (suc (p + r)) []) l ≡ Some x = ap (λ (m : ℕ). slice_get (take m []) l) (sym e) ∙ h in
    absurd (cc)
locals_typed t n base written (suc p) r (y ∷ ys) [] cs l x a b h = absurd a
locals_typed t n base written (suc p) r (y ∷ ys) (d ∷ ds) cs l x a b h =
    let e : suc p + r ≡ suc (p + r) = omega arith in
    by_number l (ap (λ (m : ℕ). slice_get (take m (y ∷ ys)) l) (sym e) ∙ h) (λ k g. locals_typed t n base written p r ys ds cs k x a.1 b g)
  where
    by_number : (l : ℕ) → slice_get (y ∷ take (p + r) ys) l ≡ Some x →
        ((k : ℕ) → slice_get (take (p + r) ys) k ≡ Some x →
        standing_type (frame_environment (frame_at t n)) (slice_get (passed_locals ds (results_at base written (numbers_in (frame_at t n) cs) (take r (drop p ys)))) k) ≡ Some x.ty) →
        standing_type (frame_environment (frame_at t n)) (slice_get (passed_locals (d ∷ ds) (results_at base written (numbers_in (frame_at t n) cs) (take r (drop p ys)))) l) ≡ Some x.ty
    by_number zero g again = a.0.typed ∙ (let same : y ≡ x = cc in ap (λ (z : VarInfo). Some z.ty) same)
    by_number (suc k) g again = again k g

pub import_sees : (t : TypedProgram) (n : ℕ) (s : Scope) (q : TypedProcedure) (args : List TypedExpression) (cs : List Column) →
    IsScope t (take (q.params + q.results) q.locals) s → AreArguments (frame_at t n) (take q.params q.locals) args → AreTargets t n (results_of q) cs →
    Sees s (ensures_environment (frame_at t n) t.globals q args (numbers_in (frame_at t n) cs))
import_sees t n s q args cs i a b = record { now = λ c x h. now c x h; entry = λ c x h. entry c x h }
  where
    global_typed : (g : ℕ) (x : VarInfo) → slice_get t.globals g ≡ Some x → (frame_environment (frame_at t n)).type (columns.Global g) ≡ Some x.ty
    global_typed g x e = ap (option_map (λ y. y.1.ty)) (global_place t n g x e)

    local_typed : (l : ℕ) (x : VarInfo) → slice_get s.locals l ≡ Some x →
        (ensures_environment (frame_at t n) t.globals q args (numbers_in (frame_at t n) cs)).type (columns.Local l) ≡ Some x.ty
    local_typed l x h =
        locals_typed t n (length (frame_at t n)) (import_written q.modifies (numbers_in (frame_at t n) cs)) q.params q.results q.locals args cs l x a b (i.locals l x h)

    now : (c : Column) (x : VarInfo) → variable_at s c ≡ Some x → (ensures_environment (frame_at t n) t.globals q args (numbers_in (frame_at t n) cs)).type c ≡ Some x.ty
    now (columns.Global g) x h =
        let e : slice_get t.globals g ≡ Some x = global_seen t (take (q.params + q.results) q.locals) s g x i h in
        left_typed (frame_at t n) t.globals (length (frame_at t n)) g (found_from 0 q.modifies g)
        (found_from (length (frame_at t n) + length (import_written q.modifies (numbers_in (frame_at t n) cs))) (those_in (numbers_in (frame_at t n) cs) q.modifies) g) x e (global_typed g x e)
    now (columns.Old g) x h = absurd (cc)
    now (columns.Local l) x h = local_typed l x h

    entry : (c : Column) (x : VarInfo) → variable_at s c ≡ Some x → (ensures_environment (frame_at t n) t.globals q args (numbers_in (frame_at t n) cs)).type (read_at true c) ≡ Some x.ty
    entry (columns.Global g) x h = global_typed g x (global_seen t (take (q.params + q.results) q.locals) s g x i h)
    entry (columns.Old g) x h = absurd (cc)
    entry (columns.Local l) x h = local_typed l x h
