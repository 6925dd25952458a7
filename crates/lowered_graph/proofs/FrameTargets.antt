-- Where the columns that may be written stand in the frames of a program.
use Rattle.std.proofs.Common.{◌≡◌, ◌∙◌, ◌⊎◌, ℕ, zero, suc, ◌+◌, Bool, true, false, not, ◌||◌, nat_eq, List, [], ◌∷◌, ◌++◌, length, Option, Some, inl, inr, refl, sym, ap, subst, arith, if◌then◌else◌}
use Rattle.std.specs.Prelude.{slice_get, filter, IsSomeAnd}
use Rattle.std.specs.List.{AllByRecursion}
use Rattle.std.specs.Option.{option_map}
use Rattle.std.proofs.lemmas.Bool.{false≢true}
use Rattle.boogie_tree.specs.declared.tree.Ty.{Ty}
use Rattle.boogie_tree.specs.declared.tree.Column.{Column}
use Rattle.boogie_tree.specs.declared.tree.Column.TheVariants as columns
use Rattle.boogie_tree.specs.declared.tree.VarInfo.{VarInfo}
use Rattle.typed_tree.specs.TypedTree.{TypedProgram}
use Rattle.nwa_base.specs.Members.{Member}
use Rattle.nwa_base.proofs.LetterLemmas.{eqb-refl}
use Rattle.letter_acts.specs.Frames.{Columns, added, globals_from, old_columns, locals_from, is_old_column}
use Rattle.letter_acts.specs.Invariant.{AreDistinct, MayWrite, MayTarget, IsOld, type_at}
use Rattle.cond_jumps.specs.Frames.{same_frame_column, place_from, column_place_in}
use Rattle.cond_jumps.proofs.FrameLemmas.{IsFound, found_from}
use Rattle.boogie_run.specs.Needs.{locals_at}
use Rattle.lowered_graph.specs.LoweredSteps.ProgramFrames.{frame_at, column_number, column_number_if_any}
use Rattle.lowered_graph.specs.LoweredSteps.Edges.{those_not_in, import_written, numbers_in}
use Rattle.letter_acts.specs.Reading.{is_listed}
use Rattle.lowered_graph.specs.LoweredSteps.Moves.{IsTarget, AreTargets}
use Rattle.lowered_graph.proofs.Lists.{all_get, from_zero, get_behind, not_both}
use Rattle.letter_acts.proofs.ListLemmas.{all_append}

-- ---- the columns of a frame

-- what is known of a column of procedure n
abbrev pub StandsFor : TypedProgram → ℕ → Column × VarInfo → Type 0
StandsFor t n (columns.Global g, v) = slice_get t.globals g ≡ Some v
StandsFor t n (columns.Old g, v) = (slice_get t.globals g ≡ Some v) × (v.constant ≡ false)
StandsFor t n (columns.Local l, v) = slice_get (locals_at t n) l ≡ Some v

globals_stand : (t : TypedProgram) (n k : ℕ) (vs : List VarInfo) → ((i : ℕ) (v : VarInfo) → slice_get vs i ≡ Some v → slice_get t.globals (k + i) ≡ Some v) → AllByRecursion (StandsFor t n) (globals_from k vs)
globals_stand t n k [] h = tt
globals_stand t n k (v ∷ vs) h =
    let here : k + 0 ≡ k = omega arith in (
      subst (λ (m : ℕ). slice_get t.globals m ≡ Some v) here (h 0 v refl),
      globals_stand t n (suc k) vs (λ i w e. subst (λ (m : ℕ). slice_get t.globals m ≡ Some w) (let s : k + suc i ≡ suc k + i = omega arith in s) (h (suc i) w e)),
    )

olds_stand : (t : TypedProgram) (n k : ℕ) (vs : List VarInfo) → ((i : ℕ) (v : VarInfo) → slice_get vs i ≡ Some v → slice_get t.globals (k + i) ≡ Some v) → AllByRecursion (StandsFor t n) (old_columns k vs)
olds_stand t n k [] h = tt
olds_stand t n k (v ∷ vs) h =
    let here : k + 0 ≡ k = omega arith in
    by_test v.constant refl (subst (λ (m : ℕ). slice_get t.globals m ≡ Some v) here (h 0 v refl))
    (olds_stand t n (suc k) vs (λ i w e. subst (λ (m : ℕ). slice_get t.globals m ≡ Some w) (let s : k + suc i ≡ suc k + i = omega arith in s) (h (suc i) w e)))
  where
    by_test : (b : Bool) → v.constant ≡ b → slice_get t.globals k ≡ Some v → AllByRecursion (StandsFor t n) (old_columns (suc k) vs) → AllByRecursion (StandsFor t n) (added (not b) (columns.Old k, v) (old_columns (suc k) vs))
    by_test true e g h = h
    by_test false e g h = ((g, e), h)

locals_stand : (t : TypedProgram) (n k : ℕ) (vs : List VarInfo) → ((i : ℕ) (v : VarInfo) → slice_get vs i ≡ Some v → slice_get (locals_at t n) (k + i) ≡ Some v) → AllByRecursion (StandsFor t n) (locals_from k vs)
locals_stand t n k [] h = tt
locals_stand t n k (v ∷ vs) h =
    let here : k + 0 ≡ k = omega arith in (
      subst (λ (m : ℕ). slice_get (locals_at t n) m ≡ Some v) here (h 0 v refl),
      locals_stand t n (suc k) vs (λ i w e. subst (λ (m : ℕ). slice_get (locals_at t n) m ≡ Some w) (let s : k + suc i ≡ suc k + i = omega arith in s) (h (suc i) w e)),
    )

pub frame_stands : (t : TypedProgram) (n : ℕ) → AllByRecursion (StandsFor t n) (frame_at t n)
frame_stands t n =
    all_append (StandsFor t n) (globals_from 0 t.globals) (old_columns 0 t.globals ++ locals_from 0 (locals_at t n)) (globals_stand t n 0 t.globals (from_zero t.globals))
    (all_append (StandsFor t n) (old_columns 0 t.globals) (locals_from 0 (locals_at t n)) (olds_stand t n 0 t.globals (from_zero t.globals)) (locals_stand t n 0 (locals_at t n) (from_zero (locals_at t n))))

-- ---- where a column is found

itself : (c : Column) → same_frame_column c c ≡ true
itself (columns.Global m) = eqb-refl m
itself (columns.Old m) = eqb-refl m
itself (columns.Local m) = eqb-refl m

-- a column that stands in a list is found
found_some : (k : ℕ) (frame : Columns) (c : Column) (i : ℕ) (v : VarInfo) → slice_get frame i ≡ Some (c, v) → (x : ℕ × VarInfo) × (place_from k frame c ≡ Some x)
found_some k [] c i v e = absurd (cc)
found_some k (d ∷ ds) c zero v e =
    let same : d ≡ (c, v) = cc in
    let first : d.0 ≡ c = ap (λ (x : Column × VarInfo). x.0) same in
    let test : same_frame_column d.0 c ≡ true = ap (λ (x : Column). same_frame_column x c) first ∙ itself c in
    ((k, d.1), ap (λ (b : Bool). if b then Some (k, d.1) else place_from (suc k) ds c) test)
found_some k (d ∷ ds) c (suc i) v e = by_test (same_frame_column d.0 c) (found_some (suc k) ds c i v e)
  where
    by_test : (b : Bool) → ((x : ℕ × VarInfo) × (place_from (suc k) ds c ≡ Some x)) → (x : ℕ × VarInfo) × ((if b then Some (k, d.1) else place_from (suc k) ds c) ≡ Some x)
    by_test true h = ((k, d.1), refl)
    by_test false h = h

global_place : (k : ℕ) (vs : List VarInfo) (rest : Columns) (g : ℕ) (v : VarInfo) → slice_get vs g ≡ Some v → slice_get (globals_from k vs ++ rest) g ≡ Some (columns.Global (k + g), v)
global_place k [] rest g v e = absurd (cc)
global_place k (w ∷ vs) rest zero v e =
    let same : w ≡ v = cc in
    let here : k ≡ k + 0 = omega arith in
    λ i. Some (columns.Global (here i), same i)
global_place k (w ∷ vs) rest (suc g) v e =
    let next : suc k + g ≡ k + suc g = omega arith in
    global_place (suc k) vs rest g v e ∙ ap (λ (m : ℕ). Some (columns.Global m, v)) next

-- a global stands at its number
pub global_stands : (t : TypedProgram) (n g : ℕ) (v : VarInfo) → slice_get t.globals g ≡ Some v → slice_get (frame_at t n) g ≡ Some (columns.Global g, v)
global_stands t n g v e =
    let z : 0 + g ≡ g = omega arith in
    global_place 0 t.globals (old_columns 0 t.globals ++ locals_from 0 (locals_at t n)) g v e ∙ ap (λ (m : ℕ). Some (columns.Global m, v)) z

pub local_place : (k : ℕ) (vs : List VarInfo) (l : ℕ) (v : VarInfo) → slice_get vs l ≡ Some v → slice_get (locals_from k vs) l ≡ Some (columns.Local (k + l), v)
local_place k [] l v e = absurd (cc)
local_place k (w ∷ vs) zero v e =
    let same : w ≡ v = cc in
    let here : k ≡ k + 0 = omega arith in
    λ i. Some (columns.Local (here i), same i)
local_place k (w ∷ vs) (suc l) v e =
    let next : suc k + l ≡ k + suc l = omega arith in
    local_place (suc k) vs l v e ∙ ap (λ (m : ℕ). Some (columns.Local m, v)) next

local_stands : (t : TypedProgram) (n l : ℕ) (v : VarInfo) → slice_get (locals_at t n) l ≡ Some v → (i : ℕ) × (slice_get (frame_at t n) i ≡ Some (columns.Local l, v))
local_stands t n l v e =
    let globals : Columns = globals_from 0 t.globals in
    let olds : Columns = old_columns 0 t.globals in
    let locals : Columns = locals_from 0 (locals_at t n) in
    let z : 0 + l ≡ l = omega arith in
    let there : slice_get locals l ≡ Some (columns.Local l, v) = local_place 0 (locals_at t n) l v e ∙ ap (λ (m : ℕ). Some (columns.Local m, v)) z in
    (length globals + (length olds + l), get_behind globals (olds ++ locals) (length olds + l) (columns.Local l, v) (get_behind olds locals l (columns.Local l, v) there))

-- ---- targets

-- the column stands at its number, varies, has the type and is no old column
pub record StandsAt (t : TypedProgram) (n : ℕ) (ty : Ty) (c : Column) : Type 0 where
  pub info : VarInfo
  pub stands : slice_get (frame_at t n) (column_number (frame_at t n) c) ≡ Some (c, info)
  pub varies : info.constant ≡ false
  pub type : info.ty ≡ ty
  pub no_old : is_old_column c ≡ false

-- the place of a column that is found
number_found : (t : TypedProgram) (n : ℕ) (c : Column) (x : ℕ × VarInfo) → place_from 0 (frame_at t n) c ≡ Some x → column_place_in (frame_at t n) c ≡ place_from 0 (frame_at t n) c →
    slice_get (frame_at t n) (column_number (frame_at t n) c) ≡ Some (c, x.1)
number_found t n c x e p =
    let f : IsFound 0 (frame_at t n) c x = found_from 0 (frame_at t n) c x e in
    let at : x.0 ≡ 0 + f.index = f.at in
    let index : f.index ≡ x.0 = omega arith in
    let number : column_number (frame_at t n) c ≡ x.0 = ap column_number_if_any (p ∙ e) in
    ap (slice_get (frame_at t n)) (number ∙ sym index) ∙ f.stands

pub target_stands : (t : TypedProgram) (n : ℕ) (ty : Ty) (c : Column) → IsTarget t n ty c → StandsAt t n ty c
target_stands t n ty (columns.Global g) h =
    let found = found_some 0 (frame_at t n) (columns.Global g) g h.info (global_stands t n g h.info h.is) in
    let stands : slice_get (frame_at t n) (column_number (frame_at t n) (columns.Global g)) ≡ Some (columns.Global g, found.0.1) = number_found t n (columns.Global g) found.0 found.1 refl in
    let known : slice_get t.globals g ≡ Some found.0.1 = all_get (StandsFor t n) (frame_at t n) (column_number (frame_at t n) (columns.Global g)) (columns.Global g, found.0.1) (frame_stands t n) stands in
    let same : h.info ≡ found.0.1 = (let e : Some h.info ≡ Some found.0.1 = sym h.is ∙ known in cc) in
    record { info = found.0.1; stands = stands; varies = subst (λ (v : VarInfo). v.constant ≡ false) same h.varies; type = subst (λ (v : VarInfo). v.ty ≡ ty) same h.type; no_old = refl }
target_stands t n ty (columns.Old g) h = absurd h
target_stands t n ty (columns.Local l) h =
    let at = local_stands t n l h.info h.is in
    let found = found_some 0 (frame_at t n) (columns.Local l) at.0 h.info at.1 in
    let stands : slice_get (frame_at t n) (column_number (frame_at t n) (columns.Local l)) ≡ Some (columns.Local l, found.0.1) = number_found t n (columns.Local l) found.0 found.1 refl in
    let known : slice_get (locals_at t n) l ≡ Some found.0.1 = all_get (StandsFor t n) (frame_at t n) (column_number (frame_at t n) (columns.Local l)) (columns.Local l, found.0.1) (frame_stands t n) stands in
    let same : h.info ≡ found.0.1 = (let e : Some h.info ≡ Some found.0.1 = sym h.is ∙ known in cc) in
    record { info = found.0.1; stands = stands; varies = subst (λ (v : VarInfo). v.constant ≡ false) same h.varies; type = subst (λ (v : VarInfo). v.ty ≡ ty) same h.type; no_old = refl }

pub stands_written : (t : TypedProgram) (n : ℕ) (ty : Ty) (c : Column) → StandsAt t n ty c → MayWrite (frame_at t n) (column_number (frame_at t n) c)
stands_written t n ty c h = subst (λ (o : Option (Column × VarInfo)). IsSomeAnd o (λ v. v.1.constant ≡ false)) (sym h.stands) h.varies

pub stands_new : (t : TypedProgram) (n : ℕ) (ty : Ty) (c : Column) → StandsAt t n ty c → IsOld (frame_at t n) (column_number (frame_at t n) c) → ⊥
stands_new t n ty c h old =
    let is : is_old_column c ≡ true = subst (λ (o : Option (Column × VarInfo)). IsSomeAnd o (λ v. is_old_column v.0 ≡ true)) h.stands old in
    false≢true (sym h.no_old ∙ is)

pub stands_target : (t : TypedProgram) (n : ℕ) (ty : Ty) (c : Column) → StandsAt t n ty c → MayTarget (frame_at t n) (column_number (frame_at t n) c)
stands_target t n ty c h = subst (λ (o : Option (Column × VarInfo)). IsSomeAnd o (λ v. (v.1.constant ≡ false) × (is_old_column v.0 ≡ false))) (sym h.stands) (h.varies, h.no_old)

pub stands_type : (t : TypedProgram) (n : ℕ) (ty : Ty) (c : Column) → StandsAt t n ty c → type_at (frame_at t n) (column_number (frame_at t n) c) ≡ Some ty
stands_type t n ty c h = ap (option_map (λ v. v.1.ty)) h.stands ∙ ap Some h.type

-- ---- lists of targets

-- each is a target of some type
abbrev pub AreStanding : TypedProgram → ℕ → List Column → Type 0
AreStanding t n cs = AllByRecursion (λ c. (ty : Ty) × StandsAt t n ty c) cs

pub standing_written : (t : TypedProgram) (n : ℕ) (cs : List Column) → AreStanding t n cs → AllByRecursion (MayWrite (frame_at t n)) (numbers_in (frame_at t n) cs)
standing_written t n [] h = tt
standing_written t n (c ∷ cs) h = (stands_written t n h.0.0 c h.0.1, standing_written t n cs h.1)

pub standing_new : (t : TypedProgram) (n : ℕ) (cs : List Column) → AreStanding t n cs → AllByRecursion (λ c. IsOld (frame_at t n) c → ⊥) (numbers_in (frame_at t n) cs)
standing_new t n [] h = tt
standing_new t n (c ∷ cs) h = (stands_new t n h.0.0 c h.0.1, standing_new t n cs h.1)

pub standing_targets : (t : TypedProgram) (n : ℕ) (cs : List Column) → AreStanding t n cs → AllByRecursion (MayTarget (frame_at t n)) (numbers_in (frame_at t n) cs)
standing_targets t n [] h = tt
standing_targets t n (c ∷ cs) h = (stands_target t n h.0.0 c h.0.1, standing_targets t n cs h.1)

-- equal numbers are those of one column
same_number : (t : TypedProgram) (n : ℕ) (ty uy : Ty) (c d : Column) → StandsAt t n ty c → StandsAt t n uy d → column_number (frame_at t n) c ≡ column_number (frame_at t n) d → c ≡ d
same_number t n ty uy c d h k e =
    let both : Some (c, h.info) ≡ Some (d, k.info) = sym h.stands ∙ ap (slice_get (frame_at t n)) e ∙ k.stands in
    let pair : (c, h.info) ≡ (d, k.info) = cc in
    ap (λ (x : Column × VarInfo). x.0) pair

number_there : (t : TypedProgram) (n : ℕ) (ty : Ty) (c : Column) (cs : List Column) → StandsAt t n ty c → AreStanding t n cs → Member (numbers_in (frame_at t n) cs) (column_number (frame_at t n) c) → Member cs c
number_there t n ty c [] h k m = m
number_there t n ty c (d ∷ cs) h k (inl e) = inl (same_number t n k.0.0 ty d c k.0.1 h e)
number_there t n ty c (d ∷ cs) h k (inr m) = inr (number_there t n ty c cs h k.1 m)

pub standing_distinct : (t : TypedProgram) (n : ℕ) (cs : List Column) → AreStanding t n cs → AreDistinct cs → AreDistinct (numbers_in (frame_at t n) cs)
standing_distinct t n [] h d = tt
standing_distinct t n (c ∷ cs) h d = (λ m. d.0 (number_there t n h.0.0 c cs h.0.1 h.1 m), standing_distinct t n cs h.1 d.1)

pub targets_stand : (t : TypedProgram) (n : ℕ) (vs : List VarInfo) (cs : List Column) → AreTargets t n vs cs → AreStanding t n cs
targets_stand t n [] [] h = tt
targets_stand t n [] (c ∷ cs) h = absurd h
targets_stand t n (v ∷ vs) [] h = absurd h
targets_stand t n (v ∷ vs) (c ∷ cs) h = ((v.ty, target_stands t n v.ty c h.0), targets_stand t n vs cs h.1)

-- ---- what a call without body writes

-- a modified global varies
abbrev pub AreVarying : TypedProgram → List ℕ → Type 0
AreVarying t gs = AllByRecursion (λ g. (v : VarInfo) × (slice_get t.globals g ≡ Some v) × (v.constant ≡ false)) gs

modified_written : (t : TypedProgram) (n : ℕ) (gs : List ℕ) → AreVarying t gs → AllByRecursion (MayWrite (frame_at t n)) gs
modified_written t n [] h = tt
modified_written t n (g ∷ gs) h =
    (subst (λ (o : Option (Column × VarInfo)). IsSomeAnd o (λ v. v.1.constant ≡ false)) (sym (global_stands t n g h.0.0 h.0.1)) h.0.2, modified_written t n gs h.1)

modified_new : (t : TypedProgram) (n : ℕ) (gs : List ℕ) → AreVarying t gs → AllByRecursion (λ c. IsOld (frame_at t n) c → ⊥) gs
modified_new t n [] h = tt
modified_new t n (g ∷ gs) h = (
  λ old. (let is : false ≡ true = subst (λ (o : Option (Column × VarInfo)). IsSomeAnd o (λ v. is_old_column v.0 ≡ true)) (global_stands t n g h.0.0 h.0.1) old in false≢true is),
  modified_new t n gs h.1,
)

all_filtered : (P : ℕ → Type 0) (test : ℕ → Bool) (xs : List ℕ) → AllByRecursion P xs → AllByRecursion P (filter test xs)
all_filtered P test [] h = tt
all_filtered P test (x ∷ xs) h = by_test (test x) (all_filtered P test xs h.1)
  where
    by_test : (b : Bool) → AllByRecursion P (filter test xs) → AllByRecursion P (if b then x ∷ filter test xs else filter test xs)
    by_test true k = (h.0, k)
    by_test false k = k

filtered_member : (test : ℕ → Bool) (xs : List ℕ) (y : ℕ) → Member (filter test xs) y → Member xs y × (test y ≡ true)
filtered_member test [] y m = absurd m
filtered_member test (x ∷ xs) y m = by_test (test x) refl (filtered_member test xs y) m
  where
    by_test : (b : Bool) → test x ≡ b → (Member (filter test xs) y → Member xs y × (test y ≡ true)) → Member (if b then x ∷ filter test xs else filter test xs) y → Member (x ∷ xs) y × (test y ≡ true)
    by_test true e f (inl is) = (inl is, ap test (sym is) ∙ e)
    by_test true e f (inr k) = let h = f k in (inr h.0, h.1)
    by_test false e f k = let h = f k in (inr h.0, h.1)

filtered_distinct : (test : ℕ → Bool) (xs : List ℕ) → AreDistinct xs → AreDistinct (filter test xs)
filtered_distinct test [] d = tt
filtered_distinct test (x ∷ xs) d = by_test (test x) (filtered_distinct test xs d.1)
  where
    by_test : (b : Bool) → AreDistinct (filter test xs) → AreDistinct (if b then x ∷ filter test xs else filter test xs)
    by_test true k = (λ m. d.0 (filtered_member test xs x m).0, k)
    by_test false k = k

member_in : (xs : List ℕ) (y : ℕ) → Member xs y → is_listed xs y ≡ true
member_in [] y m = absurd m
member_in (x ∷ xs) y (inl e) = ap (λ (b : Bool). b || is_listed xs y) (ap (λ (z : ℕ). nat_eq x z) (sym e) ∙ eqb-refl x)
member_in (x ∷ xs) y (inr m) = or_true (nat_eq x y) (is_listed xs y) (member_in xs y m)
  where
    or_true : (a b : Bool) → b ≡ true → (a || b) ≡ true
    or_true true b e = refl
    or_true false b e = e

apart_distinct : (xs ys : List ℕ) → AreDistinct xs → AreDistinct ys → ((y : ℕ) → Member xs y → Member ys y → ⊥) → AreDistinct (xs ++ ys)
apart_distinct [] ys d e f = e
apart_distinct (x ∷ xs) ys d e f = (λ m. elim (member_either xs ys x m) [ inl k ↦ d.0 k | inr k ↦ f x (inl refl) k ], apart_distinct xs ys d.1 e (λ y k m. f y (inr k) m))
  where
    member_either : (xs ys : List ℕ) (x : ℕ) → Member (xs ++ ys) x → Member xs x ⊎ Member ys x
    member_either [] ys x m = inr m
    member_either (y ∷ xs) ys x (inl e) = inl (inl e)
    member_either (y ∷ xs) ys x (inr m) = elim (member_either xs ys x m) [ inl h ↦ inl (inr h) | inr h ↦ inr h ]

pub import_may_write : (t : TypedProgram) (n : ℕ) (modified : List ℕ) (cs : List Column) → AreVarying t modified → AreStanding t n cs →
    AllByRecursion (MayWrite (frame_at t n)) (import_written modified (numbers_in (frame_at t n) cs))
import_may_write t n modified cs h k =
    all_append (MayWrite (frame_at t n)) modified (those_not_in modified (numbers_in (frame_at t n) cs)) (modified_written t n modified h)
    (all_filtered (MayWrite (frame_at t n)) (λ c. not (is_listed modified c)) (numbers_in (frame_at t n) cs) (standing_written t n cs k))

pub import_new : (t : TypedProgram) (n : ℕ) (modified : List ℕ) (cs : List Column) → AreVarying t modified → AreStanding t n cs →
    AllByRecursion (λ c. IsOld (frame_at t n) c → ⊥) (import_written modified (numbers_in (frame_at t n) cs))
import_new t n modified cs h k =
    all_append (λ c. IsOld (frame_at t n) c → ⊥) modified (those_not_in modified (numbers_in (frame_at t n) cs)) (modified_new t n modified h)
    (all_filtered (λ c. IsOld (frame_at t n) c → ⊥) (λ c. not (is_listed modified c)) (numbers_in (frame_at t n) cs) (standing_new t n cs k))

pub import_distinct : (t : TypedProgram) (n : ℕ) (modified : List ℕ) (cs : List Column) → AreDistinct modified → AreStanding t n cs → AreDistinct cs →
    AreDistinct (import_written modified (numbers_in (frame_at t n) cs))
import_distinct t n modified cs m k d =
    let test : ℕ → Bool = λ c. not (is_listed modified c) in
    apart_distinct modified (filter test (numbers_in (frame_at t n) cs)) m (filtered_distinct test (numbers_in (frame_at t n) cs) (standing_distinct t n cs k d))
    (λ y i j. not_both (is_listed modified y) (member_in modified y i) (filtered_member test (numbers_in (frame_at t n) cs) y j).1)
