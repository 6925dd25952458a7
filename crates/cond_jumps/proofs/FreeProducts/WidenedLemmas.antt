-- A frame with locals for products behind it: what stands for its columns, and its states.
use Rattle.std.proofs.Common.{◌≡◌, ◌⊎◌, inl, inr, ℕ, zero, suc, ◌+◌, ◌-◌, ◌<◌, ◌≤◌, Bool, true, false, ℤ, List, [], ◌∷◌, ◌++◌, length, Option, None, Some, if◌then◌else◌, refl, ap, sym, ◌∙◌, subst, arith}
use Rattle.std.specs.Prelude.{slice_get}
use Rattle.std.specs.Option.{option_map}
use Rattle.std.proofs.lemmas.Bool.{cases_lt, eq-eqb, ne_eqb}
use Rattle.boogie_tree.specs.declared.tree.Column.{Column}
use Rattle.boogie_tree.specs.declared.tree.Column.TheVariants as columns
use Rattle.boogie_tree.specs.declared.tree.Ty.{Ty}
use Rattle.boogie_tree.specs.declared.tree.VarInfo.{VarInfo}
use Rattle.typed_tree.specs.Values.{State, column_value, member}
use Rattle.lin_rows.specs.Points.{point_of}
use Rattle.letter_acts.specs.Frames.{Columns, IsState}
use Rattle.letter_acts.proofs.PointLemmas.{point_of-left, point_of-right, state_length}
use Rattle.cond_jumps.specs.Frames.{same_frame_column, place_from, or_else, if_constant, is_constant_place, fixed_in, frame_environment, IsShown}
use Rattle.cond_jumps.proofs.FrameLemmas.{found_from}
use Rattle.cond_jumps.specs.FreeProducts.FrameLetters.{product_variable, product_columns, widened}
use Rattle.cond_jumps.specs.FreeProducts.FrameLaws.{LocalsBelow, IsWholeState}
use Rattle.cond_jumps.proofs.FreeProducts.FreedLemmas.{AreNumbers, LocalsAre}

-- ---- places

place_in_front : (k : ℕ) (xs ys : Columns) (c : Column) (x : ℕ × VarInfo) → place_from k xs c ≡ Some x → place_from k (xs ++ ys) c ≡ Some x
place_in_front k [] ys c x e = absurd (cc)
place_in_front k (d ∷ ds) ys c x e = by_test (same_frame_column d.0 c) e (λ h. place_in_front (suc k) ds ys c x h)
  where
    by_test : (b : Bool) → (if b then Some (k, d.1) else place_from (suc k) ds c) ≡ Some x → (place_from (suc k) ds c ≡ Some x → place_from (suc k) (ds ++ ys) c ≡ Some x) →
        (if b then Some (k, d.1) else place_from (suc k) (ds ++ ys) c) ≡ Some x
    by_test true e h = e
    by_test false e h = h e

place_behind : (k j : ℕ) (xs ys : Columns) (c : Column) → j ≡ k + length xs → place_from k xs c ≡ None → place_from k (xs ++ ys) c ≡ place_from j ys c
place_behind k j [] ys c l e = let g : k ≡ j = omega (arith, l) in ap (λ (i : ℕ). place_from i ys c) g
place_behind k j (d ∷ ds) ys c l e = by_test (same_frame_column d.0 c) e (λ h. place_behind (suc k) j ds ys c (omega (arith, l)) h)
  where
    by_test : (b : Bool) → (if b then Some (k, d.1) else place_from (suc k) ds c) ≡ None → (place_from (suc k) ds c ≡ None → place_from (suc k) (ds ++ ys) c ≡ place_from j ys c) →
        (if b then Some (k, d.1) else place_from (suc k) (ds ++ ys) c) ≡ place_from j ys c
    by_test true e h = absurd (cc)
    by_test false e h = h e

no_global : (k m count n : ℕ) → place_from k (product_columns m count) (columns.Global n) ≡ None
no_global k m zero n = refl
no_global k m (suc count) n = no_global (suc k) (suc m) count n

no_old : (k m count n : ℕ) → place_from k (product_columns m count) (columns.Old n) ≡ None
no_old k m zero n = refl
no_old k m (suc count) n = no_old (suc k) (suc m) count n

product_place : (k m count i n : ℕ) → i < count → n ≡ m + i → place_from k (product_columns m count) (columns.Local n) ≡ Some (k + i, product_variable)
product_place k m zero i n l e = absurd (omega arith)
product_place k m (suc count) zero n l e =
    let f : m ≡ n = omega (arith, e) in
    let g : k ≡ k + 0 = omega arith in
    ap (λ (b : Bool). if b then Some (k, product_variable) else place_from (suc k) (product_columns (suc m) count) (columns.Local n)) (eq-eqb m n f) ∙
    ap (λ (j : ℕ). Some (j, product_variable)) g
product_place k m (suc count) (suc i) n l e =
    let g : suc k + i ≡ k + suc i = omega arith in
    ap (λ (b : Bool). if b then Some (k, product_variable) else place_from (suc k) (product_columns (suc m) count) (columns.Local n)) (ne_eqb m n (λ f. omega (arith, e, f))) ∙
    product_place (suc k) (suc m) count i n (omega arith) (omega (arith, e)) ∙ ap (λ (j : ℕ). Some (j, product_variable)) g

-- a global stands where it stood
pub global_place : (frame : Columns) (m count n : ℕ) → place_from 0 (widened frame m count) (columns.Global n) ≡ place_from 0 frame (columns.Global n)
global_place frame m count n = by_place (place_from 0 frame (columns.Global n)) refl
  where
    by_place : (o : Option (ℕ × VarInfo)) → place_from 0 frame (columns.Global n) ≡ o → place_from 0 (frame ++ product_columns m count) (columns.Global n) ≡ o
    by_place (Some x) e = place_in_front 0 frame (product_columns m count) (columns.Global n) x e
    by_place None e = place_behind 0 (length frame) frame (product_columns m count) (columns.Global n) (omega arith) e ∙ no_global (length frame) m count n

old_place : (frame : Columns) (m count n : ℕ) → place_from 0 (widened frame m count) (columns.Old n) ≡ place_from 0 frame (columns.Old n)
old_place frame m count n = by_place (place_from 0 frame (columns.Old n)) refl
  where
    by_place : (o : Option (ℕ × VarInfo)) → place_from 0 frame (columns.Old n) ≡ o → place_from 0 (frame ++ product_columns m count) (columns.Old n) ≡ o
    by_place (Some x) e = place_in_front 0 frame (product_columns m count) (columns.Old n) x e
    by_place None e = place_behind 0 (length frame) frame (product_columns m count) (columns.Old n) (omega arith) e ∙ no_old (length frame) m count n

-- the local of a product stands behind the frame
pub new_place : (frame : Columns) (m count i : ℕ) → LocalsBelow m frame → i < count → place_from 0 (widened frame m count) (columns.Local (m + i)) ≡ Some (length frame + i, product_variable)
new_place frame m count i h l = by_place (place_from 0 frame (columns.Local (m + i))) refl
  where
    by_place : (o : Option (ℕ × VarInfo)) → place_from 0 frame (columns.Local (m + i)) ≡ o →
        place_from 0 (frame ++ product_columns m count) (columns.Local (m + i)) ≡ Some (length frame + i, product_variable)
    by_place (Some x) e =
        let f = found_from 0 frame (columns.Local (m + i)) x e in
        let g : m + i < m = h f.index (m + i) x.1 f.stands in
        absurd (omega (arith, g))
    by_place None e =
        place_behind 0 (length frame) frame (product_columns m count) (columns.Local (m + i)) (omega arith) e ∙ product_place (length frame) m count i (m + i) l refl

-- ---- what stands for the columns

pub same_fixed : (frame : Columns) (m count : ℕ) → fixed_in (widened frame m count) ≡ fixed_in frame
same_fixed frame m count = λ i c. at_column c i
  where
    at_column : (c : Column) → fixed_in (widened frame m count) c ≡ fixed_in frame c
    at_column (columns.Global n) = ap is_constant_place (global_place frame m count n)
    at_column (columns.Old n) = refl
    at_column (columns.Local n) = refl

pub same_type_in : (frame : Columns) (m count : ℕ) (c : Column) (t : Ty) → (frame_environment frame).type c ≡ Some t → (frame_environment (widened frame m count)).type c ≡ Some t
same_type_in frame m count (columns.Global n) t e = ap (option_map (λ (x : ℕ × VarInfo). x.1.ty)) (global_place frame m count n) ∙ e
same_type_in frame m count (columns.Old n) t e =
    ap (option_map (λ (x : ℕ × VarInfo). x.1.ty)) (λ i. or_else (old_place frame m count n i) (if_constant (global_place frame m count n i))) ∙ e
same_type_in frame m count (columns.Local n) t e = by_place (place_from 0 frame (columns.Local n)) refl e
  where
    by_place : (o : Option (ℕ × VarInfo)) → place_from 0 frame (columns.Local n) ≡ o → option_map (λ (x : ℕ × VarInfo). x.1.ty) o ≡ Some t →
        option_map (λ (x : ℕ × VarInfo). x.1.ty) (place_from 0 (frame ++ product_columns m count) (columns.Local n)) ≡ Some t
    by_place None f g = absurd (cc)
    by_place (Some x) f g = ap (option_map (λ (x : ℕ × VarInfo). x.1.ty)) (place_in_front 0 frame (product_columns m count) (columns.Local n) x f) ∙ g

pub are_numbers : (frame : Columns) (m count : ℕ) → LocalsBelow m frame → AreNumbers (frame_environment (widened frame m count)) m count
are_numbers frame m count h = λ i l. ap (option_map (λ (x : ℕ × VarInfo). x.1.ty)) (new_place frame m count i h l)

-- ---- states

-- the state with further locals
abbrev pub grown : State → List ℤ → State
grown s vs = record { globals = s.globals; old = s.old; locals = s.locals ++ vs }

pub member-left : (xs ys : List ℤ) (n : ℕ) → n < length xs → member (xs ++ ys) n ≡ member xs n
member-left [] ys n l = absurd (omega arith)
member-left (x ∷ xs) ys zero l = refl
member-left (x ∷ xs) ys (suc n) l = member-left xs ys n (omega arith)

pub member-right : (xs ys : List ℤ) (n i : ℕ) → n ≡ length xs + i → member (xs ++ ys) n ≡ member ys i
member-right [] ys n i e = let f : n ≡ i = omega (arith, e) in ap (member ys) f
member-right (x ∷ xs) ys zero i e = absurd (omega (arith, e))
member-right (x ∷ xs) ys (suc n) i e = member-right xs ys n i (omega (arith, e))

pub locals_from_members : (locals : List ℤ) (n : ℕ) (zs : List ℤ) → ((i : ℕ) → i < length zs → member locals (n + i) ≡ member zs i) → LocalsAre locals n zs
locals_from_members locals n [] h = tt
locals_from_members locals n (z ∷ zs) h =
    let e : n ≡ n + 0 = omega arith in (
      ap (member locals) e ∙ h 0 (omega arith),
      locals_from_members locals (suc n) zs (λ i l. let f : suc n + i ≡ n + suc i = omega arith in ap (member locals) f ∙ h (suc i) (omega arith)),
    )

-- the further locals have their values
pub locals_grown : (xs vs : List ℤ) (n : ℕ) → n ≡ length xs → LocalsAre (xs ++ vs) n vs
locals_grown xs vs n e = locals_from_members (xs ++ vs) n vs (λ i l. member-right xs vs (n + i) i (omega (arith, e)))

-- a column that stands in the frame has the value that it had
pub same_column_value : (frame : Columns) (s : State) (vs : List ℤ) → LocalsBelow (length s.locals) frame → (c : Column) (t : Ty) → (frame_environment frame).type c ≡ Some t →
    column_value (grown s vs) c ≡ column_value s c
same_column_value frame s vs h (columns.Global n) t e = refl
same_column_value frame s vs h (columns.Old n) t e = refl
same_column_value frame s vs h (columns.Local n) t e = by_place (place_from 0 frame (columns.Local n)) refl e
  where
    by_place : (o : Option (ℕ × VarInfo)) → place_from 0 frame (columns.Local n) ≡ o → option_map (λ (x : ℕ × VarInfo). x.1.ty) o ≡ Some t → member (s.locals ++ vs) n ≡ member s.locals n
    by_place None f g = absurd (cc)
    by_place (Some x) f g =
        let i = found_from 0 frame (columns.Local n) x f in
        member-left s.locals vs n (h i.index n x.1 i.stands)

-- ---- the values of a state with further locals

products_state : (m : ℕ) (vs : List ℤ) → IsState (product_columns m (length vs)) vs
products_state m [] = tt
products_state m (v ∷ vs) = (tt, products_state (suc m) vs)

state_append : (xs ys : Columns) (us vs : List ℤ) → IsState xs us → IsState ys vs → IsState (xs ++ ys) (us ++ vs)
state_append [] ys [] vs h k = k
state_append [] ys (u ∷ us) vs h k = absurd h
state_append (x ∷ xs) ys [] vs h k = absurd h
state_append (x ∷ xs) ys (u ∷ us) vs h k = (h.0, state_append xs ys us vs h.1 k)

get_left : {X : Type 0} (xs ys : List X) (n : ℕ) → n < length xs → slice_get (xs ++ ys) n ≡ slice_get xs n
get_left [] ys n l = absurd (omega arith)
get_left (x ∷ xs) ys zero l = refl
get_left (x ∷ xs) ys (suc n) l = get_left xs ys n (omega arith)

get_right : {X : Type 0} (xs ys : List X) (n i : ℕ) → n ≡ length xs + i → slice_get (xs ++ ys) n ≡ slice_get ys i
get_right [] ys n i e = let f : n ≡ i = omega (arith, e) in ap (slice_get ys) f
get_right (x ∷ xs) ys zero i e = absurd (omega (arith, e))
get_right (x ∷ xs) ys (suc n) i e = get_right xs ys n i (omega (arith, e))

product_at : (m count i : ℕ) (d : Column × VarInfo) → slice_get (product_columns m count) i ≡ Some d → d.0 ≡ columns.Local (m + i)
product_at m zero i d e = absurd (cc)
product_at m (suc count) zero d e =
    let f : m ≡ m + 0 = omega arith in
    let g : (columns.Local m, product_variable) ≡ d = cc in
    sym (ap (λ (x : Column × VarInfo). x.0) g) ∙ ap columns.Local f
product_at m (suc count) (suc i) d e = let f : suc m + i ≡ m + suc i = omega arith in product_at (suc m) count i d e ∙ ap columns.Local f

pub shown_widened : (frame : Columns) (s : State) (values vs : List ℤ) (count : ℕ) → length vs ≡ count → IsWholeState frame s values →
    IsShown (widened frame (length s.locals) count) (grown s vs) (values ++ vs)
shown_widened frame s values vs count e h = subst (λ (k : ℕ). IsShown (widened frame (length s.locals) k) (grown s vs) (values ++ vs)) e own
  where
    m : ℕ
    m = length s.locals

    width : length values ≡ length frame
    width = state_length frame values h.shown.state

    in_front : (n : ℕ) (d : Column × VarInfo) → slice_get (frame ++ product_columns m (length vs)) n ≡ Some d → n < length frame → point_of (values ++ vs) n ≡ column_value (grown s vs) d.0
    in_front n (columns.Global g, v) k l =
        point_of-left values vs n (let w = width in omega (arith, l, w)) ∙ h.shown.present n (columns.Global g, v) (sym (get_left frame (product_columns m (length vs)) n l) ∙ k)
    in_front n (columns.Old g, v) k l =
        point_of-left values vs n (let w = width in omega (arith, l, w)) ∙ h.shown.present n (columns.Old g, v) (sym (get_left frame (product_columns m (length vs)) n l) ∙ k)
    in_front n (columns.Local g, v) k l =
        let f : slice_get frame n ≡ Some (columns.Local g, v) = sym (get_left frame (product_columns m (length vs)) n l) ∙ k in
        point_of-left values vs n (let w = width in omega (arith, l, w)) ∙ h.shown.present n (columns.Local g, v) f ∙ sym (member-left s.locals vs g (h.locals n g v f))

    behind : (n i : ℕ) (d : Column × VarInfo) → slice_get (frame ++ product_columns m (length vs)) n ≡ Some d → n ≡ length frame + i → point_of (values ++ vs) n ≡ column_value (grown s vs) d.0
    behind n i d k l =
        let f : d.0 ≡ columns.Local (m + i) = product_at m (length vs) i d (sym (get_right frame (product_columns m (length vs)) n i l) ∙ k) in
        point_of-right values vs n i (let w = width in omega (arith, l, w)) ∙ same_point vs i ∙ sym (member-right s.locals vs (m + i) i refl) ∙ ap (column_value (grown s vs)) (sym f)
      where
        same_point : (vs : List ℤ) (i : ℕ) → point_of vs i ≡ member vs i
        same_point [] i = refl
        same_point (v ∷ vs) zero = refl
        same_point (v ∷ vs) (suc i) = same_point vs i

    fixed_at : (n g : ℕ) (v : VarInfo) → slice_get (frame ++ product_columns m (length vs)) n ≡ Some (columns.Global g, v) → v.constant ≡ true → (n < length frame) ⊎ (length frame ≤ n) →
        member s.old g ≡ member s.globals g
    fixed_at n g v k c (inl l) = h.shown.constants n g v (sym (get_left frame (product_columns m (length vs)) n l) ∙ k) c
    fixed_at n g v k c (inr l) =
        let i : ℕ = n - length frame in
        let f : columns.Global g ≡ columns.Local (m + i) = product_at m (length vs) i (columns.Global g, v) (sym (get_right frame (product_columns m (length vs)) n i (omega (arith, l))) ∙ k) in
        absurd (cc)

    at_place : (n : ℕ) (d : Column × VarInfo) → slice_get (frame ++ product_columns m (length vs)) n ≡ Some d → (n < length frame) ⊎ (length frame ≤ n) → point_of (values ++ vs) n ≡ column_value (grown s vs) d.0
    at_place n d k (inl l) = in_front n d k l
    at_place n d k (inr l) = behind n (n - length frame) d k (omega (arith, l))

    own : IsShown (widened frame (length s.locals) (length vs)) (grown s vs) (values ++ vs)
    own = record {
      state = state_append frame (product_columns m (length vs)) values vs h.shown.state (products_state m vs);
      present = λ n d k. at_place n d k (cases_lt n (length frame));
      constants = λ n g v k c. fixed_at n g v k c (cases_lt n (length frame));
    }
