-- The columns of a frame stand for themselves.
use Rattle.std.proofs.Common.{◌≡◌, ℕ, zero, suc, ◌+◌, ◌<◌, Bool, true, false, ℤ, List, [], ◌∷◌, length, Option, None, Some, if◌then◌else◌, refl, sym, ◌∙◌, ap, subst, arith}
use Rattle.std.specs.Prelude.{slice_get}
use Rattle.std.specs.Option.{option_map}
use Rattle.std.proofs.lemmas.Bool.{eqb-true, false≢true}
use Rattle.boogie_tree.specs.declared.tree.Ty.{Ty}
use Rattle.boogie_tree.specs.declared.tree.Ty.TheVariants as types
use Rattle.boogie_tree.specs.declared.tree.Column.{Column}
use Rattle.boogie_tree.specs.declared.tree.Column.TheVariants as columns
use Rattle.boogie_tree.specs.declared.tree.VarInfo.{VarInfo}
use Rattle.typed_tree.specs.Values.{State, column_value, at_entry, member}
use Rattle.typed_tree.specs.Laws.{IsTruth}
use Rattle.lin_rows.specs.Points.{point_of}
use Rattle.letter_acts.specs.Frames.{Columns, IsState, IsValue}
use Rattle.cond_jumps.specs.Conjunctions.{Just}
use Rattle.cond_jumps.specs.Forms.{column}
use Rattle.cond_jumps.specs.Comparisons.{truth_of_column}
use Rattle.cond_jumps.specs.Frames.{same_frame_column, place_from, or_else, if_constant, is_constant_place, fixed_in, column_place_in, linear_at, plan_at, frame_environment, IsShown}
use Rattle.cond_jumps.specs.Worth.{IsSum, IsChoice, Shows}
use Rattle.cond_jumps.proofs.FormLemmas.{column_sum}
use Rattle.cond_jumps.proofs.ComparisonLemmas.{named_path}

pub same_column_is : (c d : Column) → same_frame_column c d ≡ true → c ≡ d
same_column_is (columns.Global m) (columns.Global n) e = ap columns.Global (eqb-true m n e)
same_column_is (columns.Global m) (columns.Old n) e = absurd (false≢true e)
same_column_is (columns.Global m) (columns.Local n) e = absurd (false≢true e)
same_column_is (columns.Old m) (columns.Global n) e = absurd (false≢true e)
same_column_is (columns.Old m) (columns.Old n) e = ap columns.Old (eqb-true m n e)
same_column_is (columns.Old m) (columns.Local n) e = absurd (false≢true e)
same_column_is (columns.Local m) (columns.Global n) e = absurd (false≢true e)
same_column_is (columns.Local m) (columns.Old n) e = absurd (false≢true e)
same_column_is (columns.Local m) (columns.Local n) e = ap columns.Local (eqb-true m n e)

-- a place that was found: the column stands there
pub record IsFound (k : ℕ) (frame : Columns) (c : Column) (x : ℕ × VarInfo) : Type 0 where
  pub index : ℕ
  pub at : x.0 ≡ k + index
  pub stands : slice_get frame index ≡ Some (c, x.1)
  pub inside : index < length frame

pub found_from : (k : ℕ) (frame : Columns) (c : Column) (x : ℕ × VarInfo) → place_from k frame c ≡ Some x → IsFound k frame c x
found_from k [] c x e = absurd (cc)
found_from k (d ∷ ds) c x e = by_test (same_frame_column d.0 c) refl (found_from (suc k) ds c x) e
  where
    by_test : (b : Bool) → same_frame_column d.0 c ≡ b → (place_from (suc k) ds c ≡ Some x → IsFound (suc k) ds c x) →
        (if b then Some (k, d.1) else place_from (suc k) ds c) ≡ Some x → IsFound k (d ∷ ds) c x
    by_test true f h g =
        let i : k ≡ x.0 = cc in
        let j : d.1 ≡ x.1 = cc in
        let l : d.0 ≡ c = same_column_is d.0 c f in
        record { index = 0; at = omega arith; stands = (λ y. Some (l y, j y)); inside = omega arith }
    by_test false f h g =
        let r = h g in
        let a : x.0 ≡ suc k + r.index = r.at in
        let b : r.index < length ds = r.inside in
        record { index = suc r.index; at = omega arith; stands = r.stands; inside = omega arith }

-- the value at a place of a state
pub value_at : (frame : Columns) (values : List ℤ) (n : ℕ) (d : Column × VarInfo) → IsState frame values → slice_get frame n ≡ Some d → IsValue d.1.ty (point_of values n)
value_at [] values n d h e = absurd (cc)
value_at (f ∷ frame) [] n d h e = absurd h
value_at (f ∷ frame) (v ∷ vs) zero d h e =
    let g : f ≡ d = cc in
    let P : Column × VarInfo → Type 0 = λ x. IsValue x.1.ty v in
    subst P g h.0
value_at (f ∷ frame) (v ∷ vs) (suc n) d h e = value_at frame vs n d h.1 e

-- what a place says of a state that is shown: it is inside, and has the column's value
pub record IsPlaced (frame : Columns) (s : State) (values : List ℤ) (c : Column) (x : ℕ × VarInfo) : Type 0 where
  pub inside : x.0 < length frame
  pub value_is : point_of values x.0 ≡ column_value s c
  pub typed : IsValue x.1.ty (column_value s c)

placed_at : (frame : Columns) (s : State) (values : List ℤ) (c : Column) (x : ℕ × VarInfo) → IsShown frame s values → IsFound 0 frame c x → IsPlaced frame s values c x
placed_at frame s values c x h f =
    let i : x.0 ≡ f.index = (let a : x.0 ≡ 0 + f.index = f.at in omega arith) in
    let l : f.index < length frame = f.inside in
    let e : point_of values f.index ≡ column_value s c = h.present f.index (c, x.1) f.stands in
    let t : IsValue x.1.ty (point_of values f.index) = value_at frame values f.index (c, x.1) h.state f.stands in
    record {
      inside = omega arith;
      value_is = ap (point_of values) i ∙ e;
      typed = (let P : ℤ → Type 0 = λ z. IsValue x.1.ty z in subst P e t);
    }

-- an old column that stands in the frame, or a constant
placed_old : (frame : Columns) (s : State) (values : List ℤ) (n : ℕ) (x : ℕ × VarInfo) (a b : Option (ℕ × VarInfo)) → IsShown frame s values →
    place_from 0 frame (columns.Old n) ≡ a → place_from 0 frame (columns.Global n) ≡ b → or_else a (if_constant b) ≡ Some x → IsPlaced frame s values (columns.Old n) x
placed_old frame s values n x (Some y) b h f g e = placed_at frame s values (columns.Old n) x h (found_from 0 frame (columns.Old n) x (f ∙ e))
placed_old frame s values n x None None h f g e = absurd (cc)
placed_old frame s values n x None (Some y) h f g e = by_test y.1.constant refl e
  where
    by_test : (b : Bool) → y.1.constant ≡ b → (if b then Some y else None) ≡ Some x → IsPlaced frame s values (columns.Old n) x
    by_test false k d = absurd (cc)
    by_test true k d =
        let i : IsFound 0 frame (columns.Global n) x = found_from 0 frame (columns.Global n) x (g ∙ d) in
        let r = placed_at frame s values (columns.Global n) x h i in
        let c : x.1.constant ≡ true = (let u : y ≡ x = cc in ap (λ (z : ℕ × VarInfo). z.1.constant) (sym u) ∙ k) in
        let o : member s.old n ≡ member s.globals n = h.constants i.index n x.1 i.stands c in
        record {
          inside = r.inside;
          value_is = r.value_is ∙ sym o;
          typed = (let P : ℤ → Type 0 = λ z. IsValue x.1.ty z in subst P (sym o) r.typed);
        }

pub placed : (frame : Columns) (s : State) (values : List ℤ) (c : Column) (x : ℕ × VarInfo) → IsShown frame s values → column_place_in frame c ≡ Some x → IsPlaced frame s values c x
placed frame s values (columns.Global n) x h e = placed_at frame s values (columns.Global n) x h (found_from 0 frame (columns.Global n) x e)
placed frame s values (columns.Old n) x h e = placed_old frame s values n x (place_from 0 frame (columns.Old n)) (place_from 0 frame (columns.Global n)) h refl refl e
placed frame s values (columns.Local n) x h e = placed_at frame s values (columns.Local n) x h (found_from 0 frame (columns.Local n) x e)

-- a numbered column that has a truth value
pub named_choice : (w : ℕ) (p : ℕ → ℤ) (c : ℕ) (v : ℤ) → c < w → p c ≡ v → IsTruth v → IsChoice w p (λ want. Just (truth_of_column c want)) v
named_choice w p c v l e t = record { truth_value = t; path = λ want. named_path w p c want v l e }

is_truth_value : (t : Ty) (v : ℤ) → t ≡ types.Bool → IsValue t v → IsTruth v
is_truth_value types.Int v e h = absurd (cc)
is_truth_value types.Bool v e h = h

-- Where the values are shown, what stands for the columns of the frame has their values.
pub frame_shows : (frame : Columns) (s : State) (values : List ℤ) → IsShown frame s values → Shows (length frame) (point_of values) (frame_environment frame) s
frame_shows frame s values h =
    record {
      constants = λ c e. constant_stays c e;
      sums = λ c t. sum_of_place c (column_place_in frame c) refl t;
      choices = λ c t. choice_of_place c (column_place_in frame c) refl t;
    }
  where
    of_place : (n : ℕ) (o : Option (ℕ × VarInfo)) → place_from 0 frame (columns.Global n) ≡ o → is_constant_place o ≡ true → member s.old n ≡ member s.globals n
    of_place n None e k = absurd (false≢true k)
    of_place n (Some x) e k = let i = found_from 0 frame (columns.Global n) x e in h.constants i.index n x.1 i.stands k

    constant_stays : (c : Column) → fixed_in frame c ≡ true → column_value (at_entry s) c ≡ column_value s c
    constant_stays (columns.Global n) e = of_place n (place_from 0 frame (columns.Global n)) refl e
    constant_stays (columns.Old n) e = absurd (false≢true e)
    constant_stays (columns.Local n) e = absurd (false≢true e)

    sum_of_place : (c : Column) (o : Option (ℕ × VarInfo)) → column_place_in frame c ≡ o → option_map (λ x. x.1.ty) o ≡ Some types.Int →
        IsSum (length frame) (point_of values) (linear_at o) (column_value s c)
    sum_of_place c None e t = absurd (cc)
    sum_of_place c (Some x) e t =
        let r = placed frame s values c x h e in
        subst (IsSum (length frame) (point_of values) (column x.0)) r.value_is (column_sum (length frame) (point_of values) x.0 r.inside)

    choice_of_place : (c : Column) (o : Option (ℕ × VarInfo)) → column_place_in frame c ≡ o → option_map (λ x. x.1.ty) o ≡ Some types.Bool →
        IsChoice (length frame) (point_of values) (plan_at o) (column_value s c)
    choice_of_place c None e t = absurd (cc)
    choice_of_place c (Some x) e t =
        let r = placed frame s values c x h e in
        let b : x.1.ty ≡ types.Bool = cc in
        named_choice (length frame) (point_of values) x.0 (column_value s c) r.inside r.value_is (is_truth_value x.1.ty (column_value s c) b r.typed)
