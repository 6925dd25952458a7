-- Where the rows of a word hold: rows with renamed columns, columns that are equal, and bounds.
use Rattle.std.proofs.Common.{◌≡◌, ◌↔◌, ℕ, zero, suc, ℤ, List, [], ◌∷◌, ◌++◌, length, Option, Some, refl, sym, subst, arith}
use Rattle.std.specs.Prelude.{map, slice_index, slice_set}
use Rattle.std.specs.List.{AllByRecursion}
use Rattle.boogie_tree.specs.declared.tree.Ty.{Ty}
use Rattle.math_facts.specs.Terms.{IsBelow}
use Rattle.math_facts.proofs.TermLaws.{dot_same_points}
use Rattle.lin_rows.specs.Rows.{LinearRow, Stands, Holds}
use Rattle.lin_rows.specs.Points.{point_of}
use Rattle.letter_acts.specs.Frames.{Columns, IsState}
use Rattle.letter_acts.specs.Values.{picked, put_all}
use Rattle.letter_acts.specs.Invariant.{type_at, Take}
use Rattle.letter_acts.specs.FrameRows.Rows.{renamed, bounds_of, bounds, types_of, types_at, columns_from}
use Rattle.letter_acts.proofs.FrameRows.RowLaws.{renamed_holds, equal_holds, IsValueOf, bound_holds}
use Rattle.path_rows.specs.Versions.{entry_rows}
use Rattle.path_rows.specs.Solutions.{read}
use Rattle.path_rows.proofs.ListLemmas.{all_joined, read_at}

-- ---- renamed columns

-- a row whose columns get these names holds at a point where it holds over the values that the point has at the names
renamed_read : (point : ℕ → ℤ) (names : List ℕ) (r : LinearRow) → IsBelow (length names) r.terms →
    Holds point (renamed (slice_index names) r) ↔ Holds (point_of (read point names)) r
renamed_read point names r b =
    subst (λ (z : ℤ). Holds point (renamed (slice_index names) r) ↔ Stands r.kind z r.bound)
    (dot_same_points (λ c. point (slice_index names c)) (point_of (read point names)) (length names) r.terms b (λ c l. sym (read_at point names c l)))
    (renamed_holds point (slice_index names) r)

pub rows_read : (point : ℕ → ℤ) (names : List ℕ) (rows : List LinearRow) → AllByRecursion (λ r. IsBelow (length names) r.terms) rows →
    AllByRecursion (Holds point) (map (renamed (slice_index names)) rows) ↔ AllByRecursion (Holds (point_of (read point names))) rows
rows_read point names [] b = (λ h. tt, λ h. tt)
rows_read point names (r ∷ rows) b =
    let e = renamed_read point names r b.0 in
    let k = rows_read point names rows b.1 in
    (λ h. (e.0 h.0, k.0 h.1), λ h. (e.1 h.0, k.1 h.1))

-- ---- entries

-- entry rows hold where the new columns have the values of the others
pub entries_read : (point : ℕ → ℤ) (n : ℕ) (globals : List ℕ) →
    AllByRecursion (Holds point) (entry_rows n globals) ↔ (read point (columns_from n (length globals)) ≡ read point globals)
entries_read point n [] = (λ h. refl, λ h. tt)
entries_read point n (g ∷ gs) =
    let e = equal_holds point n g in
    let r = entries_read point (suc n) gs in (
      λ h. (let a : point n ≡ point g = e.0 h.0 in let b : read point (columns_from (suc n) (length gs)) ≡ read point gs = r.0 h.1 in cc),
      λ h.
          let a : point n ≡ point g = cc in
          let b : read point (columns_from (suc n) (length gs)) ≡ read point gs = cc in
          (e.1 a, r.1 b),
    )

-- ---- bounds

-- the bounds of new columns hold where the point has a state of these columns there
pub bounds_read : (point : ℕ → ℤ) (n : ℕ) (columns : Columns) →
    AllByRecursion (Holds point) (bounds n (types_of columns)) ↔ IsState columns (read point (columns_from n (length columns)))
bounds_read point n [] = (λ h. tt, λ h. tt)
bounds_read point n (v ∷ vs) =
    let j = all_joined (Holds point) (bounds_of n (Some v.1.ty)) (bounds (suc n) (types_of vs)) in
    let b = bound_holds point n (Some v.1.ty) in
    let r = bounds_read point (suc n) vs in
    (λ h. (b.0 (j.0 h).0, r.0 (j.0 h).1), λ h. j.1 (b.1 h.0, r.1 h.1))

-- the values have the types of these columns of a frame
abbrev pub AreTyped : Columns → List ℕ → List ℤ → Type 0
AreTyped frame [] [] = Unit {0}
AreTyped frame [] (v ∷ vs) = ⊥
AreTyped frame (c ∷ cs) [] = ⊥
AreTyped frame (c ∷ cs) (v ∷ vs) = IsValueOf (type_at frame c) v × AreTyped frame cs vs

pub written_read : (point : ℕ → ℤ) (n : ℕ) (frame : Columns) (written : List ℕ) →
    AllByRecursion (Holds point) (bounds n (types_at frame written)) ↔ AreTyped frame written (read point (columns_from n (length written)))
written_read point n frame [] = (λ h. tt, λ h. tt)
written_read point n frame (c ∷ cs) =
    let j = all_joined (Holds point) (bounds_of n (type_at frame c)) (bounds (suc n) (types_at frame cs)) in
    let b = bound_holds point n (type_at frame c) in
    let r = written_read point (suc n) frame cs in
    (λ h. (b.0 (j.0 h).0, r.0 (j.0 h).1), λ h. j.1 (b.1 h.0, r.1 h.1))

-- ---- states with columns written

set_typed : (frame : Columns) (s : List ℤ) (c : ℕ) (v : ℤ) → IsState frame s → IsValueOf (type_at frame c) v → IsState frame (slice_set s c v)
set_typed [] [] c v h t = tt
set_typed [] (x ∷ s) c v h t = absurd h
set_typed (w ∷ ws) [] c v h t = absurd h
set_typed (w ∷ ws) (x ∷ s) zero v h t = (t, h.1)
set_typed (w ∷ ws) (x ∷ s) (suc c) v h t = (h.0, set_typed ws s c v h.1 t)

pub put_typed : (frame : Columns) (s : List ℤ) (cs : List ℕ) (vs : List ℤ) → IsState frame s → AreTyped frame cs vs → IsState frame (put_all s cs vs)
put_typed frame s [] [] h t = h
put_typed frame s [] (v ∷ vs) h t = absurd t
put_typed frame s (c ∷ cs) [] h t = absurd t
put_typed frame s (c ∷ cs) (v ∷ vs) h t = put_typed frame (slice_set s c v) cs vs (set_typed frame s c v h t.0) t.1

pub value_typed : (frame : Columns) (t : List ℤ) (c : ℕ) → IsState frame t → IsValueOf (type_at frame c) (point_of t c)
value_typed [] [] c h = tt
value_typed [] (x ∷ t) c h = absurd h
value_typed (w ∷ ws) [] c h = absurd h
value_typed (w ∷ ws) (x ∷ t) zero h = h.0
value_typed (w ∷ ws) (x ∷ t) (suc c) h = value_typed ws t c h.1

pub picked_typed : (frame : Columns) (t : List ℤ) (cs : List ℕ) → IsState frame t → AreTyped frame cs (picked t cs)
picked_typed frame t [] h = tt
picked_typed frame t (c ∷ cs) h = (value_typed frame t c h, picked_typed frame t cs h)

-- targets that take results of their types
pub taken_typed : (caller callee : Columns) (s x : List ℤ) (targets results : List ℕ) → IsState caller s → IsState callee x → Take caller callee targets results →
    IsState caller (put_all s targets (picked x results))
taken_typed caller callee s x [] results h g k = h
taken_typed caller callee s x (t ∷ ts) [] h g k = absurd k
taken_typed caller callee s x (t ∷ ts) (r ∷ rs) h g k =
    taken_typed caller callee (slice_set s t (point_of x r)) x ts rs
    (set_typed caller s t (point_of x r) h (subst (λ (o : Option Ty). IsValueOf o (point_of x r)) (sym k.0) (value_typed callee x r g))) g k.1

-- states of columns that are joined
pub states_joined : (xs ys : Columns) (s t : List ℤ) → IsState xs s → IsState ys t → IsState (xs ++ ys) (s ++ t)
states_joined [] ys [] t h g = g
states_joined [] ys (v ∷ s) t h g = absurd h
states_joined (x ∷ xs) ys [] t h g = absurd h
states_joined (x ∷ xs) ys (v ∷ s) t h g = (h.0, states_joined xs ys s t h.1 g)

pub states_split : (xs ys : Columns) (s t : List ℤ) → length s ≡ length xs → IsState (xs ++ ys) (s ++ t) → IsState xs s × IsState ys t
states_split [] ys [] t l h = (tt, h)
states_split [] ys (v ∷ s) t l h = absurd (omega (arith, l))
states_split (x ∷ xs) ys [] t l h = absurd (omega (arith, l))
states_split (x ∷ xs) ys (v ∷ s) t l h =
    let r = states_split xs ys s t (omega (arith, l)) h.1 in
    ((h.0, r.0), r.1)
