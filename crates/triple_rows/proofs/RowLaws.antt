-- The other rows of a triple's system: columns that are equal, and the bounds of booleans.
use Rattle.std.proofs.Common.{◌≡◌, ◌↔◌, ◌⊎◌, ℕ, zero, suc, ◌+◌, ℤ, ◌+ℤ◌, ◌*ℤ◌, ◌≤ℤ◌, List, [], ◌∷◌, Option, Some, refl, sym, subst, arith}
use Rattle.std.specs.Prelude.{map, slice_get}
use Rattle.std.specs.List.{AllByRecursion}
use Rattle.boogie_tree.specs.declared.tree.Column.{Column}
use Rattle.boogie_tree.specs.declared.tree.VarInfo.{VarInfo}
use Rattle.boogie_tree.specs.declared.tree.Ty.{Ty}
use Rattle.boogie_tree.specs.declared.tree.Ty.TheVariants as types
use Rattle.lin_rows.specs.Rows.{Holds}
use Rattle.letter_acts.specs.Frames.{Columns, IsValue}
use Rattle.letter_acts.specs.Invariant.{type_at}
use Rattle.letter_acts.specs.FrameRows.Rows.{equal_row, bounds_of, bounds, types_of, types_at}
use Rattle.letter_acts.proofs.FrameRows.RowLaws.{equal_holds, IsValueOf, bound_holds}
use Rattle.triple_rows.proofs.ListLaws.{all_joined, all_mapped, all_same, got_map, Image, map_got}

-- ---- equal columns

-- the rows that say so of some columns hold where these are equal in pairs
pub equal_rows : {X : Type 0} (point : ℕ → ℤ) (a b : X → ℕ) (xs : List X) →
    AllByRecursion (Holds point) (map (λ x. equal_row (a x) (b x)) xs) ↔ AllByRecursion (λ x. point (a x) ≡ point (b x)) xs
equal_rows point a b xs =
    let m = all_mapped (Holds point) (λ x. equal_row (a x) (b x)) xs in
    let s = all_same (λ x. Holds point (equal_row (a x) (b x))) (λ x. point (a x) ≡ point (b x)) (λ x. equal_holds point (a x) (b x)) xs in
    (λ h. s.0 (m.0 h), λ h. m.1 (s.1 h))

-- ---- bounds

-- the bounds of the columns from n on hold where these have values of their types
pub record HasTypes (point : ℕ → ℤ) (n : ℕ) (ts : List (Option Ty)) : Type 0 where
  pub each : (i j : ℕ) (t : Option Ty) → j ≡ n + i → slice_get ts i ≡ Some t → IsValueOf t (point j)

pub bounds_heard : (point : ℕ → ℤ) (n : ℕ) (ts : List (Option Ty)) → AllByRecursion (Holds point) (bounds n ts) → HasTypes point n ts
bounds_heard point n [] h = record { each = λ i j t e g. absurd (cc) }
bounds_heard point n (u ∷ ts) h =
    let b = (all_joined (Holds point) (bounds_of n u) (bounds (suc n) ts)).0 h in
    record { each = at ((bound_holds point n u).0 b.0) (bounds_heard point (suc n) ts b.1) }
  where
    at : IsValueOf u (point n) → HasTypes point (suc n) ts → (i j : ℕ) (t : Option Ty) → j ≡ n + i → slice_get (u ∷ ts) i ≡ Some t → IsValueOf t (point j)
    at v r zero j t e g =
        let k : n ≡ j = omega (arith, e) in
        let q : u ≡ t = cc in
        subst (λ (m : ℕ). IsValueOf t (point m)) k (subst (λ (o : Option Ty). IsValueOf o (point n)) q v)
    at v r (suc i) j t e g = r.each i j t (omega (arith, e)) g

pub bounds_said : (point : ℕ → ℤ) (n : ℕ) (ts : List (Option Ty)) → HasTypes point n ts → AllByRecursion (Holds point) (bounds n ts)
bounds_said point n [] h = tt
bounds_said point n (u ∷ ts) h =
    (all_joined (Holds point) (bounds_of n u) (bounds (suc n) ts)).1 (
      (bound_holds point n u).1 (h.each 0 n u (omega arith) refl),
      bounds_said point (suc n) ts (record { each = λ i j t e g. h.each (suc i) j t (omega (arith, e)) g }),
    )

-- the point has a state of the frame at these columns
pub record IsTyped (point : ℕ → ℤ) (to : ℕ → ℕ) (frame : Columns) : Type 0 where
  pub each : (c : ℕ) (v : Column × VarInfo) → slice_get frame c ≡ Some v → IsValue v.1.ty (point (to c))

pub frame_heard : (point : ℕ → ℤ) (n : ℕ) (frame : Columns) → AllByRecursion (Holds point) (bounds n (types_of frame)) → IsTyped point (λ c. n + c) frame
frame_heard point n frame h = record {
  each = λ c v g. (bounds_heard point n (types_of frame) h).each c (n + c) (Some v.1.ty) refl (got_map (λ w. Some w.1.ty) frame c v g);
}

pub frame_said : (point : ℕ → ℤ) (n : ℕ) (frame : Columns) → IsTyped point (λ c. n + c) frame → AllByRecursion (Holds point) (bounds n (types_of frame))
frame_said point n frame h = bounds_said point n (types_of frame) (record {
  each = λ i j t e g. at i j t e (map_got (λ w. Some w.1.ty) frame i t g);
})
  where
    at : (i j : ℕ) (t : Option Ty) → j ≡ n + i → Image {X = Column × VarInfo} {Y = Option Ty} (λ w. Some w.1.ty) frame i t → IsValueOf t (point j)
    at i j t e m =
        subst (λ (k : ℕ). IsValueOf t (point k)) (sym e)
        (subst (λ (o : Option Ty). IsValueOf o (point (n + i))) m.image (h.each i m.of m.there))

-- the written columns, which stand from n on, have values of their types
pub record AreTyped (point : ℕ → ℤ) (n : ℕ) (frame : Columns) (written : List ℕ) : Type 0 where
  pub each : (i j c : ℕ) → j ≡ n + i → slice_get written i ≡ Some c → IsValueOf (type_at frame c) (point j)

pub written_heard : (point : ℕ → ℤ) (n : ℕ) (frame : Columns) (written : List ℕ) → AllByRecursion (Holds point) (bounds n (types_at frame written)) → AreTyped point n frame written
written_heard point n frame written h = record {
  each = λ i j c e g. (bounds_heard point n (types_at frame written) h).each i j (type_at frame c) e (got_map (type_at frame) written i c g);
}

pub written_said : (point : ℕ → ℤ) (n : ℕ) (frame : Columns) (written : List ℕ) → AreTyped point n frame written → AllByRecursion (Holds point) (bounds n (types_at frame written))
written_said point n frame written h = bounds_said point n (types_at frame written) (record {
  each = λ i j t e g. at i j t e (map_got (type_at frame) written i t g);
})
  where
    at : (i j : ℕ) (t : Option Ty) → j ≡ n + i → Image (type_at frame) written i t → IsValueOf t (point j)
    at i j t e m = subst (λ (o : Option Ty). IsValueOf o (point j)) m.image (h.each i j m.of e m.there)
