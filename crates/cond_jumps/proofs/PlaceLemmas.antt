-- The places that the code finds.
use Rattle.std.proofs.Common.{◌≡◌, ℕ, zero, suc, ◌<◌, true, List, [], ◌∷◌, length, get_or, drop, Option, Some, refl, sym, ◌∙◌, ap, subst, arith}
use Rattle.std.specs.Prelude.{slice_get}
use Rattle.std.proofs.Math.Seq.{drop-cons}
use Rattle.boogie_tree.specs.declared.tree.Column.{Column}
use Rattle.boogie_tree.specs.declared.tree.VarInfo.{VarInfo}
use Rattle.letter_acts.specs.Frames.{Columns}
use Rattle.cond_jumps.specs.declared.columns.Spot.{Spot}
use Rattle.cond_jumps.specs.Frames.{same_frame_column, place_from}
use Rattle.cond_jumps.specs.CodeView.{IsPlaceFound, FoundAt}

slice_get_is : {X : Type 0} (xs : List X) (i : ℕ) (d e : X) → slice_get xs i ≡ Some e → get_or xs i d ≡ e
slice_get_is [] i d e h = absurd (cc)
slice_get_is (x ∷ xs) zero d e h = let k : x ≡ e = cc in k
slice_get_is (x ∷ xs) (suc i) d e h = slice_get_is xs i d e h

slice_get_inside : {X : Type 0} (xs : List X) (i : ℕ) → i < length xs → (d : X) × (slice_get xs i ≡ Some d)
slice_get_inside [] i l = absurd (omega arith)
slice_get_inside (x ∷ xs) zero l = (x, refl)
slice_get_inside (x ∷ xs) (suc i) l = slice_get_inside xs i (omega arith)

pub found_here : (columns : Columns) (c : Column) (i : ℕ) (x : Column × VarInfo) → i < length columns → x ≡ get_or columns i x → same_frame_column x.0 c ≡ true →
    place_from i (drop i columns) c ≡ place_from 0 columns c → FoundAt columns c i
found_here columns c i x l e t h =
    let k : drop i columns ≡ x ∷ drop (suc i) columns = drop-cons columns i x l ∙ (λ j. sym e j ∷ drop (suc i) columns) in
    let f : place_from i (x ∷ drop (suc i) columns) c ≡ Some (i, x.1) = (rw t refl) in
    let g : place_from 0 columns c ≡ Some (i, x.1) = sym h ∙ ap (λ (l : Columns). place_from i l c) k ∙ f in
    (l, λ d s. let u : x ≡ d = e ∙ slice_get_is columns i x d s in g ∙ ap (λ (y : Column × VarInfo). Some (i, y.1)) u)

pub place_found : (columns : Columns) (c : Column) (i : ℕ) (p : Spot) → FoundAt columns c i →
    ((d : Column × VarInfo) → slice_get columns i ≡ Some d → (p.number ≡ i) × (p.ty ≡ d.1.ty)) → IsPlaceFound (place_from 0 columns c) (Some p)
place_found columns c i p f h =
    let d = slice_get_inside columns i f.0 in
    let e : place_from 0 columns c ≡ Some (i, d.0.1) = f.1 d.0 d.1 in
    let P : Option (ℕ × VarInfo) → Type 0 = λ o. IsPlaceFound o (Some p) in
    subst P (sym e) (h d.0 d.1)
