-- A row holds where its sum stands to its bound, and values are shown one after the other.
use Rattle.std.proofs.Common.{◌≡◌, ℕ, suc, ◌+◌, ◌≤◌, ℤ, pos, ◌*ℤ◌, ◌≤ℤ◌, List, [], ◌∷◌, ◌++◌, length, take, drop, get_or, sym, ◌∙◌, subst, arith}
use Rattle.std.specs.Prelude.{IsTrue, int_le}
use Rattle.std.proofs.lemmas.Int.{ints}
use Rattle.std.proofs.lemmas.List.{take_all}
use Rattle.math_facts.specs.Terms.{dot}
use Rattle.frac.specs.Fractions.{Fraction}
use Rattle.lin_rows.specs.declared.types.RowKind.{RowKind}
use Rattle.lin_rows.specs.declared.types.RowKind.TheVariants.{Le, Eq}
use Rattle.lin_rows.specs.Rows.{LinearRow, Stands}
use Rattle.fm_elim.specs.Worth.{HoldsAt}
use Rattle.int_decide.specs.Ties.Picking.{fixed, IsNearest, ArePicked}
use Rattle.int_decide.proofs.PickedValues.{nearest_picked}

le_from : (a b : ℤ) → IsTrue (int_le a b) → a ≤ℤ b
le_from a b t = grind (arith, ints)

module _ (row : LinearRow) (p : ℕ → ℤ) (d sum bound : ℤ) (s : sum ≡ dot p row.terms) (b : bound ≡ row.bound *ℤ d) where
  pub le_holds : row.kind ≡ Le → IsTrue (int_le sum bound) → HoldsAt d p row
  le_holds k t =
      subst (λ (kind : RowKind). Stands kind (dot p row.terms) (row.bound *ℤ d)) (sym k)
      (subst (λ (z : ℤ). z ≤ℤ (row.bound *ℤ d)) s (subst (λ (z : ℤ). sum ≤ℤ z) b (le_from sum bound t)))

  pub eq_holds : row.kind ≡ Eq → sum ≡ bound → HoldsAt d p row
  eq_holds k e = subst (λ (kind : RowKind). Stands kind (dot p row.terms) (row.bound *ℤ d)) (sym k) (sym s ∙ e ∙ b)

-- a whole value that is nearest, with those after it
pub nearest_goes : (rows new : List LinearRow) (c next : ℕ) (left : List Fraction) (m : ℕ) (f : Fraction) (Q : Type 0) → 1 ≤ length left → f ≡ get_or left 0 f →
    length left ≤ m + 1 → f.den ≡ pos 1 → IsNearest rows c f.num → new ≡ rows ++ fixed c f.num ∷ [] → next ≡ suc c → (ArePicked rows c left → Q) →
    ArePicked new next (take m (drop 1 left)) → Q
nearest_goes rows new c next [] m f Q l g b d n e s i a = absurd (omega (arith, l))
nearest_goes rows new c next (x ∷ xs) m f Q l g b d n e s i a =
    let now : List LinearRow = rows ++ fixed c f.num ∷ [] in
    let r : take m xs ≡ xs = take_all m xs (omega (arith, b)) in
    i (subst (λ (y : Fraction). ArePicked rows c (y ∷ xs)) g
    (nearest_picked rows c f xs d n
    (subst (λ (fs : List Fraction). ArePicked now (suc c) fs) r (subst (λ (k : ℕ). ArePicked now k (take m xs)) s (subst (λ (rs : List LinearRow). ArePicked rs next (take m xs)) e a)))))
