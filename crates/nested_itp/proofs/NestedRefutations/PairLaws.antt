-- Rows of a system that are rows of the word, and rows that no leaf uses: each fits its role.
use Rattle.std.proofs.Common.{◌≡◌, ◌∙◌, ℕ, suc, ◌+◌, List, [], ◌∷◌, ◌++◌, length, map, refl, sym, ap, subst, arith, append_assoc, length-append}
use Rattle.lin_rows.specs.Rows.{LinearRow}
use Rattle.lin_rows.specs.Combinations.{row_at}
use Rattle.letter_acts.specs.FrameRows.Rows.{columns_from}
use Rattle.nested_itp.specs.NestedRefutations.Refutations.{TreeSpot, spare, View}
use Rattle.nested_itp.specs.NestedRefutations.Numbers.{branch_rows}
use Rattle.nested_itp.proofs.NestedRefutations.RowsLaws.{AllPairs}
use Rattle.nested_itp.proofs.NestedRefutations.WayLaws.{RoleFits}

row_behind : (front : List LinearRow) (x : LinearRow) (rest : List LinearRow) → row_at (front ++ x ∷ rest) (length front) ≡ x
row_behind [] x rest = refl
row_behind (y ∷ front) x rest = row_behind front x rest

-- rows of the kinds of a branch's rows from one number on
pub branch_pairs : (v : View) (root : TreeSpot) (all front rows block rest : List LinearRow) → all ≡ front ++ (block ++ rest) → AllPairs (λ r s. r.kind ≡ s.kind) rows block →
    AllPairs (RoleFits v root all) (branch_rows (length front) (length rows)) rows
branch_pairs v root all front [] [] rest e h = tt
branch_pairs v root all front [] (y ∷ block) rest e h = absurd h
branch_pairs v root all front (x ∷ rows) [] rest e h = absurd h
branch_pairs v root all front (x ∷ rows) (y ∷ block) rest e h =
    let n : length all ≡ length front + suc (length (block ++ rest)) = ap (λ (l : List LinearRow). length l) e ∙ length-append front (y ∷ (block ++ rest)) in
    let next : all ≡ (front ++ y ∷ []) ++ (block ++ rest) = e ∙ sym (append_assoc front (y ∷ []) (block ++ rest)) in
    let m : length (front ++ y ∷ []) ≡ suc (length front) = length-append front (y ∷ []) ∙ (let q : length front + length (y ∷ []) ≡ suc (length front) = omega arith in q) in (
      (omega (arith, n), h.0 ∙ ap (λ (r : LinearRow). r.kind) (sym (ap (λ (l : List LinearRow). row_at l (length front)) e ∙ row_behind front y (block ++ rest)))),
      subst (λ (k : ℕ). AllPairs (RoleFits v root all) (branch_rows k (length rows)) rows) m (branch_pairs v root all (front ++ y ∷ []) rows block rest next h.1),
    )

pub spare_pairs : (v : View) (root : TreeSpot) (all : List LinearRow) (k : ℕ) (rows : List LinearRow) → AllPairs (RoleFits v root all) (map (λ r. spare) (columns_from k (length rows))) rows
spare_pairs v root all k [] = tt
spare_pairs v root all k (x ∷ rows) = (tt, spare_pairs v root all (suc k) rows)
