-- Systems with the row `0 <= -1`: the leaf of that row refutes them.
use Rattle.std.proofs.Common.{◌≡◌, ◌∙◌, ℕ, zero, suc, ◌<◌, ◌^◌, true, ℤ, pos, negsuc, ◌+ℤ◌, ◌*ℤ◌, ◌<ℤ◌, List, [], ◌∷◌, length, map, get_or, Option, Result, Ok, Err, IfSome, refl, sym, ap, subst, arith, lit<}
use Rattle.std.specs.Prelude.{◌==◌}
use Rattle.std.specs.Result.{OkIff, result_ok}
use Rattle.std.proofs.lemmas.Bool.{eqb-true}
use Rattle.std.proofs.lemmas.List.{length-map}
use Rattle.std.proofs.lemmas.Int.{ints}
use Rattle.math_facts.specs.Fits.{Fits}
use Rattle.math_facts.specs.Terms.{coefficient}
use Rattle.lin_rows.specs.declared.systems.System.{System}
use Rattle.lin_rows.specs.declared.types.RowKind.TheVariants.{Le}
use Rattle.lin_rows.specs.Rows.{LinearRow}
use Rattle.lin_rows.specs.Combinations.{row_at, Multiplies, Contradicts}
use Rattle.lin_rows.specs.Systems.{rows_of}
use Rattle.lin_rows.specs.Tightening.{never, tightened}
use Rattle.farkas_check.specs.Nodes.{leaf}
use Rattle.farkas_check.specs.Trees.{leaf_tree}
use Rattle.int_decide.specs.Answers.{RefutesWithin}
use Rattle.int_decide.proofs.Tight.{tightened_stays, no_content}

pub row_at_map : (f : LinearRow → LinearRow) (rows : List LinearRow) (k : ℕ) → k < length rows → row_at (map f rows) k ≡ f (row_at rows k)
row_at_map f [] k l = absurd (omega arith)
row_at_map f (r ∷ rs) zero l = refl
row_at_map f (r ∷ rs) (suc k) l = row_at_map f rs k (omega arith)

-- the row at a place, by the list's own word
pub row_at_is : (rows : List LinearRow) (k : ℕ) (r : LinearRow) → k < length rows → r ≡ get_or rows k r → row_at rows k ≡ r
row_at_is [] k r l e = absurd (omega arith)
row_at_is (x ∷ xs) zero r l e = sym e
row_at_is (x ∷ xs) (suc k) r l e = row_at_is xs k r (omega arith) e

-- the same where a place is counted with another number of bits
pub false_at : {E : Type 0} (r : Result ℕ E) (rows : List LinearRow) (k : ℕ) (x : LinearRow) (o : Option ℕ) → o ≡ result_ok r → OkIff r (k < 2 ^ 32) k → k < length rows →
    x ≡ get_or rows k x → x ≡ never → IfSome o (λ j. (j < length rows) × (row_at rows j ≡ never))
false_at (Ok v) rows k x o e h l i n =
    subst (λ (p : Option ℕ). IfSome p (λ j. (j < length rows) × (row_at rows j ≡ never))) (sym e)
    (subst (λ (j : ℕ). (j < length rows) × (row_at rows j ≡ never)) (sym h.1) (l, row_at_is rows k x l i ∙ n))
false_at (Err z) rows k x o e h l i n = subst (λ (p : Option ℕ). IfSome p (λ j. (j < length rows) × (row_at rows j ≡ never))) (sym e) tt

-- a row by its parts
pub is_never : (r : LinearRow) (terms : List (ℕ × ℤ)) → (length terms == 0) ≡ true → terms ≡ r.terms → r.kind ≡ Le → r.bound ≡ negsuc 0 → r ≡ never
is_never r [] n t k b = λ i. record { terms = sym t i; kind = k i; bound = b i }
is_never r (x ∷ xs) n t k b = absurd (let z : suc (length xs) ≡ 0 = eqb-true (suc (length xs)) 0 n in omega (arith, z))

-- the numbers of a sum with the row taken once
abbrev NumberFits : ℤ → Type 0
NumberFits z = Fits (pos 1 *ℤ z) × Fits (pos 0 +ℤ (pos 1 *ℤ z)) × Unit {0}

one_never : (rows : List LinearRow) (k : ℕ) → k < length rows → row_at rows k ≡ never → Contradicts rows ((k, pos 1) ∷ [])
one_never rows k l e = record {
  ascends = (omega arith, tt);
  each = (record { exists = l; multiplies = subst (λ (r : LinearRow). Multiplies (pos 1) r.kind) (sym e) (omega (arith, ints)) }, tt);
  multipliers_fit = (lit< tt, tt);
  columns_fit = λ c. subst (λ (r : LinearRow). NumberFits (coefficient c r.terms)) (sym e) (lit< tt, lit< tt, tt);
  bound_fits = subst (λ (r : LinearRow). NumberFits r.bound) (sym e) (lit< tt, lit< tt, tt);
  columns_vanish = λ c. subst (λ (r : LinearRow). (pos 1 *ℤ coefficient c r.terms) +ℤ pos 0 ≡ pos 0) (sym e) refl;
  bound_negative = subst (λ (r : LinearRow). ((pos 1 *ℤ r.bound) +ℤ pos 0) <ℤ pos 0) (sym e) (omega (arith, ints));
}

-- the leaf of the row refutes the system
pub never_refutes : (s : System) (k : ℕ) → k < length (rows_of s) → row_at (rows_of s) k ≡ never → RefutesWithin 0 s (leaf ((k, pos 1) ∷ []) ∷ [])
never_refutes s k l e =
    let tight : row_at (map tightened (rows_of s)) k ≡ never = row_at_map tightened (rows_of s) k l ∙ ap tightened e ∙ tightened_stays never no_content in
    record {
      refutes = (one_never (map tightened (rows_of s)) k (subst (λ (n : ℕ). k < n) (sym (length-map (rows_of s) tightened)) l) tight, tt);
      tree = record { tree = leaf_tree ((k, pos 1) ∷ []); prefix = refl; few_cuts = omega arith };
    }
