-- What stands for the results, one after the other.
use Rattle.std.proofs.Common.{◌≡◌, ℕ, zero, suc, ◌+◌, ◌<◌, List, [], ◌∷◌, ◌++◌, map, length, get_or, take, sym, ◌∙◌, ap, append_assoc, arith}
use Rattle.boogie_tree.specs.declared.tree.Ty.{Ty}
use Rattle.boogie_tree.specs.declared.tree.Ty.TheVariants as types
use Rattle.boogie_tree.specs.declared.tree.VarInfo.{VarInfo}
use Rattle.cond_jumps.proofs.MovingLemmas.{map_append}
use Rattle.lowered_graph.specs.LoweredSteps.Edges.{result_at, results_at, whole_columns}
use Rattle.icfg_lower.specs.declared.call_jumps.standing.Standing.{Standing}
use Rattle.icfg_lower.specs.CallJumps.Ties.Reading.{Stand}
use Rattle.icfg_lower.specs.CallJumps.Ties.Stands.{numbered, stand_of, result_stand}
use Rattle.icfg_lower.proofs.CallJumps.PlaceLemmas.{one_result_more}

pub results_step : (base : ℕ) (written targets : List ℕ) (vs : List VarInfo) (n t : ℕ) (v : VarInfo) (locals pushed args : List Standing) (s : Standing) →
    n < length targets → n < length vs → t ≡ get_or targets n t → v ≡ get_or vs n v → pushed ≡ locals ++ s ∷ [] → stand_of s ≡ result_stand (result_at base written t v) →
    map stand_of locals ≡ map stand_of args ++ map result_stand (results_at base written (take n targets) (take n vs)) →
    map stand_of pushed ≡ map stand_of args ++ map result_stand (results_at base written (take (n + 1) targets) (take (n + 1) vs))
results_step base written targets vs n t v locals pushed args s l m e f p q h =
    let old : List (ℕ × Ty) = results_at base written (take n targets) (take n vs) in
    let one : List (ℕ × Ty) = result_at base written t v ∷ [] in
    ap (map stand_of) p ∙ map_append stand_of locals (s ∷ []) ∙ (λ j. h j ++ q j ∷ [])
    ∙ append_assoc (map stand_of args) (map result_stand old) (map result_stand one)
    ∙ (λ j. map stand_of args ++ sym (map_append result_stand old one) j)
    ∙ (λ j. map stand_of args ++ map result_stand (sym (one_result_more base written targets vs n t v l m e f) j))

-- further results behind the results
pub with_more : (xs : List Stand) (rs ms : List (ℕ × Ty)) → (xs ++ map result_stand rs) ++ map result_stand ms ≡ xs ++ map result_stand (rs ++ ms)
with_more xs rs ms = append_assoc xs (map result_stand rs) (map result_stand ms) ∙ ap (λ (l : List Stand). xs ++ l) (sym (map_append result_stand rs ms))

-- columns of whole numbers, one more
whole_snoc : (n k : ℕ) → whole_columns n (k + 1) ≡ whole_columns n k ++ (n + k, types.Int) ∷ []
whole_snoc n zero = let e : n ≡ n + 0 = omega arith in λ j. (e j, types.Int) ∷ []
whole_snoc n (suc k) =
    let a : suc k + 1 ≡ suc (k + 1) = omega arith in
    let b : suc n + k ≡ n + suc k = omega arith in
    (λ j. whole_columns n (a j)) ∙ ap (λ (l : List (ℕ × Ty)). (n, types.Int) ∷ l) (whole_snoc (suc n) k ∙ (λ j. whole_columns (suc n) k ++ (b j, types.Int) ∷ []))

pub products_step : (first made number : ℕ) (locals old new : List Standing) (s : Standing) → number ≡ first + made → stand_of s ≡ numbered number types.Int → new ≡ old ++ s ∷ [] →
    map stand_of old ≡ map stand_of locals ++ map result_stand (whole_columns first made) → map stand_of new ≡ map stand_of locals ++ map result_stand (whole_columns first (made + 1))
products_step first made number locals old new s n t p h =
    ap (map stand_of) p ∙ map_append stand_of old (s ∷ []) ∙ (λ j. h j ++ (t ∙ (λ i. numbered (n i) types.Int)) j ∷ [])
    ∙ with_more (map stand_of locals) (whole_columns first made) ((first + made, types.Int) ∷ []) ∙ (λ j. map stand_of locals ++ map result_stand (sym (whole_snoc first made) j))
