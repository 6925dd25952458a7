-- The columns that a call of a procedure without body chooses, and the conditions at the start of a run.
use Rattle.std.proofs.Common.{◌≡◌, ℕ, zero, suc, ◌+◌, ◌-◌, ◌<◌, ◌≤◌, List, [], ◌∷◌, ◌++◌, length, length-append, map, refl, ap, sym, ◌∙◌, arith, None, Some}
use Rattle.std.specs.Prelude.{slice_get}
use Rattle.std.proofs.lemmas.List.{length-map}
use Rattle.std.proofs.lemmas.Option.{slice_get_read}
use Rattle.std.specs.Prelude.{slice_index_or}
use Rattle.boogie_tree.specs.declared.tree.Column.TheVariants as columns
use Rattle.typed_tree.specs.TypedTree.{TypedProcedure}
use Rattle.boogie_run.specs.BoogiePoints.Actions.{results_from, chosen_columns}

result_at : (n k i : ℕ) → i < k → slice_get (results_from n k) i ≡ Some (columns.Local (n + i))
result_at n zero i h = absurd (omega arith)
result_at n (suc k) zero h = let e : n ≡ n + 0 = omega arith in ap (λ m. Some (columns.Local m)) e
result_at n (suc k) (suc i) h =
    let e : (n + 1) + i ≡ n + suc i = omega arith in
    result_at (n + 1) k i (omega arith) ∙ ap (λ m. Some (columns.Local m)) e

no_result_at : (n k i : ℕ) → k ≤ i → slice_get (results_from n k) i ≡ None
no_result_at n zero i h = refl
no_result_at n (suc k) zero h = absurd (omega arith)
no_result_at n (suc k) (suc i) h = no_result_at (n + 1) k i (omega arith)

pub get_left : {A : Type 0} (xs ys : List A) (n : ℕ) (x : A) → slice_get xs n ≡ Some x → slice_get (xs ++ ys) n ≡ Some x
get_left [] ys n x e = cc
get_left (z ∷ xs) ys zero x e = e
get_left (z ∷ xs) ys (suc n) x e = get_left xs ys n x e

pub get_right : {A : Type 0} (xs ys : List A) (n : ℕ) → length xs ≤ n → slice_get (xs ++ ys) n ≡ slice_get ys (n - length xs)
get_right [] ys n h = let e : n ≡ n - 0 = omega arith in ap (slice_get ys) e
get_right (z ∷ xs) ys zero h = absurd (omega arith)
get_right (z ∷ xs) ys (suc n) h =
    let e : n - length xs ≡ suc n - suc (length xs) = omega arith in
    get_right xs ys n (omega arith) ∙ ap (slice_get ys) e

mapped_at : (gs : List ℕ) (n g : ℕ) → slice_get gs n ≡ Some g → slice_get (map columns.Global gs) n ≡ Some (columns.Global g)
mapped_at [] n g e = cc
mapped_at (h ∷ gs) zero g e = cc
mapped_at (h ∷ gs) (suc n) g e = mapped_at gs n g e

pub chosen_global : (q : TypedProcedure) (n m g : ℕ) → m ≡ length q.modifies → n < m → g ≡ slice_index_or q.modifies n g →
    Some (columns.Global g) ≡ slice_get (chosen_columns q) n
chosen_global q n m g e h k =
    sym (get_left (map columns.Global q.modifies) (results_from q.params q.results) n (columns.Global g) (mapped_at q.modifies n g (slice_get_read q.modifies m n g e h k)))

rest_at : (q : TypedProcedure) (n : ℕ) → length q.modifies ≤ n → slice_get (chosen_columns q) n ≡ slice_get (results_from q.params q.results) (n - length q.modifies)
rest_at q n h =
    let e : length (map columns.Global q.modifies) ≡ length q.modifies = length-map q.modifies columns.Global in
    get_right (map columns.Global q.modifies) (results_from q.params q.results) n (omega arith) ∙ ap (λ m. slice_get (results_from q.params q.results) (n - m)) e

pub chosen_result : (q : TypedProcedure) (n m : ℕ) → m ≡ length q.modifies → m ≤ n → n - m < q.results →
    Some (columns.Local (q.params + (n - m))) ≡ slice_get (chosen_columns q) n
chosen_result q n m e h k =
    sym (rest_at q n (omega arith) ∙ ap (λ (l : ℕ). slice_get (results_from q.params q.results) (n - l)) (sym e) ∙ result_at q.params q.results (n - m) k)

pub nothing_chosen : (q : TypedProcedure) (n m : ℕ) → m ≡ length q.modifies → m ≤ n → q.results ≤ n - m → None ≡ slice_get (chosen_columns q) n
nothing_chosen q n m e h k =
    sym (rest_at q n (omega arith) ∙ ap (λ (l : ℕ). slice_get (results_from q.params q.results) (n - l)) (sym e) ∙ no_result_at q.params q.results (n - m) k)

results_counted : (n k : ℕ) → length (results_from n k) ≡ k
results_counted n zero = refl
results_counted n (suc k) = omega (arith, results_counted (n + 1) k)

pub chosen_counted : (q : TypedProcedure) → length (chosen_columns q) ≡ length q.modifies + q.results
chosen_counted q =
    omega (arith, length-append (map columns.Global q.modifies) (results_from q.params q.results), length-map q.modifies columns.Global, results_counted q.params q.results)
