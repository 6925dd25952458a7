-- Assignments: their lists mean that the written columns have the values.
use Rattle.std.proofs.Common.{◌≡◌, ◌⊎◌, inl, inr, ℕ, suc, ◌+◌, ◌<◌, ◌≤◌, Bool, true, false, ℤ, pos, List, [], ◌∷◌, map, length, Some, refl, sym, ◌∙◌, subst, arith}
use Rattle.std.specs.List.{AllByRecursion}
use Rattle.std.proofs.lemmas.Int.{ints}
use Rattle.boogie_tree.specs.declared.tree.Ty.{Ty}
use Rattle.boogie_tree.specs.declared.tree.Ty.TheVariants as types
use Rattle.typed_tree.specs.TypedTree.{TypedExpression}
use Rattle.typed_tree.specs.Values.{State, column_value, value, truth}
use Rattle.typed_tree.specs.AffineForm.{is_linear}
use Rattle.typed_tree.specs.Laws.{IsTruth}
use Rattle.cond_jumps.specs.Conjunctions.{Jumps, Plan, Just, With, listed_plan}
use Rattle.cond_jumps.specs.Forms.{Linears, column}
use Rattle.cond_jumps.specs.Comparisons.{truth_of_column}
use Rattle.cond_jumps.specs.Environments.{Environment, type_in}
use Rattle.cond_jumps.specs.Paths.{linear, is_truth, paths, gets, assigns}
use Rattle.cond_jumps.specs.Meaning.{IsPath}
use Rattle.cond_jumps.specs.Worth.{IsSum, IsChoice, Shows, IsSound, Read}
use Rattle.cond_jumps.proofs.MeaningLemmas.{agrees_less, path_as, path_either, path_both}
use Rattle.cond_jumps.proofs.FormLemmas.{column_sum}
use Rattle.cond_jumps.proofs.ComparisonLemmas.{always_path, named_path, equal_path}
use Rattle.cond_jumps.proofs.LinearLemmas.{linear_form}
use Rattle.cond_jumps.proofs.PathLemmas.{paths_mean}
use Rattle.cond_jumps.proofs.TypeLemmas.{truth_by_type}

-- ---- from a later column on

pub sum_later : (w m : ℕ) (p : ℕ → ℤ) (a : Linears) (v : ℤ) → w ≤ m → IsSum w p a v → IsSum m p a v
sum_later w m p a v l h =
    record { narrow = λ n k. h.narrow n (omega arith); worth = λ n q k s. h.worth n q (omega arith) (agrees_less w m p q l s) }

pub path_later : (w m : ℕ) (p : ℕ → ℤ) (a : Jumps) (P : Type 0) → w ≤ m → IsPath w p a P → IsPath m p a P
path_later w m p a P l h =
    record {
      narrow = λ n k. h.narrow n (omega arith);
      so = λ n q k s x. h.so n q (omega arith) (agrees_less w m p q l s) x;
      back = λ n q k s x. h.back n q (omega arith) (agrees_less w m p q l s) x;
      single = λ n q k s. h.single n q (omega arith) (agrees_less w m p q l s);
    }

pub choice_later : (w m : ℕ) (p : ℕ → ℤ) (a : Bool → Plan) (v : ℤ) → w ≤ m → IsChoice w p a v → IsChoice m p a v
choice_later w m p a v l h =
    record { truth_value = h.truth_value; path = λ want. path_later w m p (listed_plan (a want)) (v ≡ truth want) l (h.path want) }

pub shows_later : (w m : ℕ) (p : ℕ → ℤ) (v : Environment) (s : State) → w ≤ m → Shows w p v s → Shows m p v s
shows_later w m p v s l h =
    record {
      constants = h.constants;
      sums = λ c t. sum_later w m p (v.sum c) (column_value s c) l (h.sums c t);
      choices = λ c t. choice_later w m p (v.plan c) (column_value s c) l (h.choices c t);
    }

-- ---- one column

-- the column has the truth value: both are 1, or both are 0
both_so : (z v : ℤ) → ((v ≡ truth true) × (z ≡ truth true)) ⊎ ((v ≡ truth false) × (z ≡ truth false)) → z ≡ v
both_so z v (inl h) = h.1 ∙ sym h.0
both_so z v (inr h) = h.1 ∙ sym h.0

both_back : (z v : ℤ) → IsTruth v → z ≡ v → ((v ≡ truth true) × (z ≡ truth true)) ⊎ ((v ≡ truth false) × (z ≡ truth false))
both_back z v (inl f) e = inr (f, e ∙ f)
both_back z v (inr f) e = inl (f, e ∙ f)

truth_gets : (m : ℕ) (p : ℕ → ℤ) (a : Bool → Plan) (x : Linears) (j : ℕ) (v : ℤ) → j < m → IsChoice m p a v → IsPath m p (listed_plan (gets true a x j)) (p j ≡ v)
truth_gets m p a x j v l h =
    let P : Bool → Type 0 = λ want. (v ≡ truth want) × (p j ≡ truth want) in
    path_as m p (listed_plan (gets true a x j)) (P true ⊎ P false) (p j ≡ v) (both_so (p j) v) (both_back (p j) v h.truth_value)
    (path_either m p (listed_plan (With (a true) (Just (truth_of_column j true)))) (listed_plan (With (a false) (Just (truth_of_column j false)))) (P true) (P false)
    (λ f g. let e : v ≡ pos 1 = f.0 in let d : v ≡ pos 0 = g.0 in let z : ⊥ = omega (arith, ints) in z)
    (path_both m p (listed_plan (a true)) (truth_of_column j true) (v ≡ truth true) (p j ≡ truth true) (h.path true) (named_path m p j true (p j) l refl))
    (path_both m p (listed_plan (a false)) (truth_of_column j false) (v ≡ truth false) (p j ≡ truth false) (h.path false) (named_path m p j false (p j) l refl)))

sum_gets : (m : ℕ) (p : ℕ → ℤ) (a : Bool → Plan) (x : Linears) (j : ℕ) (v : ℤ) → j < m → IsSum m p x v → IsPath m p (listed_plan (gets false a x j)) (p j ≡ v)
sum_gets m p a x j v l h = equal_path m p (column j) x (p j) v (column_sum m p j l) h

gets_path : (w m : ℕ) (p : ℕ → ℤ) (v : Environment) (s : State) → Shows w p v s → w ≤ m → (e : TypedExpression) (t : Ty) → type_in v false e ≡ Some t → is_linear v.fixed false e ≡ true →
    (j : ℕ) → j < m → IsPath m p (listed_plan (gets (is_truth v false e) (paths v false e) (linear v false e) j)) (p j ≡ value s e)
gets_path w m p v s h l e types.Bool t r j k =
    let P : Bool → Type 0 = λ b. IsPath m p (listed_plan (gets b (paths v false e) (linear v false e) j)) (p j ≡ value s e) in
    subst P (sym (truth_by_type v false e types.Bool t))
    (truth_gets m p (paths v false e) (linear v false e) j (value s e) k (choice_later w m p (paths v false e) (value s e) l (paths_mean w p v s h false e t r)))
gets_path w m p v s h l e types.Int t r j k =
    let P : Bool → Type 0 = λ b. IsPath m p (listed_plan (gets b (paths v false e) (linear v false e) j)) (p j ≡ value s e) in
    subst P (sym (truth_by_type v false e types.Int t))
    (sum_gets m p (paths v false e) (linear v false e) j (value s e) k (sum_later w m p (linear v false e) (value s e) l (linear_form w p v s h false e t r)))

-- ---- several columns

-- Where what stands for the columns has their values, a member of the list of an assignment is met exactly where the
-- columns from j on have the values of the expressions, at most one is met, and its helpers are unique.
pub assigns_mean : (w m : ℕ) (p : ℕ → ℤ) (v : Environment) (s : State) → Shows w p v s → w ≤ m → (es : List TypedExpression) →
    AllByRecursion (IsSound v) es → (j : ℕ) → j + length es ≤ m → IsPath m p (listed_plan (assigns v j es)) (Read p j (map (value s) es))
assigns_mean w m p v s h l [] t j k = always_path m p
assigns_mean w m p v s h l (e ∷ es) t j k =
    path_both m p (listed_plan (gets (is_truth v false e) (paths v false e) (linear v false e) j)) (listed_plan (assigns v (suc j) es)) (p j ≡ value s e) (Read p (suc j) (map (value s) es))
    (gets_path w m p v s h l e t.0.type t.0.typed t.0.linear j (omega arith))
    (assigns_mean w m p v s h l es t.1 (suc j) (omega arith))
