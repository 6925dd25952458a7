-- What the code answers for assignments.
use Rattle.std.proofs.Common.{◌≡◌, ℕ, zero, suc, ◌+◌, ◌-◌, ◌<◌, ◌≤◌, false, List, [], ◌∷◌, map, length, get_or, drop, refl, sym, ◌∙◌, ap, subst, arith}
use Rattle.std.proofs.Math.ListN.{length-drop}
use Rattle.std.proofs.Math.Seq.{drop-cons}
use Rattle.typed_tree.specs.declared.types.TExpr.{TExpr}
use Rattle.typed_tree.specs.TypedView.{expression}
use Rattle.cond_jumps.specs.Conjunctions.{Plan, With}
use Rattle.cond_jumps.specs.Environments.{Environment}
use Rattle.cond_jumps.specs.Moving.{IsEvenPlan, IsEvenEnvironment}
use Rattle.cond_jumps.specs.Paths.{is_truth, paths, linear, gets, assigns}
use Rattle.cond_jumps.proofs.EvenLemmas.{assigns_even}
use Rattle.cond_jumps.proofs.PairAnswers.{IsFault}

-- a column gets the value of an expression of the code
abbrev pub gets_value : Environment → TExpr → ℕ → Plan
gets_value v x j = gets (is_truth v false (expression x)) (paths v false (expression x)) (linear v false (expression x)) j

-- one more value in front
pub assigns_step : (v : Environment) (first place : ℕ) (values : List TExpr) (x : TExpr) → 0 < place → place ≤ length values → x ≡ get_or values (place - 1) x →
    With (gets_value v x (first + (place - 1))) (assigns v (first + place) (map expression (drop place values))) ≡ assigns v (first + (place - 1)) (map expression (drop (place - 1) values))
assigns_step v first place values x l m i =
    let e : suc (place - 1) ≡ place = omega arith in
    let f : suc (first + (place - 1)) ≡ first + place = omega arith in
    let d : drop (place - 1) values ≡ x ∷ drop (suc (place - 1)) values = drop-cons values (place - 1) x (omega arith) ∙ (λ j. sym i j ∷ drop (suc (place - 1)) values) in
    let g : assigns v (first + (place - 1)) (map expression (drop (place - 1) values)) ≡ assigns v (first + (place - 1)) (map expression (x ∷ drop (suc (place - 1)) values)) =
    ap (λ (l : List TExpr). assigns v (first + (place - 1)) (map expression l)) d in
    sym (g ∙ (λ j. With (gets_value v x (first + (place - 1))) (assigns v (f j) (map expression (drop (e j) values)))))

length-map : (xs : List TExpr) → length (map expression xs) ≡ length xs
length-map [] = refl
length-map (x ∷ xs) = ap suc (length-map xs)

-- the columns that are left are even
pub left_even : (v : Environment) (base first place : ℕ) (values : List TExpr) → IsEvenEnvironment base v → first + length values ≤ base → place ≤ length values →
    IsEvenPlan base (assigns v (first + place) (map expression (drop place values)))
left_even v base first place values h l m =
    let a = length-map (drop place values) in
    let b = length-drop place values in
    assigns_even base v h (first + place) (map expression (drop place values)) (omega (arith, a, b))

-- ---- faults

-- a fault of the values that are left is one of all
left_fault : (U : Plan → Type 0) → IsFault U → (v : Environment) (j k : ℕ) (xs : List TExpr) → k ≤ length xs → U (assigns v (j + k) (map expression (drop k xs))) →
    U (assigns v j (map expression xs))
left_fault U i v j zero xs l h =
    let e : j + 0 ≡ j = omega arith in
    let P : ℕ → Type 0 = λ n. U (assigns v n (map expression xs)) in
    subst P e h
left_fault U i v j (suc k) [] l h = absurd (omega (arith, l))
left_fault U i v j (suc k) (x ∷ xs) l h =
    let e : j + suc k ≡ suc j + k = omega arith in
    let P : ℕ → Type 0 = λ n. U (assigns v n (map expression (drop k xs))) in
    i.with_second (gets_value v x j) (assigns v (suc j) (map expression xs)) (left_fault U i v (suc j) k xs (omega (arith, l)) (subst P e h))

-- a fault of one value with those that are left
pub step_fault : (U : Plan → Type 0) → IsFault U → (v : Environment) (first place : ℕ) (values : List TExpr) (x : TExpr) → 0 < place → place ≤ length values → x ≡ get_or values (place - 1) x →
    U (With (gets_value v x (first + (place - 1))) (assigns v (first + place) (map expression (drop place values)))) → U (assigns v first (map expression values))
step_fault U i v first place values x l m e h =
    left_fault U i v first (place - 1) values (omega arith) (subst U (assigns_step v first place values x l m e) h)

-- a fault of one value
pub value_fault : (U : Plan → Type 0) → IsFault U → (v : Environment) (first place : ℕ) (values : List TExpr) (x : TExpr) → 0 < place → place ≤ length values → x ≡ get_or values (place - 1) x →
    U (gets_value v x (first + (place - 1))) → U (assigns v first (map expression values))
value_fault U i v first place values x l m e h =
    step_fault U i v first place values x l m e (i.with_first (gets_value v x (first + (place - 1))) (assigns v (first + place) (map expression (drop place values))) h)
