-- The lists of conditions and assignments from a later helper on are the same lists with their helpers moved.
use Rattle.std.proofs.Common.{◌≡◌, ℕ, suc, ◌+◌, ◌<◌, ◌≤◌, Bool, true, false, not, ℤ, pos, negsuc, ◌+ℤ◌, ◌-ℤ◌, List, [], ◌∷◌, ◌++◌, map, length, Option, None, Some, if◌then◌else◌, refl, sym, ◌∙◌, ap, arith}
use Rattle.math_facts.specs.Terms.{opposite}
use Rattle.lin_rows.specs.declared.types.RowKind.TheVariants.{Le, Eq}
use Rattle.lin_rows.specs.Rows.{LinearRow}
use Rattle.boogie_tree.specs.declared.tree.Op.{Op}
use Rattle.boogie_tree.specs.declared.tree.Op.TheVariants as ops
use Rattle.boogie_tree.specs.declared.tree.Column.{Column}
use Rattle.boogie_tree.specs.declared.tree.Column.TheVariants as columns
use Rattle.boogie_tree.specs.declared.tree.VarInfo.{VarInfo}
use Rattle.typed_tree.specs.TypedTree.{TypedExpression, Lit, Truth, Var, Old, Not, Neg, Bin}
use Rattle.typed_tree.specs.Values.{truth}
use Rattle.typed_tree.specs.AffineForm.{divisor_of, read_at}
use Rattle.letter_acts.specs.Frames.{Columns}
use Rattle.cond_jumps.specs.Conjunctions.{Conjunction, Jumps, joined, each_with, Plan, Just, Then, With, listed_plan}
use Rattle.cond_jumps.specs.Forms.{Linear, Linears, column, after, linear_divided, remaining}
use Rattle.cond_jumps.specs.Comparisons.{compared, below_row, above_row, equal, no_jumps, always, truth_of_column, literal, alike, equal_sums, equality, operation_plan}
use Rattle.cond_jumps.specs.Environments.{Environment}
use Rattle.cond_jumps.specs.Paths.{constant_of, linear_quotient, arithmetic, linear, is_truth, paths, gets, assigns}
use Rattle.cond_jumps.specs.Frames.{place_from, or_else, if_constant, column_place_in, linear_at, plan_at, frame_environment}
use Rattle.cond_jumps.specs.Moving.{moved_column, moved_terms, moved_row, moved, IsEven, moved_sum, IsEvenSum, IsEvenPlan, IsEvenEnvironment}
use Rattle.cond_jumps.proofs.FrameLemmas.{IsFound, found_from}
use Rattle.cond_jumps.proofs.MovingLemmas.{map_append, difference-moved, moved_before, row_of-moved, after_even, number_even, column_even, negated_even, plus_even, minus_even, times_even, divided_even, remaining_even}

-- ---- lists

same_conjunction : (c d : Conjunction) → c.rows ≡ d.rows → c.helpers ≡ d.helpers → c ≡ d
same_conjunction c d r h = λ i. record { rows = r i; helpers = h i }

joined-moved : (w k : ℕ) (c : Conjunction) (ds : List Conjunction) → map (joined (moved w k c)) (map (moved w k) ds) ≡ map (moved w k) (map (joined c) ds)
joined-moved w k c [] = refl
joined-moved w k c (d ∷ ds) =
    let e : joined (moved w k c) (moved w k d) ≡ moved w k (joined c d) =
    same_conjunction (joined (moved w k c) (moved w k d)) (moved w k (joined c d)) (sym (map_append (moved_row w k) c.rows d.rows)) refl in
    let f = joined-moved w k c ds in
    λ i. e i ∷ f i

each_with-moved : (w k n : ℕ) (cs : List Conjunction) (b : Jumps) → w ≤ n → IsEven w b → each_with (map (moved w k) cs) b (n + k) ≡ map (moved w k) (each_with cs b n)
each_with-moved w k n [] b l h = refl
each_with-moved w k n (c ∷ cs) b l h =
    let e : n + k + c.helpers ≡ n + c.helpers + k = omega arith in
    let f : b (n + k + c.helpers) ≡ map (moved w k) (b (n + c.helpers)) = ap b e ∙ h (n + c.helpers) k (omega arith) in
    let g : map (joined (moved w k c)) (b (n + k + c.helpers)) ≡ map (moved w k) (map (joined c) (b (n + c.helpers))) =
    ap (λ (ds : List Conjunction). map (joined (moved w k c)) ds) f ∙ joined-moved w k c (b (n + c.helpers)) in
    let i = each_with-moved w k n cs b l h in
    (λ j. g j ++ i j) ∙ sym (map_append (moved w k) (map (joined c) (b (n + c.helpers))) (each_with cs b n))

-- what holds of each list that is used in a plan holds of its own list
pub listed_even : (w : ℕ) (a : Plan) → IsEvenPlan w a → IsEven w (listed_plan a)
listed_even w (Just a) h n k l = h n k l
listed_even w (Then a b) h n k l =
    let e = listed_even w a h.0 n k l in
    let f = listed_even w b h.1 n k l in
    (λ j. e j ++ f j) ∙ sym (map_append (moved w k) (listed_plan a n) (listed_plan b n))
listed_even w (With a b) h n k l =
    ap (λ (cs : List Conjunction). each_with cs (listed_plan b) (n + k)) (listed_even w a h.0 n k l) ∙ each_with-moved w k n (listed_plan a n) (listed_plan b) l (listed_even w b h.1)

-- ---- comparisons

compared_even : (w : ℕ) (row : Linear → Linear → LinearRow) (a b : Linears) → ((k : ℕ) (x y : Linear) → row (moved_sum w k x) (moved_sum w k y) ≡ moved_row w k (row x y)) →
    IsEvenSum w a → IsEvenSum w b → IsEven w (compared row a b)
compared_even w row a b r h i n k l =
    let F : Linear → Linear → List Conjunction = λ x y. record { rows = (x.rows ++ y.rows) ++ row x y ∷ []; helpers = x.helpers + y.helpers } ∷ [] in
    let x : Linear = a n in
    let y : Linear = after a b n in
    let e : a (n + k) ≡ moved_sum w k x = h n k l in
    let f : after a b (n + k) ≡ moved_sum w k y = after_even w a b h i n k l in
    let g : (map (moved_row w k) x.rows ++ map (moved_row w k) y.rows) ++ row (moved_sum w k x) (moved_sum w k y) ∷ [] ≡ map (moved_row w k) ((x.rows ++ y.rows) ++ row x y ∷ []) =
    (λ j. sym (map_append (moved_row w k) x.rows y.rows) j ++ r k x y j ∷ []) ∙ sym (map_append (moved_row w k) (x.rows ++ y.rows) (row x y ∷ [])) in
    (λ d. F (e d) (f d)) ∙ (λ d. record { rows = g d; helpers = x.helpers + y.helpers } ∷ [])

below-moved : (w : ℕ) (z : ℤ) (k : ℕ) (x y : Linear) → below_row z (moved_sum w k x) (moved_sum w k y) ≡ moved_row w k (below_row z x y)
below-moved w z k x y =
    row_of-moved w k (x.terms ++ opposite y.terms) (moved_terms w k x.terms ++ opposite (moved_terms w k y.terms)) Le ((z -ℤ x.constant) +ℤ y.constant) (difference-moved w k x y)

equal-moved : (w k : ℕ) (x y : Linear) → equal (moved_sum w k x) (moved_sum w k y) ≡ moved_row w k (equal x y)
equal-moved w k x y =
    row_of-moved w k (x.terms ++ opposite y.terms) (moved_terms w k x.terms ++ opposite (moved_terms w k y.terms)) Eq ((pos 0 -ℤ x.constant) +ℤ y.constant) (difference-moved w k x y)

below_even : (w : ℕ) (z : ℤ) (a b : Linears) → IsEvenSum w a → IsEvenSum w b → IsEven w (compared (below_row z) a b)
below_even w z a b h i = compared_even w (below_row z) a b (λ k x y. below-moved w z k x y) h i

above_even : (w : ℕ) (z : ℤ) (a b : Linears) → IsEvenSum w a → IsEvenSum w b → IsEven w (compared (above_row z) a b)
above_even w z a b h i = compared_even w (above_row z) a b (λ k x y. below-moved w z k y x) h i

pub equal_even : (w : ℕ) (a b : Linears) → IsEvenSum w a → IsEvenSum w b → IsEven w (compared equal a b)
equal_even w a b h i = compared_even w equal a b (λ k x y. equal-moved w k x y) h i

never_even : (w : ℕ) → IsEven w no_jumps
never_even w n k l = refl

always_even : (w : ℕ) → IsEven w always
always_even w n k l = refl

pub named_even : (w c : ℕ) (want : Bool) → c < w → IsEven w (truth_of_column c want)
named_even w c want inside n k l =
    let e : c ≡ moved_column w k c = sym (moved_before w k c inside) in
    λ i. record { rows = record { terms = (e i, pos 1) ∷ []; kind = Eq; bound = truth want } ∷ []; helpers = 0 } ∷ []

literal_even : (w : ℕ) (b want : Bool) → IsEvenPlan w (literal b want)
literal_even w true true = always_even w
literal_even w true false = never_even w
literal_even w false true = never_even w
literal_even w false false = always_even w

-- ---- operators

EvenPlans : ℕ → (Bool → Plan) → Type 0
EvenPlans w a = (want : Bool) → IsEvenPlan w (a want)

alike_even : (w : ℕ) (a b : Bool → Plan) (want : Bool) → EvenPlans w a → EvenPlans w b → IsEvenPlan w (alike a b want)
unfolding EvenPlans
alike_even w a b want h i = ((h true, i want), (h false, i (not want)))

equal_sums_even : (w : ℕ) (x y : Linears) (want : Bool) → IsEvenSum w x → IsEvenSum w y → IsEvenPlan w (equal_sums x y want)
equal_sums_even w x y true j k = equal_even w x y j k
equal_sums_even w x y false j k = (below_even w (negsuc 0) x y j k, above_even w (negsuc 0) x y j k)

equality_even : (w : ℕ) (kind : Bool) (a b : Bool → Plan) (x y : Linears) (want : Bool) → EvenPlans w a → EvenPlans w b → IsEvenSum w x → IsEvenSum w y →
    IsEvenPlan w (equality kind a b x y want)
equality_even w true a b x y want h i j k = alike_even w a b want h i
equality_even w false a b x y want h i j k = equal_sums_even w x y want j k

operation_even : (w : ℕ) (op : Op) (kind : Bool) (a b : Bool → Plan) (x y : Linears) (want : Bool) → EvenPlans w a → EvenPlans w b → IsEvenSum w x → IsEvenSum w y →
    IsEvenPlan w (operation_plan op kind a b x y want)
unfolding EvenPlans
operation_even w ops.Iff kind a b x y want h i j k = alike_even w a b want h i
operation_even w ops.Implies kind a b x y true h i j k = (h false, (h true, i true))
operation_even w ops.Implies kind a b x y false h i j k = (h true, i false)
operation_even w ops.And kind a b x y true h i j k = (h true, i true)
operation_even w ops.And kind a b x y false h i j k = (h false, (h true, i false))
operation_even w ops.Or kind a b x y true h i j k = (h true, (h false, i true))
operation_even w ops.Or kind a b x y false h i j k = (h false, i false)
operation_even w ops.Eq kind a b x y want h i j k = equality_even w kind a b x y want h i j k
operation_even w ops.Ne kind a b x y want h i j k = equality_even w kind a b x y (not want) h i j k
operation_even w ops.Lt kind a b x y true h i j k = below_even w (negsuc 0) x y j k
operation_even w ops.Lt kind a b x y false h i j k = above_even w (pos 0) x y j k
operation_even w ops.Le kind a b x y true h i j k = below_even w (pos 0) x y j k
operation_even w ops.Le kind a b x y false h i j k = above_even w (negsuc 0) x y j k
operation_even w ops.Gt kind a b x y true h i j k = above_even w (negsuc 0) x y j k
operation_even w ops.Gt kind a b x y false h i j k = below_even w (pos 0) x y j k
operation_even w ops.Ge kind a b x y true h i j k = above_even w (pos 0) x y j k
operation_even w ops.Ge kind a b x y false h i j k = below_even w (negsuc 0) x y j k
operation_even w ops.Add kind a b x y want h i j k = never_even w
operation_even w ops.Sub kind a b x y want h i j k = never_even w
operation_even w ops.Mul kind a b x y want h i j k = never_even w
operation_even w ops.Div kind a b x y want h i j k = never_even w
operation_even w ops.Mod kind a b x y want h i j k = never_even w

-- ---- sums of expressions

divided_if_even : (w : ℕ) (o : Option ℤ) (a : Linears) → IsEvenSum w a → IsEvenSum w (linear_quotient linear_divided o a)
divided_if_even w None a h = number_even w (pos 0)
divided_if_even w (Some k) a h = divided_even w k a h

remaining_if_even : (w : ℕ) (o : Option ℤ) (a : Linears) → IsEvenSum w a → IsEvenSum w (linear_quotient remaining o a)
remaining_if_even w None a h = number_even w (pos 0)
remaining_if_even w (Some k) a h = remaining_even w k a h

arithmetic_even : (w : ℕ) (op : Op) (f g : ℤ) (k : Option ℤ) (a b : Linears) → IsEvenSum w a → IsEvenSum w b → IsEvenSum w (arithmetic op f g k a b)
arithmetic_even w ops.Add f g k a b h i = plus_even w a b h i
arithmetic_even w ops.Sub f g k a b h i = minus_even w a b h i
arithmetic_even w ops.Mul f g k a b h i = times_even w f g a b h i
arithmetic_even w ops.Div f g k a b h i = divided_if_even w k a h
arithmetic_even w ops.Mod f g k a b h i = remaining_if_even w k a h
arithmetic_even w ops.Iff f g k a b h i = number_even w (pos 0)
arithmetic_even w ops.Implies f g k a b h i = number_even w (pos 0)
arithmetic_even w ops.And f g k a b h i = number_even w (pos 0)
arithmetic_even w ops.Or f g k a b h i = number_even w (pos 0)
arithmetic_even w ops.Eq f g k a b h i = number_even w (pos 0)
arithmetic_even w ops.Ne f g k a b h i = number_even w (pos 0)
arithmetic_even w ops.Lt f g k a b h i = number_even w (pos 0)
arithmetic_even w ops.Le f g k a b h i = number_even w (pos 0)
arithmetic_even w ops.Gt f g k a b h i = number_even w (pos 0)
arithmetic_even w ops.Ge f g k a b h i = number_even w (pos 0)

pub linear_even : (w : ℕ) (v : Environment) → IsEvenEnvironment w v → (old : Bool) (e : TypedExpression) → IsEvenSum w (linear v old e)
linear_even w v h old (Lit at n) = number_even w n
linear_even w v h old (Truth at b) = number_even w (pos 0)
linear_even w v h old (Var at c) = h.sums (read_at old c)
linear_even w v h old (Old at e) = linear_even w v h true e
linear_even w v h old (Not at e) = number_even w (pos 0)
linear_even w v h old (Neg at e) = negated_even w (linear v old e) (linear_even w v h old e)
linear_even w v h old (Bin at op a b) =
    arithmetic_even w op (constant_of a) (constant_of b) (divisor_of b) (linear v old a) (linear v old b) (linear_even w v h old a) (linear_even w v h old b)

-- the plans of a condition
pub paths_even : (w : ℕ) (v : Environment) → IsEvenEnvironment w v → (old : Bool) (e : TypedExpression) (want : Bool) → IsEvenPlan w (paths v old e want)
unfolding EvenPlans
paths_even w v h old (Lit at n) want = never_even w
paths_even w v h old (Truth at b) want = literal_even w b want
paths_even w v h old (Var at c) want = h.plans (read_at old c) want
paths_even w v h old (Old at e) want = paths_even w v h true e want
paths_even w v h old (Not at e) want = paths_even w v h old e (not want)
paths_even w v h old (Neg at e) want = never_even w
paths_even w v h old (Bin at op a b) want =
    operation_even w op (is_truth v old a) (paths v old a) (paths v old b) (linear v old a) (linear v old b) want
    (λ z. paths_even w v h old a z) (λ z. paths_even w v h old b z) (linear_even w v h old a) (linear_even w v h old b)

gets_even : (w : ℕ) (kind : Bool) (a : Bool → Plan) (x : Linears) (j : ℕ) → j < w → ((want : Bool) → IsEvenPlan w (a want)) → IsEvenSum w x → IsEvenPlan w (gets kind a x j)
gets_even w true a x j l h i = ((h true, named_even w j true l), (h false, named_even w j false l))
gets_even w false a x j l h i = equal_even w (column j) x (column_even w j l) i

-- the plans of an assignment
pub assigns_even : (w : ℕ) (v : Environment) → IsEvenEnvironment w v → (j : ℕ) (es : List TypedExpression) → j + length es ≤ w → IsEvenPlan w (assigns v j es)
assigns_even w v h j [] l = always_even w
assigns_even w v h j (e ∷ es) l = (
  gets_even w (is_truth v false e) (paths v false e) (linear v false e) j (omega arith) (λ z. paths_even w v h false e z) (linear_even w v h false e),
  assigns_even w v h (suc j) es (omega arith),
)

-- ---- frames

found_inside : (frame : Columns) (c : Column) (x : ℕ × VarInfo) → place_from 0 frame c ≡ Some x → x.0 < length frame
found_inside frame c x e =
    let f : IsFound 0 frame c x = found_from 0 frame c x e in
    let a : x.0 ≡ 0 + f.index = f.at in
    let b : f.index < length frame = f.inside in
    omega arith

constant_inside : (frame : Columns) (n : ℕ) (x : ℕ × VarInfo) (o p : Option (ℕ × VarInfo)) → place_from 0 frame (columns.Old n) ≡ o → place_from 0 frame (columns.Global n) ≡ p →
    or_else o (if_constant p) ≡ Some x → x.0 < length frame
constant_inside frame n x (Some y) p f g e = found_inside frame (columns.Old n) x (f ∙ e)
constant_inside frame n x None None f g e = absurd (cc)
constant_inside frame n x None (Some y) f g e = by_test y.1.constant e
  where
    by_test : (b : Bool) → (if b then Some y else None) ≡ Some x → x.0 < length frame
    by_test true d = found_inside frame (columns.Global n) x (g ∙ d)
    by_test false d = absurd (cc)

-- the place of a column is inside the frame
pub place_inside : (frame : Columns) (c : Column) (x : ℕ × VarInfo) → column_place_in frame c ≡ Some x → x.0 < length frame
place_inside frame (columns.Global n) x e = found_inside frame (columns.Global n) x e
place_inside frame (columns.Old n) x e = constant_inside frame n x (place_from 0 frame (columns.Old n)) (place_from 0 frame (columns.Global n)) refl refl e
place_inside frame (columns.Local n) x e = found_inside frame (columns.Local n) x e

-- what stands for the columns of a frame is even from its width on
pub frame_even : (w : ℕ) (frame : Columns) → length frame ≤ w → IsEvenEnvironment w (frame_environment frame)
frame_even w frame l = record { sums = λ c. sum_even c (column_place_in frame c) refl; plans = λ c want. plan_even c want (column_place_in frame c) refl }
  where
    sum_even : (c : Column) (o : Option (ℕ × VarInfo)) → column_place_in frame c ≡ o → IsEvenSum w (linear_at o)
    sum_even c None e = number_even w (pos 0)
    sum_even c (Some x) e = let i : x.0 < length frame = place_inside frame c x e in column_even w x.0 (omega arith)

    plan_even : (c : Column) (want : Bool) (o : Option (ℕ × VarInfo)) → column_place_in frame c ≡ o → IsEvenPlan w (plan_at o want)
    plan_even c want None e = never_even w
    plan_even c want (Some x) e = let i : x.0 < length frame = place_inside frame c x e in named_even w x.0 want (omega arith)
