-- Which columns the rows of conditions and sums name: those that stand for the columns of the program, and their own helpers.
use Rattle.std.proofs.Common.{◌⊎◌, ℕ, suc, ◌+◌, ◌<◌, ◌≤◌, ℤ, pos, negsuc, neg_ℤ, ◌+ℤ◌, Bool, true, false, not, nat_eq, nat_lt, List, [], ◌∷◌, ◌++◌, map, length, Option, None, Some, inl, inr, arith, if◌then◌else◌}
use Rattle.std.specs.List.{AllByRecursion}
use Rattle.boogie_tree.specs.declared.tree.Op.{Op}
use Rattle.boogie_tree.specs.declared.tree.Op.TheVariants as ops
use Rattle.boogie_tree.specs.declared.tree.Column.{Column}
use Rattle.typed_tree.specs.TypedTree.{TypedExpression, Lit, Truth, Var, Old, Not, Neg, Bin}
use Rattle.typed_tree.specs.AffineForm.{read_at}
use Rattle.typed_tree.specs.AffineForm.{divisor_of}
use Rattle.math_facts.specs.Terms.{scaled, opposite}
use Rattle.lin_rows.specs.Rows.{LinearRow}
use Rattle.lin_rows.specs.Sums.{is_zero, led_by, added_at, summed}
use Rattle.cond_jumps.specs.Conjunctions.{Conjunction, Jumps, joined, each_with, Plan, Just, Then, With, listed_plan}
use Rattle.cond_jumps.specs.Forms.{Linear, Linears, linear_number, column, linear_negated, after, linear_plus, linear_minus, linear_times, quotient_rows, linear_divided, remaining}
use Rattle.cond_jumps.specs.Comparisons.{below_row, above_row, equal, compared, no_jumps, always, truth_of_column, literal, alike, equal_sums, equality, operation_plan}
use Rattle.cond_jumps.specs.Environments.{Environment}
use Rattle.cond_jumps.specs.Paths.{constant_of, linear_quotient, arithmetic, linear, is_truth, paths, gets, assigns}
use Rattle.letter_acts.proofs.ListLemmas.{all_weaker, all_append}

-- each term's column has the property
abbrev pub AreNamed : (ℕ → Type 0) → List (ℕ × ℤ) → Type 0
AreNamed P ts = AllByRecursion (λ t. P t.0) ts

abbrev pub RowsName : (ℕ → Type 0) → List LinearRow → Type 0
RowsName P rows = AllByRecursion (λ r. AreNamed P r.terms) rows

-- one of the columns, or one of so many helpers from column n on
abbrev pub IsNamed : (ℕ → Type 0) → ℕ → ℕ → ℕ → Type 0
IsNamed A n k c = A c ⊎ ((n ≤ c) × (c < n + k))

-- the sum and the rows of its helpers name these alone
pub record SumNames (A : ℕ → Type 0) (n : ℕ) (x : Linear) : Type 0 where
  pub terms : AreNamed (IsNamed A n x.helpers) x.terms
  pub rows : RowsName (IsNamed A n x.helpers) x.rows

-- the rows of each member name these alone
abbrev pub ListNames : (ℕ → Type 0) → ℕ → List Conjunction → Type 0
ListNames A n cs = AllByRecursion (λ c. RowsName (IsNamed A n c.helpers) c.rows) cs

-- so does what stands for the columns, wherever the helpers begin
pub record EachNames (A : ℕ → Type 0) (v : Environment) : Type 0 where
  pub sums : (c : Column) (n : ℕ) → SumNames A n (v.sum c n)
  pub plans : (c : Column) (want : Bool) (n : ℕ) → ListNames A n (listed_plan (v.plan c want) n)

-- ---- lists

pub terms_so : (P Q : ℕ → Type 0) → ((c : ℕ) → P c → Q c) → (ts : List (ℕ × ℤ)) → AreNamed P ts → AreNamed Q ts
terms_so P Q f ts h = all_weaker (λ t. P t.0) (λ t. Q t.0) (λ t k. f t.0 k) ts h

pub rows_so : (P Q : ℕ → Type 0) → ((c : ℕ) → P c → Q c) → (rs : List LinearRow) → RowsName P rs → RowsName Q rs
rows_so P Q f rs h = all_weaker (λ r. AreNamed P r.terms) (λ r. AreNamed Q r.terms) (λ r k. terms_so P Q f r.terms k) rs h

opposite_named : (P : ℕ → Type 0) (ts : List (ℕ × ℤ)) → AreNamed P ts → AreNamed P (opposite ts)
opposite_named P [] h = tt
opposite_named P (t ∷ ts) h = (h.0, opposite_named P ts h.1)

scaled_named : (P : ℕ → Type 0) (m : ℤ) (ts : List (ℕ × ℤ)) → AreNamed P ts → AreNamed P (scaled m ts)
scaled_named P m [] h = tt
scaled_named P m (t ∷ ts) h = (h.0, scaled_named P m ts h.1)

-- terms that are added up name the same columns
led_named : (P : ℕ → Type 0) (c : ℕ) (a : ℤ) (ts : List (ℕ × ℤ)) → P c → AreNamed P ts → AreNamed P (led_by c a ts)
led_named P c a ts l h = by_test (is_zero a)
  where
    by_test : (b : Bool) → AreNamed P (if b then ts else (c, a) ∷ ts)
    by_test true = h
    by_test false = (l, h)

added_named : (P : ℕ → Type 0) (c : ℕ) (a : ℤ) (ts : List (ℕ × ℤ)) → P c → AreNamed P ts → AreNamed P (added_at c a ts)
added_named P c a [] l h = led_named P c a [] l h
added_named P c a (t ∷ ts) l h = by_tests (nat_lt c t.0) (nat_eq c t.0) (added_named P c a ts l h.1)
  where
    by_tests : (x y : Bool) → AreNamed P (added_at c a ts) → AreNamed P (if x then led_by c a (t ∷ ts) else (if y then led_by c (t.1 +ℤ a) ts else t ∷ added_at c a ts))
    by_tests true y k = led_named P c a (t ∷ ts) l h
    by_tests false true k = led_named P c (t.1 +ℤ a) ts l h.1
    by_tests false false k = (h.0, k)

pub summed_named : (P : ℕ → Type 0) (ts : List (ℕ × ℤ)) → AreNamed P ts → AreNamed P (summed ts)
summed_named P [] h = tt
summed_named P (t ∷ ts) h = added_named P t.0 t.1 (summed ts) h.0 (summed_named P ts h.1)

-- ---- helpers

-- of two sums with their helpers one behind the other
first_named : (A : ℕ → Type 0) (n k l c : ℕ) → IsNamed A n k c → IsNamed A n (k + l) c
first_named A n k l c (inl a) = inl a
first_named A n k l c (inr h) = inr (let lower : n ≤ c = h.0 in let upper : c < n + k = h.1 in (omega arith, omega arith))

second_named : (A : ℕ → Type 0) (n k l c : ℕ) → IsNamed A (n + k) l c → IsNamed A n (k + l) c
second_named A n k l c (inl a) = inl a
second_named A n k l c (inr h) = inr (let lower : n + k ≤ c = h.0 in let upper : c < n + k + l = h.1 in (omega arith, omega arith))

helper_named : (A : ℕ → Type 0) (n k : ℕ) → IsNamed A n (k + 1) (n + k)
helper_named A n k = inr (omega arith, omega arith)

-- ---- sums

number_names : (A : ℕ → Type 0) (k : ℤ) (n : ℕ) → SumNames A n (linear_number k n)
number_names A k n = record { terms = tt; rows = tt }

pub column_names : (A : ℕ → Type 0) (c n : ℕ) → A c → SumNames A n (column c n)
column_names A c n a = record { terms = (inl a, tt); rows = tt }

negated_names : (A : ℕ → Type 0) (a : Linears) (n : ℕ) → SumNames A n (a n) → SumNames A n (linear_negated a n)
negated_names A a n h = record { terms = opposite_named (IsNamed A n (a n).helpers) (a n).terms h.terms; rows = h.rows }

-- the helpers of both, in a sum over both
both_rows : (A : ℕ → Type 0) (n : ℕ) (x y : Linear) → SumNames A n x → SumNames A (n + x.helpers) y → RowsName (IsNamed A n (x.helpers + y.helpers)) (x.rows ++ y.rows)
both_rows A n x y h k =
    all_append (λ r. AreNamed (IsNamed A n (x.helpers + y.helpers)) r.terms) x.rows y.rows
    (rows_so (IsNamed A n x.helpers) (IsNamed A n (x.helpers + y.helpers)) (λ c i. first_named A n x.helpers y.helpers c i) x.rows h.rows)
    (rows_so (IsNamed A (n + x.helpers) y.helpers) (IsNamed A n (x.helpers + y.helpers)) (λ c i. second_named A n x.helpers y.helpers c i) y.rows k.rows)

first_terms : (A : ℕ → Type 0) (n : ℕ) (x y : Linear) → SumNames A n x → AreNamed (IsNamed A n (x.helpers + y.helpers)) x.terms
first_terms A n x y h = terms_so (IsNamed A n x.helpers) (IsNamed A n (x.helpers + y.helpers)) (λ c i. first_named A n x.helpers y.helpers c i) x.terms h.terms

second_terms : (A : ℕ → Type 0) (n : ℕ) (x y : Linear) → SumNames A (n + x.helpers) y → AreNamed (IsNamed A n (x.helpers + y.helpers)) y.terms
second_terms A n x y k = terms_so (IsNamed A (n + x.helpers) y.helpers) (IsNamed A n (x.helpers + y.helpers)) (λ c i. second_named A n x.helpers y.helpers c i) y.terms k.terms

-- terms of both, with the second ones opposite
differ_terms : (A : ℕ → Type 0) (n : ℕ) (x y : Linear) → SumNames A n x → SumNames A (n + x.helpers) y → AreNamed (IsNamed A n (x.helpers + y.helpers)) (x.terms ++ opposite y.terms)
differ_terms A n x y h k =
    let P : ℕ → Type 0 = IsNamed A n (x.helpers + y.helpers) in
    all_append (λ t. P t.0) x.terms (opposite y.terms) (first_terms A n x y h) (opposite_named P y.terms (second_terms A n x y k))

plus_names : (A : ℕ → Type 0) (a b : Linears) (n : ℕ) → SumNames A n (a n) → SumNames A (n + (a n).helpers) (after a b n) → SumNames A n (linear_plus a b n)
plus_names A a b n h k =
    let x : Linear = a n in
    let y : Linear = after a b n in
    record { terms = all_append (λ t. IsNamed A n (x.helpers + y.helpers) t.0) x.terms y.terms (first_terms A n x y h) (second_terms A n x y k); rows = both_rows A n x y h k }

pub minus_names : (A : ℕ → Type 0) (a b : Linears) (n : ℕ) → SumNames A n (a n) → SumNames A (n + (a n).helpers) (after a b n) → SumNames A n (linear_minus a b n)
minus_names A a b n h k = record { terms = differ_terms A n (a n) (after a b n) h k; rows = both_rows A n (a n) (after a b n) h k }

times_names : (A : ℕ → Type 0) (k l : ℤ) (a b : Linears) (n : ℕ) → SumNames A n (a n) → SumNames A (n + (a n).helpers) (after a b n) → SumNames A n (linear_times k l a b n)
times_names A k l a b n h g =
    let x : Linear = a n in
    let y : Linear = after a b n in
    let P : ℕ → Type 0 = IsNamed A n (x.helpers + y.helpers) in
    record {
      terms = all_append (λ t. P t.0) (scaled k y.terms) (scaled l x.terms) (scaled_named P k y.terms (second_terms A n x y g)) (scaled_named P l x.terms (first_terms A n x y h));
      rows = both_rows A n x y h g;
    }

-- a quotient has one helper more
quotient_names : (A : ℕ → Type 0) (n : ℕ) (k : ℤ) (x : Linear) → SumNames A n x → RowsName (IsNamed A n (x.helpers + 1)) (x.rows ++ quotient_rows k x (n + x.helpers))
quotient_names A n k x h =
    let P : ℕ → Type 0 = IsNamed A n (x.helpers + 1) in
    let q : ℕ = n + x.helpers in
    let terms : AreNamed P x.terms = terms_so (IsNamed A n x.helpers) P (λ c i. first_named A n x.helpers 1 c i) x.terms h.terms in
    all_append (λ r. AreNamed P r.terms) x.rows (quotient_rows k x q)
    (rows_so (IsNamed A n x.helpers) P (λ c i. first_named A n x.helpers 1 c i) x.rows h.rows) (
      summed_named P ((q, k) ∷ opposite x.terms) (helper_named A n x.helpers, opposite_named P x.terms terms),
      (summed_named P (x.terms ++ (q, neg_ℤ k) ∷ []) (all_append (λ t. P t.0) x.terms ((q, neg_ℤ k) ∷ []) terms (helper_named A n x.helpers, tt)), tt),
    )

divided_names : (A : ℕ → Type 0) (k : ℤ) (a : Linears) (n : ℕ) → SumNames A n (a n) → SumNames A n (linear_divided k a n)
divided_names A k a n h = record { terms = (helper_named A n (a n).helpers, tt); rows = quotient_names A n k (a n) h }

remaining_names : (A : ℕ → Type 0) (k : ℤ) (a : Linears) (n : ℕ) → SumNames A n (a n) → SumNames A n (remaining k a n)
remaining_names A k a n h =
    let x : Linear = a n in
    let P : ℕ → Type 0 = IsNamed A n (x.helpers + 1) in
    record {
      terms = all_append (λ t. P t.0) x.terms ((n + x.helpers, neg_ℤ k) ∷ []) (terms_so (IsNamed A n x.helpers) P (λ c i. first_named A n x.helpers 1 c i) x.terms h.terms) (helper_named A n x.helpers, tt);
      rows = quotient_names A n k x h;
    }

quotient_by : (A : ℕ → Type 0) (part : ℤ → Linears → Linears) (o : Option ℤ) (a : Linears) (n : ℕ) → ((k : ℤ) → SumNames A n (part k a n)) → SumNames A n (linear_quotient part o a n)
quotient_by A part None a n h = number_names A (pos 0) n
quotient_by A part (Some k) a n h = h k

arithmetic_names : (A : ℕ → Type 0) (op : Op) (k l : ℤ) (d : Option ℤ) (a b : Linears) (n : ℕ) → SumNames A n (a n) → ((m : ℕ) → SumNames A m (b m)) → SumNames A n (arithmetic op k l d a b n)
arithmetic_names A ops.Add k l d a b n h g = plus_names A a b n h (g (n + (a n).helpers))
arithmetic_names A ops.Sub k l d a b n h g = minus_names A a b n h (g (n + (a n).helpers))
arithmetic_names A ops.Mul k l d a b n h g = times_names A k l a b n h (g (n + (a n).helpers))
arithmetic_names A ops.Div k l d a b n h g = quotient_by A linear_divided d a n (λ m. divided_names A m a n h)
arithmetic_names A ops.Mod k l d a b n h g = quotient_by A remaining d a n (λ m. remaining_names A m a n h)
arithmetic_names A ops.Iff k l d a b n h g = number_names A (pos 0) n
arithmetic_names A ops.Implies k l d a b n h g = number_names A (pos 0) n
arithmetic_names A ops.And k l d a b n h g = number_names A (pos 0) n
arithmetic_names A ops.Or k l d a b n h g = number_names A (pos 0) n
arithmetic_names A ops.Eq k l d a b n h g = number_names A (pos 0) n
arithmetic_names A ops.Ne k l d a b n h g = number_names A (pos 0) n
arithmetic_names A ops.Lt k l d a b n h g = number_names A (pos 0) n
arithmetic_names A ops.Le k l d a b n h g = number_names A (pos 0) n
arithmetic_names A ops.Gt k l d a b n h g = number_names A (pos 0) n
arithmetic_names A ops.Ge k l d a b n h g = number_names A (pos 0) n

pub linear_names : (A : ℕ → Type 0) (v : Environment) → EachNames A v → (old : Bool) (e : TypedExpression) (n : ℕ) → SumNames A n (linear v old e n)
linear_names A v s old (Lit at k) n = number_names A k n
linear_names A v s old (Truth at b) n = number_names A (pos 0) n
linear_names A v s old (Var at c) n = s.sums (read_at old c) n
linear_names A v s old (Old at e) n = linear_names A v s true e n
linear_names A v s old (Not at e) n = number_names A (pos 0) n
linear_names A v s old (Neg at e) n = negated_names A (linear v old e) n (linear_names A v s old e n)
linear_names A v s old (Bin at op a b) n =
    arithmetic_names A op (constant_of a) (constant_of b) (divisor_of b) (linear v old a) (linear v old b) n (linear_names A v s old a n) (λ m. linear_names A v s old b m)

-- ---- conjunctions

-- a row over two sums
abbrev NamesBoth : (Linear → Linear → LinearRow) → Type 1
NamesBoth row = (P : ℕ → Type 0) (x y : Linear) → AreNamed P x.terms → AreNamed P y.terms → AreNamed P (row x y).terms

below_both : (k : ℤ) → NamesBoth (below_row k)
below_both k P x y h g = summed_named P (x.terms ++ opposite y.terms) (all_append (λ t. P t.0) x.terms (opposite y.terms) h (opposite_named P y.terms g))

above_both : (k : ℤ) → NamesBoth (above_row k)
above_both k P x y h g = below_both k P y x g h

equal_both : NamesBoth equal
equal_both P x y h g = summed_named P (x.terms ++ opposite y.terms) (all_append (λ t. P t.0) x.terms (opposite y.terms) h (opposite_named P y.terms g))

compared_names : (A : ℕ → Type 0) (row : Linear → Linear → LinearRow) → NamesBoth row → (a b : Linears) (n : ℕ) → SumNames A n (a n) → SumNames A (n + (a n).helpers) (after a b n) → ListNames A n (compared row a b n)
compared_names A row r a b n h k =
    let x : Linear = a n in
    let y : Linear = after a b n in
    let P : ℕ → Type 0 = IsNamed A n (x.helpers + y.helpers) in
    (all_append (λ s. AreNamed P s.terms) (x.rows ++ y.rows) (row x y ∷ []) (both_rows A n x y h k) (r P x y (first_terms A n x y h) (second_terms A n x y k), tt), tt)

pub equal_names : (A : ℕ → Type 0) (a b : Linears) (n : ℕ) → SumNames A n (a n) → SumNames A (n + (a n).helpers) (after a b n) → ListNames A n (compared equal a b n)
equal_names A a b n h k = compared_names A equal equal_both a b n h k

pub named_names : (A : ℕ → Type 0) (c : ℕ) (want : Bool) (n : ℕ) → A c → ListNames A n (truth_of_column c want n)
named_names A c want n a = ((summed_named (IsNamed A n 0) ((c, pos 1) ∷ []) (inl a, tt), tt), tt)

joined_names : (A : ℕ → Type 0) (n : ℕ) (c : Conjunction) (ds : List Conjunction) → RowsName (IsNamed A n c.helpers) c.rows → ListNames A (n + c.helpers) ds → ListNames A n (map (joined c) ds)
joined_names A n c [] h k = tt
joined_names A n c (d ∷ ds) h k = (
  all_append (λ r. AreNamed (IsNamed A n (c.helpers + d.helpers)) r.terms) c.rows d.rows
      (rows_so (IsNamed A n c.helpers) (IsNamed A n (c.helpers + d.helpers)) (λ x i. first_named A n c.helpers d.helpers x i) c.rows h)
      (rows_so (IsNamed A (n + c.helpers) d.helpers) (IsNamed A n (c.helpers + d.helpers)) (λ x i. second_named A n c.helpers d.helpers x i) d.rows k.0),
  joined_names A n c ds h k.1,
)

each_names : (A : ℕ → Type 0) (n : ℕ) (cs : List Conjunction) (b : Jumps) → ListNames A n cs → ((m : ℕ) → ListNames A m (b m)) → ListNames A n (each_with cs b n)
each_names A n [] b h k = tt
each_names A n (c ∷ cs) b h k =
    all_append (λ c. RowsName (IsNamed A n c.helpers) c.rows) (map (joined c) (b (n + c.helpers))) (each_with cs b n) (joined_names A n c (b (n + c.helpers)) h.0 (k (n + c.helpers))) (each_names A n cs b h.1 k)

-- a plan names these columns wherever its helpers begin
abbrev pub PlanNames : (ℕ → Type 0) → Plan → Type 0
PlanNames A a = (n : ℕ) → ListNames A n (listed_plan a n)

then_names : (A : ℕ → Type 0) (a b : Plan) → PlanNames A a → PlanNames A b → PlanNames A (Then a b)
then_names A a b h k n = all_append (λ c. RowsName (IsNamed A n c.helpers) c.rows) (listed_plan a n) (listed_plan b n) (h n) (k n)

pub with_names : (A : ℕ → Type 0) (a b : Plan) → PlanNames A a → PlanNames A b → PlanNames A (With a b)
with_names A a b h k n = each_names A n (listed_plan a n) (listed_plan b) (h n) k

pub always_names : (A : ℕ → Type 0) → PlanNames A (Just always)
always_names A n = (tt, tt)

never_names : (A : ℕ → Type 0) → PlanNames A (Just no_jumps)
never_names A n = tt

literal_names : (A : ℕ → Type 0) (b want : Bool) → PlanNames A (literal b want)
literal_names A true true n = (tt, tt)
literal_names A true false n = tt
literal_names A false true n = tt
literal_names A false false n = (tt, tt)

alike_names : (A : ℕ → Type 0) (a b : Bool → Plan) (want : Bool) → ((w : Bool) → PlanNames A (a w)) → ((w : Bool) → PlanNames A (b w)) → PlanNames A (alike a b want)
alike_names A a b want h k =
    then_names A (With (a true) (b want)) (With (a false) (b (not want))) (with_names A (a true) (b want) (h true) (k want)) (with_names A (a false) (b (not want)) (h false) (k (not want)))

-- a comparison of two sums, wherever its helpers begin
compares : (A : ℕ → Type 0) (row : Linear → Linear → LinearRow) → NamesBoth row → (a b : Linears) → ((m : ℕ) → SumNames A m (a m)) → ((m : ℕ) → SumNames A m (b m)) → PlanNames A (Just (compared row a b))
compares A row r a b h k n = compared_names A row r a b n (h n) (k (n + (a n).helpers))

equal_sums_names : (A : ℕ → Type 0) (x y : Linears) (want : Bool) → ((m : ℕ) → SumNames A m (x m)) → ((m : ℕ) → SumNames A m (y m)) → PlanNames A (equal_sums x y want)
equal_sums_names A x y true h k = compares A equal equal_both x y h k
equal_sums_names A x y false h k =
    then_names A (Just (compared (below_row (negsuc 0)) x y)) (Just (compared (above_row (negsuc 0)) x y)) (compares A (below_row (negsuc 0)) (below_both (negsuc 0)) x y h k) (compares A (above_row (negsuc 0)) (above_both (negsuc 0)) x y h k)

equality_names : (A : ℕ → Type 0) (kind : Bool) (a b : Bool → Plan) (x y : Linears) (want : Bool) → ((w : Bool) → PlanNames A (a w)) → ((w : Bool) → PlanNames A (b w)) → ((m : ℕ) → SumNames A m (x m)) → ((m : ℕ) → SumNames A m (y m)) →
    PlanNames A (equality kind a b x y want)
equality_names A true a b x y want p q h k = alike_names A a b want p q
equality_names A false a b x y want p q h k = equal_sums_names A x y want h k

operation_names : (A : ℕ → Type 0) (op : Op) (kind : Bool) (a b : Bool → Plan) (x y : Linears) (want : Bool) → ((w : Bool) → PlanNames A (a w)) → ((w : Bool) → PlanNames A (b w)) →
    ((m : ℕ) → SumNames A m (x m)) → ((m : ℕ) → SumNames A m (y m)) → PlanNames A (operation_plan op kind a b x y want)
operation_names A ops.Iff kind a b x y want p q h k = alike_names A a b want p q
operation_names A ops.Implies kind a b x y true p q h k = then_names A (a false) (With (a true) (b true)) (p false) (with_names A (a true) (b true) (p true) (q true))
operation_names A ops.Implies kind a b x y false p q h k = with_names A (a true) (b false) (p true) (q false)
operation_names A ops.And kind a b x y true p q h k = with_names A (a true) (b true) (p true) (q true)
operation_names A ops.And kind a b x y false p q h k = then_names A (a false) (With (a true) (b false)) (p false) (with_names A (a true) (b false) (p true) (q false))
operation_names A ops.Or kind a b x y true p q h k = then_names A (a true) (With (a false) (b true)) (p true) (with_names A (a false) (b true) (p false) (q true))
operation_names A ops.Or kind a b x y false p q h k = with_names A (a false) (b false) (p false) (q false)
operation_names A ops.Eq kind a b x y want p q h k = equality_names A kind a b x y want p q h k
operation_names A ops.Ne kind a b x y want p q h k = equality_names A kind a b x y (not want) p q h k
operation_names A ops.Lt kind a b x y true p q h k = compares A (below_row (negsuc 0)) (below_both (negsuc 0)) x y h k
operation_names A ops.Lt kind a b x y false p q h k = compares A (above_row (pos 0)) (above_both (pos 0)) x y h k
operation_names A ops.Le kind a b x y true p q h k = compares A (below_row (pos 0)) (below_both (pos 0)) x y h k
operation_names A ops.Le kind a b x y false p q h k = compares A (above_row (negsuc 0)) (above_both (negsuc 0)) x y h k
operation_names A ops.Gt kind a b x y true p q h k = compares A (above_row (negsuc 0)) (above_both (negsuc 0)) x y h k
operation_names A ops.Gt kind a b x y false p q h k = compares A (below_row (pos 0)) (below_both (pos 0)) x y h k
operation_names A ops.Ge kind a b x y true p q h k = compares A (above_row (pos 0)) (above_both (pos 0)) x y h k
operation_names A ops.Ge kind a b x y false p q h k = compares A (below_row (negsuc 0)) (below_both (negsuc 0)) x y h k
operation_names A ops.Add kind a b x y want p q h k = never_names A
operation_names A ops.Sub kind a b x y want p q h k = never_names A
operation_names A ops.Mul kind a b x y want p q h k = never_names A
operation_names A ops.Div kind a b x y want p q h k = never_names A
operation_names A ops.Mod kind a b x y want p q h k = never_names A

pub paths_names : (A : ℕ → Type 0) (v : Environment) → EachNames A v → (old : Bool) (e : TypedExpression) (want : Bool) → PlanNames A (paths v old e want)
paths_names A v s old (Lit at n) want = never_names A
paths_names A v s old (Truth at b) want = literal_names A b want
paths_names A v s old (Var at c) want = s.plans (read_at old c) want
paths_names A v s old (Old at e) want = paths_names A v s true e want
paths_names A v s old (Not at e) want = paths_names A v s old e (not want)
paths_names A v s old (Neg at e) want = never_names A
paths_names A v s old (Bin at op a b) want =
    operation_names A op (is_truth v old a) (paths v old a) (paths v old b) (linear v old a) (linear v old b) want (λ w. paths_names A v s old a w) (λ w. paths_names A v s old b w)
    (λ m. linear_names A v s old a m) (λ m. linear_names A v s old b m)

-- a column gets a value
gets_names : (A : ℕ → Type 0) (kind : Bool) (a : Bool → Plan) (x : Linears) (j : ℕ) → A j → ((w : Bool) → PlanNames A (a w)) → ((m : ℕ) → SumNames A m (x m)) → PlanNames A (gets kind a x j)
gets_names A true a x j here h k =
    then_names A (With (a true) (Just (truth_of_column j true))) (With (a false) (Just (truth_of_column j false))) (with_names A (a true) (Just (truth_of_column j true)) (h true) (λ n. named_names A j true n here))
    (with_names A (a false) (Just (truth_of_column j false)) (h false) (λ n. named_names A j false n here))
gets_names A false a x j here h k = compares A equal equal_both (column j) x (λ m. column_names A j m here) k

-- columns from j on get values
pub assigns_names : (A : ℕ → Type 0) (v : Environment) → EachNames A v → (j : ℕ) (es : List TypedExpression) → ((c : ℕ) → j ≤ c → c < j + length es → A c) → PlanNames A (assigns v j es)
assigns_names A v s j [] h = always_names A
assigns_names A v s j (e ∷ es) h =
    with_names A (gets (is_truth v false e) (paths v false e) (linear v false e) j) (assigns v (suc j) es)
    (gets_names A (is_truth v false e) (paths v false e) (linear v false e) j (h j (omega arith) (omega arith)) (λ w. paths_names A v s false e w) (λ m. linear_names A v s false e m))
    (assigns_names A v s (suc j) es (λ c l u. h c (omega arith) (omega arith)))
