-- An expression with what stands for its columns reads as the expression does.
use Rattle.std.proofs.Common.{◌≡◌, ℕ, ◌+◌, Bool, true, false, not, ℤ, pos, negsuc, ◌+ℤ◌, ◌-ℤ◌, ◌*ℤ◌, neg_ℤ, [], ◌++◌, refl, sym, ◌∙◌, ap, subst, arith}
use Rattle.std.proofs.lemmas.Int.{ints}
use Rattle.std.proofs.lemmas.List.{append-nil}
use Rattle.math_facts.specs.Terms.{coefficient, scaled}
use Rattle.math_facts.proofs.Whole.{product_comm, distrib_left, product_neg_right}
use Rattle.math_facts.proofs.TermLaws.{coefficient-append}
use Rattle.lin_rows.specs.Rows.{LinearRow}
use Rattle.boogie_tree.specs.declared.span.Span.{Span}
use Rattle.boogie_tree.specs.declared.tree.Op.{Op}
use Rattle.boogie_tree.specs.declared.tree.Op.TheVariants.{Iff, Implies, And, Or, Eq, Ne, Lt, Le, Gt, Ge, Add, Sub, Mul, Div, Mod}
use Rattle.boogie_tree.specs.declared.tree.Ty.TheVariants as types
use Rattle.boogie_tree.specs.declared.tree.Column.{Column}
use Rattle.typed_tree.specs.TypedTree.{TypedExpression, Lit, Truth, Var, Old, Not, Neg, Bin}
use Rattle.typed_tree.specs.Typing.{is_some_of}
use Rattle.typed_tree.specs.AffineForm.{read_at}
use Rattle.cond_jumps.specs.Conjunctions.{Plan, Just, Then, With}
use Rattle.cond_jumps.specs.Forms.{Linear, Linears, linear_number, linear_negated, after, linear_plus, linear_minus, linear_times}
use Rattle.cond_jumps.specs.Comparisons.{compared, below_row, above_row, equal, alike, equal_sums, operation_plan}
use Rattle.cond_jumps.specs.Environments.{Environment}
use Rattle.cond_jumps.specs.Paths.{constant_of, linear, is_truth, paths}
use Rattle.icfg_lower.specs.CallJumps.Ties.Sums.{IsSame}
use Rattle.icfg_lower.specs.CallJumps.Ties.Reading.{Stand, constant_part, product, division, equality, rebuilt, is_truth_by, read_by}
use Rattle.icfg_lower.specs.CallJumps.Ties.Readings.{AllStand, Reads}
use Rattle.icfg_lower.proofs.CallJumps.SumLemmas.{AreSame, IsBlind, same, same_through, negated_same, plus_same, minus_same, times_same, divided_same, remaining_same, below_same, above_same, equal_same, compared_same}

-- ---- constants

-- the expression is a number, and that is the constant of its form
record IsNumber (u : Environment) (e : TypedExpression) (k : ℤ) : Type 0 where
  value : (n : ℕ) → linear u false e n ≡ linear_number k n
  constant : constant_of e ≡ k

add_numbers : (u : Environment) (at : Span) (a b : TypedExpression) (k l : ℤ) → IsNumber u a k → IsNumber u b l → IsNumber u (Bin at Add a b) (k +ℤ l)
add_numbers u at a b k l h i =
    record {
      value = λ n. (λ j. linear_plus (λ m. h.value m j) (λ m. i.value m j) n);
      constant = λ j. h.constant j +ℤ i.constant j;
    }

sub_numbers : (u : Environment) (at : Span) (a b : TypedExpression) (k l : ℤ) → IsNumber u a k → IsNumber u b l → IsNumber u (Bin at Sub a b) (k -ℤ l)
sub_numbers u at a b k l h i =
    record {
      value = λ n. (λ j. linear_minus (λ m. h.value m j) (λ m. i.value m j) n);
      constant = λ j. h.constant j -ℤ i.constant j;
    }

mul_numbers : (u : Environment) (at : Span) (a b : TypedExpression) (k l : ℤ) → IsNumber u a k → IsNumber u b l → IsNumber u (Bin at Mul a b) (k *ℤ l)
mul_numbers u at a b k l h i =
    let c : ((k *ℤ l) +ℤ (l *ℤ k)) -ℤ (k *ℤ l) ≡ k *ℤ l = let e : l *ℤ k ≡ k *ℤ l = product_comm l k in omega (arith, ints) in
    record {
      value = λ n. (λ j. linear_times (h.constant j) (i.constant j) (λ m. h.value m j) (λ m. i.value m j) n) ∙ (λ j. record { terms = []; constant = c j; rows = []; helpers = 0 });
      constant = λ j. h.constant j *ℤ i.constant j;
    }

zero_number : (u : Environment) (at : Span) → IsNumber u (Lit at (pos 0)) (pos 0)
zero_number u at = record { value = λ n. refl; constant = refl }

constant_part_is : (u : Environment) (e : TypedExpression) → IsNumber u (constant_part e) (constant_of e)
constant_part_is u (Lit at n) = record { value = λ n. refl; constant = refl }
constant_part_is u (Truth at b) = zero_number u at
constant_part_is u (Var at c) = zero_number u at
constant_part_is u (Old at e) = constant_part_is u e
constant_part_is u (Not at e) = zero_number u at
constant_part_is u (Neg at e) =
    let h = constant_part_is u e in
    record { value = λ n. λ j. linear_negated (λ m. h.value m j) n; constant = ap neg_ℤ h.constant }
constant_part_is u (Bin at Add a b) = add_numbers u at (constant_part a) (constant_part b) (constant_of a) (constant_of b) (constant_part_is u a) (constant_part_is u b)
constant_part_is u (Bin at Sub a b) = sub_numbers u at (constant_part a) (constant_part b) (constant_of a) (constant_of b) (constant_part_is u a) (constant_part_is u b)
constant_part_is u (Bin at Mul a b) = mul_numbers u at (constant_part a) (constant_part b) (constant_of a) (constant_of b) (constant_part_is u a) (constant_part_is u b)
constant_part_is u (Bin at Div a b) = zero_number u at
constant_part_is u (Bin at Mod a b) = zero_number u at
constant_part_is u (Bin at Iff a b) = zero_number u at
constant_part_is u (Bin at Implies a b) = zero_number u at
constant_part_is u (Bin at And a b) = zero_number u at
constant_part_is u (Bin at Or a b) = zero_number u at
constant_part_is u (Bin at Eq a b) = zero_number u at
constant_part_is u (Bin at Ne a b) = zero_number u at
constant_part_is u (Bin at Lt a b) = zero_number u at
constant_part_is u (Bin at Le a b) = zero_number u at
constant_part_is u (Bin at Gt a b) = zero_number u at
constant_part_is u (Bin at Ge a b) = zero_number u at

-- ---- products

-- (x - k)*l + k*y is k*y + l*x - k*l, term by term
product_sum : (k l m o : ℤ) (x y : Linear) → IsSame
    record {
      terms = (scaled m [] ++ scaled l (x.terms ++ [])) ++ (scaled k y.terms ++ scaled o []);
      constant = (((m *ℤ l) +ℤ (l *ℤ (x.constant -ℤ k))) -ℤ (m *ℤ l)) +ℤ (((k *ℤ y.constant) +ℤ (o *ℤ k)) -ℤ (k *ℤ o));
      rows = ((x.rows ++ []) ++ []) ++ y.rows;
      helpers = ((x.helpers + 0) + 0) + (0 + y.helpers);
    }
    record {
      terms = scaled k y.terms ++ scaled l x.terms;
      constant = ((k *ℤ y.constant) +ℤ (l *ℤ x.constant)) -ℤ (k *ℤ l);
      rows = x.rows ++ y.rows;
      helpers = x.helpers + y.helpers;
    }
product_sum k l m o x y =
    record {
      terms = λ c. terms_are c;
      constant =
          let a : l *ℤ (x.constant -ℤ k) ≡ (l *ℤ x.constant) +ℤ (l *ℤ neg_ℤ k) = distrib_left l x.constant (neg_ℤ k) in
          let b : l *ℤ neg_ℤ k ≡ neg_ℤ (l *ℤ k) = product_neg_right l k in
          let d : l *ℤ k ≡ k *ℤ l = product_comm l k in
          let e : o *ℤ k ≡ k *ℤ o = product_comm o k in
          omega (arith, ints);
      rows = (λ j. append-nil (x.rows ++ []) j ++ y.rows) ∙ (λ j. append-nil x.rows j ++ y.rows);
      helpers = omega arith;
    }
  where
    terms_are : (c : ℕ) → coefficient c ((scaled m [] ++ scaled l (x.terms ++ [])) ++ (scaled k y.terms ++ scaled o [])) ≡ coefficient c (scaled k y.terms ++ scaled l x.terms)
    terms_are c =
        let a : coefficient c (scaled l (x.terms ++ []) ++ (scaled k y.terms ++ [])) ≡ coefficient c (scaled l (x.terms ++ [])) +ℤ coefficient c (scaled k y.terms ++ []) =
        coefficient-append c (scaled l (x.terms ++ [])) (scaled k y.terms ++ []) in
        let b : coefficient c (scaled k y.terms ++ []) ≡ coefficient c (scaled k y.terms) = ap (coefficient c) (append-nil (scaled k y.terms)) in
        let d : coefficient c (scaled l (x.terms ++ [])) ≡ coefficient c (scaled l x.terms) = λ j. coefficient c (scaled l (append-nil x.terms j)) in
        let e : coefficient c (scaled k y.terms ++ scaled l x.terms) ≡ coefficient c (scaled k y.terms) +ℤ coefficient c (scaled l x.terms) =
        coefficient-append c (scaled k y.terms) (scaled l x.terms) in
        omega (arith, ints)

product_linears : (k l m o : ℤ) (a b : Linears) → AreSame (linear_plus (linear_times m l (linear_minus a (linear_number k)) (linear_number l)) (linear_times k o (linear_number k) b)) (linear_times k l a b)
product_linears k l m o a b n =
    let x : Linear = a n in
    let y : Linear = after a b n in
    let e : n + ((x.helpers + 0) + 0) + 0 ≡ n + x.helpers = omega arith in
    let P : ℕ → Type 0 = λ i. IsSame
    record {
      terms = (scaled m [] ++ scaled l (x.terms ++ [])) ++ (scaled k (b i).terms ++ scaled o []);
      constant = (((m *ℤ l) +ℤ (l *ℤ (x.constant -ℤ k))) -ℤ (m *ℤ l)) +ℤ (((k *ℤ (b i).constant) +ℤ (o *ℤ k)) -ℤ (k *ℤ o));
      rows = ((x.rows ++ []) ++ []) ++ (b i).rows;
      helpers = ((x.helpers + 0) + 0) + (0 + (b i).helpers);
    }
    (linear_times k l a b n) in
    subst P (sym e) (product_sum k l m o x y)

product_reads : (u v : Environment) (old : Bool) (at : Span) (a b x y : TypedExpression) → Reads u v old a x → Reads u v old b y → Reads u v old (Bin at Mul a b) (product at a b x y)
product_reads u v old at a b x y h i =
    let k : ℤ = constant_of a in
    let l : ℤ = constant_of b in
    let f : IsNumber u (constant_part a) k = constant_part_is u a in
    let g : IsNumber u (constant_part b) l = constant_part_is u b in
    let m : ℤ = constant_of (Bin at Sub x (constant_part a)) in
    let o : ℤ = constant_of y in
    let p : linear u false (constant_part a) ≡ linear_number k = λ j n. f.value n j in
    let q : linear u false (constant_part b) ≡ linear_number l = λ j n. g.value n j in
    let X : Linears = linear u false x in
    let Y : Linears = linear u false y in
    let A : Linears = linear v old a in
    let B : Linears = linear v old b in
    let e : linear u false (product at a b x y) ≡ linear_plus (linear_times m l (linear_minus X (linear_number k)) (linear_number l)) (linear_times k o (linear_number k) Y) =
    λ j. linear_plus (linear_times m (g.constant j) (linear_minus X (p j)) (q j)) (linear_times (f.constant j) o (p j) Y) in
    let s : AreSame X A = h.sum_is in
    let t : AreSame Y B = i.sum_is in
    let w : AreSame (linear_plus (linear_times m l (linear_minus X (linear_number k)) (linear_number l)) (linear_times k o (linear_number k) Y)) (linear_times k l X Y) = product_linears k l m o X Y in
    let z : AreSame (linear_times k l X Y) (linear_times k l A B) = times_same k l X A Y B s t in
    record {
      sum_is = λ n.
          let d : IsSame (linear_plus (linear_times m l (linear_minus X (linear_number k)) (linear_number l)) (linear_times k o (linear_number k) Y) n) (linear_times k l A B n) =
          same_through (linear_plus (linear_times m l (linear_minus X (linear_number k)) (linear_number l)) (linear_times k o (linear_number k) Y) n) (linear_times k l X Y n) (linear_times k l A B n) (w n) (z n) in
          subst (λ (c : Linears). IsSame (c n) (linear_times k l A B n)) (sym e) d;
      plan_is = λ want. refl;
    }

-- ---- quotients

division_reads : (u v : Environment) (old : Bool) (at : Span) (a b x : TypedExpression) → Reads u v old a x → Reads u v old (Bin at Div a b) (division at Div x b)
division_reads u v old at a (Lit at1 n) x h = record { sum_is = divided_same n (linear u false x) (linear v old a) h.sum_is; plan_is = λ want. refl }
division_reads u v old at a (Neg at1 (Lit at2 n)) x h = record { sum_is = divided_same (neg_ℤ n) (linear u false x) (linear v old a) h.sum_is; plan_is = λ want. refl }
division_reads u v old at a b x h = record { sum_is = λ n. same (linear_number (pos 0) n); plan_is = λ want. refl }

remainder_reads : (u v : Environment) (old : Bool) (at : Span) (a b x : TypedExpression) → Reads u v old a x → Reads u v old (Bin at Mod a b) (division at Mod x b)
remainder_reads u v old at a (Lit at1 n) x h = record { sum_is = remaining_same n (linear u false x) (linear v old a) h.sum_is; plan_is = λ want. refl }
remainder_reads u v old at a (Neg at1 (Lit at2 n)) x h = record { sum_is = remaining_same (neg_ℤ n) (linear u false x) (linear v old a) h.sum_is; plan_is = λ want. refl }
remainder_reads u v old at a b x h = record { sum_is = λ n. same (linear_number (pos 0) n); plan_is = λ want. refl }

-- ---- comparisons

below_blind : (z : ℤ) → IsBlind (below_row z)
below_blind z = λ x y s t h k. below_same z x y s t h k

above_blind : (z : ℤ) → IsBlind (above_row z)
above_blind z = λ x y s t h k. above_same z x y s t h k

equal_blind : IsBlind equal
equal_blind = λ x y s t h k. equal_same x y s t h k

-- what two operands that read alike have alike
plans_same : (u v : Environment) (old : Bool) (a x : TypedExpression) → Reads u v old a x → paths u false x ≡ paths v old a
plans_same u v old a x h = λ j want. h.plan_is want j

-- a comparison by one row
one_row : (row : Linear → Linear → LinearRow) → IsBlind row → (a b d e : Linears) → AreSame a b → AreSame d e → Just (compared row a d) ≡ Just (compared row b e)
one_row row r a b d e h k = λ j. Just (compared_same row r a b d e h k j)

lt_same : (a b d e : Linears) (f g p q : Bool → Plan) (kind other : Bool) → AreSame a b → AreSame d e → (want : Bool) →
    operation_plan Lt kind f g a d want ≡ operation_plan Lt other p q b e want
lt_same a b d e f g p q kind other h k true = one_row (below_row (negsuc 0)) (below_blind (negsuc 0)) a b d e h k
lt_same a b d e f g p q kind other h k false = one_row (above_row (pos 0)) (above_blind (pos 0)) a b d e h k

le_same : (a b d e : Linears) (f g p q : Bool → Plan) (kind other : Bool) → AreSame a b → AreSame d e → (want : Bool) →
    operation_plan Le kind f g a d want ≡ operation_plan Le other p q b e want
le_same a b d e f g p q kind other h k true = one_row (below_row (pos 0)) (below_blind (pos 0)) a b d e h k
le_same a b d e f g p q kind other h k false = one_row (above_row (negsuc 0)) (above_blind (negsuc 0)) a b d e h k

gt_same : (a b d e : Linears) (f g p q : Bool → Plan) (kind other : Bool) → AreSame a b → AreSame d e → (want : Bool) →
    operation_plan Gt kind f g a d want ≡ operation_plan Gt other p q b e want
gt_same a b d e f g p q kind other h k true = one_row (above_row (negsuc 0)) (above_blind (negsuc 0)) a b d e h k
gt_same a b d e f g p q kind other h k false = one_row (below_row (pos 0)) (below_blind (pos 0)) a b d e h k

ge_same : (a b d e : Linears) (f g p q : Bool → Plan) (kind other : Bool) → AreSame a b → AreSame d e → (want : Bool) →
    operation_plan Ge kind f g a d want ≡ operation_plan Ge other p q b e want
ge_same a b d e f g p q kind other h k true = one_row (above_row (pos 0)) (above_blind (pos 0)) a b d e h k
ge_same a b d e f g p q kind other h k false = one_row (below_row (negsuc 0)) (below_blind (negsuc 0)) a b d e h k

equal_sums_same : (a b d e : Linears) → AreSame a b → AreSame d e → (want : Bool) → equal_sums a d want ≡ equal_sums b e want
equal_sums_same a b d e h k true = one_row equal equal_blind a b d e h k
equal_sums_same a b d e h k false =
    λ j. Then (one_row (below_row (negsuc 0)) (below_blind (negsuc 0)) a b d e h k j) (one_row (above_row (negsuc 0)) (above_blind (negsuc 0)) a b d e h k j)

-- 0 + x
zero_plus : (x a : Linears) → AreSame x a → AreSame (linear_plus (linear_number (pos 0)) x) a
zero_plus x a h n =
    let i : n + 0 ≡ n = omega arith in
    let z : pos 0 +ℤ (x n).constant ≡ (x n).constant = omega (arith, ints) in
    let w : 0 + (x n).helpers ≡ (x n).helpers = omega arith in
    let k : IsSame (linear_plus (linear_number (pos 0)) x n) (x n) =
    record {
      terms = λ c. λ j. coefficient c (x (i j)).terms;
      constant = (λ j. pos 0 +ℤ (x (i j)).constant) ∙ z;
      rows = λ j. (x (i j)).rows;
      helpers = (λ j. 0 + (x (i j)).helpers) ∙ w;
    }
    in
    same_through (linear_plus (linear_number (pos 0)) x n) (x n) (a n) k (h n)

equality_reads : (u v : Environment) (old : Bool) (at : Span) (kind : Bool) (a b x y : TypedExpression) → kind ≡ is_truth v old a → Reads u v old a x → Reads u v old b y →
    Reads u v old (Bin at Eq a b) (equality at Eq kind x y)
equality_reads u v old at true a b x y k h i =
    let p = plans_same u v old a x h in
    let q = plans_same u v old b y i in
    record {
      sum_is = λ n. same (linear_number (pos 0) n);
      plan_is = λ want. (λ j. alike (p j) (q j) want) ∙ (λ j. operation_plan Eq (k j) (paths v old a) (paths v old b) (linear v old a) (linear v old b) want);
    }
equality_reads u v old at false a b x y k h i =
    record {
      sum_is = λ n. same (linear_number (pos 0) n);
      plan_is = λ want.
          equal_sums_same (linear_plus (linear_number (pos 0)) (linear u false x)) (linear v old a) (linear u false y) (linear v old b)
          (zero_plus (linear u false x) (linear v old a) h.sum_is) i.sum_is want
          ∙ (λ j. operation_plan Eq (k j) (paths v old a) (paths v old b) (linear v old a) (linear v old b) want);
    }

inequality_reads : (u v : Environment) (old : Bool) (at : Span) (kind : Bool) (a b x y : TypedExpression) → kind ≡ is_truth v old a → Reads u v old a x → Reads u v old b y →
    Reads u v old (Bin at Ne a b) (equality at Ne kind x y)
inequality_reads u v old at true a b x y k h i =
    let p = plans_same u v old a x h in
    let q = plans_same u v old b y i in
    record {
      sum_is = λ n. same (linear_number (pos 0) n);
      plan_is = λ want. (λ j. alike (p j) (q j) (not want)) ∙ (λ j. operation_plan Ne (k j) (paths v old a) (paths v old b) (linear v old a) (linear v old b) want);
    }
inequality_reads u v old at false a b x y k h i =
    record {
      sum_is = λ n. same (linear_number (pos 0) n);
      plan_is = λ want.
          equal_sums_same (linear_plus (linear_number (pos 0)) (linear u false x)) (linear v old a) (linear u false y) (linear v old b)
          (zero_plus (linear u false x) (linear v old a) h.sum_is) i.sum_is (not want)
          ∙ (λ j. operation_plan Ne (k j) (paths v old a) (paths v old b) (linear v old a) (linear v old b) want);
    }

-- ---- operations

implies_same : (p q r s : Bool → Plan) (a b d e : Linears) (kind other : Bool) → p ≡ r → q ≡ s → (want : Bool) → operation_plan Implies kind p q a b want ≡ operation_plan Implies other r s d e want
implies_same p q r s a b d e kind other f g true = λ j. Then (f j false) (With (f j true) (g j true))
implies_same p q r s a b d e kind other f g false = λ j. With (f j true) (g j false)

and_same : (p q r s : Bool → Plan) (a b d e : Linears) (kind other : Bool) → p ≡ r → q ≡ s → (want : Bool) → operation_plan And kind p q a b want ≡ operation_plan And other r s d e want
and_same p q r s a b d e kind other f g true = λ j. With (f j true) (g j true)
and_same p q r s a b d e kind other f g false = λ j. Then (f j false) (With (f j true) (g j false))

or_same : (p q r s : Bool → Plan) (a b d e : Linears) (kind other : Bool) → p ≡ r → q ≡ s → (want : Bool) → operation_plan Or kind p q a b want ≡ operation_plan Or other r s d e want
or_same p q r s a b d e kind other f g true = λ j. Then (f j true) (With (f j false) (g j true))
or_same p q r s a b d e kind other f g false = λ j. With (f j false) (g j false)

rebuilt_reads : (u v : Environment) (old : Bool) (at : Span) (op : Op) (kind : Bool) (a b x y : TypedExpression) → kind ≡ is_truth v old a → Reads u v old a x → Reads u v old b y →
    Reads u v old (Bin at op a b) (rebuilt at op kind a b x y)
rebuilt_reads u v old at Mul kind a b x y k h i = product_reads u v old at a b x y h i
rebuilt_reads u v old at Div kind a b x y k h i = division_reads u v old at a b x h
rebuilt_reads u v old at Mod kind a b x y k h i = remainder_reads u v old at a b x h
rebuilt_reads u v old at Eq kind a b x y k h i = equality_reads u v old at kind a b x y k h i
rebuilt_reads u v old at Ne kind a b x y k h i = inequality_reads u v old at kind a b x y k h i
rebuilt_reads u v old at Add kind a b x y k h i =
    record { sum_is = plus_same (linear u false x) (linear v old a) (linear u false y) (linear v old b) h.sum_is i.sum_is; plan_is = λ want. refl }
rebuilt_reads u v old at Sub kind a b x y k h i =
    record { sum_is = minus_same (linear u false x) (linear v old a) (linear u false y) (linear v old b) h.sum_is i.sum_is; plan_is = λ want. refl }
rebuilt_reads u v old at Iff kind a b x y k h i =
    let p = plans_same u v old a x h in
    let q = plans_same u v old b y i in
    record { sum_is = λ n. same (linear_number (pos 0) n); plan_is = λ want. λ j. alike (p j) (q j) want }
rebuilt_reads u v old at Implies kind a b x y k h i =
    record {
      sum_is = λ n. same (linear_number (pos 0) n);
      plan_is = λ want.
          implies_same (paths u false x) (paths u false y) (paths v old a) (paths v old b) (linear u false x) (linear u false y) (linear v old a) (linear v old b)
          (is_truth u false x) (is_truth v old a) (plans_same u v old a x h) (plans_same u v old b y i) want;
    }
rebuilt_reads u v old at And kind a b x y k h i =
    record {
      sum_is = λ n. same (linear_number (pos 0) n);
      plan_is = λ want.
          and_same (paths u false x) (paths u false y) (paths v old a) (paths v old b) (linear u false x) (linear u false y) (linear v old a) (linear v old b)
          (is_truth u false x) (is_truth v old a) (plans_same u v old a x h) (plans_same u v old b y i) want;
    }
rebuilt_reads u v old at Or kind a b x y k h i =
    record {
      sum_is = λ n. same (linear_number (pos 0) n);
      plan_is = λ want.
          or_same (paths u false x) (paths u false y) (paths v old a) (paths v old b) (linear u false x) (linear u false y) (linear v old a) (linear v old b)
          (is_truth u false x) (is_truth v old a) (plans_same u v old a x h) (plans_same u v old b y i) want;
    }
rebuilt_reads u v old at Lt kind a b x y k h i =
    record {
      sum_is = λ n. same (linear_number (pos 0) n);
      plan_is = λ want.
          lt_same (linear u false x) (linear v old a) (linear u false y) (linear v old b) (paths u false x) (paths u false y) (paths v old a) (paths v old b)
          (is_truth u false x) (is_truth v old a) h.sum_is i.sum_is want;
    }
rebuilt_reads u v old at Le kind a b x y k h i =
    record {
      sum_is = λ n. same (linear_number (pos 0) n);
      plan_is = λ want.
          le_same (linear u false x) (linear v old a) (linear u false y) (linear v old b) (paths u false x) (paths u false y) (paths v old a) (paths v old b)
          (is_truth u false x) (is_truth v old a) h.sum_is i.sum_is want;
    }
rebuilt_reads u v old at Gt kind a b x y k h i =
    record {
      sum_is = λ n. same (linear_number (pos 0) n);
      plan_is = λ want.
          gt_same (linear u false x) (linear v old a) (linear u false y) (linear v old b) (paths u false x) (paths u false y) (paths v old a) (paths v old b)
          (is_truth u false x) (is_truth v old a) h.sum_is i.sum_is want;
    }
rebuilt_reads u v old at Ge kind a b x y k h i =
    record {
      sum_is = λ n. same (linear_number (pos 0) n);
      plan_is = λ want.
          ge_same (linear u false x) (linear v old a) (linear u false y) (linear v old b) (paths u false x) (paths u false y) (paths v old a) (paths v old b)
          (is_truth u false x) (is_truth v old a) h.sum_is i.sum_is want;
    }

-- ---- expressions

truth_same : (u v : Environment) (stands : Column → Stand) → AllStand u v stands → (old : Bool) (e : TypedExpression) → is_truth_by stands old e ≡ is_truth v old e
truth_same u v stands h old (Lit at n) = refl
truth_same u v stands h old (Truth at b) = refl
truth_same u v stands h old (Var at c) = ap (is_some_of types.Bool) (h (read_at old c)).type_is
truth_same u v stands h old (Old at e) = truth_same u v stands h true e
truth_same u v stands h old (Not at e) = refl
truth_same u v stands h old (Neg at e) = refl
truth_same u v stands h old (Bin at op a b) = refl

-- An expression in which expressions stand for the columns reads as the expression does where these have their own.
pub read_reads : (u v : Environment) (stands : Column → Stand) → AllStand u v stands → (old : Bool) (e : TypedExpression) → Reads u v old e (read_by stands old e)
read_reads u v stands h old (Lit at n) = record { sum_is = λ m. same (linear_number n m); plan_is = λ want. refl }
read_reads u v stands h old (Truth at b) = record { sum_is = λ m. same (linear_number (pos 0) m); plan_is = λ want. refl }
read_reads u v stands h old (Var at c) = let i = h (read_at old c) in record { sum_is = i.sum_is; plan_is = i.plan_is }
read_reads u v stands h old (Old at e) = let i = read_reads u v stands h true e in record { sum_is = i.sum_is; plan_is = i.plan_is }
read_reads u v stands h old (Not at e) = let i = read_reads u v stands h old e in record { sum_is = λ m. same (linear_number (pos 0) m); plan_is = λ want. i.plan_is (not want) }
read_reads u v stands h old (Neg at e) =
    let i = read_reads u v stands h old e in
    record { sum_is = negated_same (linear u false (read_by stands old e)) (linear v old e) i.sum_is; plan_is = λ want. refl }
read_reads u v stands h old (Bin at op a b) =
    rebuilt_reads u v old at op (is_truth_by stands old a) a b (read_by stands old a) (read_by stands old b) (truth_same u v stands h old a)
    (read_reads u v stands h old a) (read_reads u v stands h old b)
