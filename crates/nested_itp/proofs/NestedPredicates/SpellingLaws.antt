-- A prefix predicate is a predicate over the frame of its position, nested at most as deep as the cuts of a branch.
use Rattle.std.proofs.Common.{◌≡◌, ◌⊎◌, ℕ, suc, ◌+◌, ◌≤◌, ◌<◌, ℤ, Bool, true, false, List, [], ◌∷◌, length, max, cond, inl, inr, refl, ap, arith, Option}
use Rattle.math_facts.specs.Terms.{IsBelow}
use Rattle.lin_rows.specs.Sums.{is_zero}
use Rattle.nwa_base.specs.declared.letters.Letter.{Letter}
use Rattle.letter_acts.specs.Invariant.{Graph}
use Rattle.farkas_check.specs.Refutes.{at_most, above}
use Rattle.farkas_check.specs.Trees.{Tree, leaf_tree, cut_tree, cases_tree, cuts_on_branch}
use Rattle.triple_rows.specs.Predicates.{Formula, truth, atom, and_of, or_of, IsOver, IsTree, nesting, IsTruth, IsPredicate}
use Rattle.nested_itp.specs.NestedPredicates.Stamps.{column_stamp, stamps_of}
use Rattle.nested_itp.specs.NestedPredicates.Positions.{Position, is_counted}
use Rattle.nested_itp.specs.NestedPredicates.Sums.{Branch, root_of, with_cut, column_sums, terms_from, inequality, coefficients_at, bound_at, sum_at}
use Rattle.nested_itp.specs.NestedPredicates.Joins.{joined_formulas, joined_at, and_before, and_joined, or_before, or_joined, simplified, predicate_at}

-- a truth value, or a tree that is nested at most so deep
abbrev pub IsShallow : ℕ → Formula → Type 0
IsShallow n f = IsTruth f ⊎ (IsTree f × (nesting f ≤ n))

raised : (m n : ℕ) (f : Formula) → m ≤ n → IsShallow m f → IsShallow n f
raised m n f l (inl h) = inl h
raised m n f l (inr h) = inr (h.0, omega (arith, l, h.1))

-- ---- joins

and_before_shallow : (n : ℕ) (a b : Formula) → IsTree a → nesting a ≤ n → IsShallow n b → IsShallow (suc n) (and_before a b)
and_before_shallow n a (truth true) t d s = inr (t, omega (arith, d))
and_before_shallow n a (truth false) t d s = inl tt
and_before_shallow n a (atom r) t d (inl h) = absurd h
and_before_shallow n a (atom r) t d (inr h) = inr ((omega arith, (t, (h.0, tt))), omega (arith, d))
and_before_shallow n a (and_of fs) t d (inl h) = absurd h
and_before_shallow n a (and_of fs) t d (inr h) = inr ((omega arith, (t, (h.0, tt))), omega (arith, d, h.1))
and_before_shallow n a (or_of fs) t d (inl h) = absurd h
and_before_shallow n a (or_of fs) t d (inr h) = inr ((omega arith, (t, (h.0, tt))), omega (arith, d, h.1))

and_shallow : (n : ℕ) (a b : Formula) → IsShallow n a → IsShallow n b → IsShallow (suc n) (and_joined a b)
and_shallow n (truth true) b s k = raised n (suc n) b (omega arith) k
and_shallow n (truth false) b s k = inl tt
and_shallow n (atom r) b (inl h) k = absurd h
and_shallow n (atom r) b (inr h) k = and_before_shallow n (atom r) b h.0 h.1 k
and_shallow n (and_of fs) b (inl h) k = absurd h
and_shallow n (and_of fs) b (inr h) k = and_before_shallow n (and_of fs) b h.0 h.1 k
and_shallow n (or_of fs) b (inl h) k = absurd h
and_shallow n (or_of fs) b (inr h) k = and_before_shallow n (or_of fs) b h.0 h.1 k

or_before_shallow : (n : ℕ) (a b : Formula) → IsTree a → nesting a ≤ n → IsShallow n b → IsShallow (suc n) (or_before a b)
or_before_shallow n a (truth true) t d s = inl tt
or_before_shallow n a (truth false) t d s = inr (t, omega (arith, d))
or_before_shallow n a (atom r) t d (inl h) = absurd h
or_before_shallow n a (atom r) t d (inr h) = inr ((omega arith, (t, (h.0, tt))), omega (arith, d))
or_before_shallow n a (and_of fs) t d (inl h) = absurd h
or_before_shallow n a (and_of fs) t d (inr h) = inr ((omega arith, (t, (h.0, tt))), omega (arith, d, h.1))
or_before_shallow n a (or_of fs) t d (inl h) = absurd h
or_before_shallow n a (or_of fs) t d (inr h) = inr ((omega arith, (t, (h.0, tt))), omega (arith, d, h.1))

or_shallow : (n : ℕ) (a b : Formula) → IsShallow n a → IsShallow n b → IsShallow (suc n) (or_joined a b)
or_shallow n (truth true) b s k = inl tt
or_shallow n (truth false) b s k = raised n (suc n) b (omega arith) k
or_shallow n (atom r) b (inl h) k = absurd h
or_shallow n (atom r) b (inr h) k = or_before_shallow n (atom r) b h.0 h.1 k
or_shallow n (and_of fs) b (inl h) k = absurd h
or_shallow n (and_of fs) b (inr h) k = or_before_shallow n (and_of fs) b h.0 h.1 k
or_shallow n (or_of fs) b (inl h) k = absurd h
or_shallow n (or_of fs) b (inr h) k = or_before_shallow n (or_of fs) b h.0 h.1 k

-- the last part of an `and` stands before true, and that of an `or` before false
pub and_true : (f : Formula) → and_joined f (truth true) ≡ f
and_true (truth true) = refl
and_true (truth false) = refl
and_true (atom r) = refl
and_true (and_of fs) = refl
and_true (or_of fs) = refl

pub or_false : (f : Formula) → or_joined f (truth false) ≡ f
or_false (truth true) = refl
or_false (truth false) = refl
or_false (atom r) = refl
or_false (and_of fs) = refl
or_false (or_of fs) = refl

join_shallow : (c : Bool) (n : ℕ) (a b : Formula) → IsShallow n (simplified a) → IsShallow n (simplified b) → IsShallow (suc n) (simplified (joined_formulas c a b))
join_shallow true n a b s k = rw (or_false (simplified b)) (or_shallow n (simplified a) (simplified b) s k)
join_shallow false n a b s k = rw (and_true (simplified b)) (and_shallow n (simplified a) (simplified b) s k)

-- ---- leaves

inequality_shallow : (ts : List (ℕ × ℤ)) (bound : ℤ) → IsShallow 0 (simplified (inequality ts bound))
inequality_shallow [] bound = inl tt
inequality_shallow (t ∷ ts) bound = inr (record { inequality = refl; has_term = λ (e : t ∷ ts ≡ []). cc }, omega arith)

pub joined_shallow : (columns : List ℕ) (q : Position) (b : Branch) (t : Tree) → IsShallow (cuts_on_branch t) (simplified (joined_at columns q b t))
joined_shallow columns q b (leaf_tree parts) = inequality_shallow (terms_from 0 (coefficients_at b parts q)) (bound_at b parts q)
joined_shallow columns q b (cut_tree c k t u) =
    let stamp : ℕ = column_stamp columns c in
    let low : Branch = with_cut b stamp (at_most c k) in
    let high : Branch = with_cut b stamp (above c k) in
    let n : ℕ = max (cuts_on_branch t) (cuts_on_branch u) in
    join_shallow (is_counted q stamp) n (joined_at columns q low t) (joined_at columns q high u)
    (raised (cuts_on_branch t) n (simplified (joined_at columns q low t)) (omega arith) (joined_shallow columns q low t))
    (raised (cuts_on_branch u) n (simplified (joined_at columns q high u)) (omega arith) (joined_shallow columns q high u))
joined_shallow columns q b (cases_tree ts) = inl tt

shallow_predicate : (n : ℕ) (f : Formula) → n ≤ 200 → IsShallow n f → IsPredicate f
shallow_predicate n f l (inl h) = inl h
shallow_predicate n f l (inr h) = inr (h.0, omega (arith, l, h.1))

pub predicate_spells : (g : Graph) (w : List Letter) (t : Tree) (q : Position) → cuts_on_branch t ≤ 200 → IsPredicate (predicate_at g w t q)
predicate_spells g w t q l =
    shallow_predicate (cuts_on_branch t) (predicate_at g w t q) l (joined_shallow (stamps_of g w).columns q (root_of g w) t)

-- ---- the columns that atoms name

and_before_over : (m : ℕ) (a b : Formula) → IsOver m a → IsOver m b → IsOver m (and_before a b)
and_before_over m a (truth true) h k = h
and_before_over m a (truth false) h k = tt
and_before_over m a (atom r) h k = (h, (k, tt))
and_before_over m a (and_of fs) h k = (h, (k, tt))
and_before_over m a (or_of fs) h k = (h, (k, tt))

and_over : (m : ℕ) (a b : Formula) → IsOver m a → IsOver m b → IsOver m (and_joined a b)
and_over m (truth true) b h k = k
and_over m (truth false) b h k = tt
and_over m (atom r) b h k = and_before_over m (atom r) b h k
and_over m (and_of fs) b h k = and_before_over m (and_of fs) b h k
and_over m (or_of fs) b h k = and_before_over m (or_of fs) b h k

or_before_over : (m : ℕ) (a b : Formula) → IsOver m a → IsOver m b → IsOver m (or_before a b)
or_before_over m a (truth true) h k = tt
or_before_over m a (truth false) h k = h
or_before_over m a (atom r) h k = (h, (k, tt))
or_before_over m a (and_of fs) h k = (h, (k, tt))
or_before_over m a (or_of fs) h k = (h, (k, tt))

or_over : (m : ℕ) (a b : Formula) → IsOver m a → IsOver m b → IsOver m (or_joined a b)
or_over m (truth true) b h k = tt
or_over m (truth false) b h k = k
or_over m (atom r) b h k = or_before_over m (atom r) b h k
or_over m (and_of fs) b h k = or_before_over m (and_of fs) b h k
or_over m (or_of fs) b h k = or_before_over m (or_of fs) b h k

join_over : (c : Bool) (m : ℕ) (a b : Formula) → IsOver m (simplified a) → IsOver m (simplified b) → IsOver m (simplified (joined_formulas c a b))
join_over true m a b h k = rw (or_false (simplified b)) (or_over m (simplified a) (simplified b) h k)
join_over false m a b h k = rw (and_true (simplified b)) (and_over m (simplified a) (simplified b) h k)

pub column_sums_length : (b : Branch) (parts : List (ℕ × ℤ)) (own upto : ℕ) (here : List ℕ) (known : List (Option ℕ)) →
    length (column_sums b parts own upto here known) ≡ length here
column_sums_length b parts own upto [] known = refl
column_sums_length b parts own upto (v ∷ vs) [] = ap suc (column_sums_length b parts own upto vs [])
column_sums_length b parts own upto (v ∷ vs) (k ∷ ks) = ap suc (column_sums_length b parts own upto vs ks)

led_below : (z : Bool) (m c : ℕ) (a : ℤ) (ts : List (ℕ × ℤ)) → c < m → IsBelow m ts → IsBelow m (cond z ts ((c, a) ∷ ts))
led_below true m c a ts l h = h
led_below false m c a ts l h = (l, h)

terms_below : (m n : ℕ) (numbers : List ℤ) → n + length numbers ≤ m → IsBelow m (terms_from n numbers)
terms_below m n [] l = tt
terms_below m n (a ∷ numbers) l =
    led_below (is_zero a) m n a (terms_from (suc n) numbers) (omega (arith, l)) (terms_below m (suc n) numbers (omega (arith, l)))

inequality_over : (m : ℕ) (ts : List (ℕ × ℤ)) (bound : ℤ) → IsBelow m ts → IsOver m (inequality ts bound)
inequality_over m [] bound h = tt
inequality_over m (t ∷ ts) bound h = h

inequality_simplified : (ts : List (ℕ × ℤ)) (bound : ℤ) → simplified (inequality ts bound) ≡ inequality ts bound
inequality_simplified [] bound = refl
inequality_simplified (t ∷ ts) bound = refl

sum_over : (b : Branch) (parts : List (ℕ × ℤ)) (q : Position) → IsOver (length q.here) (simplified (sum_at b parts q))
sum_over b parts q =
    let numbers : List ℤ = coefficients_at b parts q in
    let l : length numbers ≡ length q.here = column_sums_length b parts q.scope.own q.upto q.here q.scope.known in
    rw (inequality_simplified (terms_from 0 numbers) (bound_at b parts q))
    (inequality_over (length q.here) (terms_from 0 numbers) (bound_at b parts q) (terms_below (length q.here) 0 numbers (omega (arith, l))))

pub joined_over : (columns : List ℕ) (q : Position) (b : Branch) (t : Tree) → IsOver (length q.here) (simplified (joined_at columns q b t))
joined_over columns q b (leaf_tree parts) = sum_over b parts q
joined_over columns q b (cut_tree c k t u) =
    let stamp : ℕ = column_stamp columns c in
    join_over (is_counted q stamp) (length q.here) (joined_at columns q (with_cut b stamp (at_most c k)) t) (joined_at columns q (with_cut b stamp (above c k)) u)
    (joined_over columns q (with_cut b stamp (at_most c k)) t) (joined_over columns q (with_cut b stamp (above c k)) u)
joined_over columns q b (cases_tree ts) = tt

pub predicate_over : (g : Graph) (w : List Letter) (t : Tree) (q : Position) → IsOver (length q.here) (predicate_at g w t q)
predicate_over g w t q = joined_over (stamps_of g w).columns q (root_of g w) t
