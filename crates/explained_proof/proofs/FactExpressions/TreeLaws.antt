-- Lists of nodes that spell predicates: what the first ones are, and what stands behind them.
use Rattle.std.proofs.Common.{◌≡◌, ◌≢◌, ◌∙◌, ℕ, zero, suc, ◌+◌, ◌-◌, ◌<◌, ◌≤◌, true, List, [], ◌∷◌, ◌++◌, length, take, drop, get_or, refl, sym, ap, subst, length-drop, append_assoc, zero-add, add_assoc, arith}
use Rattle.std.proofs.Math.Nat.{suc-add}
use Rattle.std.proofs.lemmas.Bool.{false≢true}
use Rattle.std.proofs.lemmas.List.{append-nil, take-take, take_all, drop-take, take-append-drop, drop_more, drop_all}
use Rattle.triple_rows.specs.declared.predicates.PredNode.{PredNode}
use Rattle.triple_rows.specs.declared.predicates.PredNode.TheVariants.{Truth, Atom, And, Or}
use Rattle.triple_rows.specs.Predicates.{Formula, Formulas, truth, atom, and_of, or_of, no_formula, one_more, formula_count, prefix_of, prefixes_of, bundled, formulas, first_formula, formula_of, SpellsPredicate}
use Rattle.explained_proof.specs.FactExpressions.Trees.{part_count, tree_length, spells, SpellsSome}
use Rattle.explained_proof.specs.FactExpressions.Conclusions.{formula_list, parts_of}

-- ---- how long the first trees are

pub length_none : (k : ℕ) → tree_length k [] ≡ 0
unfolding tree_length
length_none zero = refl
length_none (suc k) = refl

pub length_zero : (ns : List PredNode) → tree_length 0 ns ≡ 0
unfolding tree_length
length_zero ns = refl

length_suc : (k : ℕ) (n : PredNode) (ns : List PredNode) → tree_length (suc k) (n ∷ ns) ≡ suc (tree_length (part_count n + k) ns)
unfolding tree_length
length_suc k n ns = refl

pub length_next : (k : ℕ) (n : PredNode) (ns : List PredNode) → 0 < k → tree_length k (n ∷ ns) ≡ suc (tree_length (part_count n + (k - 1)) ns)
length_next zero n ns h = absurd (omega (arith, h))
length_next (suc k) n ns h = length_suc k n ns ∙ ap (λ m. suc (tree_length (part_count n + m) ns)) (let e : k ≡ suc k - 1 = omega arith in e)

-- behind the node at a place
pub length_step : (ns : List PredNode) (i o : ℕ) (x : PredNode) → i < length ns → x ≡ get_or ns i x → 0 < o →
    tree_length o (drop i ns) ≡ suc (tree_length (part_count x + (o - 1)) (drop (i + 1) ns))
length_step ns i o x l e h =
    ap (tree_length o) (drop_more ns i x l ∙ ap (λ y. y ∷ drop (i + 1) ns) (sym e)) ∙ length_next o x (drop (i + 1) ns) h

pub length_end : (ns : List PredNode) (i o : ℕ) → length ns ≤ i → tree_length o (drop i ns) ≡ 0
length_end ns i o h = ap (tree_length o) (drop_all i ns h) ∙ length_none o

pub length_within : (k : ℕ) (ns : List PredNode) → tree_length k ns ≤ length ns
length_within k [] = let e = length_none k in omega (arith, e)
length_within zero (n ∷ ns) = let e = length_zero (n ∷ ns) in omega (arith, e)
length_within (suc k) (n ∷ ns) =
    let e = length_suc k n ns in
    let h = length_within (part_count n + k) ns in
    omega (arith, e, h)

-- ---- the first trees

taken_parts : (p k : ℕ) (fs : List Formula) → take p (take (p + k) fs) ≡ take p fs
taken_parts p k fs = take-take p (p + k) fs (omega arith)

pub first_trees : (k : ℕ) (ns : List PredNode) → formulas (take (tree_length k ns) ns) ≡ take k (formulas ns)
first_trees zero ns = ap (λ m. formulas (take m ns)) (length_zero ns)
first_trees (suc k) [] = ap (λ m. formulas (take m [])) (length_none (suc k))
first_trees (suc k) (n ∷ ns) = ap (λ m. formulas (take m (n ∷ ns))) (length_suc k n ns) ∙ by n (first_trees (part_count n + k) ns)
  where
    by : (n : PredNode) → formulas (take (tree_length (part_count n + k) ns) ns) ≡ take (part_count n + k) (formulas ns) →
        formulas (n ∷ take (tree_length (part_count n + k) ns) ns) ≡ take (suc k) (formulas (n ∷ ns))
    by (Truth b) h = ap (λ fs. truth b ∷ fs) (h ∙ ap (λ m. take m (formulas ns)) (zero-add k))
    by (Atom r) h = ap (λ fs. atom r ∷ fs) (h ∙ ap (λ m. take m (formulas ns)) (zero-add k))
    by (And p) h =
        ap (λ fs. and_of (bundled (take p fs)) ∷ drop p fs) h ∙ ap (λ fs. and_of (bundled fs) ∷ drop p (take (p + k) (formulas ns))) (taken_parts p k (formulas ns)) ∙
        ap (λ fs. and_of (bundled (take p (formulas ns))) ∷ fs) (drop-take p k (formulas ns))
    by (Or p) h =
        ap (λ fs. or_of (bundled (take p fs)) ∷ drop p fs) h ∙ ap (λ fs. or_of (bundled fs) ∷ drop p (take (p + k) (formulas ns))) (taken_parts p k (formulas ns)) ∙
        ap (λ fs. or_of (bundled (take p (formulas ns))) ∷ fs) (drop-take p k (formulas ns))

drop_none : (X : Type 0) (k : ℕ) → ◌≡◌ {A = List X} (drop k []) []
drop_none X zero = refl
drop_none X (suc k) = refl

drop_drop : {X : Type 0} (p k : ℕ) (xs : List X) → drop (p + k) xs ≡ drop k (drop p xs)
drop_drop zero k xs = ap (λ m. drop m xs) (zero-add k)
drop_drop {X} (suc p) k [] = drop_none X (suc p + k) ∙ sym (drop_none X k)
drop_drop (suc p) k (x ∷ xs) = ap (λ m. drop m (x ∷ xs)) (suc-add p k) ∙ drop_drop p k xs

-- ---- what stands behind them
pub trees_behind : (k : ℕ) (ns : List PredNode) → formulas (drop (tree_length k ns) ns) ≡ drop k (formulas ns)
trees_behind zero ns = ap (λ m. formulas (drop m ns)) (length_zero ns)
trees_behind (suc k) [] = ap (λ m. formulas (drop m [])) (length_none (suc k))
trees_behind (suc k) (n ∷ ns) = ap (λ m. formulas (drop m (n ∷ ns))) (length_suc k n ns) ∙ trees_behind (part_count n + k) ns ∙ by n
  where
    by : (n : PredNode) → drop (part_count n + k) (formulas ns) ≡ drop (suc k) (formulas (n ∷ ns))
    by (Truth b) = ap (λ m. drop m (formulas ns)) (zero-add k)
    by (Atom r) = ap (λ m. drop m (formulas ns)) (zero-add k)
    by (And p) = drop_drop p k (formulas ns)
    by (Or p) = drop_drop p k (formulas ns)

-- ---- lists that spell so many predicates

spells_suc : (k : ℕ) (n : PredNode) (ns : List PredNode) → spells (suc k) (n ∷ ns) ≡ spells (part_count n + k) ns
unfolding spells
spells_suc k n ns = refl

pub spells_none : spells 0 [] ≡ true
unfolding spells
spells_none = refl

no_node : (k : ℕ) → spells (suc k) [] ≡ true → ⊥
unfolding spells
no_node k h = false≢true h

no_tree : (n : PredNode) (ns : List PredNode) → spells 0 (n ∷ ns) ≡ true → ⊥
unfolding spells
no_tree n ns h = false≢true h

-- the first j of j + k predicates, and the others
pub spells_parts : (j k : ℕ) (ns : List PredNode) → spells (j + k) ns ≡ true → (spells j (take (tree_length j ns) ns) ≡ true) × (spells k (drop (tree_length j ns) ns) ≡ true)
spells_parts zero k ns h = (
  subst (λ m. spells 0 (take m ns) ≡ true) (sym (length_zero ns)) spells_none,
  subst (λ m. spells k (drop m ns) ≡ true) (sym (length_zero ns)) (subst (λ m. spells m ns ≡ true) (zero-add k) h),
)
spells_parts (suc j) k [] h = absurd (no_node (j + k) (subst (λ m. spells m [] ≡ true) (suc-add j k) h))
spells_parts (suc j) k (n ∷ ns) h =
    let g : spells ((part_count n + j) + k) ns ≡ true =
    subst (λ m. spells m ns ≡ true) (sym (add_assoc (part_count n) j k)) (sym (spells_suc (j + k) n ns) ∙ subst (λ m. spells m (n ∷ ns) ≡ true) (suc-add j k) h) in
    let r = spells_parts (part_count n + j) k ns g in
    let e = length_suc j n ns in (
      subst (λ m. spells (suc j) (take m (n ∷ ns)) ≡ true) (sym e) (spells_suc j n (take (tree_length (part_count n + j) ns) ns) ∙ r.0),
      subst (λ m. spells k (drop m (n ∷ ns)) ≡ true) (sym e) r.1,
    )

pub spells_length : (k : ℕ) (ns : List PredNode) → spells k ns ≡ true → length (formulas ns) ≡ k
spells_length zero [] h = refl
spells_length (suc k) [] h = absurd (no_node k h)
spells_length zero (n ∷ ns) h = absurd (no_tree n ns h)
spells_length (suc k) (n ∷ ns) h = by n (spells_length (part_count n + k) ns (sym (spells_suc k n ns) ∙ h))
  where
    by : (n : PredNode) → length (formulas ns) ≡ part_count n + k → length (formulas (n ∷ ns)) ≡ suc k
    by (Truth b) e = ap suc (e ∙ zero-add k)
    by (Atom r) e = ap suc (e ∙ zero-add k)
    by (And p) e = let d = length-drop p (formulas ns) in ap suc (let m : length (drop p (formulas ns)) ≡ k = omega (arith, d, e) in m)
    by (Or p) e = let d = length-drop p (formulas ns) in ap suc (let m : length (drop p (formulas ns)) ≡ k = omega (arith, d, e) in m)

prefixes-append : (xs ys : List Formula) → prefixes_of (bundled xs) ++ prefixes_of (bundled ys) ≡ prefixes_of (bundled (xs ++ ys))
prefixes-append [] ys = refl
prefixes-append (x ∷ xs) ys = append_assoc (prefix_of x) (prefixes_of (bundled xs)) (prefixes_of (bundled ys)) ∙ ap (λ ns. prefix_of x ++ ns) (prefixes-append xs ys)

count_bundled : (xs : List Formula) → formula_count (bundled xs) ≡ length xs
count_bundled [] = refl
count_bundled (x ∷ xs) = ap suc (count_bundled xs)

counted : (p k : ℕ) (fs : List Formula) → length fs ≡ p + k → formula_count (bundled (take p fs)) ≡ p
counted p k fs e = count_bundled (take p fs) ∙ by p fs (omega (arith, e))
  where
    by : (p : ℕ) (fs : List Formula) → p ≤ length fs → length (take p fs) ≡ p
    by zero fs h = refl
    by (suc p) [] h = absurd (omega (arith, h))
    by (suc p) (f ∷ fs) h = ap suc (by p fs (omega (arith, h)))

-- the list is the prefix list of what it spells
pub spelled_prefixes : (k : ℕ) (ns : List PredNode) → spells k ns ≡ true → prefixes_of (bundled (formulas ns)) ≡ ns
spelled_prefixes zero [] h = refl
spelled_prefixes (suc k) [] h = absurd (no_node k h)
spelled_prefixes zero (n ∷ ns) h = absurd (no_tree n ns h)
spelled_prefixes (suc k) (n ∷ ns) h =
    let g = sym (spells_suc k n ns) ∙ h in
    by n (spells_length (part_count n + k) ns g) (spelled_prefixes (part_count n + k) ns g)
  where
    by : (n : PredNode) → length (formulas ns) ≡ part_count n + k → prefixes_of (bundled (formulas ns)) ≡ ns → prefixes_of (bundled (formulas (n ∷ ns))) ≡ n ∷ ns
    by (Truth b) e r = ap (λ ms. Truth b ∷ ms) r
    by (Atom a) e r = ap (λ ms. Atom a ∷ ms) r
    by (And p) e r =
        let F = formulas ns in
        ap (λ m. And m ∷ (prefixes_of (bundled (take p F)) ++ prefixes_of (bundled (drop p F)))) (counted p k F e) ∙
        ap (λ ms. And p ∷ ms) (prefixes-append (take p F) (drop p F) ∙ ap (λ fs. prefixes_of (bundled fs)) (take-append-drop p F) ∙ r)
    by (Or p) e r =
        let F = formulas ns in
        ap (λ m. Or m ∷ (prefixes_of (bundled (take p F)) ++ prefixes_of (bundled (drop p F)))) (counted p k F e) ∙
        ap (λ ms. Or p ∷ ms) (prefixes-append (take p F) (drop p F) ∙ ap (λ fs. prefixes_of (bundled fs)) (take-append-drop p F) ∙ r)

alone : (fs : List Formula) → length fs ≡ 1 → fs ≡ first_formula fs ∷ []
alone [] h = absurd (omega (arith, h))
alone (f ∷ []) h = refl
alone (f ∷ (g ∷ fs)) h = absurd (omega (arith, h))

-- a list that spells one predicate
pub one_formula : (ns : List PredNode) → spells 1 ns ≡ true → formulas ns ≡ formula_of ns ∷ []
one_formula ns h = alone (formulas ns) (spells_length 1 ns h)

pub one_prefix : (ns : List PredNode) → spells 1 ns ≡ true → prefix_of (formula_of ns) ≡ ns
one_prefix ns h = sym (append-nil (prefix_of (formula_of ns))) ∙ ap (λ fs. prefixes_of (bundled fs)) (sym (one_formula ns h)) ∙ spelled_prefixes 1 ns h

-- ---- prefix lists spell their predicates
mutual
  prefix_spells : (f : Formula) (k : ℕ) (r : List PredNode) → spells (suc k) (prefix_of f ++ r) ≡ spells k r
  prefix_spells (truth b) k r = spells_suc k (Truth b) r ∙ ap (λ m. spells m r) (zero-add k)
  prefix_spells (atom a) k r = spells_suc k (Atom a) r ∙ ap (λ m. spells m r) (zero-add k)
  prefix_spells (and_of fs) k r = spells_suc k (And (formula_count fs)) (prefixes_of fs ++ r) ∙ prefixes_spell fs k r
  prefix_spells (or_of fs) k r = spells_suc k (Or (formula_count fs)) (prefixes_of fs ++ r) ∙ prefixes_spell fs k r

  prefixes_spell : (fs : Formulas) (k : ℕ) (r : List PredNode) → spells (formula_count fs + k) (prefixes_of fs ++ r) ≡ spells k r
  prefixes_spell no_formula k r = ap (λ m. spells m r) (zero-add k)
  prefixes_spell (one_more f fs) k r =
      ap (λ m. spells m ((prefix_of f ++ prefixes_of fs) ++ r)) (suc-add (formula_count fs) k) ∙ ap (λ ns. spells (suc (formula_count fs + k)) ns) (append_assoc (prefix_of f) (prefixes_of fs) r) ∙
      prefix_spells f (formula_count fs + k) (prefixes_of fs ++ r) ∙ prefixes_spell fs k r

pub predicate_spells : (ns : List PredNode) → SpellsPredicate ns → spells 1 ns ≡ true
predicate_spells ns h = subst (λ ms. spells 1 ms ≡ true) (append-nil (prefix_of h.0) ∙ h.1) (prefix_spells h.0 0 [] ∙ spells_none)

-- ---- the first of several predicates

spelled_suc : (k : ℕ) (ns : List PredNode) → ns ≢ [] → spells k ns ≡ true → (j : ℕ) × (k ≡ 1 + j)
spelled_suc k [] n h = absurd (n refl)
spelled_suc zero (x ∷ ns) n h = absurd (no_tree x ns h)
spelled_suc (suc k) (x ∷ ns) n h = (k, omega arith)

-- what is known of the first predicate of a list and of what stands behind it
pub record IsSplit (ns first rest : List PredNode) : Type 0 where
  pub spelled : spells 1 first ≡ true
  pub value : formulas ns ≡ formula_of first ∷ formulas rest
  pub others : SpellsSome rest
  pub shorter : length rest < length ns

first_some : (ns : List PredNode) → ns ≢ [] → 0 < tree_length 1 ns
first_some [] n = absurd (n refl)
first_some (x ∷ ns) n = let e = length_suc 0 x ns in omega (arith, e)

pub split : (ns : List PredNode) → ns ≢ [] → SpellsSome ns → IsSplit ns (take (tree_length 1 ns) ns) (drop (tree_length 1 ns) ns)
split ns n h =
    let s = spelled_suc h.0 ns n h.1 in
    let p = spells_parts 1 s.0 ns (subst (λ m. spells m ns ≡ true) s.1 h.1) in
    let m = tree_length 1 ns in
    let some = first_some ns n in
    let within = length_within 1 ns in
    let d : length (drop m ns) ≡ length ns - m = length-drop m ns in
    record {
      spelled = p.0;
      value = sym (take-append-drop 1 (formulas ns)) ∙ ap (λ fs. fs ++ drop 1 (formulas ns)) (sym (first_trees 1 ns) ∙ one_formula (take m ns) p.0) ∙
          ap (λ fs. formula_of (take m ns) ∷ fs) (sym (trees_behind 1 ns));
      others = (s.0, p.1);
      shorter = omega (arith, some, within, d);
    }

-- ---- the parts of a predicate with cases

listed_bundled : (fs : List Formula) → formula_list (bundled fs) ≡ fs
listed_bundled [] = refl
listed_bundled (f ∷ fs) = ap (λ gs. f ∷ gs) (listed_bundled fs)

pub or_parts : (p : ℕ) (ns : List PredNode) → spells 1 (Or p ∷ ns) ≡ true → formulas ns ≡ parts_of (formula_of (Or p ∷ ns))
or_parts p ns h =
    let n : length (formulas ns) ≡ p + 0 = spells_length (p + 0) ns (sym (spells_suc 0 (Or p) ns) ∙ h) in
    sym (listed_bundled (take p (formulas ns)) ∙ take_all p (formulas ns) (omega (arith, n)))

pub rest_spelled : (n : PredNode) (ns : List PredNode) → SpellsSome (n ∷ ns) → SpellsSome ns
rest_spelled n ns (zero, h) = absurd (no_tree n ns h)
rest_spelled n ns (suc k, h) = (part_count n + k, sym (spells_suc k n ns) ∙ h)
