-- Rows and predicates that are equal, or that imply each other, part by part.
use mathlib.Core.Bool.{beq}
use Rattle.std.proofs.Common.{◌≡◌, ◌∙◌, ◌⊎◌, inl, inr, ℕ, zero, suc, ℤ, ◌≤ℤ◌, Bool, true, false, List, [], ◌∷◌, map, take, drop, nat_eq, refl, sym, ap, subst, arith}
use Rattle.std.specs.Prelude.{◌&&◌, ◌||◌, int_le}
use Rattle.std.specs.List.{list_any, list_all}
use Rattle.std.specs.Ordering.{int_eq}
use lib.Pointwise.{pointwise}
use Rattle.std.proofs.lemmas.Bool.{eqb-true, eq-eqb, false≢true, or_cases, or_left, or_right}
use Rattle.std.proofs.lemmas.Bool.Decides.{Decides-int_eq}
use Rattle.std.proofs.lemmas.Int.{ints}
use Rattle.std.proofs.lemmas.List.{append-nil}
use Rattle.math_facts.specs.Terms.{dot}
use Rattle.lin_rows.specs.Rows.{LinearRow, Holds, Stands}
use Rattle.lin_rows.specs.declared.types.RowKind.TheVariants.{Le}
use Rattle.lin_rows.proofs.HoldsLaws.{stands_as_inequality}
use Rattle.letter_acts.specs.LetterTable.Letters.{same_term}
use Rattle.triple_rows.specs.declared.predicates.PredNode.{PredNode}
use Rattle.triple_rows.specs.declared.predicates.PredNode.TheVariants.{Truth, Atom, And, Or}
use Rattle.triple_rows.specs.Predicates.{Formula, Formulas, truth, atom, and_of, or_of, no_formula, one_more, FormulaHolds, AllHold, SomeHolds, HasInequalities, HaveInequalities, prefix_of, bundled, formulas}
use Rattle.triple_rows.proofs.FormulaLaws.{formula_read}
use Rattle.explained_proof.specs.RowExpressions.Worth.{row_holds}
use Rattle.explained_proof.specs.FactExpressions.Trees.{same_terms, same_node, same_formula}
use Rattle.explained_proof.specs.FactExpressions.Facts.{says, is_equal}
use Rattle.explained_proof.specs.FactExpressions.Worth.{formula_holds, each_holds, some_holds, HoldsAsInequalities, InequalitiesHold}
use Rattle.explained_proof.proofs.FactExpressions.Truths.{both_true, and_true}

pub le_yes : (a b : ℤ) → int_le a b ≡ true → a ≤ℤ b
le_yes a b h = grind (arith, ints)

pub yes_le : (a b : ℤ) → a ≤ℤ b → int_le a b ≡ true
yes_le a b h = by (int_le a b) refl
  where
    no_le : int_le a b ≡ false → ⊥
    no_le e = grind (arith, ints)

    by : (x : Bool) → int_le a b ≡ x → int_le a b ≡ true
    by true e = e
    by false e = absurd (no_le e)

pub eq_yes : (a b : ℤ) → int_eq a b ≡ true → a ≡ b
eq_yes a b h = (Decides-int_eq a b).0 h

pub yes_eq : (a b : ℤ) → a ≡ b → int_eq a b ≡ true
yes_eq a b h = (Decides-int_eq a b).1 h

-- ---- terms and rows

pub terms_same : (ts us : List (ℕ × ℤ)) → pointwise same_term ts us ≡ true → ts ≡ us
terms_same [] [] h = refl
terms_same [] (u ∷ us) h = absurd (false≢true h)
terms_same (t ∷ ts) [] h = absurd (false≢true h)
terms_same (t ∷ ts) (u ∷ us) h =
    let a = both_true (same_term t u) (pointwise same_term ts us) h in
    let b = both_true (nat_eq t.0 u.0) (int_eq t.1 u.1) a.0 in
    let c : t.0 ≡ u.0 = eqb-true t.0 u.0 b.0 in
    let d : t.1 ≡ u.1 = eq_yes t.1 u.1 b.1 in
    let e : ts ≡ us = terms_same ts us a.1 in
    ap (λ n. (n, t.1) ∷ ts) c ∙ ap (λ z. (u.0, z) ∷ ts) d ∙ ap (λ xs. u ∷ xs) e

pub same_terms_to : (ts us : List (ℕ × ℤ)) → ts ≡ us → pointwise same_term ts us ≡ true
same_terms_to ts us e = ap (λ xs. pointwise same_term ts xs) (sym e) ∙ same ts
  where
    same : (ts : List (ℕ × ℤ)) → pointwise same_term ts ts ≡ true
    same [] = refl
    same (t ∷ ts) = and_true (same_term t t) (pointwise same_term ts ts) (and_true (nat_eq t.0 t.0) (int_eq t.1 t.1) (eq-eqb t.0 t.0 refl) (yes_eq t.1 t.1 refl)) (same ts)

less_bound : (d b c : ℤ) → d ≤ℤ b → b ≤ℤ c → d ≤ℤ c
less_bound d b c h k = omega (arith, ints)

-- a row that says another, or more
pub says_sound : (point : ℕ → ℤ) (r s : LinearRow) → says r s ≡ true → row_holds point s false ≡ true → row_holds point r false ≡ true
says_sound point r s h k =
    let a = both_true (same_terms s r) (int_le s.bound r.bound) h in
    let d : dot point s.terms ≡ dot point r.terms = ap (dot point) (terms_same s.terms r.terms a.0) in
    ap (λ z. int_le z r.bound) (sym d) ∙
    yes_le (dot point s.terms) r.bound (less_bound (dot point s.terms) s.bound r.bound (le_yes (dot point s.terms) s.bound k) (le_yes s.bound r.bound a.1))

pub says_trans : (r s q : LinearRow) → says r s ≡ true → says s q ≡ true → says r q ≡ true
says_trans r s q h k =
    let a = both_true (same_terms s r) (int_le s.bound r.bound) h in
    let b = both_true (same_terms q s) (int_le q.bound s.bound) k in
    and_true (same_terms q r) (int_le q.bound r.bound)
    (same_terms_to q.terms r.terms (terms_same q.terms s.terms b.0 ∙ terms_same s.terms r.terms a.0))
    (yes_le q.bound r.bound (less_bound q.bound s.bound r.bound (le_yes q.bound s.bound b.1) (le_yes s.bound r.bound a.1)))

same_row_value : (point : ℕ → ℤ) (r s : LinearRow) → pointwise same_term r.terms s.terms ≡ true → int_eq r.bound s.bound ≡ true → row_holds point r false ≡ row_holds point s false
same_row_value point r s h k =
    ap (λ ts. int_le (dot point ts) r.bound) (terms_same r.terms s.terms h) ∙ ap (λ z. int_le (dot point s.terms) z) (eq_yes r.bound s.bound k)

pub equal_sound : (point : ℕ → ℤ) (r s : LinearRow) → is_equal r s ≡ true → row_holds point s false ≡ true → row_holds point r false ≡ true
equal_sound point r s h k =
    let a = both_true (same_terms s r) (int_eq s.bound r.bound) h in
    sym (same_row_value point s r a.0 a.1) ∙ k

-- ---- predicates

each_listed : (point : ℕ → ℤ) (fs : List Formula) → each_holds point (bundled fs) ≡ list_all (λ b. b) (map (formula_holds point) fs)
each_listed point [] = refl
each_listed point (f ∷ fs) = ap (λ b. formula_holds point f && b) (each_listed point fs)

some_listed : (point : ℕ → ℤ) (fs : List Formula) → some_holds point (bundled fs) ≡ list_any (λ b. b) (map (formula_holds point) fs)
some_listed point [] = refl
some_listed point (f ∷ fs) = ap (λ b. formula_holds point f || b) (some_listed point fs)

take_map : {X Y : Type 0} (f : X → Y) (k : ℕ) (xs : List X) → map f (take k xs) ≡ take k (map f xs)
take_map f zero xs = refl
take_map f (suc k) [] = refl
take_map f (suc k) (x ∷ xs) = ap (λ ys. f x ∷ ys) (take_map f k xs)

drop_map : {X Y : Type 0} (f : X → Y) (k : ℕ) (xs : List X) → map f (drop k xs) ≡ drop k (map f xs)
drop_map f zero xs = refl
drop_map f (suc k) [] = refl
drop_map f (suc k) (x ∷ xs) = drop_map f k xs

-- the value of a node over those behind it, and what is left of them
node_values : (combine : List Bool → Bool) (k m : ℕ) (us vs : List Bool) → k ≡ m → us ≡ vs → combine (take k us) ∷ drop k us ≡ combine (take m vs) ∷ drop m vs
node_values combine k m us vs e f = ap (λ n. combine (take n us) ∷ drop n us) e ∙ ap (λ ws. combine (take m ws) ∷ drop m ws) f

module _ (point : ℕ → ℤ) where
  abbrev values : List Formula → List Bool
  values fs = map (formula_holds point) fs

  and_values : (k : ℕ) (fs : List Formula) → values (and_of (bundled (take k fs)) ∷ drop k fs) ≡ list_all (λ b. b) (take k (values fs)) ∷ drop k (values fs)
  and_values k fs =
      ap (λ b. b ∷ values (drop k fs)) (each_listed point (take k fs) ∙ ap (list_all (λ b. b)) (take_map (formula_holds point) k fs)) ∙
      ap (λ bs. list_all (λ b. b) (take k (values fs)) ∷ bs) (drop_map (formula_holds point) k fs)

  or_values : (k : ℕ) (fs : List Formula) → values (or_of (bundled (take k fs)) ∷ drop k fs) ≡ list_any (λ b. b) (take k (values fs)) ∷ drop k (values fs)
  or_values k fs =
      ap (λ b. b ∷ values (drop k fs)) (some_listed point (take k fs) ∙ ap (list_any (λ b. b)) (take_map (formula_holds point) k fs)) ∙
      ap (λ bs. list_any (λ b. b) (take k (values fs)) ∷ bs) (drop_map (formula_holds point) k fs)

  by_node : (m n : PredNode) (ms ns : List PredNode) → same_node m n ≡ true → values (formulas ms) ≡ values (formulas ns) → values (formulas (m ∷ ms)) ≡ values (formulas (n ∷ ns))
  by_node (Truth a) (Truth b) ms ns h e = ap (λ bs. a ∷ bs) e ∙ ap (λ c. c ∷ values (formulas ns)) (same_bit a b h)
    where
      same_bit : (a b : Bool) → beq a b ≡ true → a ≡ b
      same_bit true true h = refl
      same_bit true false h = absurd (false≢true h)
      same_bit false true h = absurd (false≢true h)
      same_bit false false h = refl
  by_node (Atom r) (Atom s) ms ns h e =
      let a = both_true (same_terms r s) (int_eq r.bound s.bound) h in
      ap (λ bs. row_holds point r false ∷ bs) e ∙ ap (λ c. c ∷ values (formulas ns)) (same_row_value point r s a.0 a.1)
  by_node (And k) (And m) ms ns h e =
      and_values k (formulas ms) ∙ node_values (list_all (λ b. b)) k m (values (formulas ms)) (values (formulas ns)) (eqb-true k m h) e ∙ sym (and_values m (formulas ns))
  by_node (Or k) (Or m) ms ns h e =
      or_values k (formulas ms) ∙ node_values (list_any (λ b. b)) k m (values (formulas ms)) (values (formulas ns)) (eqb-true k m h) e ∙ sym (or_values m (formulas ns))
  by_node m n ms ns h e = absurd (false≢true h)

  same_values : (ms ns : List PredNode) → pointwise same_node ms ns ≡ true → values (formulas ms) ≡ values (formulas ns)
  same_values [] [] h = refl
  same_values [] (n ∷ ns) h = absurd (false≢true h)
  same_values (m ∷ ms) [] h = absurd (false≢true h)
  same_values (m ∷ ms) (n ∷ ns) h = let a = both_true (same_node m n) (pointwise same_node ms ns) h in by_node m n ms ns a.0 (same_values ms ns a.1)

  read_value : (f : Formula) → values (formulas (prefix_of f)) ≡ formula_holds point f ∷ []
  read_value f = ap (λ ns. values (formulas ns)) (sym (append-nil (prefix_of f))) ∙ ap values (formula_read f [])

  head_same : (a b : Bool) → a ∷ [] ≡ b ∷ [] → a ≡ b
  head_same a b h = cc

  -- predicates that are spelled by equal nodes
  pub same_holds : (f g : Formula) → same_formula f g ≡ true → formula_holds point f ≡ formula_holds point g
  same_holds f g h = head_same (formula_holds point f) (formula_holds point g) (sym (read_value f) ∙ same_values (prefix_of f) (prefix_of g) h ∙ read_value g)

-- ---- equality of predicates is transitive

bit_trans : (a b c : Bool) → beq a b ≡ true → beq b c ≡ true → beq a c ≡ true
bit_trans true true c h k = k
bit_trans false false c h k = k
bit_trans true false c h k = absurd (false≢true h)
bit_trans false true c h k = absurd (false≢true h)

number_trans : (a b c : ℕ) → nat_eq a b ≡ true → nat_eq b c ≡ true → nat_eq a c ≡ true
number_trans a b c h k = ap (λ n. nat_eq n c) (eqb-true a b h) ∙ k

node_trans : (a b c : PredNode) → same_node a b ≡ true → same_node b c ≡ true → same_node a c ≡ true
node_trans (Truth a) (Truth b) (Truth c) h k = bit_trans a b c h k
node_trans (Atom r) (Atom s) (Atom q) h k =
    let a = both_true (same_terms r s) (int_eq r.bound s.bound) h in
    let b = both_true (same_terms s q) (int_eq s.bound q.bound) k in
    and_true (same_terms r q) (int_eq r.bound q.bound)
    (same_terms_to r.terms q.terms (terms_same r.terms s.terms a.0 ∙ terms_same s.terms q.terms b.0))
    (yes_eq r.bound q.bound (eq_yes r.bound s.bound a.1 ∙ eq_yes s.bound q.bound b.1))
node_trans (And a) (And b) (And c) h k = number_trans a b c h k
node_trans (Or a) (Or b) (Or c) h k = number_trans a b c h k
node_trans a b c h k = let no : ⊥ = cc in absurd no

nodes_trans : (xs ys zs : List PredNode) → pointwise same_node xs ys ≡ true → pointwise same_node ys zs ≡ true → pointwise same_node xs zs ≡ true
nodes_trans [] [] zs h k = k
nodes_trans [] (y ∷ ys) zs h k = absurd (false≢true h)
nodes_trans (x ∷ xs) [] zs h k = absurd (false≢true h)
nodes_trans (x ∷ xs) (y ∷ ys) [] h k = absurd (false≢true k)
nodes_trans (x ∷ xs) (y ∷ ys) (z ∷ zs) h k =
    let a = both_true (same_node x y) (pointwise same_node xs ys) h in
    let b = both_true (same_node y z) (pointwise same_node ys zs) k in
    and_true (same_node x z) (pointwise same_node xs zs) (node_trans x y z a.0 b.0) (nodes_trans xs ys zs a.1 b.1)

pub formula_trans : (f g h : Formula) → same_formula f g ≡ true → same_formula g h ≡ true → same_formula f h ≡ true
formula_trans f g h a b = nodes_trans (prefix_of f) (prefix_of g) (prefix_of h) a b

-- ---- predicates and their tests

mutual
  pub formula_yes : (point : ℕ → ℤ) (f : Formula) → FormulaHolds point f → formula_holds point f ≡ true
  formula_yes point (truth true) h = refl
  formula_yes point (truth false) h = elim h [ ]
  formula_yes point (atom r) h = yes_le (dot point r.terms) r.bound (stands_as_inequality r.kind (dot point r.terms) r.bound h)
  formula_yes point (and_of fs) h = each_yes point fs h
  formula_yes point (or_of fs) h = some_yes point fs h

  each_yes : (point : ℕ → ℤ) (fs : Formulas) → AllHold point fs → each_holds point fs ≡ true
  each_yes point no_formula h = refl
  each_yes point (one_more f fs) h = and_true (formula_holds point f) (each_holds point fs) (formula_yes point f h.0) (each_yes point fs h.1)

  some_yes : (point : ℕ → ℤ) (fs : Formulas) → SomeHolds point fs → some_holds point fs ≡ true
  some_yes point no_formula h = elim h [ ]
  some_yes point (one_more f fs) (inl h) = or_left (formula_holds point f) (some_holds point fs) (formula_yes point f h)
  some_yes point (one_more f fs) (inr h) = or_right (formula_holds point f) (some_holds point fs) (some_yes point fs h)

pub as_inequality : (point : ℕ → ℤ) (r : LinearRow) → r.kind ≡ Le → row_holds point r false ≡ true → Holds point r
as_inequality point r e h = subst (λ k. Stands k (dot point r.terms) r.bound) (sym e) (le_yes (dot point r.terms) r.bound h)

yes_either : (point : ℕ → ℤ) (f : Formula) (fs : Formulas) → (formula_holds point f ≡ true → FormulaHolds point f) → (some_holds point fs ≡ true → SomeHolds point fs) →
    (formula_holds point f ≡ true) ⊎ (some_holds point fs ≡ true) → SomeHolds point (one_more f fs)
yes_either point f fs here behind (inl h) = inl (here h)
yes_either point f fs here behind (inr h) = inr (behind h)

mutual
  pub yes_formula : (point : ℕ → ℤ) (f : Formula) → HasInequalities f → formula_holds point f ≡ true → FormulaHolds point f
  yes_formula point (truth true) i h = tt
  yes_formula point (truth false) i h = absurd (false≢true h)
  yes_formula point (atom r) i h = as_inequality point r i h
  yes_formula point (and_of fs) i h = yes_each point fs i h
  yes_formula point (or_of fs) i h = yes_some point fs i h

  yes_each : (point : ℕ → ℤ) (fs : Formulas) → HaveInequalities fs → each_holds point fs ≡ true → AllHold point fs
  yes_each point no_formula i h = tt
  yes_each point (one_more f fs) i h = let a = both_true (formula_holds point f) (each_holds point fs) h in (yes_formula point f i.0 a.0, yes_each point fs i.1 a.1)

  yes_some : (point : ℕ → ℤ) (fs : Formulas) → HaveInequalities fs → some_holds point fs ≡ true → SomeHolds point fs
  yes_some point no_formula i h = absurd (false≢true h)
  yes_some point (one_more f fs) i h = yes_either point f fs (yes_formula point f i.0) (yes_some point fs i.1) (or_cases (formula_holds point f) (some_holds point fs) h)

pub holds_as_inequalities : HoldsAsInequalities
holds_as_inequalities point f h = formula_yes point f h

pub inequalities_hold : InequalitiesHold
inequalities_hold point f i h = yes_formula point f i h
