-- Reading trees from the front of a list: no two trees share a prefix list, so what is read is what stands there.
use Rattle.std.proofs.Common.{◌≡◌, ◌↔◌, ◌∙◌, ◌⊎◌, ℕ, suc, ◌+◌, ◌-◌, ◌<◌, ◌≤◌, Bool, true, List, [], ◌∷◌, ◌++◌, length, Option, None, Some, nat_eq, append_assoc, refl, sym, ap, subst, inl, inr, arith}
use Rattle.std.specs.Prelude.{MatchOption}
use Rattle.std.proofs.lemmas.List.{append-nil}
use Rattle.std.proofs.lemmas.Bool.{eqb-true, eq-eqb}
use Rattle.lin_rows.specs.Rows.{LinearRow}
use Rattle.triple_rows.specs.declared.predicates.PredNode.{PredNode}
use Rattle.triple_rows.specs.declared.predicates.PredNode.TheVariants.{Truth, Atom, And, Or}
use Rattle.triple_rows.specs.Predicates.{Formula, Formulas, truth, atom, and_of, or_of, no_formula, one_more, formula_count, prefix_of, prefixes_of, IsAtom, IsTree, AreTrees, nesting, deepest, IsPredicate, SpellsPredicate}
use Rattle.triple_rows.specs.Reading.{IsAfterTree, AreAfterTrees, AreAfterParts, HasNoTree, HasNoParts, IsTruthAlone}

-- ---- no two trees share a prefix list

mutual
  prefix_same : (f g : Formula) (r s : List PredNode) → prefix_of f ++ r ≡ prefix_of g ++ s → (f ≡ g) × (r ≡ s)
  prefix_same (truth b) (truth c) r s e = (let k : b ≡ c = cc in ap truth k, cc)
  prefix_same (truth b) (atom t) r s e = absurd (cc)
  prefix_same (truth b) (and_of gs) r s e = absurd (cc)
  prefix_same (truth b) (or_of gs) r s e = absurd (cc)
  prefix_same (atom t) (truth c) r s e = absurd (cc)
  prefix_same (atom t) (atom u) r s e = (let k : t ≡ u = cc in ap atom k, cc)
  prefix_same (atom t) (and_of gs) r s e = absurd (cc)
  prefix_same (atom t) (or_of gs) r s e = absurd (cc)
  prefix_same (and_of fs) (truth c) r s e = absurd (cc)
  prefix_same (and_of fs) (atom u) r s e = absurd (cc)
  prefix_same (and_of fs) (and_of gs) r s e =
      let n : formula_count fs ≡ formula_count gs = cc in
      let t : prefixes_of fs ++ r ≡ prefixes_of gs ++ s = cc in
      let h = prefixes_same fs gs r s n t in
      (ap and_of h.0, h.1)
  prefix_same (and_of fs) (or_of gs) r s e = absurd (cc)
  prefix_same (or_of fs) (truth c) r s e = absurd (cc)
  prefix_same (or_of fs) (atom u) r s e = absurd (cc)
  prefix_same (or_of fs) (and_of gs) r s e = absurd (cc)
  prefix_same (or_of fs) (or_of gs) r s e =
      let n : formula_count fs ≡ formula_count gs = cc in
      let t : prefixes_of fs ++ r ≡ prefixes_of gs ++ s = cc in
      let h = prefixes_same fs gs r s n t in
      (ap or_of h.0, h.1)

  prefixes_same : (fs gs : Formulas) (r s : List PredNode) → formula_count fs ≡ formula_count gs → prefixes_of fs ++ r ≡ prefixes_of gs ++ s → (fs ≡ gs) × (r ≡ s)
  prefixes_same no_formula no_formula r s n e = (refl, e)
  prefixes_same no_formula (one_more g gs) r s n e = absurd (omega (arith, n))
  prefixes_same (one_more f fs) no_formula r s n e = absurd (omega (arith, n))
  prefixes_same (one_more f fs) (one_more g gs) r s n e =
      let k = prefix_same f g (prefixes_of fs ++ r) (prefixes_of gs ++ s)
      (sym (append_assoc (prefix_of f) (prefixes_of fs) r) ∙ e ∙ append_assoc (prefix_of g) (prefixes_of gs) s) in
      let h = prefixes_same fs gs r s (omega (arith, n)) k.1 in
      (ap (λ (x : Formula). one_more x fs) k.0 ∙ ap (one_more g) h.0, h.1)

-- ---- so many trees in front

abbrev with_last : Formulas → Formula → Formulas
with_last no_formula g = one_more g no_formula
with_last (one_more f fs) g = one_more f (with_last fs g)

count_with_last : (fs : Formulas) (g : Formula) → formula_count (with_last fs g) ≡ formula_count fs + 1
count_with_last no_formula g = omega arith
count_with_last (one_more f fs) g = let e = count_with_last fs g in omega (arith, e)

trees_with_last : (fs : Formulas) (g : Formula) → AreTrees fs → IsTree g → AreTrees (with_last fs g)
trees_with_last no_formula g h k = (k, tt)
trees_with_last (one_more f fs) g h k = (h.0, trees_with_last fs g h.1 k)

deepest_with_last : (fs : Formulas) (g : Formula) (d : ℕ) → deepest fs ≤ d → nesting g ≤ d → deepest (with_last fs g) ≤ d
deepest_with_last no_formula g d h k = omega (arith, k)
deepest_with_last (one_more f fs) g d h k =
    let r = deepest_with_last fs g d (omega (arith, h)) k in
    omega (arith, h, r)

prefixes_with_last : (fs : Formulas) (g : Formula) (r : List PredNode) → prefixes_of (with_last fs g) ++ r ≡ prefixes_of fs ++ (prefix_of g ++ r)
prefixes_with_last no_formula g r = append_assoc (prefix_of g) [] r
prefixes_with_last (one_more f fs) g r =
    append_assoc (prefix_of f) (prefixes_of (with_last fs g)) r ∙ ap (λ (l : List PredNode). prefix_of f ++ l) (prefixes_with_last fs g r) ∙
    sym (append_assoc (prefix_of f) (prefixes_of fs) (prefix_of g ++ r))

pub trees_start : (depth : ℕ) (nodes : List PredNode) → AreAfterTrees 0 depth nodes nodes
trees_start depth nodes = record { trees = no_formula; counted = refl; are_trees = tt; nested = omega arith; spelled = refl }

pub trees_more : (i depth : ℕ) (nodes left rest : List PredNode) → AreAfterTrees i depth nodes left → IsAfterTree depth left rest → AreAfterTrees (i + 1) depth nodes rest
trees_more i depth nodes left rest h t = record {
  trees = with_last h.trees t.tree;
  counted = count_with_last h.trees t.tree ∙ ap (λ (n : ℕ). n + 1) h.counted;
  are_trees = trees_with_last h.trees t.tree h.are_trees t.is_tree;
  nested = deepest_with_last h.trees t.tree depth h.nested t.nested;
  spelled = h.spelled ∙ ap (λ (l : List PredNode). prefixes_of h.trees ++ l) t.spelled ∙ sym (prefixes_with_last h.trees t.tree rest);
}

-- where fewer trees were read than stand there, one more stands in front of what is left
next_tree : (depth : ℕ) (fs gs : Formulas) (left rest : List PredNode) → AreTrees gs → deepest gs ≤ depth → formula_count fs < formula_count gs →
    prefixes_of fs ++ left ≡ prefixes_of gs ++ rest → (more : List PredNode) × IsAfterTree depth left more
next_tree depth no_formula no_formula left rest t d l e = absurd (omega (arith, l))
next_tree depth no_formula (one_more g gs) left rest t d l e =
    (prefixes_of gs ++ rest, record { tree = g; is_tree = t.0; nested = omega (arith, d); spelled = e ∙ append_assoc (prefix_of g) (prefixes_of gs) rest })
next_tree depth (one_more f fs) no_formula left rest t d l e = absurd (omega (arith, l))
next_tree depth (one_more f fs) (one_more g gs) left rest t d l e =
    let k = prefix_same f g (prefixes_of fs ++ left) (prefixes_of gs ++ rest)
    (sym (append_assoc (prefix_of f) (prefixes_of fs) left) ∙ e ∙ append_assoc (prefix_of g) (prefixes_of gs) rest) in
    next_tree depth fs gs left rest t.1 (omega (arith, d)) (omega (arith, l)) k.1

pub parts_stop : (i count depth : ℕ) (nodes left : List PredNode) → AreAfterTrees i (depth - 1) nodes left → i < count → HasNoTree (depth - 1) left → HasNoParts count depth nodes
parts_stop i count depth nodes left h l n rest p =
    let t = p.trees in
    let k = next_tree (depth - 1) h.trees t.trees left rest t.are_trees t.nested (let a = h.counted in let b = t.counted in omega (arith, a, b, l)) (sym h.spelled ∙ t.spelled) in
    n k.0 k.1

-- ---- one tree in front

pub no_tree_empty : (depth : ℕ) (nodes : List PredNode) → nodes ≡ [] → HasNoTree depth nodes
no_tree_empty depth nodes e rest h = none h.tree (sym e ∙ h.spelled)
  where
    none : (f : Formula) → [] ≡ prefix_of f ++ rest → ⊥
    none (truth b) e = absurd (cc)
    none (atom r) e = absurd (cc)
    none (and_of fs) e = absurd (cc)
    none (or_of fs) e = absurd (cc)

pub no_tree_truth : (depth : ℕ) (b : Bool) (ns : List PredNode) → HasNoTree depth (Truth b ∷ ns)
no_tree_truth depth b ns rest h = none h.tree h.is_tree h.spelled
  where
    none : (f : Formula) → IsTree f → Truth b ∷ ns ≡ prefix_of f ++ rest → ⊥
    none (truth c) t e = t
    none (atom r) t e = absurd (cc)
    none (and_of fs) t e = absurd (cc)
    none (or_of fs) t e = absurd (cc)

pub no_tree_atom : (depth : ℕ) (r : LinearRow) (ns : List PredNode) → (IsAtom r → ⊥) → HasNoTree depth (Atom r ∷ ns)
no_tree_atom depth r ns n rest h = none h.tree h.is_tree h.spelled
  where
    none : (f : Formula) → IsTree f → Atom r ∷ ns ≡ prefix_of f ++ rest → ⊥
    none (truth c) t e = t
    none (atom s) t e = n (subst IsAtom (let k : s ≡ r = cc in k) t)
    none (and_of fs) t e = absurd (cc)
    none (or_of fs) t e = absurd (cc)

pub after_atom : (depth : ℕ) (r : LinearRow) (ns : List PredNode) → IsAtom r → IsAfterTree depth (Atom r ∷ ns) ns
after_atom depth r ns h = record { tree = atom r; is_tree = h; nested = omega arith; spelled = refl }

pub after_and : (count depth : ℕ) (ns rest : List PredNode) → AreAfterParts count depth ns rest → IsAfterTree depth (And count ∷ ns) rest
after_and count depth ns rest h =
    let t = h.trees in
    let some = h.some in
    let deep = h.deep in
    let k = t.counted in
    let d = t.nested in
    record {
      tree = and_of t.trees;
      is_tree = (omega (arith, some, k), t.are_trees);
      nested = omega (arith, deep, d);
      spelled = ap (λ (n : ℕ). And n ∷ ns) (sym k) ∙ ap (λ (l : List PredNode). And (formula_count t.trees) ∷ l) t.spelled;
    }

pub after_or : (count depth : ℕ) (ns rest : List PredNode) → AreAfterParts count depth ns rest → IsAfterTree depth (Or count ∷ ns) rest
after_or count depth ns rest h =
    let t = h.trees in
    let some = h.some in
    let deep = h.deep in
    let k = t.counted in
    let d = t.nested in
    record {
      tree = or_of t.trees;
      is_tree = (omega (arith, some, k), t.are_trees);
      nested = omega (arith, deep, d);
      spelled = ap (λ (n : ℕ). Or n ∷ ns) (sym k) ∙ ap (λ (l : List PredNode). Or (formula_count t.trees) ∷ l) t.spelled;
    }

parts_are : (count depth : ℕ) (ns rest : List PredNode) (fs : Formulas) → 2 ≤ formula_count fs → AreTrees fs → suc (deepest fs) ≤ depth → count ≡ formula_count fs →
    ns ≡ prefixes_of fs ++ rest → AreAfterParts count depth ns rest
parts_are count depth ns rest fs s t d k e = record {
  some = omega (arith, s, k);
  deep = omega (arith, d);
  trees = record { trees = fs; counted = sym k; are_trees = t; nested = omega (arith, d); spelled = e };
}

pub no_tree_and : (count depth : ℕ) (ns : List PredNode) → HasNoParts count depth ns → HasNoTree depth (And count ∷ ns)
no_tree_and count depth ns n rest h = none h.tree h.is_tree h.nested h.spelled
  where
    none : (f : Formula) → IsTree f → nesting f ≤ depth → And count ∷ ns ≡ prefix_of f ++ rest → ⊥
    none (truth c) t d e = t
    none (atom s) t d e = absurd (cc)
    none (and_of fs) t d e = n rest (parts_are count depth ns rest fs t.0 t.1 d (let k : count ≡ formula_count fs = cc in k) (let k : ns ≡ prefixes_of fs ++ rest = cc in k))
    none (or_of fs) t d e = absurd (cc)

pub no_tree_or : (count depth : ℕ) (ns : List PredNode) → HasNoParts count depth ns → HasNoTree depth (Or count ∷ ns)
no_tree_or count depth ns n rest h = none h.tree h.is_tree h.nested h.spelled
  where
    none : (f : Formula) → IsTree f → nesting f ≤ depth → Or count ∷ ns ≡ prefix_of f ++ rest → ⊥
    none (truth c) t d e = t
    none (atom s) t d e = absurd (cc)
    none (and_of fs) t d e = absurd (cc)
    none (or_of fs) t d e = n rest (parts_are count depth ns rest fs t.0 t.1 d (let k : count ≡ formula_count fs = cc in k) (let k : ns ≡ prefixes_of fs ++ rest = cc in k))

-- ---- predicates

truth_is_predicate : (nodes : List PredNode) → IsTruthAlone nodes → SpellsPredicate nodes
truth_is_predicate nodes h = (truth h.0, sym h.1, inl tt)

tree_is_predicate : (nodes : List PredNode) → IsAfterTree 200 nodes [] → SpellsPredicate nodes
tree_is_predicate nodes h = (h.tree, sym (append-nil (prefix_of h.tree)) ∙ sym h.spelled, inr (h.is_tree, h.nested))

truth_or_tree : (nodes : List PredNode) (f : Formula) → prefix_of f ≡ nodes → IsPredicate f → IsTruthAlone nodes ⊎ IsAfterTree 200 nodes []
truth_or_tree nodes f e (inr k) = inr (record { tree = f; is_tree = k.0; nested = k.1; spelled = sym e ∙ sym (append-nil (prefix_of f)) })
truth_or_tree nodes (truth b) e (inl k) = inl (b, sym e)
truth_or_tree nodes (atom r) e (inl k) = absurd k
truth_or_tree nodes (and_of fs) e (inl k) = absurd k
truth_or_tree nodes (or_of fs) e (inl k) = absurd k

-- a predicate is a single truth value, or a tree with nothing behind it
pub predicate_is : (nodes : List PredNode) → SpellsPredicate nodes ↔ (IsTruthAlone nodes ⊎ IsAfterTree 200 nodes [])
predicate_is nodes = (
  λ h. truth_or_tree nodes h.0 h.1 h.2,
  λ h. elim h [ inl k ↦ truth_is_predicate nodes k | inr k ↦ tree_is_predicate nodes k ],
)

-- what follows a tree in front is determined
pub rest_same : (depth : ℕ) (nodes r s : List PredNode) → IsAfterTree depth nodes r → IsAfterTree depth nodes s → r ≡ s
rest_same depth nodes r s h k = (prefix_same h.tree k.tree r s (sym h.spelled ∙ k.spelled)).1

-- ---- what is said of an answer

pub answer_weaker : {X : Type 0} (o : Option X) (P P' : Type 0) (Q Q' : X → Type 0) → (P → P') → ((x : X) → Q x → Q' x) → MatchOption o P Q → MatchOption o P' Q'
answer_weaker None P P' Q Q' f g h = f h
answer_weaker (Some x) P P' Q Q' f g h = g x h

-- the node in front
pub front_is : (nodes ns : List PredNode) (first node : PredNode) → nodes ≡ first ∷ ns → first ≡ node → nodes ≡ node ∷ ns
front_is nodes ns first node e h = e ∙ ap (λ (n : PredNode). n ∷ ns) h

-- a list without members
pub none_in : (nodes : List PredNode) → length nodes ≡ 0 → nodes ≡ []
none_in [] e = refl
none_in (n ∷ ns) e = absurd (omega (arith, e))

-- a tree stands alone exactly where nothing follows it
pub tree_alone : (nodes rest : List PredNode) (e : Bool) → IsAfterTree 200 nodes rest → e ≡ nat_eq (length rest) 0 → (e ≡ true) ↔ IsAfterTree 200 nodes []
tree_alone nodes rest e h k = (
  λ t. subst (IsAfterTree 200 nodes) (none_in rest (eqb-true (length rest) 0 (sym k ∙ t))) h,
  λ a. k ∙ eq-eqb (length rest) 0 (ap length (rest_same 200 nodes rest [] h a)),
)
