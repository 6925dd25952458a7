-- The nodes at a position spell the predicate of that position.
use Rattle.std.proofs.Common.{◌≡◌, ◌∙◌, ℕ, zero, suc, ◌+◌, ◌<◌, ◌≤◌, ℤ, Bool, true, false, List, [], ◌∷◌, ◌++◌, length, map, take, get_or, append_assoc, refl, sym, ap, subst, arith, Option, None, Some}
use Rattle.std.specs.Prelude.{slice_get, IsSome, if◌then◌else◌}
use Rattle.std.specs.Global.{Vec}
use Rattle.std.specs.List.{AllByRecursion}
use Rattle.std.proofs.lemmas.List.{append-nil, map-append, length-map}
use Rattle.nwa_base.specs.declared.letters.Letter.{Letter}
use Rattle.letter_acts.specs.Invariant.{Graph}
use Rattle.farkas_check.specs.Nodes.{PlainNode}
use Rattle.farkas_check.specs.Refutes.{at_most, above}
use Rattle.farkas_check.specs.Trees.{Tree, leaf_tree, cut_tree, cases_tree, TreeRefutes, cuts_on_branch}
use Rattle.farkas_check.specs.Trees as trees
use Rattle.triple_rows.specs.declared.predicates.PredNode.{PredNode}
use Rattle.triple_rows.specs.declared.predicates.PredNode.TheVariants.{And, Or}
use Rattle.triple_rows.specs.declared.triples.Scoped.{Scoped}
use Rattle.triple_rows.specs.Predicates.{Formula, prefix_of, formulas, first_formula}
use Rattle.nested_itp.specs.NestedPredicates.Stamps.{column_stamp, stamps_of}
use Rattle.nested_itp.specs.NestedPredicates.Positions.{Position, is_counted, positions_of}
use Rattle.nested_itp.specs.NestedPredicates.Sums.{Branch, root_of, with_cut, inequality, terms_from, coefficients_at, bound_at}
use Rattle.nested_itp.specs.NestedPredicates.Joins.{joined_formulas, joined_at, simplified}
use Rattle.nested_itp.specs.NestedPredicates.Simplifying.{AreJoined}
use Rattle.nested_itp.specs.NestedPredicates.Interpolants.{interpolant_at}
use Rattle.nested_itp.specs.NestedPredicates.Bases.{node_of}
use Rattle.nested_itp.specs.NestedPredicates.Layouts.{leaf_node}
use Rattle.nested_itp.specs.NestedPredicates.Tables.{cut_node_at, table_along}
use Rattle.nested_itp.specs.NestedPredicates.Ties.Spelled.{SpellsAt, CanSpell, IsTableOf}
use Rattle.nested_itp.specs.NestedPredicates.Spots.{spot_at}
use Rattle.nested_itp.specs.declared.nested_predicates.spots.Spot.{Spot}
use Rattle.nested_itp.proofs.NestedPredicates.EndLaws.{rows_goal, tree_refutes}
use Rattle.nested_itp.proofs.NestedPredicates.SpellingLaws.{predicate_spells}

-- ---- the tree is read from its nodes

sum_prefix : (ts : List (ℕ × ℤ)) (bound : ℤ) → prefix_of (inequality ts bound) ≡ node_of (inequality ts bound) ∷ []
sum_prefix [] bound = refl
sum_prefix (t ∷ ts) bound = refl

inequality_read : (ts : List (ℕ × ℤ)) (bound : ℤ) (ns : List PredNode) → formulas (prefix_of (inequality ts bound) ++ ns) ≡ inequality ts bound ∷ formulas ns
inequality_read [] bound ns = refl
inequality_read (t ∷ ts) bound ns = refl

inequality_joined : (ts : List (ℕ × ℤ)) (bound : ℤ) (ns : List PredNode) → AreJoined ns → AreJoined (prefix_of (inequality ts bound) ++ ns)
inequality_joined [] bound ns h = (tt, h)
inequality_joined (t ∷ ts) bound ns h = (tt, h)

-- two trees behind a node
behind : (a b : Formula) (ns : List PredNode) → (prefix_of a ++ (prefix_of b ++ [])) ++ ns ≡ prefix_of a ++ (prefix_of b ++ ns)
behind a b ns = append_assoc (prefix_of a) (prefix_of b ++ []) ns ∙ ap (λ (l : List PredNode). prefix_of a ++ l) (ap (λ (l : List PredNode). l ++ ns) (append-nil (prefix_of b)))

join_read : (c : Bool) (a b : Formula) (ns : List PredNode) → formulas (prefix_of a ++ (prefix_of b ++ ns)) ≡ a ∷ b ∷ formulas ns → formulas (prefix_of (joined_formulas c a b) ++ ns) ≡ joined_formulas c a b ∷ formulas ns
join_read true a b ns e = ap (λ (l : List PredNode). formulas (Or 2 ∷ l)) (behind a b ns) ∙ rw e refl
join_read false a b ns e = ap (λ (l : List PredNode). formulas (And 2 ∷ l)) (behind a b ns) ∙ rw e refl

join_joined : (c : Bool) (a b : Formula) (ns : List PredNode) → formulas (prefix_of a ++ (prefix_of b ++ ns)) ≡ a ∷ b ∷ formulas ns → AreJoined (prefix_of a ++ (prefix_of b ++ ns)) →
    AreJoined (prefix_of (joined_formulas c a b) ++ ns)
join_joined true a b ns e h =
    subst (λ (l : List PredNode). AreJoined (Or 2 ∷ l)) (sym (behind a b ns)) ((refl, (let n : length (formulas (prefix_of a ++ (prefix_of b ++ ns))) ≡ suc (suc (length (formulas ns))) = ap (λ (l : List Formula). length l) e in omega (arith, n))), h)
join_joined false a b ns e h =
    subst (λ (l : List PredNode). AreJoined (And 2 ∷ l)) (sym (behind a b ns)) ((refl, (let n : length (formulas (prefix_of a ++ (prefix_of b ++ ns))) ≡ suc (suc (length (formulas ns))) = ap (λ (l : List Formula). length l) e in omega (arith, n))), h)

tree_read : (columns : List ℕ) (q : Position) (b : Branch) (t : Tree) (ns : List PredNode) →
    formulas (prefix_of (joined_at columns q b t) ++ ns) ≡ joined_at columns q b t ∷ formulas ns
tree_read columns q b (leaf_tree parts) ns = inequality_read (terms_from 0 (coefficients_at b parts q)) (bound_at b parts q) ns
tree_read columns q b (cut_tree c k t u) ns =
    let s : ℕ = column_stamp columns c in
    let x : Formula = joined_at columns q (with_cut b s (at_most c k)) t in
    let y : Formula = joined_at columns q (with_cut b s (above c k)) u in
    join_read (is_counted q s) x y ns
    (tree_read columns q (with_cut b s (at_most c k)) t (prefix_of y ++ ns) ∙ ap (λ (l : List Formula). x ∷ l) (tree_read columns q (with_cut b s (above c k)) u ns))
tree_read columns q b (cases_tree ts) ns = refl

tree_joined : (columns : List ℕ) (q : Position) (b : Branch) (t : Tree) (ns : List PredNode) → AreJoined ns → AreJoined (prefix_of (joined_at columns q b t) ++ ns)
tree_joined columns q b (leaf_tree parts) ns h = inequality_joined (terms_from 0 (coefficients_at b parts q)) (bound_at b parts q) ns h
tree_joined columns q b (cut_tree c k t u) ns h =
    let s : ℕ = column_stamp columns c in
    let x : Formula = joined_at columns q (with_cut b s (at_most c k)) t in
    let y : Formula = joined_at columns q (with_cut b s (above c k)) u in
    join_joined (is_counted q s) x y ns
    (tree_read columns q (with_cut b s (at_most c k)) t (prefix_of y ++ ns) ∙ ap (λ (l : List Formula). x ∷ l) (tree_read columns q (with_cut b s (above c k)) u ns))
    (tree_joined columns q (with_cut b s (at_most c k)) t (prefix_of y ++ ns) (tree_joined columns q (with_cut b s (above c k)) u ns h))
tree_joined columns q b (cases_tree ts) ns h = (tt, h)

-- the formula of a position, before it is simplified
abbrev pub formula_at : Graph → List Letter → Tree → Position → Formula
formula_at g w t q = joined_at (stamps_of g w).columns q (root_of g w) t

pub can_spell : (g : Graph) (w : List Letter) (t : Tree) (q : Position) → cuts_on_branch t ≤ 64 → CanSpell (formula_at g w t q)
can_spell g w t q l =
    let f : Formula = formula_at g w t q in
    let read : formulas (prefix_of f) ≡ f ∷ [] =
    ap formulas (sym (append-nil (prefix_of f))) ∙ tree_read (stamps_of g w).columns q (root_of g w) t [] in
    record {
      joined = record {
        joined = subst AreJoined (append-nil (prefix_of f)) (tree_joined (stamps_of g w).columns q (root_of g w) t [] tt);
        one = ap (λ (l : List Formula). length l) read;
      };
      read = ap first_formula read;
      predicate = predicate_spells g w t q (omega (arith, l));
    }

-- ---- the table

abbrev column_of : ℕ → List (List PredNode) → List (Option PredNode)
column_of p table = map (λ r. slice_get r p) table

got_mapped : (f : Position → PredNode) (qs : List Position) (p : ℕ) (q : Position) → slice_get qs p ≡ Some q → slice_get (map f qs) p ≡ Some (f q)
got_mapped f [] p q e = absurd (cc)
got_mapped f (x ∷ qs) zero q e = ap (λ (y : Position). Some (f y)) (let k : x ≡ q = cc in k)
got_mapped f (x ∷ qs) (suc p) q e = got_mapped f qs p q e

cut_prefix : (c : Bool) (a b : Formula) (n : PredNode) → n ≡ (if c then Or 2 else And 2) → prefix_of (joined_formulas c a b) ≡ n ∷ (prefix_of a ++ prefix_of b)
cut_prefix true a b n e = ap (λ (m : PredNode). m ∷ (prefix_of a ++ (prefix_of b ++ []))) (sym e) ∙ ap (λ (l : List PredNode). n ∷ (prefix_of a ++ l)) (append-nil (prefix_of b))
cut_prefix false a b n e = ap (λ (m : PredNode). m ∷ (prefix_of a ++ (prefix_of b ++ []))) (sym e) ∙ ap (λ (l : List PredNode). n ∷ (prefix_of a ++ l)) (append-nil (prefix_of b))

column_tree : (columns : List ℕ) (qs : List Position) (p : ℕ) (q : Position) → slice_get qs p ≡ Some q → (t : Tree) (ns : List PlainNode) (b : Branch) (bs : List Branch) → TreeRefutes t (rows_goal b) →
    column_of p (table_along columns qs (trees.prefix_of t ++ ns) (b ∷ bs)) ≡ map Some (prefix_of (joined_at columns q b t)) ++ column_of p (table_along columns qs ns bs)
column_tree columns qs p q e (leaf_tree parts) ns b bs r =
    let rest : List (Option PredNode) = column_of p (table_along columns qs ns bs) in
    ap (λ (o : Option PredNode). o ∷ rest) (got_mapped (leaf_node b parts) qs p q e) ∙
    ap (λ (l : List PredNode). map Some l ++ rest) (sym (sum_prefix (terms_from 0 (coefficients_at b parts q)) (bound_at b parts q)))
column_tree columns qs p q e (cut_tree c k t u) ns b bs r =
    let s : ℕ = column_stamp columns c in
    let low : Branch = with_cut b s (at_most c k) in
    let high : Branch = with_cut b s (above c k) in
    let x : Formula = joined_at columns q low t in
    let y : Formula = joined_at columns q high u in
    let n : PredNode = cut_node_at s q in
    let rest : List (Option PredNode) = column_of p (table_along columns qs ns bs) in
    ap (λ (o : Option PredNode). o ∷ column_of p (table_along columns qs ((trees.prefix_of t ++ trees.prefix_of u) ++ ns) (low ∷ high ∷ bs))) (got_mapped (cut_node_at s) qs p q e) ∙
    ap (λ (l : List PlainNode). Some n ∷ column_of p (table_along columns qs l (low ∷ high ∷ bs))) (append_assoc (trees.prefix_of t) (trees.prefix_of u) ns) ∙
    ap (λ (l : List (Option PredNode)). Some n ∷ l)
    (column_tree columns qs p q e t (trees.prefix_of u ++ ns) low (high ∷ bs) r.2 ∙
    ap (λ (l : List (Option PredNode)). map Some (prefix_of x) ++ l) (column_tree columns qs p q e u ns high bs r.3) ∙
    sym (append_assoc (map Some (prefix_of x)) (map Some (prefix_of y)) rest) ∙
    ap (λ (l : List (Option PredNode)). l ++ rest) (sym (map-append Some (prefix_of x) (prefix_of y)))) ∙
    ap (λ (l : List PredNode). map Some l ++ rest) (sym (cut_prefix (is_counted q s) x y n refl))
column_tree columns qs p q e (cases_tree ts) ns b bs r = absurd r

mapped_twice : (p : ℕ) (table : List (Vec PredNode)) → map (λ v. slice_get v.items p) table ≡ column_of p (map (λ v. v.items) table)
mapped_twice p [] = refl
mapped_twice p (v ∷ table) = ap (λ (l : List (Option PredNode)). slice_get v.items p ∷ l) (mapped_twice p table)

pub spells_at : (g : Graph) (w : List Letter) (t : Tree) (table : List (Vec PredNode)) (p : ℕ) (q : Position) → IsTableOf g w t table → slice_get (positions_of g w) p ≡ Some q →
    SpellsAt table p (formula_at g w t q)
spells_at g w t table p q h e =
    let columns : List ℕ = (stamps_of g w).columns in
    let qs : List Position = positions_of g w in
    mapped_twice p table ∙ ap (column_of p) h.spelled ∙
    ap (λ (l : List PlainNode). column_of p (table_along columns qs l (root_of g w ∷ []))) (sym (append-nil (trees.prefix_of t))) ∙
    column_tree columns qs p q e t [] (root_of g w) [] (tree_refutes t g w h.refutes) ∙
    append-nil (map Some (prefix_of (formula_at g w t q)))

-- ---- what the function of one predicate asks

pub has_nodes : (p : ℕ) (table : List (Vec PredNode)) (ns : List PredNode) → map (λ v. slice_get v.items p) table ≡ map Some ns → AllByRecursion (λ v. p < length v.items) table
has_nodes p [] ns e = tt
has_nodes p (v ∷ table) [] e = absurd (cc)
has_nodes p (v ∷ table) (n ∷ ns) e =
    (within v.items p n (let k : slice_get v.items p ≡ Some n = cc in k), has_nodes p table ns (let k : map (λ v. slice_get v.items p) table ≡ map Some ns = cc in k))
  where
    within : (xs : List PredNode) (i : ℕ) (x : PredNode) → slice_get xs i ≡ Some x → i < length xs
    within [] i x e = absurd (cc)
    within (y ∷ ys) zero x e = omega arith
    within (y ∷ ys) (suc i) x e = let k = within ys i x e in omega (arith, k)

pub same_nodes : (xs ys : List PredNode) → map Some xs ≡ map Some ys → xs ≡ ys
same_nodes [] [] e = refl
same_nodes [] (y ∷ ys) e = absurd (cc)
same_nodes (x ∷ xs) [] e = absurd (cc)
same_nodes (x ∷ xs) (y ∷ ys) e =
    ap (λ (z : PredNode). z ∷ xs) (let k : x ≡ y = cc in k) ∙ ap (λ (l : List PredNode). y ∷ l) (same_nodes xs ys (let k : map Some xs ≡ map Some ys = cc in k))

-- ---- the loop over positions

pub position_found : (qs : List Position) (p : ℕ) → p < length qs → (q : Position) × (slice_get qs p ≡ Some q)
position_found [] p l = absurd (omega (arith, l))
position_found (q ∷ qs) zero l = (q, refl)
position_found (q ∷ qs) (suc p) l = position_found qs p (omega (arith, l))

taken_next : (f : Position → Scoped) (qs : List Position) (p : ℕ) (q : Position) → slice_get qs p ≡ Some q → map f (take (p + 1) qs) ≡ map f (take p qs) ++ f q ∷ []
taken_next f [] p q e = absurd (cc)
taken_next f (x ∷ qs) zero q e = ap (λ (y : Position). f y ∷ []) (let k : x ≡ q = cc in k)
taken_next f (x ∷ qs) (suc p) q e =
    ap (λ (n : ℕ). map f (take n (x ∷ qs))) (let n : suc p + 1 ≡ suc (p + 1) = omega arith in n) ∙ ap (λ (l : List Scoped). f x ∷ l) (taken_next f qs p q e)

spot_found : (qs : List Position) (p : ℕ) (q : Position) (d : Spot) → slice_get qs p ≡ Some q → get_or (map spot_at qs) p d ≡ spot_at q
spot_found [] p q d e = absurd (cc)
spot_found (x ∷ qs) zero q d e = ap spot_at (let k : x ≡ q = cc in k)
spot_found (x ∷ qs) (suc p) q d e = spot_found qs p q d e

pub predicate_next : (g : Graph) (w : List Letter) (t : Tree) (p : ℕ) (q : Position) (spots : List Spot) (s d : Spot) (pred : List PredNode) (old new : List Scoped) →
    slice_get (positions_of g w) p ≡ Some q → spots ≡ map spot_at (positions_of g w) → s ≡ get_or spots p d → pred ≡ prefix_of (simplified (formula_at g w t q)) →
    old ≡ map (interpolant_at g w t) (take p (positions_of g w)) → (let x : Scoped = record { proc = s.proc; pred = pred } in new ≡ old ++ x ∷ []) →
    new ≡ map (interpolant_at g w t) (take (p + 1) (positions_of g w))
predicate_next g w t p q spots s d pred old new e f i k h m =
    let qs : List Position = positions_of g w in
    let proc : s.proc ≡ q.scope.proc = ap (λ (x : Spot). x.proc) (i ∙ ap (λ (l : List Spot). get_or l p d) f ∙ spot_found qs p q d e) in
    let same : (let x : Scoped = record { proc = s.proc; pred = pred } in x) ≡ interpolant_at g w t q = λ j. record { proc = proc j; pred = k j } in
    m ∙ ap (λ (l : List Scoped). l ++ record { proc = s.proc; pred = pred } ∷ []) h ∙ ap (λ (x : Scoped). map (interpolant_at g w t) (take p qs) ++ x ∷ []) same ∙ sym (taken_next (interpolant_at g w t) qs p q e)

pub all_positions : (qs : List Position) (p : ℕ) → length qs ≤ p → take p qs ≡ qs
all_positions [] zero l = refl
all_positions [] (suc p) l = refl
all_positions (q ∷ qs) zero l = absurd (omega (arith, l))
all_positions (q ∷ qs) (suc p) l = ap (λ (l : List Position). q ∷ l) (all_positions qs p (omega (arith, l)))

pub spots_counted : (spots : List Spot) (qs : List Position) → spots ≡ map spot_at qs → length spots ≡ length qs
spots_counted spots qs e = ap (λ (l : List Spot). length l) e ∙ length-map qs spot_at

pub some_not : {A : Type 0} (o : Option A) → IsSome o → ((x : A) → o ≡ Some x → ⊥) → ⊥
some_not None h f = absurd (cc)
some_not (Some x) h f = f x refl
