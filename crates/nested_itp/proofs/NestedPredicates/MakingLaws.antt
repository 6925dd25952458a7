-- From a refutation's nodes to its tree, and the last predicate of any word.
use Rattle.std.proofs.Common.{◌≡◌, ◌∙◌, ℕ, zero, suc, ◌*◌, ◌<◌, ℤ, pos, negsuc, ◌*ℤ◌, ◌≤ℤ◌, ◌<ℤ◌, List, [], ◌∷◌, ◌++◌, length, map, refl, sym, ap, subst, arith, Option, None, Some, inl, inr, ◌⊎◌}
use Rattle.std.specs.Global.{Vec}
use Rattle.std.specs.List.{AllByRecursion}
use Rattle.std.proofs.lemmas.List.{append-nil, length-map}
use Rattle.std.proofs.lemmas.Int.{ints}
use Rattle.boogie_tree.specs.declared.tree.Ty.{Ty}
use Rattle.boogie_tree.specs.declared.tree.Ty.TheVariants as types
use Rattle.lin_rows.specs.declared.types.RowKind.TheVariants.{Le}
use Rattle.lin_rows.specs.Rows.{LinearRow}
use Rattle.lin_rows.specs.Sums.{row_of}
use Rattle.lin_rows.specs.Combinations.{row_at, Multiplies, IsPart, combined}
use Rattle.lin_rows.specs.Tightening.{content, tightened}
use Rattle.lin_rows.specs.Negating.{below_opposite}
use Rattle.nwa_base.specs.declared.letters.Letter.{Letter}
use Rattle.letter_acts.specs.Acts.{Alphabet, act_of}
use Rattle.letter_acts.specs.Invariant.{Graph, alphabet_of}
use Rattle.letter_acts.specs.FrameRows.Rows.{bounds, types_of}
use Rattle.path_rows.specs.Versions.{PathStage, part_of}
use Rattle.path_rows.specs.Paths.{start_frame, first_stage, path_of}
use Rattle.farkas_check.specs.Nodes.{PlainNode}
use Rattle.farkas_check.specs.Refutes.{at_most, above}
use Rattle.farkas_check.specs.Trees.{Tree, leaf_tree, cut_tree, cases_tree, prefix_of, TreeRefutes}
use Rattle.triple_rows.specs.declared.predicates.PredNode.{PredNode}
use Rattle.nested_itp.specs.NestedPredicates.Stamps.{stamps_of}
use Rattle.nested_itp.specs.NestedPredicates.Positions.{CallScope, scopes_after, positions_along, start_scope, positions_of}
use Rattle.nested_itp.specs.NestedPredicates.Sums.{Branch, root_of, with_cut}
use Rattle.nested_itp.specs.NestedPredicates.Interpolants.{RefutesRows, HasCutsUpTo, prefix_predicates, interpolant_at, EndsFalse}
use Rattle.nested_itp.specs.NestedPredicates.Tables.{table_along}
use Rattle.nested_itp.specs.NestedPredicates.Ties.Spelled.{IsTableOf}
use Rattle.nested_itp.proofs.NestedPredicates.EndLaws.{rows_goal, tree_refutes, ends_false}

-- ---- no tree refutes rows that the point 0 meets

-- inequalities whose bounds are not negative
abbrev MeetZero : List LinearRow → Type 0
MeetZero rows = AllByRecursion (λ r. (r.kind ≡ Le) × (pos 0 ≤ℤ r.bound)) rows

meets_at : (rows : List LinearRow) (k : ℕ) → k < length rows → MeetZero rows → ((row_at rows k).kind ≡ Le) × (pos 0 ≤ℤ (row_at rows k).bound)
meets_at [] k l h = absurd (omega (arith, l))
meets_at (r ∷ rows) zero l h = h.0
meets_at (r ∷ rows) (suc k) l h = meets_at rows k (omega (arith, l)) h.1

not_negative : (n : ℕ) → pos 0 ≤ℤ pos n
not_negative n = omega (arith, ints)

product_positive : (m b : ℤ) → pos 0 <ℤ m → pos 0 ≤ℤ b → pos 0 ≤ℤ (m *ℤ b)
product_positive (pos m) (pos b) l h = not_negative (m * b)
product_positive (pos m) (negsuc b) l h = absurd (omega (arith, ints, h))
product_positive (negsuc m) b l h = absurd (omega (arith, ints, l))

bounds_positive : (rows : List LinearRow) (parts : List (ℕ × ℤ)) → MeetZero rows → AllByRecursion (IsPart rows) parts → pos 0 ≤ℤ combined (λ r. r.bound) rows parts
bounds_positive rows [] h each = omega (arith, ints)
bounds_positive rows (t ∷ ts) h each =
    let m = meets_at rows t.0 each.0.exists h in
    let p : pos 0 <ℤ t.1 = subst (Multiplies t.1) m.0 each.0.multiplies in
    let x : pos 0 ≤ℤ (t.1 *ℤ (row_at rows t.0).bound) = product_positive t.1 (row_at rows t.0).bound p m.1 in
    let y : pos 0 ≤ℤ combined (λ r. r.bound) rows ts = bounds_positive rows ts h each.1 in
    omega (arith, ints, x, y)

more_met : (rows : List LinearRow) (r : LinearRow) → MeetZero rows → (r.kind ≡ Le) × (pos 0 ≤ℤ r.bound) → MeetZero (rows ++ r ∷ [])
more_met [] r h k = (k, tt)
more_met (x ∷ rows) r h k = (h.0, more_met rows r h.1 k)

one_side : (k : ℤ) → (pos 0 ≤ℤ k) ⊎ (pos 0 ≤ℤ below_opposite k)
one_side (pos n) = inl (omega (arith, ints))
one_side (negsuc n) = inr (omega (arith, ints))

not_refuted : (b : Branch) (t : Tree) → MeetZero b.rows → TreeRefutes t (rows_goal b) → ⊥
not_refuted b (leaf_tree parts) h r = (let x = bounds_positive b.rows parts h r.each in let y = r.bound_negative in omega (arith, ints, x, y))
not_refuted b (cut_tree c k t u) h r =
    elim (one_side k) [
      | inl l ↦ not_refuted (with_cut b 0 (at_most c k)) t (more_met b.rows (at_most c k) h (refl, l)) r.2
      | inr l ↦ not_refuted (with_cut b 0 (above c k)) u (more_met b.rows (above c k) h (refl, l)) r.3
    ]
not_refuted b (cases_tree ts) h r = absurd r

tight_low : (c : ℕ) → ((tightened (row_of ((c, negsuc 0) ∷ []) Le (pos 0))).kind ≡ Le) × (pos 0 ≤ℤ (tightened (row_of ((c, negsuc 0) ∷ []) Le (pos 0))).bound)
unfolding content
tight_low c = (refl, omega (arith, ints))

tight_high : (c : ℕ) → ((tightened (row_of ((c, pos 1) ∷ []) Le (pos 1))).kind ≡ Le) × (pos 0 ≤ℤ (tightened (row_of ((c, pos 1) ∷ []) Le (pos 1))).bound)
unfolding content
tight_high c = (refl, omega (arith, ints))

bounds_met : (n : ℕ) (ts : List (Option Ty)) → MeetZero (map tightened (bounds n ts))
bounds_met n [] = tt
bounds_met n (None ∷ ts) = bounds_met (suc n) ts
bounds_met n (Some types.Int ∷ ts) = bounds_met (suc n) ts
bounds_met n (Some types.Bool ∷ ts) = (tight_low n, (tight_high n, bounds_met (suc n) ts))

-- the empty word's rows are bounds
empty_not_refuted : (g : Graph) (t : Tree) → RefutesRows (prefix_of t) (path_of g []).rows → ⊥
empty_not_refuted g t r =
    not_refuted (root_of g []) t
    (subst (λ (rs : List LinearRow). MeetZero (map tightened rs)) (sym (append-nil (bounds 0 (types_of (start_frame g))))) (bounds_met 0 (types_of (start_frame g)))) (tree_refutes t g [] r)

pub ends : (g : Graph) (w : List Letter) (t : Tree) → RefutesRows (prefix_of t) (path_of g w).rows → EndsFalse (prefix_predicates g w t)
ends g [] t r = absurd (empty_not_refuted g t r)
ends g (a ∷ v) t r = ends_false g a v t r

-- ---- as many predicates as positions

positions_counted : (al : Alphabet) (n : ℕ) (p : PathStage) (scopes : List CallScope) (w : List Letter) → length (positions_along al n p scopes w) ≡ suc (length w)
positions_counted al n p scopes [] = refl
positions_counted al n p scopes (a ∷ w) =
    let after : PathStage = (part_of al a p).after in
    ap suc (positions_counted al (suc n) after (scopes_after al (suc n) a.kind (act_of al a) w after.here p.here scopes) w)

pub predicates_counted : (g : Graph) (w : List Letter) (t : Tree) → length (prefix_predicates g w t) ≡ suc (length w)
predicates_counted g w t =
    length-map (positions_of g w) (interpolant_at g w t) ∙ positions_counted (alphabet_of g) 0 (first_stage (start_frame g)) (start_scope g ∷ []) w

-- ---- the tree

pub table_of_tree : (g : Graph) (w : List Letter) (t : Tree) (nodes : List PlainNode) (table : List (Vec PredNode)) (rows : List LinearRow) → prefix_of t ≡ nodes → rows ≡ (path_of g w).rows →
    RefutesRows nodes rows → HasCutsUpTo 64 nodes → map (λ v. v.items) table ≡ table_along (stamps_of g w).columns (positions_of g w) nodes (root_of g w ∷ []) → IsTableOf g w t table
table_of_tree g w t nodes table rows e f r c h = record {
  spelled = h ∙ ap (λ (ns : List PlainNode). table_along (stamps_of g w).columns (positions_of g w) ns (root_of g w ∷ [])) (sym e);
  refutes = subst (λ (ns : List PlainNode). RefutesRows ns (path_of g w).rows) (sym e) (subst (RefutesRows nodes) f r);
  cuts = c t e;
}
