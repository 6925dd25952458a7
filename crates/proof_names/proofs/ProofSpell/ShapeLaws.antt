-- The lines of a predicate are one whole tree, nested as deep as the predicate.
use Rattle.std.proofs.Common.{◌≡◌, ◌∙◌, ℕ, suc, ◌+◌, ◌≤◌, max, true, nat_le, List, [], ◌∷◌, ◌++◌, take, drop, refl, sym, ap, arith, append_assoc}
use Rattle.std.specs.Prelude.{map}
use Rattle.std.proofs.lemmas.List.{append-nil}
use Rattle.std.proofs.lemmas.Bool.{le-leb}
use Rattle.triple_rows.specs.declared.predicates.PredNode.{PredNode}
use Rattle.triple_rows.specs.declared.predicates.PredNode.TheVariants.{Truth, Atom, And, Or}
use Rattle.triple_rows.specs.Predicates as preds
use Rattle.triple_rows.specs.Predicates.{Formula, Formulas, formula_count, prefix_of, prefixes_of, nesting, deepest}
use Rattle.proof_form.specs.Trees.{tree_count, have_parts, is_tree}
use Rattle.proof_form.specs.Predicates.{PredicateNode, atom, and_of, or_of, parts, highest, height_of, heights, are_low}

-- a node with as many parts, which says nothing else
abbrev pub shape : PredNode → PredicateNode
shape (Truth b) = atom (record { negative = true; digits = [] }) []
shape (Atom r) = atom (record { negative = true; digits = [] }) []
shape (And n) = and_of n
shape (Or n) = or_of n

abbrev pub shapes : List PredNode → List PredicateNode
shapes ns = map shape ns

-- ---- the trees in front of a list

abbrev heights_of : Formulas → List ℕ
heights_of preds.no_formula = []
heights_of (preds.one_more f fs) = nesting f ∷ heights_of fs

-- a tree in front
record Front (f : Formula) (rest : List PredNode) : Type 0 where
  counted : tree_count parts (shapes (prefix_of f ++ rest)) ≡ suc (tree_count parts (shapes rest))
  whole : have_parts parts (shapes rest) ≡ true → have_parts parts (shapes (prefix_of f ++ rest)) ≡ true
  high : heights (shapes (prefix_of f ++ rest)) ≡ nesting f ∷ heights (shapes rest)
  low : nesting f ≤ 200 → are_low (shapes rest) ≡ true → are_low (shapes (prefix_of f ++ rest)) ≡ true

-- trees in front
record Fronts (fs : Formulas) (rest : List PredNode) : Type 0 where
  counted : tree_count parts (shapes (prefixes_of fs ++ rest)) ≡ formula_count fs + tree_count parts (shapes rest)
  whole : have_parts parts (shapes rest) ≡ true → have_parts parts (shapes (prefixes_of fs ++ rest)) ≡ true
  high : heights (shapes (prefixes_of fs ++ rest)) ≡ heights_of fs ++ heights (shapes rest)
  low : deepest fs ≤ 200 → are_low (shapes rest) ≡ true → are_low (shapes (prefixes_of fs ++ rest)) ≡ true

taken : (fs : Formulas) (hs : List ℕ) → highest (take (formula_count fs) (heights_of fs ++ hs)) ≡ deepest fs
taken preds.no_formula hs = refl
taken (preds.one_more f fs) hs = ap (max (nesting f)) (taken fs hs)

dropped : (fs : Formulas) (hs : List ℕ) → drop (formula_count fs) (heights_of fs ++ hs) ≡ hs
dropped preds.no_formula hs = refl
dropped (preds.one_more f fs) hs = dropped fs hs

-- an `and` or `or` in front of its parts
record Junction (n : PredicateNode) (fs : Formulas) : Type 0 where
  has : parts n ≡ formula_count fs
  high : (hs : List ℕ) → height_of n hs ≡ suc (highest hs)

joined : (n : PredicateNode) (fs : Formulas) (rest : List PredNode) → Junction n fs → Fronts fs rest →
    (tree_count parts (n ∷ shapes (prefixes_of fs ++ rest)) ≡ suc (tree_count parts (shapes rest))) ×
    (have_parts parts (shapes rest) ≡ true → have_parts parts (n ∷ shapes (prefixes_of fs ++ rest)) ≡ true) ×
    (heights (n ∷ shapes (prefixes_of fs ++ rest)) ≡ suc (deepest fs) ∷ heights (shapes rest)) ×
    (suc (deepest fs) ≤ 200 → are_low (shapes rest) ≡ true → are_low (n ∷ shapes (prefixes_of fs ++ rest)) ≡ true)
joined n fs rest j w =
    let c : tree_count parts (shapes (prefixes_of fs ++ rest)) ≡ formula_count fs + tree_count parts (shapes rest) = w.counted in
    let p : parts n ≡ formula_count fs = j.has in
    let top : height_of n (take (parts n) (heights (shapes (prefixes_of fs ++ rest)))) ≡ suc (deepest fs) =
    j.high (take (parts n) (heights (shapes (prefixes_of fs ++ rest)))) ∙
    ap (λ (k : ℕ). suc (highest (take k (heights (shapes (prefixes_of fs ++ rest)))))) p ∙
    ap (λ (l : List ℕ). suc (highest (take (formula_count fs) l))) w.high ∙ ap suc (taken fs (heights (shapes rest))) in (
      omega (arith, c, p),
      λ h. let k : nat_le (parts n) (tree_count parts (shapes (prefixes_of fs ++ rest))) ≡ true = le-leb (parts n) (tree_count parts (shapes (prefixes_of fs ++ rest))) (omega (arith, c, p)) in
          rw (w.whole h, k) refl,
      ap (λ (k : ℕ). k ∷ drop (parts n) (heights (shapes (prefixes_of fs ++ rest)))) top ∙
          ap (λ (k : ℕ). suc (deepest fs) ∷ drop k (heights (shapes (prefixes_of fs ++ rest)))) p ∙
          ap (λ (l : List ℕ). suc (deepest fs) ∷ drop (formula_count fs) l) w.high ∙ ap (λ (l : List ℕ). suc (deepest fs) ∷ l) (dropped fs (heights (shapes rest))),
      λ l h. let k : nat_le (height_of n (take (parts n) (heights (shapes (prefixes_of fs ++ rest))))) 200 ≡ true = le-leb (height_of n (take (parts n) (heights (shapes (prefixes_of fs ++ rest))))) 200 (omega (arith, top, l)) in
          rw (w.low (omega arith) h, k) refl,
    )

mutual
  in_front : (f : Formula) (rest : List PredNode) → Front f rest
  in_front (preds.truth b) rest = record {
    counted = omega arith;
    whole = λ h. let k : nat_le 0 (tree_count parts (shapes rest)) ≡ true = le-leb 0 (tree_count parts (shapes rest)) (omega arith) in rw (h, k) refl;
    high = refl;
    low = λ l h. rw h refl;
  }
  in_front (preds.atom r) rest = record {
    counted = omega arith;
    whole = λ h. let k : nat_le 0 (tree_count parts (shapes rest)) ≡ true = le-leb 0 (tree_count parts (shapes rest)) (omega arith) in rw (h, k) refl;
    high = refl;
    low = λ l h. rw h refl;
  }
  in_front (preds.and_of fs) rest =
      let j = joined (and_of (formula_count fs)) fs rest (record { has = refl; high = λ hs. refl }) (all_in_front fs rest) in
      record { counted = j.0; whole = j.1; high = j.2; low = j.3 }
  in_front (preds.or_of fs) rest =
      let j = joined (or_of (formula_count fs)) fs rest (record { has = refl; high = λ hs. refl }) (all_in_front fs rest) in
      record { counted = j.0; whole = j.1; high = j.2; low = j.3 }

  all_in_front : (fs : Formulas) (rest : List PredNode) → Fronts fs rest
  all_in_front preds.no_formula rest = record { counted = omega arith; whole = λ h. h; high = refl; low = λ l h. h }
  all_in_front (preds.one_more f fs) rest =
      let e : prefixes_of (preds.one_more f fs) ++ rest ≡ prefix_of f ++ (prefixes_of fs ++ rest) = append_assoc (prefix_of f) (prefixes_of fs) rest in
      let a = in_front f (prefixes_of fs ++ rest) in
      let b = all_in_front fs rest in
      record {
        counted = let c : tree_count parts (shapes (prefixes_of (preds.one_more f fs) ++ rest)) ≡ suc (tree_count parts (shapes (prefixes_of fs ++ rest))) =
            ap (λ (l : List PredNode). tree_count parts (shapes l)) e ∙ a.counted in let d = b.counted in omega (arith, c, d);
        whole = λ h. ap (λ (l : List PredNode). have_parts parts (shapes l)) e ∙ a.whole (b.whole h);
        high = ap (λ (l : List PredNode). heights (shapes l)) e ∙ a.high ∙ ap (λ (l : List ℕ). nesting f ∷ l) b.high;
        low = λ l h. ap (λ (l : List PredNode). are_low (shapes l)) e ∙ a.low (omega arith) (b.low (omega arith) h);
      }

-- the shape of a predicate is one whole tree, and low where the predicate is
pub shape_is_tree : (f : Formula) → nesting f ≤ 200 → (is_tree parts (shapes (prefix_of f)) ≡ true) × (are_low (shapes (prefix_of f)) ≡ true)
shape_is_tree f l =
    let w = in_front f [] in
    let e : prefix_of f ++ [] ≡ prefix_of f = append-nil (prefix_of f) in
    let c : tree_count parts (shapes (prefix_of f)) ≡ 1 = ap (λ (l : List PredNode). tree_count parts (shapes l)) (sym e) ∙ w.counted in
    let h : have_parts parts (shapes (prefix_of f)) ≡ true = ap (λ (l : List PredNode). have_parts parts (shapes l)) (sym e) ∙ w.whole refl in
    (rw (h, c) refl, ap (λ (l : List PredNode). are_low (shapes l)) (sym e) ∙ w.low l refl)
