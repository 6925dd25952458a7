-- A predicate in the grammar, with its columns named, is the prefix list of a predicate.
use Rattle.std.proofs.Common.{◌≡◌, ◌≢◌, ◌∙◌, ℕ, suc, ◌^◌, ◌≤◌, max, append_assoc, Bool, true, false, ◌&&◌, List, [], ◌∷◌, ◌++◌, take, drop, Option, None, Some, refl, sym, ap, subst, inr, arith}
use Rattle.std.specs.Prelude.{ℤ, map, nat_le, nat_lt, IsTrue, if◌then◌else◌}
use Rattle.std.specs.List.{list_all}
use Rattle.std.specs.Option.{option_map}
use Rattle.std.proofs.lemmas.Bool.{leb-true}
use Rattle.std.proofs.lemmas.List.{append-nil}
use Rattle.lin_rows.specs.declared.types.RowKind.TheVariants.{Le}
use Rattle.lin_rows.specs.Rows.{LinearRow}
use Rattle.boogie_tree.specs.Names.{is_spelled}
use Rattle.letter_acts.specs.Frames.{Columns}
use Rattle.letter_acts.specs.Acts.{frame_of}
use Rattle.letter_acts.specs.Invariant.{Graph, alphabet_of}
use Rattle.triple_rows.specs.declared.predicates.PredNode.{PredNode}
use Rattle.triple_rows.specs.declared.predicates.PredNode.TheVariants.{Atom, And, Or}
use Rattle.triple_rows.specs.declared.triples.Scoped.{Scoped}
use Rattle.triple_rows.specs.Predicates as preds
use Rattle.triple_rows.specs.Predicates.{Formula, Formulas, formula_count, IsTree, AreTrees, nesting, deepest, SpellsPredicate, IsAtom}
use Rattle.proof_form.specs.declared.numerals.Numeral.{Numeral}
use Rattle.proof_form.specs.Trees.{is_tree}
use Rattle.proof_form.specs.Forests.{Tree, Forest, tree, no_tree, one_more, size, HasParts, HaveParts, prefix_of, prefixes_of}
use Rattle.proof_form.specs.Predicates.{PredicateNode, atom, and_of, or_of, parts, is_term, is_predicate_node, highest, height_of, with_height, heights, are_low, is_predicate}
use Rattle.proof_form.specs.Refutations.{is_some_list}
use Rattle.proof_form.specs.Lines as form
use Rattle.proof_form.specs.Numerals.{is_numeral}
use Rattle.proof_form.proofs.RunLaws.{both_hold}
use Rattle.proof_form.proofs.ForestLaws.{whole_is_tree}
use Rattle.proof_names.specs.Numbers.{number_in}
use Rattle.proof_names.specs.Options.{both, all_some}
use Rattle.proof_names.specs.Columns.{procedure_named}
use Rattle.proof_names.specs.Predicates.{term_named, terms_ascend, if_there, row_named, node_named, scoped_of, scoped_named, pred_named}
use Rattle.proof_names.proofs.AllLaws.{front_of, parted}

-- ---- heights

abbrev mutual
  height : Tree PredicateNode → ℕ
  height (tree n ts) = height_of n (each_height ts)

  each_height : Forest PredicateNode → List ℕ
  each_height no_tree = []
  each_height (one_more t ts) = height t ∷ each_height ts

-- the heights of trees in front of others
abbrev in_front : Forest PredicateNode → List ℕ → List ℕ
in_front no_tree us = us
in_front (one_more t ts) us = height t ∷ in_front ts us

first_heights : (ts : Forest PredicateNode) (us : List ℕ) → take (size ts) (in_front ts us) ≡ each_height ts
first_heights no_tree us = refl
first_heights (one_more t ts) us = ap (λ hs. height t ∷ hs) (first_heights ts us)

other_heights : (ts : Forest PredicateNode) (us : List ℕ) → drop (size ts) (in_front ts us) ≡ us
other_heights no_tree us = refl
other_heights (one_more t ts) us = other_heights ts us

mutual
  tree_height : (t : Tree PredicateNode) (ns : List PredicateNode) → HasParts parts t → heights (prefix_of t ++ ns) ≡ height t ∷ heights ns
  tree_height (tree n ts) ns h =
      ap (with_height n) (forest_heights ts ns h.1) ∙
      ap (λ (k : ℕ). height_of n (take k (in_front ts (heights ns))) ∷ drop k (in_front ts (heights ns))) h.0 ∙
      ap (λ hs. height_of n hs ∷ drop (size ts) (in_front ts (heights ns))) (first_heights ts (heights ns)) ∙
      ap (λ hs. height_of n (each_height ts) ∷ hs) (other_heights ts (heights ns))

  forest_heights : (ts : Forest PredicateNode) (ns : List PredicateNode) → HaveParts parts ts → heights (prefixes_of ts ++ ns) ≡ in_front ts (heights ns)
  forest_heights no_tree ns h = refl
  forest_heights (one_more t ts) ns h =
      ap heights (append_assoc (prefix_of t) (prefixes_of ts) ns) ∙ tree_height t (prefixes_of ts ++ ns) h.0 ∙ ap (λ hs. height t ∷ hs) (forest_heights ts ns h.1)

-- a tree of the grammar nests at most 200 deep
low_tree : (t : Tree PredicateNode) → HasParts parts t → are_low (prefix_of t) ≡ true → height t ≤ 200
low_tree (tree n ts) h l =
    let b = both_hold (are_low (prefixes_of ts)) (nat_le (height_of n (take (parts n) (heights (prefixes_of ts)))) 200) l in
    let c = leb-true (height_of n (take (parts n) (heights (prefixes_of ts)))) 200 b.1 in
    let e : heights (prefixes_of ts) ≡ in_front ts [] = ap heights (sym (append-nil (prefixes_of ts))) ∙ forest_heights ts [] h.1 in
    let f : height_of n (take (parts n) (heights (prefixes_of ts))) ≡ height_of n (each_height ts) =
    ap (λ hs. height_of n (take (parts n) hs)) e ∙ ap (λ (k : ℕ). height_of n (take k (in_front ts []))) h.0 ∙ ap (height_of n) (first_heights ts []) in
    omega (arith, f, c)

-- ---- atoms

pub some_terms : (frame : Columns) (terms : List (Numeral × List ℕ)) (ts : List (ℕ × ℤ)) → is_some_list terms ≡ true → all_some (map (term_named frame) terms) ≡ Some ts → ts ≢ []
some_terms frame [] ts h e = absurd (cc)
some_terms frame (t ∷ terms) ts h e = let f = front_of (term_named frame t) (all_some (map (term_named frame) terms)) ts e in λ k. absurd (let j = f.joined in cc)

in_order : (r : List (ℕ × ℤ) × ℤ) (b : Bool) (row : LinearRow) → (if b then Some (record { terms = r.0; kind = Le; bound = r.1 }) else None) ≡ Some row → (row.kind ≡ Le) × (row.terms ≡ r.0)
in_order r true row e =
    let k : record { terms = r.0; kind = Le; bound = r.1 } ≡ row = cc in
    (ap (λ (x : LinearRow). x.kind) (sym k), ap (λ (x : LinearRow). x.terms) (sym k))
in_order r false row e = absurd (cc)

row_is_atom : (ts : Option (List (ℕ × ℤ))) (b : Option ℤ) (row : LinearRow) → ((l : List (ℕ × ℤ)) → ts ≡ Some l → l ≢ []) → if_there (both ts b) ≡ Some row → IsAtom row
row_is_atom None b row h e = absurd (cc)
row_is_atom (Some ts) None row h e = absurd (cc)
row_is_atom (Some ts) (Some b) row h e =
    let k = in_order (ts, b) (terms_ascend ts) row e in
    record { inequality = k.0; has_term = λ n. h ts refl (sym k.1 ∙ n) }

pub record IsAtomOf (m : PredNode) : Type 0 where
  pub row : LinearRow
  pub is : m ≡ Atom row
  pub atom : IsAtom row

pub atom_of : (o : Option LinearRow) (m : PredNode) → ((row : LinearRow) → o ≡ Some row → IsAtom row) → option_map Atom o ≡ Some m → IsAtomOf m
atom_of None m h e = absurd (cc)
atom_of (Some row) m h e = record { row = row; is = cc; atom = h row refl }

-- ---- trees

-- the nodes are the prefix list of a tree of this height
record Grown (t : Tree PredicateNode) (ms : List PredNode) : Type 0 where
  formula : Formula
  spelled : preds.prefix_of formula ≡ ms
  is_tree : IsTree formula
  nested : nesting formula ≡ height t

record AllGrown (ts : Forest PredicateNode) (ms : List PredNode) : Type 0 where
  formulas : Formulas
  spelled : preds.prefixes_of formulas ≡ ms
  counted : formula_count formulas ≡ size ts
  are_trees : AreTrees formulas
  nested : deepest formulas ≡ highest (each_height ts)

all_of_append : (f : PredicateNode → Bool) (xs ys : List PredicateNode) → list_all f (xs ++ ys) ≡ true → (list_all f xs ≡ true) × (list_all f ys ≡ true)
all_of_append f [] ys h = (refl, h)
all_of_append f (x ∷ xs) ys h =
    let b = both_hold (f x) (list_all f (xs ++ ys)) h in
    let r = all_of_append f xs ys b.1 in
    (rw (b.0, r.0) refl, r.1)

-- a way to name nodes: atoms as inequalities with a term, and the others as they are
pub record NamesNodes (f : PredicateNode → Option PredNode) : Type 0 where
  pub atoms : (bound : Numeral) (terms : List (Numeral × List ℕ)) (m : PredNode) → is_predicate_node (atom bound terms) ≡ true → f (atom bound terms) ≡ Some m → IsAtomOf m
  pub ands : (k : ℕ) (m : PredNode) → f (and_of k) ≡ Some m → And k ≡ m
  pub ors : (k : ℕ) (m : PredNode) → f (or_of k) ≡ Some m → Or k ≡ m

module _ (f : PredicateNode → Option PredNode) (names : NamesNodes f) where
  node_grown : (n : PredicateNode) (ts : Forest PredicateNode) (m : PredNode) (ms : List PredNode) → parts n ≡ size ts → is_predicate_node n ≡ true →
      f n ≡ Some m → AllGrown ts ms → Grown (tree n ts) (m ∷ ms)
  node_grown (atom bound terms) ts m ms p g e a =
      let w = names.atoms bound terms m g e in
      let none : preds.prefixes_of a.formulas ≡ [] = no_formulas a.formulas (a.counted ∙ sym p) in
      record {
        formula = preds.atom w.row;
        spelled = ap (λ (x : PredNode). x ∷ []) (sym w.is) ∙ ap (λ l. m ∷ l) (sym none ∙ a.spelled);
        is_tree = w.atom;
        nested = refl;
      }
    where
      no_formulas : (fs : Formulas) → formula_count fs ≡ 0 → preds.prefixes_of fs ≡ []
      no_formulas preds.no_formula c = refl
      no_formulas (preds.one_more g gs) c = absurd (omega arith)
  node_grown (and_of k) ts m ms p g e a =
      let i = both_hold (nat_le 2 k) (nat_lt k (2 ^ 32)) g in
      let l = leb-true 2 k i.0 in
      let c = a.counted in
      let w = names.ands k m e in
      let v : formula_count a.formulas ≡ k = c ∙ sym p in
      record {
        formula = preds.and_of a.formulas;
        spelled = ap (λ (x : ℕ). And x ∷ preds.prefixes_of a.formulas) v ∙ ap (λ (x : PredNode). x ∷ preds.prefixes_of a.formulas) w ∙ ap (λ l. m ∷ l) a.spelled;
        is_tree = (omega (arith, l, v), a.are_trees);
        nested = ap suc a.nested;
      }
  node_grown (or_of k) ts m ms p g e a =
      let i = both_hold (nat_le 2 k) (nat_lt k (2 ^ 32)) g in
      let l = leb-true 2 k i.0 in
      let c = a.counted in
      let w = names.ors k m e in
      let v : formula_count a.formulas ≡ k = c ∙ sym p in
      record {
        formula = preds.or_of a.formulas;
        spelled = ap (λ (x : ℕ). Or x ∷ preds.prefixes_of a.formulas) v ∙ ap (λ (x : PredNode). x ∷ preds.prefixes_of a.formulas) w ∙ ap (λ l. m ∷ l) a.spelled;
        is_tree = (omega (arith, l, v), a.are_trees);
        nested = ap suc a.nested;
      }

  mutual
    tree_grown : (t : Tree PredicateNode) (ms : List PredNode) → HasParts parts t → list_all is_predicate_node (prefix_of t) ≡ true →
        all_some (map f (prefix_of t)) ≡ Some ms → Grown t ms
    tree_grown (tree n ts) ms h g e =
        let r = front_of (f n) (all_some (map f (prefixes_of ts))) ms e in
        let b = both_hold (is_predicate_node n) (list_all is_predicate_node (prefixes_of ts)) g in
        let w = node_grown n ts r.first r.rest h.0 b.0 r.is (forest_grown ts r.rest h.1 b.1 r.others) in
        record { formula = w.formula; spelled = w.spelled ∙ sym r.joined; is_tree = w.is_tree; nested = w.nested }

    forest_grown : (ts : Forest PredicateNode) (ms : List PredNode) → HaveParts parts ts → list_all is_predicate_node (prefixes_of ts) ≡ true →
        all_some (map f (prefixes_of ts)) ≡ Some ms → AllGrown ts ms
    forest_grown no_tree ms h g e = record { formulas = preds.no_formula; spelled = cc; counted = refl; are_trees = tt; nested = refl }
    forest_grown (one_more t ts) ms h g e =
        let p = parted f (prefix_of t) (prefixes_of ts) ms e in
        let b = all_of_append is_predicate_node (prefix_of t) (prefixes_of ts) g in
        let one = tree_grown t p.front h.0 b.0 p.first in
        let all = forest_grown ts p.rest h.1 b.1 p.others in
        record {
          formulas = preds.one_more one.formula all.formulas;
          spelled = ap (λ l. l ++ preds.prefixes_of all.formulas) one.spelled ∙ ap (λ l. p.front ++ l) all.spelled ∙ sym p.joined;
          counted = ap suc all.counted;
          are_trees = (one.is_tree, all.are_trees);
          nested = ap (λ (k : ℕ). max k (deepest all.formulas)) one.nested ∙ ap (λ (k : ℕ). max (height t) k) all.nested;
        }

  -- the nodes of a predicate of the grammar, named so, spell a predicate
  pub nodes_spell_so : (ns : List PredicateNode) (ms : List PredNode) → IsTrue (is_predicate ns) → all_some (map f ns) ≡ Some ms → SpellsPredicate ms
  nodes_spell_so ns ms g e =
      let b = both_hold (list_all is_predicate_node ns) (is_tree parts ns && are_low ns) g in
      let c = both_hold (is_tree parts ns) (are_low ns) b.1 in
      let t = whole_is_tree parts ns c.0 in
      let w = tree_grown t.0 ms t.1 (subst (λ l. list_all is_predicate_node l ≡ true) (sym t.2) b.0) (subst (λ l. all_some (map f l) ≡ Some ms) (sym t.2) e) in
      let low = low_tree t.0 t.1 (subst (λ l. are_low l ≡ true) (sym t.2) c.1) in
      let n = w.nested in
      (w.formula, w.spelled, inr (w.is_tree, omega (arith, n, low)))

-- with their columns named
names_nodes : (frame : Columns) → NamesNodes (node_named frame)
names_nodes frame = record {
  atoms = λ bound terms m g e.
      let i = both_hold (is_numeral bound) (is_some_list terms && list_all is_term terms) g in
      let j = both_hold (is_some_list terms) (list_all is_term terms) i.1 in
      atom_of (row_named frame bound terms) m
      (λ row r. row_is_atom (all_some (map (term_named frame) terms)) (number_in bound) row (λ l k. some_terms frame terms l j.0 k) r) e;
  ands = λ k m e. cc;
  ors = λ k m e. cc;
}

-- the nodes of a predicate of the grammar, with their columns named, spell a predicate
pub nodes_spell : (frame : Columns) (ns : List PredicateNode) (ms : List PredNode) → IsTrue (is_predicate ns) → all_some (map (node_named frame) ns) ≡ Some ms → SpellsPredicate ms
nodes_spell frame ns ms g e = nodes_spell_so (node_named frame) (names_nodes frame) ns ms g e

spelled_in : (g : Graph) (nodes : List PredicateNode) (o : Option ℕ) (sc : Scoped) → IsTrue (is_predicate nodes) → scoped_named g nodes o ≡ Some sc → SpellsPredicate sc.pred
spelled_in g nodes None sc h e = absurd (cc)
spelled_in g nodes (Some p) sc h e = by_nodes (all_some (map (node_named (frame_of (alphabet_of g) p)) nodes)) refl e
  where
    by_nodes : (o : Option (List PredNode)) → all_some (map (node_named (frame_of (alphabet_of g) p)) nodes) ≡ o →
        option_map (scoped_of p) o ≡ Some sc → SpellsPredicate sc.pred
    by_nodes None i f = absurd (cc)
    by_nodes (Some ns) i f =
        let k : scoped_of p ns ≡ sc = cc in
        subst (λ (x : Scoped). SpellsPredicate x.pred) k (nodes_spell (frame_of (alphabet_of g) p) nodes ns h i)

-- the predicate that a line of the grammar names spells a predicate
pub pred_spells : (g : Graph) (line : form.Pred) (sc : Scoped) → IsTrue (form.is_pred line) → pred_named g line ≡ Some sc → SpellsPredicate sc.pred
pred_spells g line sc h e =
    let b = both_hold (is_spelled line.proc) (is_predicate line.nodes) h in
    spelled_in g line.nodes (procedure_named g line.proc) sc b.1 e
