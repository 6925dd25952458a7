-- Terms, atoms, and the nodes of predicates: what spells them is of the grammar, and names them again.
use Rattle.std.proofs.Common.{◌≡◌, ◌∙◌, ◌≢◌, ℕ, suc, ◌+◌, ◌^◌, ◌<◌, ◌≤◌, true, List, [], ◌∷◌, length, take, drop, get_or, ◌-◌, Option, None, Some, refl, sym, ap, subst, inl, inr, arith}
use Rattle.std.specs.Prelude.{ℤ, map, slice_get, IsTrue}
use Rattle.std.specs.List.{AllByRecursion}
use Rattle.std.specs.Option.{option_map}
use Rattle.std.proofs.lemmas.Bool.{lt-ltb}
use Rattle.math_facts.specs.Terms.{IsBelow}
use Rattle.boogie_tree.specs.declared.tree.Column.{Column}
use Rattle.boogie_tree.specs.declared.tree.VarInfo.{VarInfo}
use Rattle.lin_rows.specs.declared.types.RowKind.TheVariants.{Le}
use Rattle.lin_rows.specs.Rows.{LinearRow, IsRow, AscendsFrom, IsCoefficient}
use Rattle.letter_acts.specs.Frames.{Columns}
use Rattle.letter_acts.specs.Acts.{frame_of}
use Rattle.letter_acts.specs.Invariant.{Graph, alphabet_of}
use Rattle.letter_acts.specs.Kept.{Keeps}
use Rattle.triple_rows.specs.declared.predicates.PredNode.{PredNode}
use Rattle.triple_rows.specs.declared.predicates.PredNode.TheVariants.{Atom, And, Or}
use Rattle.triple_rows.specs.declared.triples.Scoped.{Scoped}
use Rattle.triple_rows.specs.Predicates as preds
use Rattle.triple_rows.specs.Predicates.{Formula, Formulas, prefix_of, prefixes_of, formula_of, IsTree, AreTrees, IsAtom, IsTruth, IsOver, AreOver, nesting, SpellsPredicate}
use Rattle.triple_rows.proofs.FormulaLaws.{prefix_read}
use Rattle.triple_rows.proofs.ListLaws.{all_joined, all_at}
use Rattle.proof_form.specs.declared.numerals.Numeral.{Numeral}
use Rattle.proof_form.specs.declared.predicates.PNode.{PNode}
use Rattle.proof_form.specs.Names.{is_column}
use Rattle.proof_form.specs.Predicates as form
use Rattle.proof_form.specs.Predicates.{PredicateNode, atom, and_of, or_of, is_term, is_predicate_node, parts, height_of, heights, are_low}
use Rattle.proof_form.specs.Trees.{is_tree, tree_count, have_parts}
use Rattle.proof_form.specs.Refutations.{is_some_list}
use Rattle.proof_names.specs.Numbers.{number_in}
use Rattle.proof_names.specs.Options.{both, all_some}
use Rattle.proof_names.specs.Columns.{column_text, column_named}
use Rattle.proof_names.specs.Predicates.{term_named, terms_ascend, row_named, node_named, if_there, row_in_order, scoped_of, scoped_named}
use Rattle.proof_names.specs.ProofSpell.Correspond.{Correspond}
use Rattle.proof_names.specs.ProofSpell.Drafts.{MayBeNamed}
use Rattle.proof_names.specs.ProofSpell.Spelled.{Writes, SpellsPred}
use Rattle.proof_names.specs.ProofSpell.Nodes.{IsReadable, IsTermWithin, SpellsTerm, IsNodeWithin, SpellsNode}
use Rattle.proof_names.proofs.ProofSpell.NumeralLaws.{writes_number, writes_not_zero}
use Rattle.proof_names.proofs.ProofSpell.CorrespondLaws.{all_pass, all_values, viewed, weaker, got}
use Rattle.proof_names.proofs.ProofSpell.NameLaws.{column_found, procedure_found, procedure_valid}
use Rattle.proof_names.proofs.ProofSpell.ShapeLaws.{shape, shapes, shape_is_tree}

-- ---- terms

pub term_spelled : (frame : Columns) (m : Numeral) (text : List ℕ) (t : ℕ × ℤ) (c : Column × VarInfo) → IsReadable frame → IsTermWithin (length frame) t → t.0 < 2 ^ 32 →
    Writes m t.1 → c ≡ get_or frame t.0 c → text ≡ column_text c → SpellsTerm frame (m, text) t
term_spelled frame m text t c r w l n e x =
    let s = got frame t.0 c c w.within e in
    let v : is_column (column_text c) ≡ true = all_at (λ k. IsTrue (is_column (column_text k))) frame t.0 c s r.valid in
    let a : column_named frame text ≡ Some t.0 = ap (column_named frame) x ∙ column_found frame t.0 c r s l in
    let b : number_in m ≡ Some t.1 = writes_number m t.1 n w.coefficient.fits in
    record {
      valid = rw (n.valid, writes_not_zero m t.1 n w.coefficient.is_not_zero, ap is_column x ∙ v) refl;
      named = ap (λ o. both o (number_in m)) a ∙ ap (both (Some t.0)) b;
    }

-- ---- atoms

some_first : {X Y : Type 0} (R : X → Y → Type 0) (xs : List X) (ys : List Y) → Correspond R xs ys → ys ≢ [] → is_some_list xs ≡ true
some_first R [] [] h n = absurd (n refl)
some_first R [] (y ∷ ys) h n = absurd h
some_first R (x ∷ xs) ys h n = refl

ascending : (low : ℕ) (ts : List (ℕ × ℤ)) → AscendsFrom low ts → terms_ascend ts ≡ true
ascending low [] h = refl
ascending low (t ∷ []) h = refl
ascending low (t ∷ u ∷ us) h =
    let l : t.0 < u.0 = (let k = h.1.0 in omega arith) in
    rw (lt-ltb t.0 u.0 l, ascending (t.0 + 1) (u ∷ us) h.1) refl

in_order : (ts : List (ℕ × ℤ)) (bound : ℤ) → terms_ascend ts ≡ true → row_in_order (ts, bound) ≡ Some (record { terms = ts; kind = Le; bound = bound })
in_order ts bound h = rw h refl

same_row : (r : LinearRow) → r.kind ≡ Le → ◌≡◌ {A = LinearRow} (record { terms = r.terms; kind = Le; bound = r.bound }) r
same_row r e = λ i. record { terms = r.terms; kind = sym e i; bound = r.bound }

pub atom_spelled : (frame : Columns) (bound : Numeral) (terms : List (Numeral × List ℕ)) (r : LinearRow) → IsRow r → IsAtom r → Writes bound r.bound →
    Correspond (SpellsTerm frame) terms r.terms → SpellsNode frame (atom bound terms) (Atom r)
atom_spelled frame bound terms r i a w c =
    let t : all_some (map (term_named frame) terms) ≡ Some r.terms = all_values (SpellsTerm frame) (term_named frame) (λ x y h. h.named) terms r.terms c in
    let b : number_in bound ≡ Some r.bound = writes_number bound r.bound w i.bound_fits in
    record {
      valid = rw (w.valid, some_first (SpellsTerm frame) terms r.terms c a.has_term, all_pass (SpellsTerm frame) is_term (λ x y h. h.valid) terms r.terms c) refl;
      named =
          ap (λ o. option_map Atom (if_there (both o (number_in bound)))) t ∙ ap (λ o. option_map Atom (if_there (both (Some r.terms) o))) b ∙
          ap (option_map Atom) (in_order r.terms r.bound (ascending 0 r.terms i.ascends)) ∙ ap (λ (x : LinearRow). Some (Atom x)) (same_row r a.inequality);
    }

-- the terms of a row over so many columns
pub terms_within : (n : ℕ) (ts : List (ℕ × ℤ)) → AllByRecursion IsCoefficient ts → IsBelow n ts → AllByRecursion (IsTermWithin n) ts
terms_within n [] c b = tt
terms_within n (t ∷ ts) c b = (record { within = b.0; coefficient = c.0 }, terms_within n ts c.1 b.1)

-- ---- the nodes of a predicate

mutual
  nodes_over : (n : ℕ) (f : Formula) → IsTree f → IsOver n f → AllByRecursion (IsNodeWithin n) (prefix_of f)
  nodes_over n (preds.truth b) t o = absurd t
  nodes_over n (preds.atom r) t o = ((t, o), tt)
  nodes_over n (preds.and_of fs) t o = (t.0, all_nodes_over n fs t.1 o)
  nodes_over n (preds.or_of fs) t o = (t.0, all_nodes_over n fs t.1 o)

  all_nodes_over : (n : ℕ) (fs : Formulas) → AreTrees fs → AreOver n fs → AllByRecursion (IsNodeWithin n) (prefixes_of fs)
  all_nodes_over n preds.no_formula t o = tt
  all_nodes_over n (preds.one_more f fs) t o =
      (all_joined (IsNodeWithin n) (prefix_of f) (prefixes_of fs)).1 (nodes_over n f t.0 o.0, all_nodes_over n fs t.1 o.1)

-- what a predicate that may be named is
pub record IsTreeOver (n : ℕ) (nodes : List PredNode) : Type 0 where
  pub formula : Formula
  pub spelled : prefix_of formula ≡ nodes
  pub is_tree : IsTree formula
  pub nested : nesting formula ≤ 200
  pub over : IsOver n formula

pub tree_of : (n : ℕ) (nodes : List PredNode) → SpellsPredicate nodes → IsOver n (formula_of nodes) → (IsTruth (formula_of nodes) → ⊥) → IsTreeOver n nodes
tree_of n nodes (f, e, p) o t =
    let r : formula_of nodes ≡ f = ap formula_of (sym e) ∙ prefix_read f in
    by_kind p (subst (λ (x : Formula). IsOver n x) r o) (λ k. t (subst (λ (x : Formula). IsTruth x) (sym r) k))
  where
    by_kind : preds.IsPredicate f → IsOver n f → (IsTruth f → ⊥) → IsTreeOver n nodes
    by_kind (inl k) o t = absurd (t k)
    by_kind (inr k) o t = record { formula = f; spelled = e; is_tree = k.0; nested = k.1; over = o }

pub nodes_within : (n : ℕ) (nodes : List PredNode) → SpellsPredicate nodes → IsOver n (formula_of nodes) → (IsTruth (formula_of nodes) → ⊥) → AllByRecursion (IsNodeWithin n) nodes
nodes_within n nodes s o t =
    let w = tree_of n nodes s o t in
    subst (λ (l : List PredNode). AllByRecursion (IsNodeWithin n) l) w.spelled (nodes_over n w.formula w.is_tree w.over)

-- ---- lines have the shape of their predicates

-- the nodes have as many parts, and are as high over parts of the same heights
record IsShaped (n : PredicateNode) (m : PredNode) : Type 0 where
  has : parts n ≡ parts (shape m)
  high : (hs : List ℕ) → height_of n hs ≡ height_of (shape m) hs

no_row : {P : Type 0} (o : Option LinearRow) (m : PredNode) → option_map Atom o ≡ Some m → ((r : LinearRow) → Atom r ≡ m → P) → P
no_row None m e f = absurd (cc)
no_row (Some r) m e f = f r (cc)

shaped : (frame : Columns) (n : PredicateNode) (m : PredNode) → node_named frame n ≡ Some m → IsShaped n m
shaped frame (atom bound terms) m e =
    no_row (row_named frame bound terms) m e (λ r k. subst (λ (x : PredNode). IsShaped (atom bound terms) x) k (record { has = refl; high = λ hs. refl }))
shaped frame (and_of n) m e = let k : And n ≡ m = cc in subst (λ (x : PredNode). IsShaped (and_of n) x) k (record { has = refl; high = λ hs. refl })
shaped frame (or_of n) m e = let k : Or n ≡ m = cc in subst (λ (x : PredNode). IsShaped (or_of n) x) k (record { has = refl; high = λ hs. refl })

record AreShaped (ns : List PredicateNode) (ms : List PredNode) : Type 0 where
  counted : tree_count parts ns ≡ tree_count parts (shapes ms)
  whole : have_parts parts ns ≡ have_parts parts (shapes ms)
  high : heights ns ≡ heights (shapes ms)
  low : are_low ns ≡ are_low (shapes ms)

all_shaped : (ns : List PredicateNode) (ms : List PredNode) → Correspond IsShaped ns ms → AreShaped ns ms
all_shaped [] [] h = record { counted = refl; whole = refl; high = refl; low = refl }
all_shaped [] (m ∷ ms) h = absurd h
all_shaped (n ∷ ns) [] h = absurd h
all_shaped (n ∷ ns) (m ∷ ms) h =
    let r = all_shaped ns ms h.1 in
    let a : parts n ≡ parts (shape m) = h.0.has in
    let top : height_of n (take (parts n) (heights ns)) ≡ height_of (shape m) (take (parts (shape m)) (heights (shapes ms))) =
    h.0.high (take (parts n) (heights ns)) ∙ ap (λ (k : ℕ). height_of (shape m) (take k (heights ns))) a ∙ ap (λ (l : List ℕ). height_of (shape m) (take (parts (shape m)) l)) r.high in
    record {
      counted = ap (λ (k : ℕ). suc (k - parts n)) r.counted ∙ ap (λ (k : ℕ). suc (tree_count parts (shapes ms) - k)) a;
      whole = rw (r.whole, r.counted, a) refl;
      high = ap (λ (k : ℕ). k ∷ drop (parts n) (heights ns)) top ∙
          ap (λ (k : ℕ). height_of (shape m) (take (parts (shape m)) (heights (shapes ms))) ∷ drop k (heights ns)) a ∙
          ap (λ (l : List ℕ). height_of (shape m) (take (parts (shape m)) (heights (shapes ms))) ∷ drop (parts (shape m)) l) r.high;
      low = rw (r.low, top) refl;
    }

-- ---- the line

pub pred_spelled : (g : Graph) (name : List ℕ) (nodes : List PNode) (s : Scoped) → Keeps g → MayBeNamed g s → SpellsPredicate s.pred → s.proc < 2 ^ 32 →
    slice_get g.names s.proc ≡ Some name → Correspond (λ n. SpellsNode (frame_of (alphabet_of g) s.proc) (form.plain_predicate_node n)) nodes s.pred →
    SpellsPred g (record { proc = name; nodes = map form.plain_predicate_node nodes }) s
pred_spelled g name nodes s k m p l e c =
    let frame : Columns = frame_of (alphabet_of g) s.proc in
    let w = tree_of (length frame) s.pred p m.over m.no_truth in
    let v : Correspond (SpellsNode frame) (map form.plain_predicate_node nodes) s.pred = viewed (SpellsNode frame) form.plain_predicate_node nodes s.pred c in
    let a : all_some (map (node_named frame) (map form.plain_predicate_node nodes)) ≡ Some s.pred = all_values (SpellsNode frame) (node_named frame) (λ x y h. h.named) (map form.plain_predicate_node nodes) s.pred v in
    let h = all_shaped (map form.plain_predicate_node nodes) s.pred (weaker (SpellsNode frame) IsShaped (λ x y h. shaped frame x y h.named) (map form.plain_predicate_node nodes) s.pred v) in
    let t = shape_is_tree w.formula w.nested in
    let one : is_tree parts (map form.plain_predicate_node nodes) ≡ true =
    rw (h.whole, h.counted) (subst (λ (x : List PredNode). is_tree parts (shapes x) ≡ true) w.spelled t.0) in
    let low : are_low (map form.plain_predicate_node nodes) ≡ true = h.low ∙ subst (λ (x : List PredNode). are_low (shapes x) ≡ true) w.spelled t.1 in
    record {
      valid = rw (procedure_valid g s.proc name k e, all_pass (SpellsNode frame) is_predicate_node (λ x y h. h.valid) (map form.plain_predicate_node nodes) s.pred v, one, low) refl;
      named = ap (scoped_named g (map form.plain_predicate_node nodes)) (procedure_found g s.proc name k m.body e l) ∙ ap (option_map (scoped_of s.proc)) a;
    }
