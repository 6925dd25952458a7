-- What an annotation knows at its nodes holds where the predicates of the nodes do.
use Rattle.std.proofs.Common.{◌≡◌, ◌↔◌, ◌∙◌, ◌⊎◌, inl, inr, ℕ, zero, suc, ◌≤◌, ℤ, Bool, true, false, List, [], ◌∷◌, map, max, Option, None, Some, refl, sym, ap, subst, arith}
use Rattle.std.specs.Prelude.{slice_get}
use Rattle.std.specs.List.{list_all, AllByRecursion}
use Rattle.std.specs.Option.{option_and_then}
use Rattle.std.proofs.lemmas.Bool.{and_parts, and_from, lt-ltb, false≢true}
use Rattle.std.proofs.lemmas.List.Folds.{list_all-map}
use Rattle.lin_rows.specs.Rows.{LinearRow}
use Rattle.lin_rows.specs.declared.types.RowKind.{RowKind}
use Rattle.lin_rows.specs.declared.types.RowKind.TheVariants.{Le, Eq}
use Rattle.lin_rows.specs.Tightening.{content, divided_row, tightened_by, tightened}
use Rattle.lin_rows.proofs.TighteningLaw.{holds_tightened_by}
use Rattle.letter_acts.specs.Invariant.{Graph}
use Rattle.triple_rows.specs.declared.predicates.PredNode.{PredNode}
use Rattle.triple_rows.specs.declared.triples.Scoped.{Scoped}
use Rattle.triple_rows.specs.Predicates.{Formula, Formulas, truth, atom, and_of, or_of, no_formula, one_more, FormulaHolds, AllHold, SomeHolds, HasInequalities, HaveInequalities, IsPredicate, SpellsPredicate, nesting, deepest, formula_of}
use Rattle.triple_rows.proofs.FormulaLaws.{prefix_read}
use Rattle.triple_rows.proofs.SaidLaws.{spelled_inequalities}
use Rattle.proof_form.specs.Lines as form
use Rattle.proof_form.specs.Annotations.{Content, is_annotation}
use Rattle.proof_names.specs.Items.{pred_at}
use Rattle.proof_names.specs.Predicates.{pred_named}
use Rattle.proof_names.proofs.SpelledLaws.{pred_spells}
use Rattle.explained_proof.specs.FactExpressions.Facts.{no_facts}
use Rattle.explained_proof.specs.FactExpressions.Worth.{formula_holds, AreCases}
use Rattle.explained_proof.proofs.FactExpressions.TreeWorth.{formula_yes, yes_formula}
use Rattle.explained_proof.proofs.FactExpressions.FactWorth.{facts_are_theirs, facts_from_cases}
use Rattle.explained_proof.proofs.FactExpressions.SaidWorth.{cases_pass, is_above, facts_from_deep}
use Rattle.explained_proof.specs.Tightened.{tight, all_tight}
use Rattle.explained_proof.specs.Known.{Known, formula_in, predicate, preds_in, known_of, known_at}
use Rattle.explained_proof.specs.Worth.{TightHolds, is_known, LineHolds, PredicateHolds, NodesAreKnown, IsShallow, KnownIsShallow}
use Rattle.explained_proof.proofs.KnowledgeLaws.{lines_valid}

-- ---- tightened predicates

row_tight : (point : ℕ → ℤ) (r : LinearRow) → FormulaHolds point (atom (tightened r)) ↔ FormulaHolds point (atom r)
row_tight point r = let h = holds_tightened_by point r (content r.terms) refl in (h.1, h.0)

both_tight : {A B C D : Type 0} → A ↔ B → C ↔ D → (A × C) ↔ (B × D)
both_tight h k = (λ x. (h.0 x.0, k.0 x.1), λ x. (h.1 x.0, k.1 x.1))

either_tight : {A B C D : Type 0} → A ↔ B → C ↔ D → (A ⊎ C) ↔ (B ⊎ D)
either_tight {A} {B} {C} {D} h k = (to, back)
  where
    to : A ⊎ C → B ⊎ D
    to (inl x) = inl (h.0 x)
    to (inr x) = inr (k.0 x)

    back : B ⊎ D → A ⊎ C
    back (inl x) = inl (h.1 x)
    back (inr x) = inr (k.1 x)

mutual
  pub tight_holds : (point : ℕ → ℤ) (f : Formula) → FormulaHolds point (tight f) ↔ FormulaHolds point f
  tight_holds point (truth true) = (λ h. h, λ h. h)
  tight_holds point (truth false) = (λ h. h, λ h. h)
  tight_holds point (atom r) = row_tight point r
  tight_holds point (and_of fs) = all_tight_hold point fs
  tight_holds point (or_of fs) = some_tight_holds point fs

  all_tight_hold : (point : ℕ → ℤ) (fs : Formulas) → AllHold point (all_tight fs) ↔ AllHold point fs
  all_tight_hold point no_formula = (λ h. h, λ h. h)
  all_tight_hold point (one_more f fs) = both_tight (tight_holds point f) (all_tight_hold point fs)

  some_tight_holds : (point : ℕ → ℤ) (fs : Formulas) → SomeHolds point (all_tight fs) ↔ SomeHolds point fs
  some_tight_holds point no_formula = (λ h. h, λ h. h)
  some_tight_holds point (one_more f fs) = either_tight (tight_holds point f) (some_tight_holds point fs)

pub tightened_hold : TightHolds
tightened_hold point f = tight_holds point f

mutual
  tight_nesting : (f : Formula) → nesting (tight f) ≡ nesting f
  tight_nesting (truth b) = refl
  tight_nesting (atom r) = refl
  tight_nesting (and_of fs) = ap suc (tight_deepest fs)
  tight_nesting (or_of fs) = ap suc (tight_deepest fs)

  tight_deepest : (fs : Formulas) → deepest (all_tight fs) ≡ deepest fs
  tight_deepest no_formula = refl
  tight_deepest (one_more f fs) = ap (λ n. max n (deepest (all_tight fs))) (tight_nesting f) ∙ ap (max (nesting f)) (tight_deepest fs)

tight_row : (r : LinearRow) → r.kind ≡ Le → (tightened r).kind ≡ Le
tight_row r e = by_content (content r.terms)
  where
    by_kind : (g : ℕ) (k : RowKind) → k ≡ Le → (divided_row k (suc g) r.terms r.bound).kind ≡ Le
    by_kind g Le f = refl
    by_kind g Eq f = let no : ⊥ = cc in absurd no

    by_content : (g : ℕ) → (tightened_by g r).kind ≡ Le
    by_content zero = e
    by_content (suc g) = by_kind g r.kind e

mutual
  tight_inequalities : (f : Formula) → HasInequalities f → HasInequalities (tight f)
  tight_inequalities (truth b) h = tt
  tight_inequalities (atom r) h = tight_row r h
  tight_inequalities (and_of fs) h = all_tight_inequalities fs h
  tight_inequalities (or_of fs) h = all_tight_inequalities fs h

  all_tight_inequalities : (fs : Formulas) → HaveInequalities fs → HaveInequalities (all_tight fs)
  all_tight_inequalities no_formula h = tt
  all_tight_inequalities (one_more f fs) h = (tight_inequalities f h.0, all_tight_inequalities fs h.1)

-- ---- the predicates of lines

each_valid : (ps : List form.Pred) (k : ℕ) (p : form.Pred) → list_all form.is_pred ps ≡ true → slice_get ps k ≡ Some p → form.is_pred p ≡ true
each_valid [] k p h e = let no : ⊥ = cc in absurd no
each_valid (q ∷ ps) zero p h e = let f : q ≡ p = cc in subst (λ x. form.is_pred x ≡ true) f (and_parts (form.is_pred q) (list_all form.is_pred ps) h).0
each_valid (q ∷ ps) (suc k) p h e = each_valid ps k p (and_parts (form.is_pred q) (list_all form.is_pred ps) h).1 e

-- each line that names a predicate spells one
line_spells : (g : Graph) (a : Content) (k : ℕ) (s : Scoped) → is_annotation a ≡ true → pred_at g a k ≡ Some s → SpellsPredicate s.pred
line_spells g a k s h e = by (slice_get a.preds k) refl e
  where
    by : (o : Option form.Pred) → slice_get a.preds k ≡ o → option_and_then (pred_named g) o ≡ Some s → SpellsPredicate s.pred
    by None f i = let no : ⊥ = cc in absurd no
    by (Some p) f i = pred_spells g p s (each_valid a.preds k p (lines_valid a h) f) i

-- ---- predicates by their numbers

predicate_yes : (g : Graph) (a : Content) (point : ℕ → ℤ) (k : ℕ) → PredicateHolds g a point k → formula_holds point (predicate g a k) ≡ true
predicate_yes g a point zero h = refl
predicate_yes g a point (suc zero) h = elim h [ ]
predicate_yes g a point (suc (suc k)) h = by (pred_at g a k) h
  where
    by : (o : Option Scoped) → LineHolds point o → formula_holds point (formula_in o) ≡ true
    by None h = refl
    by (Some s) h = formula_yes point (tight (formula_of s.pred)) ((tight_holds point (formula_of s.pred)).1 h)

yes_predicate : (g : Graph) (a : Content) (point : ℕ → ℤ) → is_annotation a ≡ true → (k : ℕ) → formula_holds point (predicate g a k) ≡ true → PredicateHolds g a point k
yes_predicate g a point valid zero h = tt
yes_predicate g a point valid (suc zero) h = absurd (false≢true h)
yes_predicate g a point valid (suc (suc k)) h = by (pred_at g a k) refl h
  where
    by : (o : Option Scoped) → pred_at g a k ≡ o → formula_holds point (formula_in o) ≡ true → LineHolds point o
    by None e h = tt
    by (Some s) e h =
        (tight_holds point (formula_of s.pred)).0
        (yes_formula point (tight (formula_of s.pred)) (tight_inequalities (formula_of s.pred) (spelled_inequalities s.pred (line_spells g a k s valid e))) h)

-- ---- nodes

all_yes : (P : ℕ → Type 0) (q : ℕ → Bool) → ((k : ℕ) → P k → q k ≡ true) → (ks : List ℕ) → AllByRecursion P ks → list_all q ks ≡ true
all_yes P q f [] h = refl
all_yes P q f (k ∷ ks) h = and_from (q k) (list_all q ks) (f k h.0) (all_yes P q f ks h.1)

yes_all : (P : ℕ → Type 0) (q : ℕ → Bool) → ((k : ℕ) → q k ≡ true → P k) → (ks : List ℕ) → list_all q ks ≡ true → AllByRecursion P ks
yes_all P q f [] h = tt
yes_all P q f (k ∷ ks) h = let a = and_parts (q k) (list_all q ks) h in (f k a.0, yes_all P q f ks a.1)

-- what is known at a node holds where each of its predicates does
node_value : (k : Known) (point : ℕ → ℤ) (n : ℕ) → is_known k point n ≡ list_all (λ p. formula_holds point (k.predicate p)) (k.preds n)
node_value k point n = facts_are_theirs point (map k.predicate (k.preds n)) ∙ list_all-map (formula_holds point) k.predicate (k.preds n)

pub nodes_are_known : NodesAreKnown
nodes_are_known g a xs n x point valid e =
    let value : is_known (known_of g a xs) point n ≡ list_all (λ p. formula_holds point (predicate g a p)) x.preds =
    node_value (known_of g a xs) point n ∙ ap (λ o. list_all (λ p. formula_holds point (predicate g a p)) (preds_in o)) e in (
      λ h. yes_all (PredicateHolds g a point) (λ p. formula_holds point (predicate g a p)) (yes_predicate g a point valid) x.preds (sym value ∙ h),
      λ h. value ∙ all_yes (PredicateHolds g a point) (λ p. formula_holds point (predicate g a p)) (predicate_yes g a point) x.preds h,
    )

-- ---- how deep predicates are nested

predicate_shallow : (f : Formula) → IsPredicate f → nesting f ≤ 200
predicate_shallow (truth b) h = omega arith
predicate_shallow (atom r) h = omega arith
predicate_shallow (and_of fs) (inl h) = elim h [ ]
predicate_shallow (and_of fs) (inr h) = h.1
predicate_shallow (or_of fs) (inl h) = elim h [ ]
predicate_shallow (or_of fs) (inr h) = h.1

spelled_shallow : (ns : List PredNode) → SpellsPredicate ns → nesting (formula_of ns) ≤ 200
spelled_shallow ns h = subst (λ f. nesting f ≤ 200) (sym (prefix_read h.0) ∙ ap formula_of h.1) (predicate_shallow h.0 h.2)

pub known_is_shallow : KnownIsShallow
known_is_shallow g a xs valid zero = omega arith
known_is_shallow g a xs valid (suc zero) = omega arith
known_is_shallow g a xs valid (suc (suc k)) = by (pred_at g a k) refl
  where
    by : (o : Option Scoped) → pred_at g a k ≡ o → nesting (formula_in o) ≤ 200
    by None e = omega arith
    by (Some s) e = subst (λ n. n ≤ 200) (sym (tight_nesting (formula_of s.pred))) (spelled_shallow s.pred (line_spells g a k s valid e))

-- ---- the facts of nodes

pub node_cases : (k : Known) (n : ℕ) → AreCases (known_at k n)
node_cases k n = facts_from_cases (map k.predicate (k.preds n)) no_facts refl

shallow_lines : (k : Known) → IsShallow k → (ps : List ℕ) → list_all (is_above 201) (map k.predicate ps) ≡ true
shallow_lines k h [] = refl
shallow_lines k h (p ∷ ps) =
    let l = h p in
    and_from (is_above 201 (k.predicate p)) (list_all (is_above 201) (map k.predicate ps)) (lt-ltb (nesting (k.predicate p)) 201 (omega (arith, l))) (shallow_lines k h ps)

pub node_deep : (k : Known) (n : ℕ) → IsShallow k → cases_pass (is_above 201) (known_at k n) ≡ true
node_deep k n h = facts_from_deep 201 (map k.predicate (k.preds n)) no_facts (shallow_lines k h (k.preds n)) refl
