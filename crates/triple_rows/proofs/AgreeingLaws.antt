-- Which columns the atoms of a list of nodes name.
use Rattle.std.proofs.Common.{◌↔◌, ℕ, List, sym, subst}
use Rattle.std.specs.List.{AllByRecursion}
use Rattle.triple_rows.specs.declared.predicates.PredNode.{PredNode}
use Rattle.triple_rows.specs.Predicates.{Formula, Formulas, truth, atom, and_of, or_of, no_formula, one_more, IsOver, AreOver, prefix_of, prefixes_of, formula_of, SpellsPredicate}
use Rattle.triple_rows.specs.Reading.{NodeIsOver}
use Rattle.triple_rows.proofs.ListLaws.{all_joined}
use Rattle.triple_rows.proofs.FormulaLaws.{prefix_read}

mutual
  over_tree : (n : ℕ) (f : Formula) → AllByRecursion (NodeIsOver n) (prefix_of f) ↔ IsOver n f
  over_tree n (truth b) = (λ h. tt, λ h. (tt, tt))
  over_tree n (atom r) = (λ h. h.0, λ h. (h, tt))
  over_tree n (and_of fs) = let r = over_trees n fs in (λ h. r.0 h.1, λ h. (tt, r.1 h))
  over_tree n (or_of fs) = let r = over_trees n fs in (λ h. r.0 h.1, λ h. (tt, r.1 h))

  over_trees : (n : ℕ) (fs : Formulas) → AllByRecursion (NodeIsOver n) (prefixes_of fs) ↔ AreOver n fs
  over_trees n no_formula = (λ h. tt, λ h. tt)
  over_trees n (one_more f fs) =
      let a = all_joined (NodeIsOver n) (prefix_of f) (prefixes_of fs) in
      let e = over_tree n f in
      let r = over_trees n fs in
      (λ h. (e.0 (a.0 h).0, r.0 (a.0 h).1), λ h. a.1 (e.1 h.0, r.1 h.1))

-- the nodes of a predicate name columns below n exactly where its tree does
pub over_predicate : (n : ℕ) (nodes : List PredNode) → SpellsPredicate nodes → AllByRecursion (NodeIsOver n) nodes ↔ IsOver n (formula_of nodes)
over_predicate n nodes h =
    subst (λ (ns : List PredNode). AllByRecursion (NodeIsOver n) ns ↔ IsOver n (formula_of ns)) h.1
    (subst (λ (f : Formula). AllByRecursion (NodeIsOver n) (prefix_of h.0) ↔ IsOver n f) (sym (prefix_read h.0)) (over_tree n h.0))
