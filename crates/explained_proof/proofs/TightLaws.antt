-- Predicates whose rows are tightened, by the nodes that spell them.
use Rattle.std.proofs.Common.{◌≡◌, ◌∙◌, ℕ, zero, suc, ◌+◌, true, List, [], ◌∷◌, map, take, drop, refl, ap}
use Rattle.std.proofs.lemmas.List.{take-map, drop-map}
use Rattle.triple_rows.specs.declared.predicates.PredNode.{PredNode}
use Rattle.triple_rows.specs.declared.predicates.PredNode.TheVariants.{Truth, Atom, And, Or}
use Rattle.triple_rows.specs.Predicates.{Formula, Formulas, truth, atom, and_of, or_of, one_more, SpellsPredicate, bundled, formulas, first_formula, formula_of}
use Rattle.lin_rows.specs.Tightening.{tightened}
use Rattle.explained_proof.specs.FactExpressions.Trees.{part_count, spells}
use Rattle.explained_proof.proofs.FactExpressions.TreeLaws.{predicate_spells}
use Rattle.explained_proof.specs.Tightened.{tight, all_tight, tight_node}

parts_tight : (n : PredNode) → part_count (tight_node n) ≡ part_count n
parts_tight (Truth b) = refl
parts_tight (Atom r) = refl
parts_tight (And k) = refl
parts_tight (Or k) = refl

pub spells_tight : (k : ℕ) (ns : List PredNode) → spells k (map tight_node ns) ≡ spells k ns
unfolding spells
spells_tight zero [] = refl
spells_tight zero (n ∷ ns) = refl
spells_tight (suc k) [] = refl
spells_tight (suc k) (n ∷ ns) = ap (λ j. spells (j + k) (map tight_node ns)) (parts_tight n) ∙ spells_tight (part_count n + k) ns

bundled_tight : (fs : List Formula) → bundled (map tight fs) ≡ all_tight (bundled fs)
bundled_tight [] = refl
bundled_tight (f ∷ fs) = ap (one_more (tight f)) (bundled_tight fs)

-- the parts of a node, and what stands behind them
parts_on : (make : Formulas → Formula) (k : ℕ) (fs gs : List Formula) → gs ≡ map tight fs →
    make (bundled (take k gs)) ∷ drop k gs ≡ make (all_tight (bundled (take k fs))) ∷ map tight (drop k fs)
parts_on make k fs gs e =
    ap (λ hs. make (bundled (take k hs)) ∷ drop k hs) e ∙ ap (λ hs. make (bundled hs) ∷ drop k (map tight fs)) (take-map tight k fs) ∙
    ap (λ hs. make (bundled (map tight (take k fs))) ∷ hs) (drop-map tight k fs) ∙ ap (λ hs. make hs ∷ map tight (drop k fs)) (bundled_tight (take k fs))

formulas_tight : (ns : List PredNode) → formulas (map tight_node ns) ≡ map tight (formulas ns)
formulas_tight [] = refl
formulas_tight (Truth b ∷ ns) = ap (λ fs. truth b ∷ fs) (formulas_tight ns)
formulas_tight (Atom r ∷ ns) = ap (λ fs. atom (tightened r) ∷ fs) (formulas_tight ns)
formulas_tight (And k ∷ ns) = parts_on and_of k (formulas ns) (formulas (map tight_node ns)) (formulas_tight ns)
formulas_tight (Or k ∷ ns) = parts_on or_of k (formulas ns) (formulas (map tight_node ns)) (formulas_tight ns)

first_tight : (fs : List Formula) → first_formula (map tight fs) ≡ tight (first_formula fs)
first_tight [] = refl
first_tight (f ∷ fs) = refl

pub formula_tight : (ns ms : List PredNode) → ms ≡ map tight_node ns → formula_of ms ≡ tight (formula_of ns)
formula_tight ns ms e = ap formula_of e ∙ ap first_formula (formulas_tight ns) ∙ first_tight (formulas ns)

pub tight_spells : (ns ms : List PredNode) → SpellsPredicate ns → ms ≡ map tight_node ns → spells 1 ms ≡ true
tight_spells ns ms h e = ap (spells 1) e ∙ spells_tight 1 ns ∙ predicate_spells ns h
