-- The lines of an annotation, without their ends.
use Rattle.std.specs.Prelude.{ℕ, Bool, true, not, ◌&&◌, List, [], ◌∷◌, ◌++◌, map, codes}
use Rattle.std.specs.List.{list_all, flat_map}
use Rattle.std.specs.Fmt.{decimal}
use Rattle.boogie_tree.specs.Names.{is_spelled}
use Rattle.proof_form.specs.declared.numerals.Numeral.{Numeral}
use Rattle.proof_form.specs.declared.lines.PredLine.{PredLine}
use Rattle.proof_form.specs.declared.lines.TripleLine.{TripleLine}
use Rattle.proof_form.specs.declared.lines.TripleLine.TheVariants as triples
use Rattle.proof_form.specs.declared.lines.NodeLine.{NodeLine}
use Rattle.proof_form.specs.declared.lines.StepLine.{StepLine}
use Rattle.proof_form.specs.declared.lines.StepLine.TheVariants as steps
use Rattle.proof_form.specs.Numerals.{is_numeral, is_zero_text, numeral_is_below, numeral_text}
use Rattle.proof_form.specs.Predicates as predicates
use Rattle.proof_form.specs.Predicates.{PredicateNode, is_predicate, predicate_text}
use Rattle.proof_form.specs.Refutations as refutations
use Rattle.proof_form.specs.Refutations.{RefutationNode, is_refutation, refutation_text}

-- a procedure's name and a predicate over its columns
pub record Pred : Type 0 where
  pub proc : List ℕ
  pub nodes : List PredicateNode

-- inside and call: from, letter, to; return: exit, before, letter, to; each with its refutation
pub data Triple : Type 0 where
  inside_triple : Numeral → Numeral → Numeral → List RefutationNode → Triple
  call_triple : Numeral → Numeral → Numeral → List RefutationNode → Triple
  back_triple : Numeral → Numeral → Numeral → Numeral → List RefutationNode → Triple

pub record Node : Type 0 where
  pub place : Numeral
  pub entry : Numeral
  pub preds : List Numeral

abbrev pub pred : PredLine → Pred
pred p = record { proc = p.proc; nodes = map predicates.plain_predicate_node p.nodes.items }

abbrev pub triple : TripleLine → Triple
triple (triples.Inside from letter to proof) = inside_triple from letter to (map refutations.plain_refutation_node proof.items)
triple (triples.Call from letter to proof) = call_triple from letter to (map refutations.plain_refutation_node proof.items)
triple (triples.Back exit before letter to proof) = back_triple exit before letter to (map refutations.plain_refutation_node proof.items)

abbrev pub node : NodeLine → Node
node n = record { place = n.place; entry = n.entry; preds = n.preds.items }

-- What lines say

-- a space and a number
abbrev pub spaced : Numeral → List ℕ
spaced n = 32 ∷ numeral_text n

-- `pred K PROC P`
abbrev pub pred_text : ℕ → Pred → List ℕ
pred_text k p = codes "pred " ++ (decimal k ++ 32 ∷ (p.proc ++ predicate_text p.nodes))

-- `triple in Q L R REF`, `triple call Q L R REF` or `triple ret X B L R REF`
abbrev pub triple_text : Triple → List ℕ
triple_text (inside_triple from letter to proof) = codes "triple in" ++ (spaced from ++ (spaced letter ++ (spaced to ++ refutation_text proof)))
triple_text (call_triple from letter to proof) = codes "triple call" ++ (spaced from ++ (spaced letter ++ (spaced to ++ refutation_text proof)))
triple_text (back_triple exit before letter to proof) =
    codes "triple ret" ++ (spaced exit ++ (spaced before ++ (spaced letter ++ (spaced to ++ refutation_text proof))))

-- `node N PLACE ENTRY K ..`
abbrev pub node_text : ℕ → Node → List ℕ
node_text n x = codes "node " ++ (decimal n ++ (spaced x.place ++ (spaced x.entry ++ flat_map spaced x.preds)))

-- `step N L M` or `back X C L M`
abbrev pub step_text : StepLine → List ℕ
step_text (steps.Step from letter to) = codes "step" ++ (spaced from ++ (spaced letter ++ spaced to))
step_text (steps.Back exit call letter to) = codes "back" ++ (spaced exit ++ (spaced call ++ (spaced letter ++ spaced to)))

-- Which of them are in the grammar

abbrev pub is_pred : Pred → Bool
is_pred p = is_spelled p.proc && is_predicate p.nodes

abbrev pub is_triple : Triple → Bool
is_triple (inside_triple from letter to proof) = is_numeral from && (is_numeral letter && (is_numeral to && is_refutation proof))
is_triple (call_triple from letter to proof) = is_numeral from && (is_numeral letter && (is_numeral to && is_refutation proof))
is_triple (back_triple exit before letter to proof) =
    is_numeral exit && (is_numeral before && (is_numeral letter && (is_numeral to && is_refutation proof)))

-- each is below the next
abbrev pub ascend : List Numeral → Bool
ascend [] = true
ascend (k ∷ []) = true
ascend (k ∷ (l ∷ ks)) = numeral_is_below k l && ascend (l ∷ ks)

-- a numeral other than 0
abbrev pub is_named : Numeral → Bool
is_named k = is_numeral k && not (is_zero_text k.digits)

-- the predicates of a node ascend, and true is none of them
abbrev pub is_node : Node → Bool
is_node x = is_numeral x.place && (is_numeral x.entry && (list_all is_named x.preds && ascend x.preds))

abbrev pub is_step : StepLine → Bool
is_step (steps.Step from letter to) = is_numeral from && (is_numeral letter && is_numeral to)
is_step (steps.Back exit call letter to) = is_numeral exit && (is_numeral call && (is_numeral letter && is_numeral to))
