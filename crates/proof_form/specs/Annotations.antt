-- Annotations and their text.
use Rattle.std.specs.Prelude.{ℕ, suc, ◌<◌, ◌^◌, Bool, ◌&&◌, List, [], ◌∷◌, ◌++◌, map, codes}
use Rattle.std.specs.List.{AllByRecursion, list_all, flat_map}
use Rattle.std.specs.Fmt.{decimal}
use Rattle.proof_form.specs.declared.lines.PredLine.{PredLine}
use Rattle.proof_form.specs.declared.lines.TripleLine.{TripleLine}
use Rattle.proof_form.specs.declared.lines.NodeLine.{NodeLine}
use Rattle.proof_form.specs.declared.lines.StepLine.{StepLine}
use Rattle.proof_form.specs.Lines.{Pred, Triple, Node, pred, triple, node, pred_text, triple_text, node_text, step_text, is_pred, is_triple, is_node, is_step}

-- what an annotation has: predicates, triples, nodes, and steps with backs
pub record Content : Type 0 where
  pub preds : List Pred
  pub triples : List Triple
  pub nodes : List Node
  pub steps : List StepLine

-- the content of these lists
abbrev pub content : List PredLine → List TripleLine → List NodeLine → List StepLine → Content
content preds triples nodes steps = record { preds = map pred preds; triples = map triple triples; nodes = map node nodes; steps = steps }

-- each line is in the grammar
abbrev pub is_annotation : Content → Bool
is_annotation a = list_all is_pred a.preds && (list_all is_triple a.triples && (list_all is_node a.nodes && list_all is_step a.steps))

-- lines that have numbers, from this one on
abbrev pub numbered : {A : Type 0} → (ℕ → A → List ℕ) → ℕ → List A → List (List ℕ)
numbered text n [] = []
numbered text n (x ∷ xs) = text n x ∷ numbered text (suc n) xs

-- first the predicates, from number 2 on, then the triples, then the nodes, from number 0 on, then the steps
abbrev pub item_lines : Content → List (List ℕ)
item_lines a = numbered pred_text 2 a.preds ++ (map triple_text a.triples ++ (numbered node_text 0 a.nodes ++ map step_text a.steps))

-- a line with its end
abbrev pub ended : List ℕ → List ℕ
ended line = line ++ 10 ∷ []

abbrev pub rounds_line : ℕ → List ℕ
rounds_line n = codes "rounds " ++ decimal n

-- the line of a coarse letter
abbrev pub coarse_line : ℕ → List ℕ
coarse_line letter = codes "coarse " ++ decimal letter

-- `annotation 1`, or where there are coarse letters `annotation 2` and the line of each
abbrev pub form_lines : List ℕ → List (List ℕ)
form_lines [] = codes "annotation 1" ∷ []
form_lines (c ∷ cs) = codes "annotation 2" ∷ map coarse_line (c ∷ cs)

-- each number has the 32 bits of a letter's
abbrev pub AreShort : List ℕ → Type 0
AreShort letters = AllByRecursion (λ n. n < 2 ^ 32) letters

-- the one text of an annotation, with these coarse letters
abbrev pub safe_text : ℕ → List ℕ → Content → List ℕ
safe_text rounds coarse a =
    ended (codes "safe") ++ (ended (rounds_line rounds) ++ (flat_map ended (form_lines coarse) ++ (flat_map ended (item_lines a) ++ ended (codes "end"))))
