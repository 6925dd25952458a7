-- Which lines can stand where, and the first that cannot.
use Rattle.std.specs.Prelude.{◌≡◌, ◌≢◌, ℕ, ◌+◌, ◌^◌, ◌<◌, Bool, true, false, ◌&&◌, List, [], ◌∷◌, ◌++◌, length, codes, Option, None, Some, if◌then◌else◌, ◌⊎◌}
use Rattle.proof_form.specs.declared.lines.StepLine.{StepLine}
use Rattle.proof_form.specs.Lines.{Pred, Triple, Node, pred_text, triple_text, node_text, step_text, is_pred, is_triple, is_node, is_step}
use Rattle.proof_form.specs.Annotations.{Content, ended, rounds_line, coarse_line}

-- a line of an annotation
pub data Item : Type 0 where
  pred_item : Pred → Item
  triple_item : Triple → Item
  node_item : Node → Item
  step_item : StepLine → Item

abbrev pub is_item : Item → Bool
is_item (pred_item p) = is_pred p
is_item (triple_item t) = is_triple t
is_item (node_item x) = is_node x
is_item (step_item s) = is_step s

-- what the line says where these stand before it: predicates are numbered from 2 on, nodes from 0 on
abbrev pub item_text : Content → Item → List ℕ
item_text a (pred_item p) = pred_text (length a.preds + 2) p
item_text a (triple_item t) = triple_text t
item_text a (node_item x) = node_text (length a.nodes) x
item_text a (step_item s) = step_text s

abbrev pub none : {A : Type 0} → List A → Bool
none [] = true
none (x ∷ xs) = false

-- One item more, where it may stand behind these: predicates come before triples, triples before nodes, nodes before steps.
abbrev pub with_item : Content → Item → Option Content
with_item a (pred_item p) = if none a.triples && (none a.nodes && none a.steps) then Some (record a { preds = a.preds ++ p ∷ [] }) else None
with_item a (triple_item t) = if none a.nodes && none a.steps then Some (record a { triples = a.triples ++ t ∷ [] }) else None
with_item a (node_item x) = if none a.steps then Some (record a { nodes = a.nodes ++ x ∷ [] }) else None
with_item a (step_item s) = Some (record a { steps = a.steps ++ s ∷ [] })

-- the line can stand behind these, and with it they are those
pub record Adds (a : Content) (line : List ℕ) (b : Content) : Type 0 where
  pub item : Item
  pub is : is_item item ≡ true
  pub spelled : line ≡ ended (item_text a item)
  pub added : with_item a item ≡ Some b

abbrev pub end_line : List ℕ
end_line = ended (codes "end")

-- behind these the lines go on to the end, and with them all they are the whole
abbrev pub Completes : Content → List (List ℕ) → Content → Type 0
Completes a [] whole = ⊥
Completes a (l ∷ ls) whole = ((l ≡ end_line) × (ls ≡ []) × (a ≡ whole)) ⊎ ((b : Content) × Adds a l b × Completes b ls whole)

-- The first of the lines, of which the first has the number n, that cannot stand there, behind these. The end stands last, and
-- where the lines end before it, that is one after the last.
abbrev pub FirstWrong : ℕ → Content → List (List ℕ) → ℕ → Type 0
FirstWrong n a [] line = line ≡ n
FirstWrong n a (l ∷ ls) line =
    ((l ≡ end_line) × (ls ≢ []) × (line ≡ n + 1))
    ⊎ (((l ≢ end_line) × ((b : Content) → Adds a l b → ⊥) × (line ≡ n)) ⊎ ((b : Content) × Adds a l b × FirstWrong (n + 1) b ls line))

-- nothing stands yet
abbrev pub no_content : Content
no_content = record { preds = []; triples = []; nodes = []; steps = [] }

-- the line is that of this coarse letter, whose number has 32 bits
abbrev pub IsCoarseLine : List ℕ → ℕ → Type 0
IsCoarseLine l n = (n < 2 ^ 32) × (l ≡ ended (coarse_line n))

abbrev pub NoCoarseLine : List ℕ → Type 0
NoCoarseLine l = (n : ℕ) → IsCoarseLine l n → ⊥

-- The same behind lines of coarse letters, of which there is one at least: one more follows, or the items.
abbrev pub WrongBehindCoarse : ℕ → List (List ℕ) → ℕ → Type 0
WrongBehindCoarse n [] line = line ≡ n
WrongBehindCoarse n (l ∷ ls) line =
    (NoCoarseLine l × FirstWrong n no_content (l ∷ ls) line) ⊎ ((c : ℕ) × IsCoarseLine l c × WrongBehindCoarse (n + 1) ls line)

-- the same behind `annotation 2`, where the line of a coarse letter follows
abbrev pub WrongBehindForm : List (List ℕ) → ℕ → Type 0
WrongBehindForm [] line = line ≡ 4
WrongBehindForm (l ∷ ls) line = (NoCoarseLine l × (line ≡ 4)) ⊎ ((c : ℕ) × IsCoarseLine l c × WrongBehindCoarse 5 ls line)

-- the same behind the second line, behind the first, and of a whole text
abbrev pub WrongBehindRounds : List (List ℕ) → ℕ → Type 0
WrongBehindRounds [] line = line ≡ 3
WrongBehindRounds (l ∷ ls) line =
    ((l ≢ ended (codes "annotation 1")) × (l ≢ ended (codes "annotation 2")) × (line ≡ 3))
    ⊎ (((l ≡ ended (codes "annotation 1")) × FirstWrong 4 no_content ls line) ⊎ ((l ≡ ended (codes "annotation 2")) × WrongBehindForm ls line))

abbrev pub WrongBehindSafe : List (List ℕ) → ℕ → Type 0
WrongBehindSafe [] line = line ≡ 2
WrongBehindSafe (l ∷ ls) line =
    (((n : ℕ) → n < 2 ^ 64 → l ≢ ended (rounds_line n)) × (line ≡ 2)) ⊎ ((n : ℕ) × (n < 2 ^ 64) × (l ≡ ended (rounds_line n)) × WrongBehindRounds ls line)

abbrev pub FirstWrongOfText : List (List ℕ) → ℕ → Type 0
FirstWrongOfText [] line = line ≡ 1
FirstWrongOfText (l ∷ ls) line = ((l ≢ ended (codes "safe")) × (line ≡ 1)) ⊎ ((l ≡ ended (codes "safe")) × WrongBehindSafe ls line)
