-- Reading a text line by line.
use Rattle.std.specs.Prelude.{◌≡◌, ℕ, ◌+◌, ◌^◌, ◌<◌, nat_eq, List, [], ◌∷◌, length, Option, None, Some, Result, Ok, Err, if◌then◌else◌}
use Rattle.std.specs.Fmt.{decimal}
use Rattle.proof_form.specs.declared.lines.StepLine.{StepLine}
use Rattle.proof_form.specs.declared.refusal.Refusal.{Refusal}
use Rattle.proof_form.specs.declared.refusal.Refusal.TheVariants.{Form, Memory}
use Rattle.proof_form.specs.declared.fault.ProofFault.{ProofFault}
use Rattle.proof_form.specs.declared.fault.ProofFault.TheVariants as faults
use Rattle.proof_form.specs.declared.drafts.Draft.{Draft}
use Rattle.proof_form.specs.Outcomes.{◌>>=◌}
use Rattle.proof_form.specs.Lines.{Pred, Triple, Node, is_pred, is_triple, is_node, is_step}
use Rattle.proof_form.specs.LineReading.{checked, pred_of, triple_of, node_of, step_of}
use Rattle.proof_form.specs.Annotations.{Content, content}
use Rattle.proof_form.specs.Standing.{pred_item, triple_item, node_item, step_item, with_item, Completes, FirstWrong}

-- the first line without its end, and what follows
abbrev pub first_line : List ℕ → Option (List ℕ × List ℕ)
first_line [] = None
first_line (b ∷ bs) = if nat_eq b 10 then Some ([], bs) else (first_line bs >>= λ x. Some (b ∷ x.0, x.1))

abbrev pub content_of : Draft → Content
content_of d = content d.preds.items d.triples.items d.nodes.items d.steps.items

-- the lines that are in the grammar
unfoldable pub checked_pred_of : ℕ → List ℕ → Option Pred
checked_pred_of k line = pred_of k line >>= checked is_pred

unfoldable pub checked_triple_of : List ℕ → Option Triple
checked_triple_of line = triple_of line >>= checked is_triple

unfoldable pub checked_node_of : ℕ → List ℕ → Option Node
checked_node_of n line = node_of n line >>= checked is_node

unfoldable pub checked_step_of : List ℕ → Option StepLine
checked_step_of line = step_of line >>= checked is_step

-- what stands with the line, where it can stand behind these; the first letter says which line it is
unfoldable pub with_pred : Content → List ℕ → Option Content
with_pred a line = checked_pred_of (length a.preds + 2) line >>= λ p. with_item a (pred_item p)

unfoldable pub with_triple : Content → List ℕ → Option Content
with_triple a line = checked_triple_of line >>= λ t. with_item a (triple_item t)

unfoldable pub with_node : Content → List ℕ → Option Content
with_node a line = checked_node_of (length a.nodes) line >>= λ x. with_item a (node_item x)

unfoldable pub with_step : Content → List ℕ → Option Content
with_step a line = checked_step_of line >>= λ s. with_item a (step_item s)

abbrev pub with_line_by : Content → ℕ → List ℕ → Option Content
with_line_by a b line =
    if nat_eq b 112 then with_pred a line
    else (if nat_eq b 116 then with_triple a line else (if nat_eq b 110 then with_node a line else with_step a line))

unfoldable pub with_line : Content → List ℕ → Option Content
with_line a [] = None
with_line a (b ∷ bs) = with_line_by a b (b ∷ bs)

-- what a number's bytes are read as
abbrev pub ReadsNumber : List ℕ → Result ℕ Refusal → Type 0
ReadsNumber bytes (Ok n) = bytes ≡ decimal n
ReadsNumber bytes (Err Form) = (n : ℕ) → n < 2 ^ 64 → bytes ≡ decimal n → ⊥
ReadsNumber bytes (Err Memory) = Unit {0}

-- what is read of the lines behind these
abbrev pub ReadsFrom : ℕ → Content → List (List ℕ) → Result Draft ProofFault → Type 0
ReadsFrom n a lines (Ok d) = Completes a lines (content_of d)
ReadsFrom n a lines (Err (faults.Syntax line)) = FirstWrong n a lines line
ReadsFrom n a lines (Err faults.Memory) = Unit {0}
