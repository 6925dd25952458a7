-- Reading lines without their ends.
use Rattle.std.specs.Prelude.{ℕ, Bool, List, [], ◌∷◌, ◌++◌, length, codes, Option, None, Some, if◌then◌else◌}
use Rattle.std.specs.Fmt.{decimal}
use Rattle.proof_form.specs.declared.numerals.Numeral.{Numeral}
use Rattle.proof_form.specs.declared.lines.StepLine.{StepLine}
use Rattle.proof_form.specs.declared.lines.StepLine.TheVariants as steps
use Rattle.proof_form.specs.Outcomes.{◌>>=◌, then_or}
use Rattle.proof_form.specs.Reading.{after, number_at, word_at, many, more_follow, all_read}
use Rattle.proof_form.specs.PredicateReading.{predicate_of}
use Rattle.proof_form.specs.RefutationReading.{refutation_of}
use Rattle.proof_form.specs.Lines.{Pred, Triple, inside_triple, call_triple, back_triple, Node}

-- a space and a number
unfoldable pub next_at : List ℕ → Option (Numeral × List ℕ)
next_at bs = after (codes " ") bs >>= λ rest. Some (number_at rest)

-- what was read, if it is in the grammar
abbrev pub checked : {A : Type 0} → (A → Bool) → A → Option A
checked test x = if test x then Some x else None

-- what stands before the name of a procedure, and before the place of a node
abbrev pub pred_front : ℕ → List ℕ
pred_front k = codes "pred " ++ (decimal k ++ 32 ∷ [])

abbrev pub node_front : ℕ → List ℕ
node_front n = codes "node " ++ decimal n

unfoldable pub pred_of : ℕ → List ℕ → Option Pred
pred_of k line = after (pred_front k) line >>= λ rest. predicate_of (word_at rest).1 >>= λ ns. Some (record { proc = (word_at rest).0; nodes = ns })

-- three numbers
unfoldable pub three_at : List ℕ → Option ((Numeral × Numeral × Numeral) × List ℕ)
three_at bs = next_at bs >>= λ a. next_at a.1 >>= λ b. next_at b.1 >>= λ c. Some ((a.0, b.0, c.0), c.1)

unfoldable pub inside_of : List ℕ → Option Triple
inside_of bs = three_at bs >>= λ x. refutation_of x.1 >>= λ ns. Some (inside_triple x.0.0 x.0.1 x.0.2 ns)

unfoldable pub call_of : List ℕ → Option Triple
call_of bs = three_at bs >>= λ x. refutation_of x.1 >>= λ ns. Some (call_triple x.0.0 x.0.1 x.0.2 ns)

unfoldable pub back_of : List ℕ → Option Triple
back_of bs = next_at bs >>= λ a. three_at a.1 >>= λ x. refutation_of x.1 >>= λ ns. Some (back_triple a.0 x.0.0 x.0.1 x.0.2 ns)

unfoldable pub triple_of : List ℕ → Option Triple
triple_of line = then_or (after (codes "triple in") line) inside_of (then_or (after (codes "triple call") line) call_of
    (then_or (after (codes "triple ret") line) back_of None))

-- all numbers that the bytes are
unfoldable pub numbers_of : List ℕ → Option (List Numeral)
numbers_of bs = many next_at more_follow (length bs) bs >>= all_read

unfoldable pub node_of : ℕ → List ℕ → Option Node
node_of n line = after (node_front n) line >>= λ rest. next_at rest >>= λ a. next_at a.1 >>= λ b. numbers_of b.1
    >>= λ ks. Some (record { place = a.0; entry = b.0; preds = ks })

-- nothing stands behind the last number
abbrev pub step_made : (Numeral × Numeral × Numeral) × List ℕ → Option StepLine
step_made x = if more_follow x.1 then None else Some (steps.Step x.0.0 x.0.1 x.0.2)

abbrev pub back_made : Numeral → (Numeral × Numeral × Numeral) × List ℕ → Option StepLine
back_made a x = if more_follow x.1 then None else Some (steps.Back a x.0.0 x.0.1 x.0.2)

unfoldable pub step_end_of : List ℕ → Option StepLine
step_end_of bs = three_at bs >>= step_made

unfoldable pub back_end_of : List ℕ → Option StepLine
back_end_of bs = next_at bs >>= λ a. three_at a.1 >>= back_made a.0

unfoldable pub step_of : List ℕ → Option StepLine
step_of line = then_or (after (codes "step") line) step_end_of (then_or (after (codes "back") line) back_end_of None)
