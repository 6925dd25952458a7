-- The text written so far.
use Rattle.std.proofs.Common.{◌≡◌, ℕ, ◌+◌, ◌<◌, ◌≤◌, pos, List, [], ◌∷◌, ◌++◌, map, length, take, get_or, sym, ap, ◌∙◌, arith, append_assoc}
use Rattle.std.specs.List.{concat}
use Rattle.std.proofs.lemmas.List.{length-map, map_push, take_all, take_more}
use Rattle.boogie_run.specs.declared.types.Choice.{Choice}
use Rattle.trace_replay.specs.declared.failure.Failure.{Failure}
use Rattle.trace_replay.specs.declared.reading.Head.{Head}
use Rattle.trace_replay.specs.FailureText.{value_line, failure_text, numbers, plain}
use Rattle.trace_replay.specs.Ties.Pieces.{head_lines}
use Rattle.trace_replay.proofs.FailureLaws.{concat_append}
use Rattle.trace_replay.proofs.ValueFaults.{failure_of_lines}
use Rattle.trace_replay.proofs.ValueReading.{one_more_line}

abbrev pub head_of_failure : Failure → Head
head_of_failure f = record { rounds = f.rounds; id = f.id; steps = f.trail.steps; values = length f.trail.choices.items }

abbrev pub written_to : Failure → ℕ → List ℕ
written_to f i = concat (head_lines (head_of_failure f)) ++ concat (map value_line (numbers (take i f.trail.choices.items)))

-- a value more
pub one_more_written : (f : Failure) (i : ℕ) (choices : List Choice) (text new : List ℕ) → choices ≡ f.trail.choices.items → i < length choices → text ≡ written_to f i → new ≡ text ++ value_line (get_or choices i (record { 0 = pos 0 })).0 → new ≡ written_to f (i + 1)
one_more_written f i choices text new same less before e =
    let head = concat (head_lines (head_of_failure f)) in
    let front = take i choices in
    let c = get_or choices i (record { 0 = pos 0 }) in
    let lines = map value_line (numbers front) in
    let all : map value_line (numbers (take (i + 1) choices)) ≡ lines ++ value_line c.0 ∷ [] =
    ap (λ cs. map value_line (numbers cs)) (take_more choices i (record { 0 = pos 0 }) less)
    ∙ ap (map value_line) (map_push (λ (x : Choice). x.0) front c)
    ∙ map_push value_line (numbers front) c.0 in
    e
    ∙ ap (λ t. t ++ value_line c.0) (before ∙ ap (λ cs. head ++ concat (map value_line (numbers (take i cs)))) (sym same))
    ∙ append_assoc head (concat lines) (value_line c.0)
    ∙ ap (λ t. head ++ t) (sym (one_more_line lines (value_line c.0)) ∙ ap concat (sym all))
    ∙ ap (λ cs. head ++ concat (map value_line (numbers (take (i + 1) cs)))) same

-- all values
pub whole_written : (f : Failure) (i : ℕ) (choices : List Choice) (text : List ℕ) → choices ≡ f.trail.choices.items → length choices ≤ i → text ≡ written_to f i → text ≡ failure_text (plain f)
whole_written f i choices text same done e =
    let h = head_of_failure f in
    let items = f.trail.choices.items in
    let enough : length items ≤ i = omega (arith, ap length same) in
    e
    ∙ ap (λ cs. concat (head_lines h) ++ concat (map value_line (numbers cs))) (take_all i items enough)
    ∙ sym (concat_append (head_lines h) (map value_line (numbers items)))
    ∙ ap concat (sym (failure_of_lines h (numbers items) (length-map items (λ (c : Choice). c.0))))
