-- The text of a failure is spelled in one way, and has no line that cannot stand there.
use Rattle.std.proofs.Common.{◌≡◌, ◌≢◌, ℕ, suc, ◌^◌, ◌<◌, ℤ, pos, negsuc, List, [], ◌∷◌, ◌++◌, map, codes, length, take, drop, get_or, inl, inr, refl, sym, ap, ◌∙◌, arith, append_assoc}
use Rattle.std.specs.List.{AllByRecursion, concat}
use Rattle.std.specs.Fmt.{decimal}
use Rattle.std.proofs.lemmas.List.{append_cancel_left, append_cancel_right, append-nil, length-map}
use Rattle.std.proofs.lemmas.Bool.{cases_order}
use Rattle.outer_io.specs.Lines.{lines_of}
use Rattle.boogie_run.specs.declared.types.Choice.{Choice}
use Rattle.trace_replay.specs.declared.failure.FailureFault.{FailureFault}
use Rattle.trace_replay.specs.declared.failure.FailureFault.TheVariants.{Syntax, Memory}
use Rattle.trace_replay.specs.declared.reading.Head.{Head}
use Rattle.math_facts.specs.Fits.{Fits}
use Rattle.trace_replay.specs.FailureText.{PlainFailure, IsInBounds, assertion_line, value_line, failure_lines, failure_text, numbers}
use Rattle.trace_replay.specs.FailureFaults.{IsFirstFault, IsFaultOf}
use Rattle.trace_replay.specs.Ties.Pieces.{IsHead, head_lines}
use Rattle.trace_replay.proofs.Decimals.{decimal_injective}
use Rattle.trace_replay.proofs.NumeralReading.{same_number}
use Rattle.trace_replay.proofs.LineReading.{no_minus}
use Rattle.trace_replay.proofs.TextLines.{lines_first}
use Rattle.trace_replay.proofs.FirstFaults.{failure_lines_are_lines}
use Rattle.trace_replay.proofs.ValueFaults.{one_number, failure_of, failure_of_in_bounds, failure_of_lines}

-- the lines of the text of a failure
pub lines_of-failure_text : (f : PlainFailure) → IsInBounds f → lines_of (failure_text f) ≡ failure_lines f
lines_of-failure_text f h =
    ap lines_of (sym (append-nil (failure_text f))) ∙ lines_first (failure_lines f) [] (failure_lines_are_lines f h) ∙ append-nil (failure_lines f)

-- a text with a line that cannot stand there is no failure's
pub no_failure_text : (text : List ℕ) (line : ℕ) → IsFirstFault text line → (f : PlainFailure) → IsInBounds f → text ≢ failure_text f
no_failure_text text line fault f h e = fault.here (f, h, ap (take line) (ap lines_of e ∙ lines_of-failure_text f h))

pub fault_is_memory : (text : List ℕ) (e : FailureFault) → IsFaultOf text e → (f : PlainFailure) → IsInBounds f → text ≡ failure_text f → e ≡ Memory
fault_is_memory text (Syntax line) fault f h same = absurd (no_failure_text text line fault f h same)
fault_is_memory text Memory fault f h same = refl

-- One spelling

one_assertion : (i j l m : ℕ) → i < 2 ^ 32 → j < 2 ^ 32 → l < 2 ^ 32 → m < 2 ^ 32 → assertion_line i l ≡ assertion_line j m → (i ≡ j) × (l ≡ m)
one_assertion i j l m p q r s e =
    let bare = append_cancel_left (codes "assertion ") (decimal i ++ (codes " line " ++ (decimal l ++ 10 ∷ []))) (decimal j ++ (codes " line " ++ (decimal m ++ 10 ∷ []))) e in
    let parts = same_number i j 32 (decimal i ++ (codes " line " ++ (decimal l ++ 10 ∷ []))) (codes "line " ++ (decimal l ++ 10 ∷ [])) (codes "line " ++ (decimal m ++ 10 ∷ []))
    (omega arith) (omega arith) refl (sym (append_assoc (decimal i) (32 ∷ []) (codes "line " ++ (decimal l ++ 10 ∷ [])))) (bare ∙ sym (append_assoc (decimal j) (32 ∷ []) (codes "line " ++ (decimal m ++ 10 ∷ [])))) in
    (parts.0, decimal_injective l m (omega arith) (omega arith) (append_cancel_right (decimal l) (decimal m) (10 ∷ []) (append_cancel_left (codes "line ") (decimal l ++ 10 ∷ []) (decimal m ++ 10 ∷ []) parts.1)))

one_natural : (m n : ℕ) → m < 2 ^ 128 → n < 2 ^ 128 → decimal m ++ 10 ∷ [] ≡ decimal n ++ 10 ∷ [] → m ≡ n
one_natural m n p q e = decimal_injective m n (omega arith) (omega arith) (append_cancel_right (decimal m) (decimal n) (10 ∷ []) e)

one_value : (y z : ℤ) → Fits y → Fits z → value_line y ≡ value_line z → y ≡ z
one_value (pos m) (pos n) p q e = ap pos (one_natural m n (omega arith) (omega arith) e)
one_value (pos m) (negsuc n) p q e = absurd (no_minus m (decimal m) [] (decimal (suc n) ++ 10 ∷ []) refl (omega arith) (append-nil (decimal m ++ 10 ∷ []) ∙ e))
one_value (negsuc m) (pos n) p q e = absurd (no_minus n (decimal n) [] (decimal (suc m) ++ 10 ∷ []) refl (omega arith) (append-nil (decimal n ++ 10 ∷ []) ∙ sym e))
one_value (negsuc m) (negsuc n) p q e = ap negsuc (omega (arith, one_natural (suc m) (suc n) (omega arith) (omega arith) (ap (drop 1) e)))

one_list : (ys zs : List ℤ) → AllByRecursion Fits ys → AllByRecursion Fits zs → map value_line ys ≡ map value_line zs → ys ≡ zs
one_list [] [] p q e = refl
one_list [] (z ∷ zs) p q e = absurd (let n : ⊥ = cc in n)
one_list (y ∷ ys) [] p q e = absurd (let n : ⊥ = cc in n)
one_list (y ∷ ys) (z ∷ zs) p q e =
    let first = one_value y z p.0 q.0 (ap (λ ls. get_or ls 0 []) e) in
    let others = one_list ys zs p.1 q.1 (ap (drop 1) e) in
    cc

pub failure_text_injective : (f g : PlainFailure) → IsInBounds f → IsInBounds g → failure_text f ≡ failure_text g → f ≡ g
failure_text_injective f g p q e =
    let lines = sym (lines_of-failure_text f p) ∙ ap lines_of e ∙ lines_of-failure_text g q in
    let rounds = one_number (codes "rounds ") f.rounds g.rounds p.rounds q.rounds (ap (λ ls. get_or ls 1 []) lines) in
    let id = one_assertion f.assertion g.assertion f.line g.line p.assertion q.assertion p.line q.line (ap (λ ls. get_or ls 2 []) lines) in
    let steps = one_number (codes "steps ") f.steps g.steps p.steps q.steps (ap (λ ls. get_or ls 3 []) lines) in
    let choices = one_list f.choices g.choices p.choices q.choices (ap (drop 5) lines) in
    λ i. record { rounds = rounds i; assertion = id.0 i; line = id.1 i; steps = steps i; choices = choices i }

-- What is read

pub concat_append : (ls ks : List (List ℕ)) → concat (ls ++ ks) ≡ concat ls ++ concat ks
concat_append [] ks = refl
concat_append (l ∷ ls) ks = ap (λ x. l ++ x) (concat_append ls ks) ∙ sym (append_assoc l (concat ls) (concat ks))

-- what the lines before the values and the values are is the failure's text
pub read_whole : (text rest : List ℕ) (h : Head) (choices : List Choice) → IsHead h × (text ≡ concat (head_lines h) ++ rest) → (length choices ≡ h.values) × AllByRecursion Fits (numbers choices) × (rest ≡ concat (map value_line (numbers choices))) → IsInBounds (failure_of h (numbers choices)) × (text ≡ failure_text (failure_of h (numbers choices)))
read_whole text rest h choices head values =
    let count : length (numbers choices) ≡ h.values = length-map choices (λ (c : Choice). c.0) ∙ values.0 in (
      failure_of_in_bounds h (numbers choices) head.0 count values.1,
      head.1 ∙ ap (λ r. concat (head_lines h) ++ r) values.2 ∙ sym (concat_append (head_lines h) (map value_line (numbers choices))) ∙ ap concat (sym (failure_of_lines h (numbers choices) count)),
    )

-- the failure of a text is what is read of it
pub same_failure : (text : List ℕ) (f : PlainFailure) → IsInBounds f × (text ≡ failure_text f) → (g : PlainFailure) → IsInBounds g → text ≡ failure_text g → f ≡ g
same_failure text f p g q e = failure_text_injective f g p.0 q (sym p.1 ∙ e)

-- one first line that cannot stand there
pub one_first_fault : (text : List ℕ) (m n : ℕ) → IsFirstFault text m → IsFirstFault text n → m ≡ n
one_first_fault text m n p q = elim (cases_order m n) [ inl e ↦ e | inr w ↦ elim w [ inl less ↦ absurd (p.here (q.before m less)) | inr more ↦ absurd (q.here (p.before n more)) ] ]
