-- The first line that cannot stand there, among the values or behind them.
use Rattle.std.proofs.Common.{◌≡◌, ℕ, zero, suc, ◌+◌, ◌-◌, ◌^◌, ◌<◌, ◌≤◌, ℤ, pos, List, [], ◌∷◌, ◌++◌, map, codes, length, take, drop, get_or, replicate, inl, inr, Err, refl, sym, ap, ◌∙◌, subst, arith, append_assoc, length-append}
use Rattle.std.specs.List.{AllByRecursion, concat}
use Rattle.std.specs.Fmt.{decimal}
use Rattle.std.proofs.lemmas.List.{append_cancel_left, append_cancel_right, map-append, length-map, length-replicate}
use Rattle.math_facts.specs.Fits.{Fits}
use Rattle.outer_io.specs.Lines.{lines_of}
use Rattle.trace_replay.specs.declared.failure.FailureFault.{FailureFault}
use Rattle.trace_replay.specs.declared.failure.FailureFault.TheVariants.{Syntax, Memory}
use Rattle.trace_replay.specs.declared.reading.Head.{Head}
use Rattle.trace_replay.specs.FailureText.{PlainFailure, IsInBounds, numbered_line, value_line, failure_lines}
use Rattle.trace_replay.specs.FailureFaults.{IsFirstFault, IsFaultOf}
use Rattle.trace_replay.specs.Ties.Pieces.{IsHead, head_lines, ValuesEnd, ReadsValues}
use Rattle.trace_replay.proofs.Decimals.{decimal_injective}
use Rattle.trace_replay.proofs.TextLines.{lines_first, first_line_is, no_line_is}
use Rattle.trace_replay.proofs.FirstFaults.{refused, values_are_lines, head_lines_are_lines}

-- a word is in front of one number
pub one_number : (word : List ℕ) (m n : ℕ) → m < 2 ^ 64 → n < 2 ^ 64 → numbered_line word m ≡ numbered_line word n → m ≡ n
one_number word m n p q e =
    decimal_injective m n (omega arith) (omega arith)
    (append_cancel_right (decimal m) (decimal n) (10 ∷ []) (append_cancel_left word (decimal m ++ 10 ∷ []) (decimal n ++ 10 ∷ []) e))

-- the failure of these lines and choices
abbrev pub failure_of : Head → List ℤ → PlainFailure
failure_of h choices = record { rounds = h.rounds; assertion = h.id.number; line = h.id.line; steps = h.steps; choices = choices }

pub failure_of_in_bounds : (h : Head) (choices : List ℤ) → IsHead h → length choices ≡ h.values → AllByRecursion Fits choices → IsInBounds (failure_of h choices)
failure_of_in_bounds h choices is count fit = record {
  rounds = is.rounds;
  assertion = is.number;
  line = is.line;
  steps = is.steps;
  values = omega (arith, is.values, count);
  choices = fit;
}

-- its lines
pub failure_of_lines : (h : Head) (choices : List ℤ) → length choices ≡ h.values → failure_lines (failure_of h choices) ≡ head_lines h ++ map value_line choices
failure_of_lines h choices count = ap (λ n. head_lines (record h { values = n }) ++ map value_line choices) count

all_fit : (zs ys : List ℤ) → AllByRecursion Fits zs → AllByRecursion Fits ys → AllByRecursion Fits (zs ++ ys)
all_fit [] ys h k = k
all_fit (z ∷ zs) ys h k = (h.0, all_fit zs ys h.1 k)

zeros_fit : (n : ℕ) → AllByRecursion Fits (replicate n (pos 0))
zeros_fit zero = tt
zeros_fit (suc n) = (omega arith, zeros_fit n)

-- A failure with enough choices begins as the text does.
module _ (h : Head) (is : IsHead h) (read : List ℤ) (fit : AllByRecursion Fits read) (enough : length read ≤ h.values) where
  filled : List ℤ
  filled = read ++ replicate (h.values - length read) (pos 0)

  filled_count : length filled ≡ h.values
  unfolding filled
  filled_count = omega (arith, length-append read (replicate (h.values - length read) (pos 0)), length-replicate (h.values - length read) (pos 0))

  filled_in_bounds : IsInBounds (failure_of h filled)
  unfolding filled
  filled_in_bounds = failure_of_in_bounds h filled is filled_count (all_fit read (replicate (h.values - length read) (pos 0)) fit (zeros_fit (h.values - length read)))

  filled_lines : failure_lines (failure_of h filled) ≡ (head_lines h ++ map value_line read) ++ map value_line (replicate (h.values - length read) (pos 0))
  unfolding filled
  filled_lines =
      failure_of_lines h filled filled_count
      ∙ ap (λ xs. head_lines h ++ xs) (map-append value_line read (replicate (h.values - length read) (pos 0)))
      ∙ sym (append_assoc (head_lines h) (map value_line read) (map value_line (replicate (h.values - length read) (pos 0))))

-- Behind fewer values than there are stands a value.
next_value : (zs : List ℤ) (front more : List (List ℕ)) → map value_line zs ≡ front ++ more → length front < length zs → AllByRecursion Fits zs → (z : ℤ) × (others : List (List ℕ)) × Fits z × (more ≡ value_line z ∷ others)
next_value [] front more e less fit = absurd (omega arith)
next_value (z ∷ zs) [] more e less fit = (z, map value_line zs, fit.0, sym e)
next_value (z ∷ zs) (l ∷ front) more e less fit = next_value zs front more (ap (drop 1) e) (omega arith) fit.1

none_behind : (front more : List (List ℕ)) → length (front ++ more) ≡ length front → more ≡ []
none_behind front [] e = refl
none_behind front (l ∷ more) e = absurd (omega (arith, length-append front (l ∷ more)))

-- No failure goes on as the text does.
module _ (text rest : List ℕ) (h : Head) (line : ℕ) (is : IsHead h) (v : ValuesEnd h.values rest line) (g : PlainFailure) (others : List (List ℕ))
    (bounds : IsInBounds g) (e : failure_lines g ≡ (head_lines h ++ map value_line v.read) ++ others) (same : take 1 (lines_of v.rest) ≡ take 1 others) where
  as_many : length g.choices ≡ h.values
  as_many = one_number (codes "values ") (length g.choices) h.values bounds.values is.values (ap (λ ls. get_or ls 4 []) e)

  their_values : map value_line g.choices ≡ map value_line v.read ++ others
  their_values = ap (drop 5) e

  apart : ⊥
  apart = elim v.end [
    | inl w ↦
        let next = next_value g.choices (map value_line v.read) others their_values (omega (arith, length-map v.read value_line, as_many, w.0)) bounds.choices in
        let found = first_line_is v.rest (value_line next.0) (same ∙ ap (take 1) next.3) in
        w.1 next.0 found.0 next.2 found.1
    | inr w ↦
        let none = none_behind (map value_line v.read) others (ap length (sym their_values) ∙ length-map g.choices value_line ∙ as_many ∙ sym w.0 ∙ sym (length-map v.read value_line)) in
        w.1 (no_line_is v.rest (same ∙ ap (take 1) none))
  ]

enough_room : (h : Head) (rest : List ℕ) (line : ℕ) (v : ValuesEnd h.values rest line) → length v.read ≤ h.values
enough_room h rest line v = elim v.end [ inl w ↦ omega (arith, w.0) | inr w ↦ omega (arith, w.0) ]

-- where the values end is the first line that cannot stand there
pub values_end : (text rest : List ℕ) (h : Head) (line : ℕ) → IsHead h → text ≡ concat (head_lines h) ++ rest → ValuesEnd h.values rest line → IsFirstFault text line
values_end text rest h line is spelled v =
    let enough = enough_room h rest line v in
    let read_lines = map value_line v.read in
    let lines : lines_of text ≡ (head_lines h ++ read_lines) ++ lines_of v.rest =
    ap lines_of spelled
    ∙ lines_first (head_lines h) rest (head_lines_are_lines h is)
    ∙ ap (λ ls. head_lines h ++ ls) (ap lines_of v.spelled ∙ lines_first read_lines v.rest (values_are_lines v.read v.fit))
    ∙ sym (append_assoc (head_lines h) read_lines (lines_of v.rest)) in
    let at : length (head_lines h ++ read_lines) + 1 ≡ line = omega (arith, length-append (head_lines h) read_lines, length-map v.read value_line, v.line_is) in
    subst (IsFirstFault text) at
    (refused text (head_lines h ++ read_lines) v.rest (failure_of h (filled h is v.read v.fit enough)) (map value_line (replicate (h.values - length v.read) (pos 0)))
    lines (filled_in_bounds h is v.read v.fit enough) (filled_lines h is v.read v.fit enough)
    (λ g others bounds e same. apart text rest h line is v g others bounds e same))

-- the fault of the values is that of the text
pub fault_behind_head : (text rest : List ℕ) (h : Head) (e : FailureFault) → IsHead h × (text ≡ concat (head_lines h) ++ rest) → ReadsValues h.values rest (Err e) → IsFaultOf text e
fault_behind_head text rest h (Syntax line) head end = values_end text rest h line head.0 head.1 end
fault_behind_head text rest h Memory head end = tt
