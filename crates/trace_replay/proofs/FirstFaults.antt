-- The first line that cannot stand there.
use Rattle.std.proofs.Common.{◌≡◌, ◌≢◌, ℕ, suc, ◌+◌, ◌^◌, ◌<◌, ℤ, pos, negsuc, true, not, nat_eq, List, [], ◌∷◌, ◌++◌, map, codes, length, take, drop, refl, sym, ap, ◌∙◌, arith, append_assoc}
use Rattle.std.specs.List.{AllByRecursion, concat}
use Rattle.std.specs.Fmt.{decimal}
use Rattle.std.proofs.lemmas.List.{take-append-drop, take-append-le, take-take, drop-take, take_at, drop_at}
use Rattle.math_facts.specs.Fits.{Fits}
use Rattle.outer_io.specs.Lines.{lines_of}
use Rattle.boogie_tree.specs.Names.{is_digit}
use Rattle.trace_replay.specs.declared.reading.Head.{Head}
use Rattle.trace_replay.specs.FailureText.{PlainFailure, IsInBounds, numbered_line, assertion_line, value_line, failure_lines}
use Rattle.trace_replay.specs.FailureFaults.{IsFirstFault}
use Rattle.std.proofs.lemmas.Bool.{and_from}
use Rattle.std.proofs.lemmas.Bool.Decides.{nat_tests}
use Rattle.trace_replay.specs.Ties.Pieces.{IsHead, head_lines}
use Rattle.trace_replay.proofs.Decimals.{AreDigits, decimal_digits}
use Rattle.trace_replay.proofs.TextLines.{no_newline, no_newline-append, IsLine, line_first, first_line_is}

-- Text and failure have their first lines in common, and go on apart.
same_front : (n : ℕ) (front xs ys : List (List ℕ)) → length front ≡ n → take (n + 1) (front ++ xs) ≡ take (n + 1) ys → (take n ys ≡ front) × (take 1 xs ≡ take 1 (drop n ys))
same_front n front xs ys len e = (
  sym (take-take n (n + 1) ys (omega arith)) ∙ ap (take n) (sym e) ∙ take-take n (n + 1) (front ++ xs) (omega arith) ∙ take_at front xs n len,
  ap (take 1) (sym (drop_at front xs n len)) ∙ sym (drop-take n 1 (front ++ xs)) ∙ ap (drop n) e ∙ drop-take n 1 ys,
)

-- After lines that the text has in common with a failure no failure goes on as the text does.
pub refused : (text : List ℕ) (front : List (List ℕ)) (rest : List ℕ) (f : PlainFailure) (more : List (List ℕ))
    → lines_of text ≡ front ++ lines_of rest → IsInBounds f → failure_lines f ≡ front ++ more
    → ((g : PlainFailure) (others : List (List ℕ)) → IsInBounds g → failure_lines g ≡ front ++ others → take 1 (lines_of rest) ≡ take 1 others → ⊥)
    → IsFirstFault text (length front + 1)
refused text front rest f more lines bounds begins apart = record {
  before = λ n h. (f, bounds, ap (take n) lines ∙ take-append-le n front (lines_of rest) (omega arith) ∙ sym (take-append-le n front more (omega arith)) ∙ ap (take n) (sym begins));
  here = λ b.
      let n = length front in
      let parts = same_front n front (lines_of rest) (failure_lines b.0) refl (ap (take (n + 1)) (sym lines) ∙ b.2) in
      let whole = sym (take-append-drop n (failure_lines b.0)) ∙ ap (λ xs. xs ++ drop n (failure_lines b.0)) parts.0 in
      apart b.0 (drop n (failure_lines b.0)) b.1 whole parts.1;
}

-- The lines of a failure are whole lines.

digits_plain : (ds : List ℕ) → AreDigits ds → no_newline ds ≡ true
digits_plain [] h = refl
digits_plain (d ∷ ds) h = and_from _ _ (digit_plain d h.0) (digits_plain ds h.1)
  where
    digit_plain : (b : ℕ) → is_digit b ≡ true → not (nat_eq b 10) ≡ true
    digit_plain b h = grind (arith, nat_tests)

decimal_plain : (n : ℕ) → n < 2 ^ 128 → no_newline (decimal n) ≡ true
decimal_plain n h = digits_plain (decimal n) (decimal_digits n (omega arith))

numbered_is_line : (word : List ℕ) (n : ℕ) → no_newline word ≡ true → n < 2 ^ 128 → IsLine (numbered_line word n)
numbered_is_line word n h small = record {
  body = word ++ decimal n;
  plain = no_newline-append word (decimal n) h (decimal_plain n small);
  is = sym (append_assoc word (decimal n) (10 ∷ []));
}

assertion_is_line : (number line : ℕ) → number < 2 ^ 32 → line < 2 ^ 32 → IsLine (assertion_line number line)
assertion_is_line number line p q = record {
  body = codes "assertion " ++ (decimal number ++ (codes " line " ++ decimal line));
  plain = no_newline-append (codes "assertion ") (decimal number ++ (codes " line " ++ decimal line)) refl
      (no_newline-append (decimal number) (codes " line " ++ decimal line) (decimal_plain number (omega arith))
      (no_newline-append (codes " line ") (decimal line) refl (decimal_plain line (omega arith))));
  is = simp append_assoc;
}

value_is_line : (z : ℤ) → Fits z → IsLine (value_line z)
value_is_line (pos n) h = record { body = decimal n; plain = decimal_plain n (omega arith); is = refl }
value_is_line (negsuc n) h = record { body = 45 ∷ decimal (suc n); plain = decimal_plain (suc n) (omega arith); is = refl }

pub values_are_lines : (zs : List ℤ) → AllByRecursion Fits zs → AllByRecursion IsLine (map value_line zs)
values_are_lines [] h = tt
values_are_lines (z ∷ zs) h = (value_is_line z h.0, values_are_lines zs h.1)

unsafe_is_line : IsLine (codes "unsafe\n")
unsafe_is_line = record { body = codes "unsafe"; plain = refl; is = refl }

rounds_are_line : (n : ℕ) → n < 2 ^ 64 → IsLine (numbered_line (codes "rounds ") n)
rounds_are_line n h = numbered_is_line (codes "rounds ") n refl (omega arith)

steps_are_line : (n : ℕ) → n < 2 ^ 64 → IsLine (numbered_line (codes "steps ") n)
steps_are_line n h = numbered_is_line (codes "steps ") n refl (omega arith)

count_is_line : (n : ℕ) → n < 2 ^ 64 → IsLine (numbered_line (codes "values ") n)
count_is_line n h = numbered_is_line (codes "values ") n refl (omega arith)

pub head_lines_are_lines : (h : Head) → IsHead h → AllByRecursion IsLine (head_lines h)
head_lines_are_lines h is = (unsafe_is_line, (rounds_are_line h.rounds is.rounds, (assertion_is_line h.id.number h.id.line is.number is.line, (steps_are_line h.steps is.steps, (count_is_line h.values is.values, tt)))))

pub failure_lines_are_lines : (f : PlainFailure) → IsInBounds f → AllByRecursion IsLine (failure_lines f)
failure_lines_are_lines f h = (unsafe_is_line, (rounds_are_line f.rounds h.rounds, (assertion_is_line f.assertion f.line h.assertion h.line, (steps_are_line f.steps h.steps, (count_is_line (length f.choices) h.values, values_are_lines f.choices h.choices)))))

-- a line, and then the others
line_then : (text line rest : List ℕ) → IsLine line → text ≡ line ++ rest → lines_of text ≡ line ∷ lines_of rest
line_then text line rest h e = ap lines_of e ∙ line_first line rest h

-- a failure without choices
abbrev failure : ℕ → ℕ → ℕ → ℕ → PlainFailure
failure rounds number line steps = record { rounds = rounds; assertion = number; line = line; steps = steps; choices = [] }

failure_in_bounds : (rounds number line steps : ℕ) → rounds < 2 ^ 64 → number < 2 ^ 32 → line < 2 ^ 32 → steps < 2 ^ 64 → IsInBounds (failure rounds number line steps)
failure_in_bounds rounds number line steps a b c d = record { rounds = a; assertion = b; line = c; steps = d; values = omega arith; choices = tt }

-- The lines before the values

line_on : (l : List ℕ) (ls : List (List ℕ)) (rest whole part : List ℕ) → whole ≡ l ++ part → part ≡ concat ls ++ rest → whole ≡ concat (l ∷ ls) ++ rest
line_on l ls rest whole part e f = e ∙ ap (λ t. l ++ t) f ∙ sym (append_assoc l (concat ls) rest)

-- they were read one after another
pub head_spelled : (h : Head) (text behind_word behind_rounds behind_id behind_steps rest : List ℕ) → text ≡ codes "unsafe\n" ++ behind_word
    → (h.rounds < 2 ^ 64) × (behind_word ≡ numbered_line (codes "rounds ") h.rounds ++ behind_rounds)
    → ((h.id.number < 2 ^ 32) × (h.id.line < 2 ^ 32)) × (behind_rounds ≡ assertion_line h.id.number h.id.line ++ behind_id)
    → (h.steps < 2 ^ 64) × (behind_id ≡ numbered_line (codes "steps ") h.steps ++ behind_steps)
    → (h.values < 2 ^ 64) × (behind_steps ≡ numbered_line (codes "values ") h.values ++ rest) → IsHead h × (text ≡ concat (head_lines h) ++ rest)
head_spelled h text behind_word behind_rounds behind_id behind_steps rest first rounds id steps values =
    let counted = numbered_line (codes "values ") h.values ∷ [] in
    let run = numbered_line (codes "steps ") h.steps ∷ counted in
    let told = assertion_line h.id.number h.id.line ∷ run in (
      record { rounds = rounds.0; number = id.0.0; line = id.0.1; steps = steps.0; values = values.0 },
      line_on (codes "unsafe\n") (numbered_line (codes "rounds ") h.rounds ∷ told) rest text behind_word first
          (line_on (numbered_line (codes "rounds ") h.rounds) told rest behind_word behind_rounds rounds.1
          (line_on (assertion_line h.id.number h.id.line) run rest behind_rounds behind_id id.1
          (line_on (numbered_line (codes "steps ") h.steps) counted rest behind_id behind_steps steps.1
          (line_on (numbered_line (codes "values ") h.values) [] rest behind_steps rest values.1 refl)))),
    )

pub no_unsafe : (text : List ℕ) → ((rest : List ℕ) → text ≢ codes "unsafe\n" ++ rest) → IsFirstFault text 1
no_unsafe text none =
    refused text [] text (failure 0 0 0 0) (failure_lines (failure 0 0 0 0)) refl (failure_in_bounds 0 0 0 0 (omega arith) (omega arith) (omega arith) (omega arith)) refl
    (λ g others bounds e first. let found = first_line_is text (codes "unsafe\n") (first ∙ ap (take 1) (sym e)) in none found.0 found.1)

pub no_rounds : (text rest : List ℕ) → text ≡ codes "unsafe\n" ++ rest → ((n : ℕ) (more : List ℕ) → n < 2 ^ 64 → rest ≢ numbered_line (codes "rounds ") n ++ more) → IsFirstFault text 2
no_rounds text rest first none =
    refused text (codes "unsafe\n" ∷ []) rest (failure 0 0 0 0) (drop 1 (failure_lines (failure 0 0 0 0)))
    (line_then text (codes "unsafe\n") rest unsafe_is_line first)
    (failure_in_bounds 0 0 0 0 (omega arith) (omega arith) (omega arith) (omega arith)) refl
    (λ g others bounds e same.
    let found = first_line_is rest (numbered_line (codes "rounds ") g.rounds) (same ∙ ap (take 1) (sym (ap (drop 1) e))) in
    none g.rounds found.0 bounds.rounds found.1)

-- the first lines, one after another
two_lines : (rounds : ℕ) (text rest second : List ℕ) → rounds < 2 ^ 64 → text ≡ codes "unsafe\n" ++ rest → rest ≡ numbered_line (codes "rounds ") rounds ++ second → lines_of text ≡ codes "unsafe\n" ∷ numbered_line (codes "rounds ") rounds ∷ lines_of second
two_lines rounds text rest second small first e =
    line_then text (codes "unsafe\n") rest unsafe_is_line first
    ∙ ap (λ ls. codes "unsafe\n" ∷ ls) (line_then rest (numbered_line (codes "rounds ") rounds) second (rounds_are_line rounds small) e)

pub no_assertion : (rounds : ℕ) (text rest second : List ℕ) → text ≡ codes "unsafe\n" ++ rest → (rounds < 2 ^ 64) × (rest ≡ numbered_line (codes "rounds ") rounds ++ second) → ((number line : ℕ) (more : List ℕ) → number < 2 ^ 32 → line < 2 ^ 32 → second ≢ assertion_line number line ++ more) → IsFirstFault text 3
no_assertion rounds text rest second first read none =
    refused text (codes "unsafe\n" ∷ numbered_line (codes "rounds ") rounds ∷ []) second (failure rounds 0 0 0) (drop 2 (failure_lines (failure rounds 0 0 0)))
    (two_lines rounds text rest second read.0 first read.1)
    (failure_in_bounds rounds 0 0 0 read.0 (omega arith) (omega arith) (omega arith)) refl
    (λ g others bounds e same.
    let found = first_line_is second (assertion_line g.assertion g.line) (same ∙ ap (take 1) (sym (ap (drop 2) e))) in
    none g.assertion g.line found.0 bounds.assertion bounds.line found.1)

three_lines : (rounds number line : ℕ) (text rest second third : List ℕ) → text ≡ codes "unsafe\n" ++ rest → (rounds < 2 ^ 64) × (rest ≡ numbered_line (codes "rounds ") rounds ++ second) → ((number < 2 ^ 32) × (line < 2 ^ 32)) × (second ≡ assertion_line number line ++ third) → lines_of text ≡ codes "unsafe\n" ∷ numbered_line (codes "rounds ") rounds ∷ assertion_line number line ∷ lines_of third
three_lines rounds number line text rest second third first read next =
    two_lines rounds text rest second read.0 first read.1
    ∙ ap (λ ls. codes "unsafe\n" ∷ numbered_line (codes "rounds ") rounds ∷ ls) (line_then second (assertion_line number line) third (assertion_is_line number line next.0.0 next.0.1) next.1)

pub no_steps : (rounds number line : ℕ) (text rest second third : List ℕ) → text ≡ codes "unsafe\n" ++ rest → (rounds < 2 ^ 64) × (rest ≡ numbered_line (codes "rounds ") rounds ++ second) → ((number < 2 ^ 32) × (line < 2 ^ 32)) × (second ≡ assertion_line number line ++ third) → ((n : ℕ) (more : List ℕ) → n < 2 ^ 64 → third ≢ numbered_line (codes "steps ") n ++ more) → IsFirstFault text 4
no_steps rounds number line text rest second third first read next none =
    refused text (codes "unsafe\n" ∷ numbered_line (codes "rounds ") rounds ∷ assertion_line number line ∷ []) third
    (failure rounds number line 0) (drop 3 (failure_lines (failure rounds number line 0)))
    (three_lines rounds number line text rest second third first read next)
    (failure_in_bounds rounds number line 0 read.0 next.0.0 next.0.1 (omega arith)) refl
    (λ g others bounds e same.
    let found = first_line_is third (numbered_line (codes "steps ") g.steps) (same ∙ ap (take 1) (sym (ap (drop 3) e))) in
    none g.steps found.0 bounds.steps found.1)

pub no_count : (rounds number line steps : ℕ) (text rest second third fourth : List ℕ) → text ≡ codes "unsafe\n" ++ rest → (rounds < 2 ^ 64) × (rest ≡ numbered_line (codes "rounds ") rounds ++ second) → ((number < 2 ^ 32) × (line < 2 ^ 32)) × (second ≡ assertion_line number line ++ third) → (steps < 2 ^ 64) × (third ≡ numbered_line (codes "steps ") steps ++ fourth) → ((n : ℕ) (more : List ℕ) → n < 2 ^ 64 → fourth ≢ numbered_line (codes "values ") n ++ more) → IsFirstFault text 5
no_count rounds number line steps text rest second third fourth first read next then none =
    refused text (codes "unsafe\n" ∷ numbered_line (codes "rounds ") rounds ∷ assertion_line number line ∷ numbered_line (codes "steps ") steps ∷ []) fourth
    (failure rounds number line steps) (drop 4 (failure_lines (failure rounds number line steps)))
    (three_lines rounds number line text rest second third first read next
    ∙ ap (λ ls. codes "unsafe\n" ∷ numbered_line (codes "rounds ") rounds ∷ assertion_line number line ∷ ls) (line_then third (numbered_line (codes "steps ") steps) fourth (steps_are_line steps then.0) then.1))
    (failure_in_bounds rounds number line steps read.0 next.0.0 next.0.1 then.0) refl
    (λ g others bounds e same.
    let found = first_line_is fourth (numbered_line (codes "values ") (length g.choices)) (same ∙ ap (take 1) (sym (ap (drop 4) e))) in
    none (length g.choices) found.0 bounds.values found.1)
