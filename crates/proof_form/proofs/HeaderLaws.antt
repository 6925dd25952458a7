-- The first three lines.
use Rattle.std.proofs.Common.{◌≡◌, ◌≢◌, ℕ, List, [], ◌∷◌, ◌++◌, codes, Some, None, Err, ◌⊎◌, inl, inr, sym, ap, ◌∙◌, subst}
use Rattle.std.specs.Fmt.{decimal}
use Rattle.std.proofs.lemmas.List.{append_cancel_left, append_cancel_right}
use Rattle.std.proofs.lemmas.Option.{none-some}
use Rattle.outer_io.specs.Lines.{lines_of}
use Rattle.proof_form.specs.declared.refusal.Refusal.{Refusal}
use Rattle.proof_form.specs.declared.refusal.Refusal.TheVariants.{Form, Memory}
use Rattle.proof_form.specs.Reading.{after}
use Rattle.proof_form.specs.Annotations.{ended, rounds_line}
use Rattle.proof_form.specs.TextReading.{first_line, ReadsNumber}
use Rattle.proof_form.specs.TextOutcomes.{Lacks, LacksRounds, TakesRounds}
use Rattle.proof_form.proofs.AfterLaws.{after_spells, after_reads}
use Rattle.proof_form.proofs.StandingLaws.{first_of_lines, unended, no_end}

-- a text without a line with an end
pub no_line_lacks : (line text : List ℕ) → first_line text ≡ None → Lacks line (lines_of text)
no_line_lacks line text h = here (unended text h)
  where
    here : ((text ≡ []) × (lines_of text ≡ [])) ⊎ (lines_of text ≡ text ∷ []) → Lacks line (lines_of text)
    here (inl e) = subst (λ ls. Lacks line ls) (sym e.1) tt
    here (inr e) = subst (λ ls. Lacks line ls) (sym e) (λ same. no_end text line h same)

pub other_line_lacks : (line text l rest : List ℕ) → first_line text ≡ Some (l, rest) → l ≢ line → Lacks line (lines_of text)
other_line_lacks line text l rest h ne = subst (λ ls. Lacks line ls) (sym (first_of_lines text l rest h)) (λ same. ne (append_cancel_right l line (10 ∷ []) same))

pub line_taken : (line text l rest : List ℕ) → first_line text ≡ Some (l, rest) → l ≡ line → lines_of text ≡ ended line ∷ lines_of rest
line_taken line text l rest h e = first_of_lines text l rest h ∙ ap (λ m. ended m ∷ lines_of rest) e

-- the same of the line of the rounds
pub no_line_lacks_rounds : (text : List ℕ) → first_line text ≡ None → LacksRounds (lines_of text)
no_line_lacks_rounds text h = here (unended text h)
  where
    here : ((text ≡ []) × (lines_of text ≡ [])) ⊎ (lines_of text ≡ text ∷ []) → LacksRounds (lines_of text)
    here (inl e) = subst (λ ls. LacksRounds ls) (sym e.1) tt
    here (inr e) = subst (λ ls. LacksRounds ls) (sym e) (λ n small same. no_end text (rounds_line n) h same)

pub other_word_lacks_rounds : (text l rest : List ℕ) → first_line text ≡ Some (l, rest) → after (codes "rounds ") l ≡ None → LacksRounds (lines_of text)
other_word_lacks_rounds text l rest h none = subst (λ ls. LacksRounds ls) (sym (first_of_lines text l rest h))
    (λ n small same. none-some (decimal n) (sym none ∙ ap (after (codes "rounds ")) (append_cancel_right l (rounds_line n) (10 ∷ []) same) ∙ after_reads (codes "rounds ") (decimal n)))

-- what is read of the number is what is read of the line
pub rounds_taken : (text l rest digits : List ℕ) (n : ℕ) → first_line text ≡ Some (l, rest) → after (codes "rounds ") l ≡ Some digits → digits ≡ decimal n → lines_of text ≡ ended (rounds_line n) ∷ lines_of rest
rounds_taken text l rest digits n h word is =
    first_of_lines text l rest h ∙ ap (λ m. ended m ∷ lines_of rest) (after_spells (codes "rounds ") l digits word ∙ ap (λ d. codes "rounds " ++ d) is)

pub rounds_refused : (text l rest digits : List ℕ) (e : Refusal) → first_line text ≡ Some (l, rest) → after (codes "rounds ") l ≡ Some digits → ReadsNumber digits (Err e) → TakesRounds text (Err e)
rounds_refused text l rest digits Form h word reads = subst (λ ls. LacksRounds ls) (sym (first_of_lines text l rest h))
    (λ n small same. reads n small (append_cancel_left (codes "rounds ") digits (decimal n)
    (sym (after_spells (codes "rounds ") l digits word) ∙ append_cancel_right l (rounds_line n) (10 ∷ []) same)))
rounds_refused text l rest digits Memory h word reads = tt
