-- Verdicts as texts.
use Rattle.std.specs.Prelude.{ℕ, List, [], ◌∷◌, ◌++◌, codes}
use Rattle.std.specs.List.{AllByRecursion, flat_map}
use Rattle.std.specs.Fmt.{decimal}
use Rattle.math_facts.specs.Fits.{Fits}
use Rattle.nwa_base.specs.declared.letters.Letter.{Letter}
use Rattle.proof_form.specs.Annotations.{safe_text}
use Rattle.trace_replay.specs.FailureText.{numbers, failure_text, plain}
use Rattle.race_core.specs.declared.ends.Cause.{Cause}
use Rattle.race_core.specs.declared.ends.Cause.TheVariants as causes
use Rattle.race_verdicts.specs.declared.verdicts.Verdict.{Verdict}
use Rattle.race_verdicts.specs.declared.verdicts.Verdict.TheVariants.{Safe, Unsafe, Unknown}

abbrev pub cause_name : Cause → List ℕ
cause_name causes.Rounds = codes "rounds"
cause_name causes.Whole = codes "whole"
cause_name causes.Number = codes "number"
cause_name causes.Product = codes "product"

-- the number of a letter behind a space
abbrev pub letter_piece : Letter → List ℕ
letter_piece a = 32 ∷ decimal a.id

-- three lines: the cause, the rounds, and the letters of the word
abbrev pub unknown_text : Cause → ℕ → List Letter → List ℕ
unknown_text cause rounds w = codes "unknown " ++ (cause_name cause ++ (codes "\nrounds " ++ (decimal rounds ++ (codes "\ntrace" ++
    (flat_map letter_piece w ++ 10 ∷ [])))))

abbrev pub verdict_text : ℕ → Verdict → List ℕ
verdict_text rounds (Safe coarse a) = safe_text rounds coarse.items a
verdict_text rounds (Unsafe f) = failure_text (plain f)
verdict_text rounds (Unknown cause w) = unknown_text cause rounds w

-- the values of a failure fit
abbrev pub ChoicesFit : Verdict → Type 0
ChoicesFit (Safe coarse a) = Unit {0}
ChoicesFit (Unsafe f) = AllByRecursion Fits (numbers f.trail.choices.items)
ChoicesFit (Unknown cause w) = Unit {0}
