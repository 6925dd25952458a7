-- What is written of the generated program.
use Rattle.std.specs.Prelude.{ℕ, ◌+◌, ◌*◌, List, ◌++◌, codes}
use Rattle.std.specs.Fmt.{decimal}
use Rattle.race_verdicts.specs.declared.verdicts.Verdict.{Verdict}
use Rattle.race_verdicts.specs.declared.verdicts.Verdict.TheVariants.{Safe, Unsafe, Unknown}
use Rattle.race_verdicts.specs.Texts.{cause_name}

-- the word of a verdict, with the cause where nothing is known
abbrev pub verdict_word : Verdict → List ℕ
verdict_word (Safe coarse annotation) = codes "safe"
verdict_word (Unsafe failure) = codes "unsafe"
verdict_word (Unknown cause word) = codes "unknown " ++ cause_name cause

-- how many procedures the chain has, and the word of the verdict
abbrev pub head_lines : ℕ → List ℕ → List ℕ
head_lines count word = codes "big " ++ (decimal count ++ (codes "\n" ++ (word ++ codes "\n")))

-- how many there are of something
abbrev pub count_line : List ℕ → ℕ → List ℕ
count_line what count = what ++ (decimal count ++ codes "\n")

-- six lines: how many procedures the chain has, the verdict, how many procedures the program has, how many places and letters its graph has,
-- and how many assertions the program has
abbrev pub summary_lines : ℕ → List ℕ → ℕ → ℕ → ℕ → List ℕ
summary_lines count word procedures places letters =
    head_lines count word ++ (count_line (codes "procedures ") procedures ++ (count_line (codes "places ") places
    ++ (count_line (codes "letters ") letters ++ count_line (codes "assertions ") count)))

abbrev pub summary_text : ℕ → Verdict → List ℕ
summary_text count v = summary_lines count (verdict_word v) (count + 1) (5 * count + 3) (5 * count + 2)
