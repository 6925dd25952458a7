-- No text of a verdict has `c` as its second letter.
use Rattle.std.proofs.Common.{◌≡◌, ℕ, get_or, arith}
use Rattle.race_verdicts.specs.declared.verdicts.Verdict.{Verdict}
use Rattle.race_verdicts.specs.declared.verdicts.Verdict.TheVariants.{Safe, Unsafe, Unknown}
use Rattle.race_verdicts.specs.Texts.{verdict_text}

pub verdict_begins : (rounds : ℕ) (v : Verdict) → get_or (verdict_text rounds v) 1 0 ≡ 99 → ⊥
verdict_begins rounds (Safe coarse a) b = omega arith
verdict_begins rounds (Unsafe f) b = omega arith
verdict_begins rounds (Unknown cause w) b = omega arith
