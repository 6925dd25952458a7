-- No answer has the status 5 or 6.
use Rattle.std.proofs.Common.{◌≡◌, ◌<◌, ℕ, arith}
use Rattle.race_verdicts.specs.declared.verdicts.Verdict.TheVariants as verdicts
use Rattle.text_reports.proofs.TextLaws.{below_four}
use Rattle.automizer_top.specs.declared.answer.Answer as code
use Rattle.automizer_top.specs.declared.answer.Answer.TheVariants.{Usage, OnText, Free, Ranking, NoRanking, NoNumber, Decided, PartsDecided, PartDecided}
use Rattle.automizer_top.specs.Ties.Answers.{answered}

below_five : (a : code.Answer) → (answered a).status < 5
below_five Usage = omega arith
below_five (OnText a) = let b = below_four a in omega (arith, b)
below_five (Free at) = omega arith
below_five (Ranking text) = omega arith
below_five NoRanking = omega arith
below_five NoNumber = omega arith
below_five (Decided text (verdicts.Safe coarse annotation) race) = omega arith
below_five (Decided text (verdicts.Unsafe failure) race) = omega arith
below_five (Decided text (verdicts.Unknown cause word) race) = omega arith
below_five (PartsDecided text races) = omega arith
below_five (PartDecided text (verdicts.Safe coarse annotation) races) = omega arith
below_five (PartDecided text (verdicts.Unsafe failure) races) = omega arith
below_five (PartDecided text (verdicts.Unknown cause word) races) = omega arith

pub is_not_five : (a : code.Answer) (status : ℕ) → status ≡ (answered a).status → status ≡ 5 → ⊥
is_not_five a status e f = let b = below_five a in omega (arith, b, e, f)

pub is_not_six : (a : code.Answer) (status : ℕ) → status ≡ (answered a).status → status ≡ 6 → ⊥
is_not_six a status e f = let b = below_five a in omega (arith, b, e, f)
