-- The texts of one lasso, and of two rankings of it.
use Rattle.std.proofs.Common.{◌≡◌, true, false, [], ◌∷◌, codes, refl, arith}
use Rattle.std.proofs.lemmas.Fmt.{decimal_digit}
use Rattle.proof_form.specs.declared.numerals.Numeral.{Numeral}
use Rattle.proof_form.specs.Refutations.{leaf}
use Rattle.rank_lasso.specs.LassoRanks.Lassos.{PlainLasso}
use Rattle.rank_lasso.specs.LassoText.{lasso_text}
use Rattle.rank_lasso.specs.RankingText.{rank_form, excluded_form, ranking_text}

abbrev lasso : PlainLasso
lasso = record { stem = 0 ∷ []; loop = 1 ∷ 3 ∷ [] }

abbrev zero : Numeral
zero = record { negative = false; digits = codes "0" }

abbrev one : Numeral
one = record { negative = false; digits = codes "1" }

abbrev two : Numeral
two = record { negative = false; digits = codes "2" }

abbrev below_zero : Numeral
below_zero = record { negative = true; digits = codes "1" }

lasso_is_spelled : lasso_text lasso ≡ codes "lasso 1\nstem 0\nloop 1 3\nend\n"
lasso_is_spelled = rw (decimal_digit 0 (omega arith), decimal_digit 1 (omega arith), decimal_digit 3 (omega arith)) refl

rank_is_spelled :
    ranking_text lasso (rank_form ((one, codes "l:x") ∷ []) one (leaf ((one, one) ∷ (two, one) ∷ []) ∷ []) (leaf ((zero, one) ∷ (two, one) ∷ []) ∷ [])) ≡
    codes "ranking 1\nstem 0\nloop 1 3\nrank 1 l:x\nbound 1\nfalls (leaf 1:1 2:1)\nbounded (leaf 0:1 2:1)\nend\n"
rank_is_spelled = rw (decimal_digit 0 (omega arith), decimal_digit 1 (omega arith), decimal_digit 3 (omega arith)) refl

exclusion_is_spelled :
    ranking_text (record { stem = []; loop = 1 ∷ [] }) (excluded_form (leaf ((one, below_zero) ∷ []) ∷ [])) ≡ codes "ranking 1\nstem\nloop 1\nexcluded (leaf 1:-1)\nend\n"
exclusion_is_spelled = rw (decimal_digit 1 (omega arith)) refl
