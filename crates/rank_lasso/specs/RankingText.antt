-- The text of a ranking, a line each: `ranking 1`, the lines of the stem and of the loop, and then `excluded REF`, `end`; or `rank COEF COL ..`,
-- `bound B`, `falls REF`, `bounded REF`, `end`.
use Rattle.std.specs.Prelude.{ℕ, Bool, true, ◌&&◌, IsTrue, List, [], ◌∷◌, ◌++◌, codes, is_some}
use Rattle.std.specs.List.{concat, flat_map, list_all}
use Rattle.proof_form.specs.declared.numerals.Numeral.{Numeral}
use Rattle.proof_form.specs.Names.{is_column}
use Rattle.proof_form.specs.Numerals.{is_numeral, numeral_text}
use Rattle.proof_form.specs.Predicates.{term_text}
use Rattle.proof_form.specs.Refutations.{RefutationNode, leaf, cut, cases, is_refutation, refutation_text}
use Rattle.proof_names.specs.Numbers.{short_in}
use Rattle.rank_lasso.specs.LassoRanks.Lassos.{PlainLasso}
use Rattle.rank_lasso.specs.LassoText.{way_lines}

-- a ranking as it is spelled: numerals keep their digits, columns their names
pub data RankingForm : Type 0 where
  rank_form : List (Numeral × List ℕ) → Numeral → List RefutationNode → List RefutationNode → RankingForm
  excluded_form : List RefutationNode → RankingForm

-- a word, a space and a tree
abbrev pub proof_line : List ℕ → List RefutationNode → List ℕ
proof_line word nodes = word ++ (refutation_text nodes ++ 10 ∷ [])

-- `rank`, and coefficients with the names of their columns
abbrev pub rank_line : List (Numeral × List ℕ) → List ℕ
rank_line terms = codes "rank" ++ (flat_map term_text terms ++ 10 ∷ [])

abbrev pub bound_line : Numeral → List ℕ
bound_line bound = codes "bound " ++ (numeral_text bound ++ 10 ∷ [])

-- the lines behind those of the way
abbrev pub ending_lines : RankingForm → List (List ℕ)
ending_lines (rank_form terms bound falls bounded) =
    rank_line terms ∷ bound_line bound ∷ proof_line (codes "falls") falls ∷ proof_line (codes "bounded") bounded ∷ codes "end\n" ∷ []
ending_lines (excluded_form nodes) = proof_line (codes "excluded") nodes ∷ codes "end\n" ∷ []

abbrev pub ranking_lines : PlainLasso → RankingForm → List (List ℕ)
ranking_lines l f = codes "ranking 1\n" ∷ (way_lines l ++ ending_lines f)

abbrev pub ranking_text : PlainLasso → RankingForm → List ℕ
ranking_text l f = concat (ranking_lines l f)

-- ---- what may be spelled

-- a coefficient, which may be 0, and the name of a column
abbrev pub is_rank_term : Numeral × List ℕ → Bool
is_rank_term t = is_numeral t.0 && is_column t.1

-- the rows of a leaf and the column of a cut have 32 bits
abbrev pub rows_are_short : RefutationNode → Bool
rows_are_short (leaf parts) = list_all (λ p. is_some (short_in p.0)) parts
rows_are_short (cut column k) = is_some (short_in column)
rows_are_short (cases n) = true

-- one tree of the grammar, whose rows and columns have 32 bits
pub record IsProofForm (nodes : List RefutationNode) : Type 0 where
  pub tree : IsTrue (is_refutation nodes)
  pub short : IsTrue (list_all rows_are_short nodes)

pub record IsRankForm (terms : List (Numeral × List ℕ)) (bound : Numeral) (falls bounded : List RefutationNode) : Type 0 where
  pub terms_spell : IsTrue (list_all is_rank_term terms)
  pub bound_spells : IsTrue (is_numeral bound)
  pub falls_spells : IsProofForm falls
  pub bounded_spells : IsProofForm bounded

abbrev pub IsForm : RankingForm → Type 0
IsForm (rank_form terms bound falls bounded) = IsRankForm terms bound falls bounded
IsForm (excluded_form nodes) = IsProofForm nodes
