-- Which ranking a spelled one names: its columns by their names in the frame of the entry procedure, its numbers where they fit.
use Rattle.std.specs.Prelude.{ℕ, suc, ℤ, Bool, is_some, List, [], ◌∷◌, map, Option, None, Some, if◌then◌else◌}
use Rattle.std.specs.List.{AllByRecursion}
use Rattle.std.specs.Option.{option_map}
use Rattle.letter_acts.specs.Frames.{Columns}
use Rattle.letter_acts.specs.Acts.{frame_of}
use Rattle.letter_acts.specs.Invariant.{Graph, alphabet_of}
use Rattle.farkas_check.specs.Nodes.{PlainNode}
use Rattle.proof_form.specs.declared.numerals.Numeral.{Numeral}
use Rattle.proof_names.specs.Numbers.{number_in}
use Rattle.proof_names.specs.Options.{both, all_some}
use Rattle.proof_names.specs.Predicates.{term_named, terms_ascend}
use Rattle.proof_names.specs.Refutations.{refutation_of}
use Rattle.proof_names.specs.ProofSpell.Nodes.{HasNumbers}
use Rattle.rank_lasso.specs.LassoRanks.Lassos.{entry_proc}
use Rattle.rank_lasso.specs.LassoRanks.Ranks.{PlainRanking, ranked_by, excluded_by, IsRankingOver}
use Rattle.rank_lasso.specs.RankingText.{RankingForm, rank_form, excluded_form}

-- the frame of the procedure of place 0
abbrev pub entry_frame : Graph → Columns
entry_frame g = frame_of (alphabet_of g) (entry_proc g)

-- the terms, if each stands before the next in the frame
abbrev pub if_ascending : Option (List (ℕ × ℤ)) → Option (List (ℕ × ℤ))
if_ascending None = None
if_ascending (Some terms) = if terms_ascend terms then Some terms else None

-- the form over the frame that these name: their columns are in it, in its order, and their coefficients fit
abbrev pub form_named : Columns → List (Numeral × List ℕ) → Option (List (ℕ × ℤ))
form_named frame terms = if_ascending (all_some (map (term_named frame) terms))

-- a form and its bound, and the refutations of the two claims
abbrev pub rank_with : ((List (ℕ × ℤ) × ℤ) × (List PlainNode × List PlainNode)) → PlainRanking
rank_with r = ranked_by r.0.0 r.0.1 r.1.0 r.1.1

-- the ranking that is named, if all that it names is there and fits
abbrev pub ranking_named : Graph → RankingForm → Option PlainRanking
ranking_named g (rank_form terms bound falls bounded) =
    option_map rank_with (both (both (form_named (entry_frame g) terms) (number_in bound)) (both (refutation_of falls) (refutation_of bounded)))
ranking_named g (excluded_form nodes) = option_map excluded_by (refutation_of nodes)

-- ---- what can be written

-- each leaf of its refutations has a part, and multipliers and cuts fit
abbrev pub HaveNumbers : PlainRanking → Type 0
HaveNumbers (ranked_by terms bound falls bounded) = AllByRecursion HasNumbers falls × AllByRecursion HasNumbers bounded
HaveNumbers (excluded_by nodes) = AllByRecursion HasNumbers nodes

-- and its rank is one over the frame
pub record MayBeWritten (g : Graph) (r : PlainRanking) : Type 0 where
  pub over : IsRankingOver g r
  pub numbers : HaveNumbers r

-- ---- what is not there

-- of each line from the fourth on, whether all that it names is there and fits
abbrev pub lines_named : Graph → RankingForm → List Bool
lines_named g (rank_form terms bound falls bounded) =
    is_some (form_named (entry_frame g) terms) ∷ is_some (number_in bound) ∷ is_some (refutation_of falls) ∷ is_some (refutation_of bounded) ∷ []
lines_named g (excluded_form nodes) = is_some (refutation_of nodes) ∷ []

-- the first line of which it is not so; the lines have the numbers from this one on
abbrev pub first_unnamed : ℕ → List Bool → Option ℕ
first_unnamed line [] = None
first_unnamed line (named ∷ more) = if named then first_unnamed (suc line) more else Some line

-- the first line that names what is not there, or out of the frame's order, or a number that does not fit
abbrev pub bad_line : Graph → RankingForm → Option ℕ
bad_line g f = first_unnamed 4 (lines_named g f)
