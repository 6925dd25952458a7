-- Rankings as they are spelled, of the program.
use Rattle.std.specs.Prelude.{◌≡◌, Some, map}
use Rattle.letter_acts.specs.Invariant.{Graph}
use Rattle.proof_form.specs.Refutations.{plain_refutation_node}
use Rattle.rank_lasso.specs.declared.lasso_ranks.lassos.LassoFault.{LassoFault}
use Rattle.rank_lasso.specs.declared.lasso_ranks.lassos.LassoFault.TheVariants.{Syntax, BadName, BadStep, Memory}
use Rattle.rank_lasso.specs.declared.forms.Form.{Form}
use Rattle.rank_lasso.specs.declared.forms.Form.TheVariants.{Rank, Excluded}
use Rattle.rank_lasso.specs.RankingText.{RankingForm, rank_form, excluded_form}
use Rattle.rank_lasso.specs.Naming.{bad_line}

-- as plain data
abbrev pub plain_form : Form → RankingForm
plain_form (Rank terms bound falls bounded) = rank_form terms.items bound (map plain_refutation_node falls.items) (map plain_refutation_node bounded.items)
plain_form (Excluded nodes) = excluded_form (map plain_refutation_node nodes.items)

-- why it names no ranking over the graph
abbrev pub IsNameFault : Graph → RankingForm → LassoFault → Type 0
IsNameFault g f (Syntax line) = ⊥
IsNameFault g f (BadName line) = bad_line g f ≡ Some line
IsNameFault g f (BadStep line) = ⊥
IsNameFault g f Memory = Unit {0}
