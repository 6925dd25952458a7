-- What is written of a ranking: the numerals of its numbers, the names of its columns, and trees that name its refutations.
use Rattle.std.specs.Prelude.{◌≡◌, ℕ, ℤ, unsigned_abs, IsTrue, List, [], ◌++◌, Option, None, Some, slice_get}
use Rattle.std.specs.List.{concat}
use Rattle.std.specs.Fmt.{decimal}
use Rattle.boogie_tree.specs.declared.tree.Column.{Column}
use Rattle.boogie_tree.specs.declared.tree.VarInfo.{VarInfo}
use Rattle.letter_acts.specs.Frames.{Columns}
use Rattle.letter_acts.specs.Invariant.{Graph}
use Rattle.farkas_check.specs.Nodes.{PlainNode}
use Rattle.proof_form.specs.declared.numerals.Numeral.{Numeral}
use Rattle.proof_form.specs.Refutations.{RefutationNode}
use Rattle.proof_names.specs.Columns.{column_text}
use Rattle.proof_names.specs.Predicates.{term_named}
use Rattle.proof_names.specs.Refutations.{refutation_of}
use Rattle.proof_names.specs.ProofSpell.Spelled.{is_negative}
use Rattle.rank_lasso.specs.LassoRanks.Ranks.{PlainRanking}
use Rattle.rank_lasso.specs.RankingText.{RankingForm, is_rank_term, IsProofForm, IsForm, proof_line, ending_lines}
use Rattle.rank_lasso.specs.Naming.{ranking_named}

-- the numeral of a number
abbrev pub integer_form : ℤ → Numeral
integer_form z = record { negative = is_negative z; digits = decimal (unsigned_abs z) }

-- the name of a column that is there
abbrev pub column_name : Option (Column × VarInfo) → List ℕ
column_name None = []
column_name (Some c) = column_text c

-- a coefficient with the name of its column
abbrev pub term_form : Columns → ℕ × ℤ → Numeral × List ℕ
term_form frame t = (integer_form t.1, column_name (slice_get frame t.0))

-- it is in the grammar, and names the term again
pub record IsSpelled (frame : Columns) (t : ℕ × ℤ) : Type 0 where
  pub valid : IsTrue (is_rank_term (term_form frame t))
  pub named : term_named frame (term_form frame t) ≡ Some t

-- a line of a tree that names this refutation was written behind what was there
pub record WritesProof (word : List ℕ) (proof : List PlainNode) (old new : List ℕ) : Type 0 where
  pub nodes : List RefutationNode
  pub is_form : IsProofForm nodes
  pub named : refutation_of nodes ≡ Some proof
  pub spelled : new ≡ old ++ proof_line word nodes

-- so were the lines of a ranking behind the loop
pub record WritesEnding (g : Graph) (r : PlainRanking) (old new : List ℕ) : Type 0 where
  pub form : RankingForm
  pub is_form : IsForm form
  pub named : ranking_named g form ≡ Some r
  pub spelled : new ≡ old ++ concat (ending_lines form)
