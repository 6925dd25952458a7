-- A refutation of the rows of a word is one of the rows of its path.
use Rattle.std.proofs.Common.{◌≡◌, ℕ, List, [], ◌∷◌, sym, subst}
use Rattle.lin_rows.specs.Rows.{LinearRow}
use Rattle.farkas_check.specs.Nodes.{PlainNode}
use Rattle.farkas_check.specs.Refutes.{Refute}
use Rattle.nwa_base.specs.declared.letters.Letter.{Letter}
use Rattle.letter_acts.specs.Invariant.{Graph}
use Rattle.path_rows.specs.Paths.{path_of}
use Rattle.path_decide.specs.Decided.{goal_of_rows, IsRefutation, IsRowsRefutation}

pub rows_refuted : (g : Graph) (d : ℕ) (w : List Letter) (rows : List LinearRow) (nodes : List PlainNode) → rows ≡ (path_of g w).rows → IsRefutation g d w nodes →
    IsRowsRefutation d rows nodes
rows_refuted g d w rows nodes e h = record {
  refutes = subst (λ (x : List LinearRow). Refute nodes (goal_of_rows x ∷ [])) (sym e) h.refutes;
  tree = h.tree;
}
