-- A refutation of the rows of a word leaves no whole point.
use Rattle.std.proofs.Common.{ℕ, ℤ, List, [], ◌∷◌, map, refl}
use Rattle.std.specs.List.{AllByRecursion}
use Rattle.lin_rows.specs.Rows.{LinearRow, Holds}
use Rattle.lin_rows.specs.Tightening.{content, tightened}
use Rattle.lin_rows.proofs.TighteningLaw.{holds_tightened_by}
use Rattle.farkas_check.specs.Nodes.{PlainNode}
use Rattle.farkas_check.proofs.Sound.{MeetsGoal, none_met}
use Rattle.nwa_base.specs.declared.letters.Letter.{Letter}
use Rattle.letter_acts.specs.Invariant.{Graph}
use Rattle.path_rows.specs.Paths.{path_of}
use Rattle.path_decide.specs.Decided.{path_goal, RefutesPath}

tightened_hold : (point : ℕ → ℤ) (rows : List LinearRow) → AllByRecursion (Holds point) rows → AllByRecursion (Holds point) (map tightened rows)
tightened_hold point [] h = tt
tightened_hold point (r ∷ rs) h = ((holds_tightened_by point r (content r.terms) refl).0 h.0, tightened_hold point rs h.1)

pub no_point : (g : Graph) (w : List Letter) (nodes : List PlainNode) (point : ℕ → ℤ) → RefutesPath g w nodes →
    AllByRecursion (Holds point) (path_of g w).rows → ⊥
no_point g w nodes point r h =
    (none_met point nodes (path_goal g w ∷ []) r).0 (record { rows = tightened_hold point (path_of g w).rows h; groups = tt })
