use Rattle.std.proofs.Common.{◌≢◌, List, [], ◌∷◌, refl}
use Rattle.nwa_base.specs.declared.letters.Letter.{Letter}
use Rattle.letter_acts.specs.Invariant.{Graph}
use Rattle.path_rows.specs.Paths.{path_of}
use Rattle.farkas_check.specs.Trees.{Tree, prefix_of}
use Rattle.nested_itp.specs.NestedPredicates.Interpolants.{RefutesRows, prefix_predicates, EndsFalse}
use Rattle.nested_itp.proofs.NestedPredicates.EndLaws.{ends_false}
use Rattle.nested_itp.proofs.nested_predicates.laws.last_predicate_is_false.Goals as goal

ends : (g : Graph) (w : List Letter) (t : Tree) → w ≢ [] → RefutesRows (prefix_of t) (path_of g w).rows → EndsFalse (prefix_predicates g w t)
ends g [] t n r = absurd (n refl)
ends g (a ∷ v) t n r = ends_false g a v t r

pub returns : goal.returns
returns c = ends
