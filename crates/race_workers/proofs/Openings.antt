-- The first passes of a race.
use Rattle.std.proofs.Common.{ℕ, List, [], ◌∷◌}
use Rattle.std.specs.List.{AllByRecursion}
use Rattle.typed_tree.specs.TypedTree.{TypedProgram}
use Rattle.itp_automaton.specs.Certified.{Certificate}
use Rattle.race_rounds.specs.declared.limits.Limits.{Limits}
use Rattle.version_cell.specs.Passes.{Cell, Known}
use Rattle.race_workers.specs.Ties.Parts.{IsPassAt, IsFresh}
use Rattle.race_workers.proofs.Parts.{fresh}

pub all_fresh : (c : Cell) (t : TypedProgram) (limits : Limits) (n : ℕ) (l : List (Known Certificate)) → AllByRecursion (IsFresh c n) l →
    AllByRecursion (IsPassAt c t limits n) l
all_fresh c t limits n [] h = tt
all_fresh c t limits n (p ∷ l) h = (fresh c t limits n p h.0, all_fresh c t limits n l h.1)
