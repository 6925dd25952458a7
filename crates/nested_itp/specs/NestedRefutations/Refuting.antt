-- What it means that the refutation of a triple refutes.
use Rattle.std.specs.Prelude.{Bool, List, [], IfSome}
use Rattle.std.specs.List.{AllByRecursion}
use Rattle.lin_rows.specs.Combinations.{Contradicts}
use Rattle.farkas_check.specs.Trees.{Tree}
use Rattle.nwa_base.specs.declared.letters.Letter.{Letter}
use Rattle.letter_acts.specs.Invariant.{Graph, alphabet_of}
use Rattle.triple_rows.specs.Systems.{PlainFits}
use Rattle.triple_rows.specs.Triples.{system_of}
use Rattle.nested_itp.specs.NestedPredicates.Sums.{root_of}
use Rattle.nested_itp.specs.NestedRefutations.Refutations.{stops, leaf_from}
use Rattle.nested_itp.specs.NestedRefutations.Numbers.{Step, LeafNumbersFit, IsFalse, begins}

-- Where the numbers of the triple's system fit and none of its claims is false: to whichever leaf sides lead, its parts contradict
-- the rows that hold there, if their numbers fit.
abbrev pub StepRefutes : Graph → List Letter → Tree → Step → Type 0
StepRefutes g w t s =
    PlainFits (system_of (alphabet_of g) s.triple) → AllByRecursion (λ c. IsFalse g w t s.view c → ⊥) s.view.claims → (sides : List Bool) →
    IfSome (leaf_from s.view sides (begins g w t s) (stops s.view [] 0 (root_of g w) t)) (λ l. LeafNumbersFit l → Contradicts l.rows l.parts)
