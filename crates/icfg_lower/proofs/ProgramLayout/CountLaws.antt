-- How many conditions, assertions and places procedures have.
use Rattle.std.proofs.Common.{◌≡◌, ◌+◌, List, [], ◌∷◌, length, refl, arith}
use Rattle.typed_tree.specs.TypedTree.{TypedSpecification, Requires, Ensures, TypedProcedure}
use Rattle.typed_tree.specs.TypingRules.Counts.{all_ensures, all_places}
use Rattle.boogie_run.specs.BoogiePoints.Actions.{ensured_conditions, assertions_before, points_before}
use Rattle.boogie_run.proofs.BoogiePoints.ConditionLaws.{free_requires_counted}

pub ensured_counted : (ss : List TypedSpecification) → length (ensured_conditions ss) ≡ all_ensures ss
ensured_counted [] = refl
ensured_counted (Requires i ∷ ss) = ensured_counted ss
ensured_counted (Ensures i ∷ ss) = omega (arith, ensured_counted ss)

pub ruleset counted = (ensured_counted, free_requires_counted)

pub places_apart : (procs ps : List TypedProcedure) → all_places procs ps ≡ points_before procs ps (length ps) + assertions_before procs ps (length ps)
places_apart procs [] = refl
places_apart procs (p ∷ ps) = omega (arith, places_apart procs ps)
