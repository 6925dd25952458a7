-- Specifications with their names replaced, by what requires and ensures see.
use Rattle.std.specs.Prelude.{List, [], ◌∷◌, Option, Some, Contains}
use Rattle.boogie_tree.specs.Tree as tree
use Rattle.boogie_tree.specs.Tree.{Invariant, Specification}
use Rattle.typed_tree.specs.declared.fault.TypeFault.{TypeFault}
use Rattle.typed_tree.specs.Scope.{Scope}
use Rattle.typed_tree.specs.TypedTree as typed
use Rattle.typed_tree.specs.TypedTree.{TypedSpecification}
use Rattle.boogie_types.specs.Naming.{from_both, named_invariant}
use Rattle.boogie_types.specs.BrokenNames.{IsUnknownIn}
use Rattle.boogie_types.specs.Ties.NamingFaults.{OrMemory}

-- those that are no modifies lists; requires see the first scope, ensures the second
abbrev pub specifications_in : Scope → Scope → List Specification → Option (List TypedSpecification)
specifications_in before after [] = Some []
specifications_in before after (tree.Requires i ∷ ss) =
    from_both (λ t ts. typed.Requires t ∷ ts) (named_invariant before i) (specifications_in before after ss)
specifications_in before after (tree.Ensures i ∷ ss) =
    from_both (λ t ts. typed.Ensures t ∷ ts) (named_invariant after i) (specifications_in before after ss)
specifications_in before after (tree.Modifies xs ∷ ss) = specifications_in before after ss

-- a name of their conditions that means nothing there
pub data AreSpecificationsUnknown (before after : Scope) (ss : List Specification) : TypeFault → Type 0 where
  in_requires : (i : Invariant) (f : TypeFault) → Contains ss (tree.Requires i) → IsUnknownIn before i.cond f → AreSpecificationsUnknown before after ss f
  in_ensures : (i : Invariant) (f : TypeFault) → Contains ss (tree.Ensures i) → IsUnknownIn after i.cond f → AreSpecificationsUnknown before after ss f

abbrev pub AreSpecificationsFault : Scope → Scope → List Specification → TypeFault → Type 0
AreSpecificationsFault before after ss f = OrMemory f (AreSpecificationsUnknown before after ss f)
