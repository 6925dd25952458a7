-- What is decided of a system, and of several parts together.
use Rattle.std.specs.Prelude.{ℤ, List, [], ◌∷◌, ◌++◌}
use Rattle.farkas_check.specs.Nodes.{PlainNode}

-- a refutation, as the prefix list of a tree; or a whole point, a value for each column; or neither
pub data Decision : Type 0 where
  refuted : List PlainNode → Decision
  whole : List ℤ → Decision
  gap : Decision

-- Of two parts, a whole point of the first is the answer, else one of the second; else none where one of them has none; else both are refuted.
abbrev pub beside : Decision → Decision → Decision
beside (whole x) d = whole x
beside gap (whole y) = whole y
beside gap gap = gap
beside gap (refuted ms) = gap
beside (refuted ns) (whole y) = whole y
beside (refuted ns) gap = gap
beside (refuted ns) (refuted ms) = refuted (ns ++ ms)

-- the parts in order
abbrev pub all_beside : List Decision → Decision
all_beside [] = refuted []
all_beside (d ∷ ds) = beside d (all_beside ds)

-- a refutation below a node
abbrev pub under : PlainNode → Decision → Decision
under n (refuted ns) = refuted (n ∷ ns)
under n (whole x) = whole x
under n gap = gap

-- parts after a whole point are not decided
abbrev pub UnlessWhole : Decision → Type 0 → Type 0
UnlessWhole (whole x) P = Unit {0}
UnlessWhole gap P = P
UnlessWhole (refuted ns) P = P

-- what holds of the refutation, where there is one
abbrev pub WhereRefuted : Decision → (List PlainNode → Type 0) → Type 0
WhereRefuted (refuted ns) P = P ns
WhereRefuted (whole x) P = Unit {0}
WhereRefuted gap P = Unit {0}
