-- Values that may be missing, taken together.
use Rattle.std.specs.Prelude.{List, [], ◌∷◌, Option, None, Some}

-- both values, if both are there
abbrev pub both : {X Y : Type 0} → Option X → Option Y → Option (X × Y)
both None o = None
both (Some x) None = None
both (Some x) (Some y) = Some (x, y)

-- a value in front of others, if all are there
abbrev pub with_first : {X : Type 0} → Option X → Option (List X) → Option (List X)
with_first None os = None
with_first (Some x) None = None
with_first (Some x) (Some xs) = Some (x ∷ xs)

-- all values, if all are there
abbrev pub all_some : {X : Type 0} → List (Option X) → Option (List X)
all_some [] = Some []
all_some (o ∷ os) = with_first o (all_some os)
