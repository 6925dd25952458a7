-- Values kept in groups, one for each key.
use Rattle.std.specs.Prelude.{List, [], Option, None, Some}
use Rattle.std.specs.Global.{Vec}

-- the values of a group, none where there is no group
abbrev pub grouped : {V : Type 0} → Option (Vec V) → List V
grouped None = []
grouped (Some group) = group.items
