use Rattle.std.proofs.Common.{◌≡◌, ◌++◌, map, take}
use Rattle.lin_rows.specs.Systems.{members_of}
use Rattle.farkas_check.proofs.walk.push_groups.Given as goal

abbrev pub invariant-loop-group : goal.invariant-loop-group
invariant-loop-group l = map (λ g. g.now) l.groups.items ≡ map (λ g. g.now) l.initial.groups.items ++ members_of (take l.group-index l.more.items)
