-- Before the first step of a replay.
use Rattle.std.proofs.Common.{◌≡◌, ℤ, List, [], refl, sym, ap}
use Rattle.typed_tree.specs.TypedTree.{TypedProgram}
use Rattle.boogie_run.specs.Configurations.{Config}
use Rattle.boogie_run.specs.Steps.{Went, start}
use Rattle.trace_replay.specs.ReplayCauses.{HasMade}

-- no step is made, and all choices are left
pub none_made : (t : TypedProgram) (choices left : List ℤ) (c : Config) → c ≡ start t → left ≡ choices → HasMade t choices 0 c left
none_made t choices left c begun all = record { taken = []; many = refl; used = all; leads = ap (λ (d : Config). Went d) (sym begun); fit = tt }
