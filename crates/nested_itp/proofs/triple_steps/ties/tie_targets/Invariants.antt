use Rattle.std.proofs.Common.{◌≡◌, ◌++◌, map, take}
use Rattle.nested_itp.specs.declared.triple_steps.sections.Tie.TheVariants.{Target}
use Rattle.nested_itp.specs.declared.triple_steps.sections.Section.TheVariants.{Tie}
use Rattle.nested_itp.proofs.triple_steps.ties.tie_targets.Given as goal

abbrev pub invariant-loop-i : goal.invariant-loop-i
invariant-loop-i l = l.sections.items ≡ l.initial.sections.items ++ map (λ c. Tie (Target c)) (take l.i l.columns)
