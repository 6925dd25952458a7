use Rattle.std.proofs.Common.{◌≡◌, ◌++◌, map, take}
use Rattle.nested_itp.specs.declared.triple_steps.sections.Tie.TheVariants.{Opposite}
use Rattle.nested_itp.specs.declared.triple_steps.sections.Section.TheVariants.{Tie}
use Rattle.nested_itp.proofs.triple_steps.ties.tie_entries.Given as goal

abbrev pub invariant-loop-i : goal.invariant-loop-i
invariant-loop-i l = l.sections.items ≡ l.initial.sections.items ++ map (λ o. Tie (Opposite o.1)) (take l.i l.olds)
