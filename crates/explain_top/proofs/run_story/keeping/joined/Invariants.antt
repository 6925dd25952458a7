use Rattle.std.proofs.Common.{◌≡◌, ◌++◌, map, drop}
use Rattle.std.specs.List.{concat}
use Rattle.explain_top.proofs.run_story.keeping.joined.Given as goal

abbrev pub invariant-loop-i : goal.invariant-loop-i
invariant-loop-i l = l.out.items ++ concat (map (λ t. t.items) (drop l.i l.texts.items)) ≡ l.fn.out.items ++ concat (map (λ t. t.items) l.texts.items)
