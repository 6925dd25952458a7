use Rattle.std.proofs.Common.{◌≡◌, ◌++◌, drop}
use Rattle.std.specs.Option.{option_map}
use Rattle.explain_top.specs.TraceStory.TraceStory.{letters_of}
use Rattle.explain_top.proofs.trace_story.telling.letters_of.Given as goal

abbrev pub invariant-loop-number : goal.invariant-loop-number
invariant-loop-number l = option_map (λ w. l.letters.items ++ w) (letters_of l.icfg (drop l.number-index l.numbers)) ≡ letters_of l.icfg l.numbers
