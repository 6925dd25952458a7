use Rattle.std.proofs.Common.{◌≡◌, ◌++◌, drop}
use Rattle.typed_tree.specs.TypingRules.TypedParts.{typed_program}
use Rattle.explain_top.specs.TraceStory.Ties.PlaceSites.{sites_from, program_sites}
use Rattle.explain_top.proofs.trace_story.sites.sites_of.Given as goal

abbrev pub invariant-loop-proc : goal.invariant-loop-proc
invariant-loop-proc l = l.sites.items ++ sites_from (typed_program l.program).procs l.proc (drop l.proc (typed_program l.program).procs) ≡ program_sites (typed_program l.program)
