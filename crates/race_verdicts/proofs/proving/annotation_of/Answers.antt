use Rattle.std.proofs.Common.{◌∙◌, ap, map}
use Rattle.typed_tree.specs.TypingRules.TypedParts.{typed_program}
use Rattle.race_verdicts.proofs.NoneLeft.{evidence, certified, covered}
use Rattle.race_verdicts.proofs.StartBodies.{starts}
use Rattle.race_verdicts.proofs.proving.annotation_of.Goals as goal

pub build-requires-clause-certified : goal.build-requires-clause-certified
build-requires-clause-certified c =
    certified c.args.icfg.now (typed_program c.args.program.now) c.requires.race.0 c.requires.race.1 c.args.race.now (map (λ c. c.now) c.deref.result.now) c.requires.lowered c.requires.race.2
    (ap (map (λ c. c.now)) c.deref.ensures.value ∙ c.in_ok-automata.ensures ∙ ap (map evidence) c.history.ensures.value)

pub build-requires-clause-covering : goal.build-requires-clause-covering
build-requires-clause-covering c =
    covered c.args.icfg.now (typed_program c.args.program.now) c.requires.race.0 c.requires.race.1 c.args.race.now c.deref.result.now c.requires.lowered c.requires.race.2 c.requires.safe
    (ap (map (λ c. c.now)) c.deref.ensures.value ∙ c.in_ok-automata.ensures ∙ ap (map evidence) c.history.ensures.value)

pub build-requires-clause-body : goal.build-requires-clause-body
build-requires-clause-body c = starts c.args.icfg.now (typed_program c.args.program.now) c.requires.lowered c.globals-globals.ensures.valid
