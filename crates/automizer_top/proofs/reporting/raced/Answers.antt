use Rattle.typed_tree.specs.TypingRules.TypedParts.{typed_program}
use Rattle.automizer_top.proofs.VerdictLaws.{given_over, fits, reports, safe_is_infeasible}
use Rattle.automizer_top.proofs.reporting.raced.Goals as goal

pub race_from-requires-clause-given : goal.race_from-requires-clause-given
race_from-requires-clause-given g c κs within = given_over (typed_program c.args.program.now) c.args.icfg.now c.args.first c.requires.graph.value c.requires.given

pub verdict_of-requires-clause-race : goal.verdict_of-requires-clause-race
verdict_of-requires-clause-race g c = (c.args.first, c.args.limits, c.in_ok-race.ensures.race)

pub verdict_text-requires : goal.verdict_text-requires
verdict_text-requires g c = fits (typed_program c.args.program.now) c.in_ok-race.race c.in-Ok.verdict c.in-Ok.ensures

pub returns-clause-reported : goal.returns-clause-reported
returns-clause-reported g c =
    reports c.args.first c.args.limits (typed_program c.args.program.now) c.in_ok-race.race c.in-Ok.verdict c.in-Ok-verdict_text.text.items c.sized-room.result c.version.result
    c.in_ok-race.ensures.race c.in-Ok.ensures c.history-history.ensures.legal c.kept-kept.ensures.keeps c.sized-room.ensures c.version.ensures c.in-Ok-verdict_text.ensures

pub returns-clause-safe : goal.returns-clause-safe
returns-clause-safe g c =
    safe_is_infeasible (typed_program c.args.program.now) c.args.icfg.now c.in_ok-race.race c.in-Ok.verdict c.requires.graph c.nwa-graph.ensures.valid c.in-Ok.ensures
