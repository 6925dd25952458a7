use Rattle.std.proofs.Common.{None}
use Rattle.typed_tree.specs.TypingRules.TypedParts.{typed_program}
use Rattle.automizer_top.proofs.BigLaws.{summary_reported, verdict_is_proved}
use Rattle.automizer_top.proofs.generated.decided.Goals as goal

pub verdict_of-requires-clause-race : goal.verdict_of-requires-clause-race
verdict_of-requires-clause-race g c = (None, c.args.limits, c.in_ok-race.ensures.race)

pub confirmed_summary-requires-clause-verdict : goal.confirmed_summary-requires-clause-verdict
confirmed_summary-requires-clause-verdict g c = verdict_is_proved (typed_program c.args.program.now) c.args.icfg.now c.in_ok-race.race c.in-Ok.verdict c.requires.graph c.in-Ok.ensures

pub returns-clause-reported : goal.returns-clause-reported
returns-clause-reported g c =
    summary_reported c.args.limits c.args.count (typed_program c.args.program.now) c.in_ok-race.race c.in-Ok.verdict c.in-Ok-confirmed_summary.text.items c.sized-room.result
    c.requires.program c.requires.graph.fits c.in_ok-race.ensures.race c.in-Ok.ensures c.history-history.ensures.legal c.kept-kept.ensures.keeps c.sized-room.ensures c.in-Ok-confirmed_summary.ensures.text
