use Rattle.std.proofs.Common.{[], ◌∷◌, codes, if◌then◌else◌, arith}
use Rattle.std.specs.Option.{option_map, option_to_list}
use Rattle.explain_top.proofs.TraceStory.TellingLaws.{no_item, one_item}
use Rattle.explain_top.proofs.trace_story.telling.place_line.Goals as goal

pub returns-in_default : goal.returns-in_default
returns-in_default c = λ t ds e table. no_item t ds c.args.sites.now c.args.place c.args.calls (if c.args.last then codes "fails" ∷ [] else []) e (λ z. omega (arith, c.if-place-eq0.false, z)) c.in_default.ensures

pub returns : goal.returns
returns c = λ t ds e table.
    one_item t ds c.args.sites.now c.args.place c.args.calls (if c.args.last then codes "fails" ∷ [] else []) (option_to_list (option_map (λ n. n.now) c.note_of.result)) c.in-Some.proc c.in-Some.at
    c.in_ok-line.line.items e (λ z. omega (arith, c.if-place-eq0.false, z)) c.in-Some.ensures c.note_of.ensures (c.in_ok-line.ensures ds table)
