use Rattle.std.proofs.Common.{sym, ◌∙◌}
use Rattle.explain_top.proofs.RunStory.TableLemmas.{name_new}
use Rattle.explain_top.proofs.run_story.tables.add_named.Goals as goal

pub returns : goal.returns
returns c =
    name_new c.args.found.now c.insert.new.self c.args.procedure c.bytes-name.result.now c.bytes-name.ensures
    (sym c.contains_key.ensures ∙ c.if-contains_key.false)
    (λ name. c.in_ok-insert.ensures.updates.0 (record c.bytes-name.result { now = name }))
