use Rattle.std.proofs.Common.{◌≡◌, ◌∙◌, codes, true, false, refl, ap₂}
use Rattle.std.proofs.lemmas.Result.{IfOk-weaker}
use Rattle.clap.specs.Simple.{App, with_rule}
use Rattle.text_reports.specs.CommandWords.Rules.{positional, option, flag, optional, bare_command}
use Rattle.automizer_top.specs.CommandLine.{command}
use Rattle.automizer_top.proofs.words.command.Goals as goal

-- the command with its arguments added one by one
abbrev with_arguments : App
with_arguments = with_rule (with_rule (with_rule (with_rule (with_rule (with_rule (with_rule (with_rule (with_rule (bare_command (codes "automizer"))
    (positional (codes "mode") true)) (positional (codes "program") true)) (positional (codes "second") false))
    (option (codes "entry") (codes "main"))) (option (codes "rounds") (codes "1000"))) (option (codes "workers") (codes "4")))
    (option (codes "depth") (codes "16"))) (flag (codes "modular"))) (optional (codes "reuse"))

whole : with_arguments ≡ command
unfolding command
whole = refl

pub returns : goal.returns
returns c =
    let one = c.in_ok-arg.ensures.shape c.positional.ensures.local ∙ ap₂ with_rule c.bare_command.ensures c.positional.ensures.rule in
    let two = c.in_ok-arg-2.ensures.shape c.positional-2.ensures.local ∙ ap₂ with_rule one c.positional-2.ensures.rule in
    let three = c.in_ok-arg-3.ensures.shape c.positional-3.ensures.local ∙ ap₂ with_rule two c.positional-3.ensures.rule in
    let four = c.in_ok-arg-4.ensures.shape c.option.ensures.local ∙ ap₂ with_rule three c.option.ensures.rule in
    let five = c.in_ok-arg-5.ensures.shape c.option-2.ensures.local ∙ ap₂ with_rule four c.option-2.ensures.rule in
    let six = c.in_ok-arg-6.ensures.shape c.option-3.ensures.local ∙ ap₂ with_rule five c.option-3.ensures.rule in
    let seven = c.in_ok-arg-7.ensures.shape c.option-4.ensures.local ∙ ap₂ with_rule six c.option-4.ensures.rule in
    let eight = c.in_ok-arg-8.ensures.shape c.flag.ensures.local ∙ ap₂ with_rule seven c.flag.ensures.rule in
    IfOk-weaker c.arg-9.result _ _ (λ r h. h.shape c.optional.ensures.local ∙ ap₂ with_rule eight c.optional.ensures.rule ∙ whole) c.arg-9.ensures
