use Rattle.std.proofs.Common.{◌≡◌, ◌∙◌, codes, true, refl, ap₂}
use Rattle.std.proofs.lemmas.Result.{IfOk-weaker}
use Rattle.clap.specs.Simple.{App, with_rule}
use Rattle.text_reports.specs.CommandWords.Rules.{positional, option, flag, bare_command}
use Rattle.explain_top.specs.CommandLine.{command}
use Rattle.explain_top.proofs.words.command.Goals as goal

-- the command with its arguments added one by one
abbrev with_arguments : App
with_arguments = with_rule (with_rule (with_rule (with_rule (bare_command (codes "explain")) (positional (codes "program") true)) (positional (codes "answer") true))
    (option (codes "entry") (codes "main"))) (flag (codes "all"))

whole : with_arguments ≡ command
unfolding command
whole = refl

pub returns : goal.returns
returns c =
    let one = c.in_ok-arg.ensures.shape c.positional.ensures.local ∙ ap₂ with_rule c.bare_command.ensures c.positional.ensures.rule in
    let two = c.in_ok-arg-2.ensures.shape c.positional-2.ensures.local ∙ ap₂ with_rule one c.positional-2.ensures.rule in
    let three = c.in_ok-arg-3.ensures.shape c.option.ensures.local ∙ ap₂ with_rule two c.option.ensures.rule in
    IfOk-weaker c.arg-4.result _ _ (λ r h. h.shape c.flag.ensures.local ∙ ap₂ with_rule three c.flag.ensures.rule ∙ whole) c.arg-4.ensures
