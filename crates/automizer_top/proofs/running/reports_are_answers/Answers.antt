use Rattle.automizer_top.proofs.running.reports_are_answers.Goals as goal

pub returns : goal.returns
returns c = λ words texts before after status old new closes. (closes.given, closes.answers)
