use Rattle.std.proofs.Common.{rules}
use Rattle.automizer_top.proofs.NumberLaws.{padded_is_none, unread_is_none, read_is_some}
use Rattle.automizer_top.proofs.words.number.Goals as goal

pub returns-then-is_padded-clause-value : goal.returns-then-is_padded-clause-value
returns-then-is_padded-clause-value c = padded_is_none c.args.least c.args.most c.args.text.now (search rules) (search rules)

pub returns-in_default-clause-value : goal.returns-in_default-clause-value
returns-in_default-clause-value c =
    unread_is_none c.args.least c.args.most c.args.text.now c.parse.result c.in_default.field-0 (search rules) (search rules) c.parse.ensures.value.0 (search rules)

pub returns-clause-value : goal.returns-clause-value
returns-clause-value c =
    read_is_some c.args.least c.args.most c.args.text.now c.parse.result c.in-Ok.number (search rules) (search rules) c.parse.ensures.value.0 (search rules) (search rules) (search rules)
