use Rattle.std.proofs.Common.{refl}
use Rattle.rank_lasso.specs.Lines.{kind, nothing}
use Rattle.rank_lasso.proofs.Items.{not_empty}
use Rattle.rank_lasso.proofs.LineLaws.{no_line, other_content, bare_read}
use Rattle.rank_lasso.proofs.lines.bare_line.Goals as goal

pub returns-then-not-is_empty-clause-fault : goal.returns-then-not-is_empty-clause-fault
returns-then-not-is_empty-clause-fault c = (
  refl,
  other_content (kind c.args.word.now nothing) c.args.text.now c.in-Some.content.now c.in-Some.rest.now c.in-Some.ensures.0 c.in-Some.ensures.1
      (not_empty c.in-Some.content.now c.is_empty.result c.is_empty.ensures c.if-not-is_empty.true),
)

pub returns-in_default-clause-fault : goal.returns-in_default-clause-fault
returns-in_default-clause-fault c = (refl, no_line (kind c.args.word.now nothing) c.args.text.now c.in_default.ensures)

pub returns-clause-read : goal.returns-clause-read
returns-clause-read c =
    bare_read c.args.word.now c.args.text.now c.in-Some.content.now c.in-Some.rest.now c.is_empty.result c.is_empty.ensures c.if-not-is_empty.false c.in-Some.ensures.1
