use Rattle.std.proofs.Common.{refl}
use Rattle.rank_lasso.specs.LassoText.{letters_text, AreShort}
use Rattle.rank_lasso.specs.Lines.{stem_kind}
use Rattle.rank_lasso.proofs.LineLaws.{no_line, other_content, unread}
use Rattle.rank_lasso.proofs.lines.stem_line.Goals as goal

pub returns-in_default-clause-fault : goal.returns-in_default-clause-fault
returns-in_default-clause-fault c = (refl, no_line stem_kind c.args.text.now c.in_default.ensures)

pub returns-in_default-2-clause-fault : goal.returns-in_default-2-clause-fault
returns-in_default-2-clause-fault c = (
  refl,
  other_content stem_kind c.args.text.now c.in-Some.content.now c.in-Some.rest.now c.in-Some.ensures.0 c.in-Some.ensures.1
      (unread (λ v. v.items) AreShort letters_text c.in-Some.content.now c.in_ok-letters.field-0 c.in_default-2.is c.in_ok-letters.ensures),
)
