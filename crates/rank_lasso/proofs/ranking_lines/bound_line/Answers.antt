use Rattle.std.proofs.Common.{refl}
use Rattle.proof_form.specs.Numerals.{numeral_text}
use Rattle.rank_lasso.specs.Lines.{IsNumeral, bound_kind}
use Rattle.rank_lasso.proofs.LineLaws.{no_line, other_content, unread}
use Rattle.rank_lasso.proofs.ranking_lines.bound_line.Goals as goal

pub returns-in_default-clause-fault : goal.returns-in_default-clause-fault
returns-in_default-clause-fault c = (refl, no_line bound_kind c.args.text.now c.in_default.ensures)

pub returns-in_default-2-clause-fault : goal.returns-in_default-2-clause-fault
returns-in_default-2-clause-fault c = (
  refl,
  other_content bound_kind c.args.text.now c.in-Some.content.now c.in-Some.rest.now c.in-Some.ensures.0 c.in-Some.ensures.1
      (unread (λ n. n) IsNumeral numeral_text c.in-Some.content.now c.in_ok-bound.field-0 c.in_default-2.is c.in_ok-bound.ensures),
)
