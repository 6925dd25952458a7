use Rattle.std.proofs.Common.{refl}
use Rattle.std.specs.Prelude.{map}
use Rattle.proof_form.specs.Refutations.{plain_refutation_node, refutation_text}
use Rattle.rank_lasso.specs.RankingText.{IsProofForm}
use Rattle.rank_lasso.specs.Lines.{proof_kind}
use Rattle.rank_lasso.proofs.LineLaws.{no_line, other_content, unread}
use Rattle.rank_lasso.proofs.ranking_lines.proof_line.Goals as goal

pub returns-in_default-clause-fault : goal.returns-in_default-clause-fault
returns-in_default-clause-fault c = (refl, no_line (proof_kind c.args.word.now) c.args.text.now c.in_default.ensures)

pub returns-in_default-2-clause-fault : goal.returns-in_default-2-clause-fault
returns-in_default-2-clause-fault c = (
  refl,
  other_content (proof_kind c.args.word.now) c.args.text.now c.in-Some.content.now c.in-Some.rest.now c.in-Some.ensures.0 c.in-Some.ensures.1
      (unread (λ v. map plain_refutation_node v.items) IsProofForm refutation_text c.in-Some.content.now c.in_ok-nodes.field-0 c.in_default-2.is c.in_ok-nodes.ensures),
)
