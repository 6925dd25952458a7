use Rattle.proof_form.specs.TextReading.{content_of}
use Rattle.proof_form.proofs.DraftLaws.{node_too_late}
use Rattle.proof_form.proofs.drafts.Draft.add_node.Goals as goal

pub returns-then-not-no_steps : goal.returns-then-not-no_steps
returns-then-not-no_steps c = node_too_late (content_of c.args.self.now) c.args.line.now c.if-not-no_steps.ensures
