use Rattle.std.proofs.Common.{rules}
use borrow.Author.Tests.{tests}
use Rattle.proof_table.proofs.SmallTrees.{few_cuts}
use Rattle.proof_table.proofs.refutations.has_few_cuts.Goals as goal

pub returns : goal.returns
returns c = λ h. few_cuts c.nodes.result.now c.args.proof.now c.nodes.ensures.value (search (rules, tests))
