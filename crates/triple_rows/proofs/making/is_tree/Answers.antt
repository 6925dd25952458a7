use Rattle.std.proofs.lemmas.Bool.{false≢true}
use Rattle.triple_rows.proofs.ReadingLaws.{tree_alone}
use Rattle.triple_rows.proofs.making.is_tree.Goals as goal

pub returns-in-Some : goal.returns-in-Some
returns-in-Some c = tree_alone c.args.nodes.now c.in-Some.rest.now c.is_empty.result c.in-Some.ensures c.is_empty.ensures

pub returns-in-None : goal.returns-in-None
returns-in-None c = (λ t. absurd (false≢true t), λ h. absurd (c.in-None.ensures _ h))
