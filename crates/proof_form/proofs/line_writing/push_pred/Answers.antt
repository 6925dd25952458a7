use Rattle.std.proofs.Common.{ap, map}
use Rattle.proof_form.specs.Lines.{pred}
use Rattle.proof_form.specs.Predicates.{plain_predicate_node}
use Rattle.proof_form.proofs.WritingLaws.{whole_predicate}
use Rattle.proof_form.proofs.line_writing.push_pred.Goals as goal

pub push_predicate-requires : goal.push_predicate-requires
push_predicate-requires c = whole_predicate (pred c.args.line.now) (map plain_predicate_node c.deref.result.now) (ap (map plain_predicate_node) c.deref.ensures.value) c.requires
