use Rattle.int_decide.specs.Answers.{RefutesWithin}
use Rattle.path_decide.specs.Decided.{IsRowsRefutation}
use Rattle.path_decide.proofs.FindingLaws.{told_nodes, refutes_system, refutes_rows}
use Rattle.path_decide.proofs.deciding.late_path.Goals as goal

pub late-requires : goal.late-requires
late-requires c =
    refutes_system c.args.depth c.system.result.now c.args.path.now.rows c.args.refutation.now c.system.ensures.rows c.system.ensures.groups c.requires

pub returns : goal.returns
returns c =
    told_nodes (RefutesWithin c.args.depth c.system.result.now) (IsRowsRefutation c.args.depth c.args.path.now.rows) c.late.result
    (λ nodes h. refutes_rows c.args.depth c.system.result.now c.args.path.now.rows nodes c.system.ensures.rows c.system.ensures.groups h)
    c.late.ensures
