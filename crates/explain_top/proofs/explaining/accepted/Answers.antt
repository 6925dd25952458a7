use Rattle.std.proofs.Common.{◌≡◌, Err}
use Rattle.proof_names.specs.declared.coarse_lines.fault.CoarseFault.TheVariants.{Line, Triple}
use Rattle.explain_top.proofs.ExplainLaws.{line_differs, line_is_missing}
use Rattle.explain_top.proofs.explaining.accepted.Goals as goal

pub returns-in-Err-Line-clause-named : goal.returns-in-Err-Line-clause-named
returns-in-Err-Line-clause-named c = λ same proves.
    let refused : c.compared.result ≡ Err (Line c.in-Err-Line._place) = cc in
    line_differs c.args.icfg.now c.args.coarse.now c.args.proof.now c.in-Err-Line._place (c.compared.ensures.line c.in-Err-Line._place refused) same

pub returns-in-Err-Triple-clause-named : goal.returns-in-Err-Triple-clause-named
returns-in-Err-Triple-clause-named c = λ same proves.
    let refused : c.compared.result ≡ Err (Triple c.in-Err-Triple._place) = cc in
    line_is_missing c.args.icfg.now c.args.coarse.now c.args.proof.now c.in-Err-Triple._place (c.compared.ensures.triple c.in-Err-Triple._place refused).1 same
