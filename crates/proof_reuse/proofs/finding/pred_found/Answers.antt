use Rattle.std.proofs.Common.{◌≡◌, ◌∙◌, Some, None, ap, sym}
use Rattle.std.specs.Option.{option_map}
use Rattle.triple_rows.specs.Predicates.{SpellsPredicate}
use Rattle.proof_names.specs.Columns.{procedure_named}
use Rattle.proof_names.specs.Predicates.{scoped_of}
use Rattle.proof_names.proofs.AllLaws.{found_where}
use Rattle.proof_names.proofs.PredLaws.{nodes_hold}
use Rattle.proof_reuse.proofs.FindLaws.{columns_are, found_as, line_spells}
use Rattle.proof_reuse.proofs.finding.pred_found.Goals as goal

pub nodes_found-requires : goal.nodes_found-requires
nodes_found-requires c = nodes_hold c.args.line.now c.deref.result.now c.requires c.deref.ensures.value

pub returns-in_default-2 : goal.returns-in_default-2
returns-in_default-2 c =
    found_as c.args.icfg.now c.args.line.now c.in-Some.proc None (c.in-Some.ensures ∙ ap (procedure_named c.args.icfg.now) c.bytes.ensures)
    (sym (ap (option_map (λ v. v.items)) c.in_default-2.is) ∙ columns_are c.columns.ensures.value c.deref.ensures.value c.in_ok-nodes.ensures)

pub returns-in-Some-pred : goal.returns-in-Some-pred
returns-in-Some-pred c =
    let e : Some c.in-Some-2.nodes.items ≡ _ =
    sym (ap (option_map (λ v. v.items)) c.in-Some-2.is) ∙ columns_are c.columns.ensures.value c.deref.ensures.value c.in_ok-nodes.ensures in
    let k = found_where (SpellsPredicate c.in-Some-2.nodes.items) c.pred.result c.in-Some-2.nodes.items
    (line_spells c.args.icfg.now c.args.line.now c.in-Some.proc c.in-Some-2.nodes.items c.requires e) c.pred.ensures.found c.pred.ensures.value in
    ap (option_map (scoped_of c.in-Some.proc)) (sym c.in-Some-pred.is ∙ k) ∙ found_as c.args.icfg.now c.args.line.now c.in-Some.proc (Some c.in-Some-2.nodes.items)
    (c.in-Some.ensures ∙ ap (procedure_named c.args.icfg.now) c.bytes.ensures) e

pub returns-in-None : goal.returns-in-None
returns-in-None c =
    let e : Some c.in-Some-2.nodes.items ≡ _ =
    sym (ap (option_map (λ v. v.items)) c.in-Some-2.is) ∙ columns_are c.columns.ensures.value c.deref.ensures.value c.in_ok-nodes.ensures in
    let k = found_where (SpellsPredicate c.in-Some-2.nodes.items) c.pred.result c.in-Some-2.nodes.items
    (line_spells c.args.icfg.now c.args.line.now c.in-Some.proc c.in-Some-2.nodes.items c.requires e) c.pred.ensures.found c.pred.ensures.value in
    ap (option_map (scoped_of c.in-Some.proc)) (sym c.in-None.is ∙ k) ∙ found_as c.args.icfg.now c.args.line.now c.in-Some.proc (Some c.in-Some-2.nodes.items)
    (c.in-Some.ensures ∙ ap (procedure_named c.args.icfg.now) c.bytes.ensures) e
