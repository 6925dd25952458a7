use Rattle.std.proofs.Common.{ℕ, List, map, ap, ◌∙◌}
use Rattle.boogie_tree.specs.View as tree
use Rattle.boogie_tree.specs.Printing.{program_text}
use Rattle.typed_tree.specs.TypingRules.TypedParts.{typed_program}
use Rattle.proof_names.specs.declared.outlines.NamedNode.{NamedNode}
use Rattle.proof_names.specs.Outlines.{node}
use Rattle.explained_proof.specs.Known.{known_of}
use Rattle.explained_proof.specs.Explained.{explained}
use Rattle.text_reports.specs.ReportTexts.{answer}
use Rattle.explain_top.proofs.explaining.told.Goals as goal

pub returns : goal.returns
returns c =
    let ds = tree.program c.in_ok-tree.tree in
    let text = λ (ns : List NamedNode). program_text (explained
    (record { program = typed_program c.args.program.now; graph = c.args.icfg.now; known = known_of c.args.icfg.now c.args.proof.now (map node ns) }) ds) in (
      ds,
      c.in_ok-tree.ensures,
      ap (λ (bytes : List ℕ). answer bytes 0) (c.in_ok-print.ensures.text ∙ ap program_text c.in_ok-tree-2.ensures ∙ ap text c.deref.ensures.value),
    )
