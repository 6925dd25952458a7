use Rattle.std.proofs.Common.{◌∙◌, ap}
use Rattle.boogie_tree.specs.View as tree
use Rattle.typed_tree.specs.TypingRules.TypedParts.{typed_program}
use Rattle.explained_proof.specs.Explained as spec
use Rattle.explained_proof.specs.Known.{Known}
use Rattle.explained_proof.proofs.programs.explained.Goals as goal

pub returns : goal.returns
returns c =
    c.in_ok-decls.ensures ∙
    ap (λ (k : Known). spec.explained (record { program = typed_program c.args.program.now; graph = c.args.icfg.now; known = k }) (tree.program c.args.given)) c.in_ok-knowledge.ensures
