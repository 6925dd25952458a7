use Rattle.std.proofs.Common.{◌≡◌, ℕ, List, ap, sym, subst}
use Rattle.std.specs.Prelude.{ℤ}
use Rattle.farkas_check.specs.Nodes as nodes
use Rattle.farkas_check.specs.Nodes.{plain, PlainNode}
use Rattle.proof_form.specs.Refutations as form
use Rattle.proof_names.specs.ProofSpell.Correspond.{Correspond}
use Rattle.proof_names.specs.ProofSpell.Nodes.{HasNumbers, SpellsPart, SpellsBranch}
use Rattle.proof_names.proofs.ProofSpell.RefutationLaws.{leaf_spelled}
use Rattle.proof_names.proofs.proof_spell.refutations.node_line.Goals as goal

pub returns-in_ok-part_lines-in-Leaf : goal.returns-in_ok-part_lines-in-Leaf
returns-in_ok-part_lines-in-Leaf c =
    let e : plain c.args.node.now ≡ nodes.leaf c.in-Leaf.parts.items = ap plain c.in-Leaf.is in
    let h : HasNumbers (nodes.leaf c.in-Leaf.parts.items) = subst HasNumbers e c.requires in
    subst (λ (m : PlainNode). SpellsBranch (form.leaf c.in_ok-part_lines-in-Leaf.field-0.items) m) (sym e)
    (leaf_spelled c.in_ok-part_lines-in-Leaf.field-0.items c.in-Leaf.parts.items h.0
    (subst (λ (l : List (ℕ × ℤ)). Correspond SpellsPart c.in_ok-part_lines-in-Leaf.field-0.items l) c.deref.ensures.value c.in_ok-part_lines-in-Leaf.ensures))
