use Rattle.std.proofs.Common.{◌∙◌, sym, ap, to_z-of_z, FitsSigned, rules}
use Rattle.std.specs.Int.{w128}
use Rattle.nested_itp.specs.NestedRefutations.Refutations.{multiplier}
use Rattle.nested_itp.specs.TripleWalks.Goals.{role_of}
use Rattle.nested_itp.specs.declared.triple_walks.goals.Role.{Role}
use Rattle.nested_itp.proofs.TripleWalks.LeafLaws.{atom_told, tie_told}
use Rattle.nested_itp.proofs.triple_walks.leaves.multiplier.Goals as goal

pub returns-in-Atom : goal.returns-in-Atom
returns-in-Atom c = λ v b h.
    let f : FitsSigned w128 c.atom_multiplier.result = search rules in
    simp to_z-of_z
    (c.atom_multiplier.ensures ∙ atom_told v c.args.tree.now c.args.claims.now c.args.node b c.args.parts.now h c.in-Atom.claim c.in-Atom.leaf ∙
    ap (λ (r : Role). multiplier v c.args.node b c.args.parts.now (role_of r)) (sym c.in-Atom.is))

pub returns-in-Tied : goal.returns-in-Tied
returns-in-Tied c = λ v b h.
    let f : FitsSigned w128 c.tie_multiplier.result = search rules in
    simp to_z-of_z
    (c.tie_multiplier.ensures ∙ tie_told v c.args.tree.now c.args.claims.now c.args.node b c.args.parts.now h c.in-Tied.tie ∙
    ap (λ (r : Role). multiplier v c.args.node b c.args.parts.now (role_of r)) (sym c.in-Tied.is))
