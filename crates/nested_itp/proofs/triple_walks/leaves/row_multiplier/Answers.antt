use Rattle.std.proofs.Common.{◌∙◌, Bool, List, ◌∷◌, false, length, sym, subst, to_z-of_z, FitsSigned, rules}
use Rattle.std.specs.Int.{w128}
use Rattle.nested_itp.specs.TripleWalks.Leaves.{IsSeen}
use Rattle.nested_itp.specs.TripleWalks.Goals.{role_of}
use Rattle.nested_itp.proofs.TripleWalks.LeafLaws.{met_told, row_seen}
use Rattle.nested_itp.proofs.triple_walks.leaves.row_multiplier.Goals as goal

pub returns-else-meet_row-clause-value : goal.returns-else-meet_row-clause-value
returns-else-meet_row-clause-value c = λ v b rs h s.
    let f : FitsSigned w128 c.multiplier.result = search rules in
    simp to_z-of_z
    (c.multiplier.ensures v b h ∙
    met_told v c.args.tree.now c.args.claims.now c.args.node b c.args.parts.now h rs c.args.seen.now.items s c.args.role false (sym c.meet_row.ensures.value ∙ c.if-meet_row.false))

pub returns-else-meet_row-clause-seen : goal.returns-else-meet_row-clause-seen
returns-else-meet_row-clause-seen c = λ rs s.
    subst (λ (xs : List Bool). IsSeen (length c.args.claims.now) c.args.node (role_of c.args.role ∷ rs) xs) (sym c.meet_row.ensures.seen)
    (row_seen (length c.args.claims.now) c.args.node rs c.args.seen.now.items s c.args.role)
