use Rattle.std.proofs.Common.{◌<◌, ◌^◌, FitsSigned, rules, pos, subst}
use Rattle.std.specs.Int.{w128}
use Rattle.std.proofs.lemmas.Int.{to_z-of_z}
use Rattle.proof_names.specs.ProofSpell.Spelled.{Writes}
use Rattle.proof_names.proofs.ProofSpell.RefutationLaws.{part_spelled}
use Rattle.proof_names.proofs.proof_spell.refutations.part_line.Goals as goal

pub returns : goal.returns
returns c =
    let l : c.args.part.0 < 2 ^ 32 = search rules in
    let f : FitsSigned w128 c.args.part.1 = search rules in
    let r : Writes c.in_ok-row.row (pos c.args.part.0) = subst (λ n. Writes c.in_ok-row.row (pos n)) c.from.ensures c.in_ok-row.ensures in
    part_spelled c.in_ok-row.row c.in_ok-multiplier.multiplier c.args.part l c.requires r (simp to_z-of_z at c.in_ok-multiplier.ensures.writes)
