use Rattle.std.proofs.Common.{arith, ◌∙◌, ap, ◌<◌, ◌^◌}
use Rattle.std.specs.Fmt.{decimal}
use Rattle.proof_names.proofs.ProofSpell.NumeralLaws.{natural_writes}
use Rattle.proof_names.proofs.proof_spell.numerals.natural.Goals as goal

pub returns : goal.returns
returns c =
    let l : c.args.number < 2 ^ 64 = omega arith in
    natural_writes c.args.number c.in_ok-digits.field-0 l (c.in_ok-digits.ensures ∙ ap decimal c.from.ensures)
