use Rattle.std.proofs.Common.{◌∙◌, ap, FitsSigned, rules}
use Rattle.std.specs.Int.{w128}
use Rattle.std.specs.Fmt.{decimal}
use Rattle.std.proofs.lemmas.Int.{to_z-of_z}
use Rattle.proof_names.proofs.ProofSpell.NumeralLaws.{integer_writes, sign_is, writes_number}
use Rattle.proof_names.proofs.proof_spell.numerals.integer.Goals as goal

pub returns-clause-writes : goal.returns-clause-writes
returns-clause-writes c =
    let f : FitsSigned w128 c.args.number = search rules in
    integer_writes c.args.number _ c.in_ok-digits.field-0 c.requires (rw (to_z-of_z) (sign_is c.args.number)) (c.in_ok-digits.ensures ∙ ap decimal (simp to_z-of_z at c.unsigned_abs.ensures.value))

pub returns-clause-read : goal.returns-clause-read
returns-clause-read c =
    let f : FitsSigned w128 c.args.number = search rules in
    writes_number _ c.args.number (integer_writes c.args.number _ c.in_ok-digits.field-0 c.requires (rw (to_z-of_z) (sign_is c.args.number))
    (c.in_ok-digits.ensures ∙ ap decimal (simp to_z-of_z at c.unsigned_abs.ensures.value))) c.requires
