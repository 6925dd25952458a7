use Rattle.std.proofs.Common.{◌<◌, ◌^◌, rules}
use Rattle.proof_names.proofs.ProofSpell.NumeralLaws.{index_of}
use Rattle.proof_names.proofs.proof_spell.numerals.index.Goals as goal

pub returns : goal.returns
returns c =
    let l : c.args.number < 2 ^ 64 = search rules in
    index_of c.natural.result c.args.number l c.natural.ensures
