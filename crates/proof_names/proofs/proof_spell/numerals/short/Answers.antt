use Rattle.std.proofs.Common.{◌<◌, ◌^◌, pos, rules, subst}
use Rattle.std.specs.Prelude.{IfOk}
use Rattle.proof_names.specs.ProofSpell.Spelled.{Writes}
use Rattle.proof_names.proofs.ProofSpell.NumeralLaws.{short_of}
use Rattle.proof_names.proofs.proof_spell.numerals.short.Goals as goal

pub returns : goal.returns
returns c =
    let l : c.args.number < 2 ^ 32 = search rules in
    short_of c.natural.result c.args.number l (subst (λ k. IfOk c.natural.result (λ n. Writes n (pos k))) c.from.ensures c.natural.ensures)
