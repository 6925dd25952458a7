use Rattle.std.proofs.Common.{◌<◌, ◌^◌, FitsSigned, rules}
use Rattle.std.specs.Int.{w128}
use Rattle.std.proofs.lemmas.Int.{to_z-of_z}
use Rattle.proof_names.proofs.ProofSpell.AtomLaws.{term_spelled}
use Rattle.proof_names.proofs.proof_spell.predicates.term_line.Goals as goal

pub returns : goal.returns
returns c =
    let l : c.args.term.0 < 2 ^ 32 = search rules in
    let f : FitsSigned w128 c.args.term.1 = search rules in
    term_spelled c.args.frame.now c.in_ok-coefficient.coefficient c.in_ok-column.column c.args.term c.index-frame-term.result c.requires.readable c.requires.within l
    (simp to_z-of_z at c.in_ok-coefficient.ensures.writes) c.index-frame-term.is c.in_ok-column.ensures
