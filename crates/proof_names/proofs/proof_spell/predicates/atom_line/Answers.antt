use Rattle.std.proofs.Common.{sym, subst, length, FitsSigned, rules}
use Rattle.std.specs.Int.{w128}
use Rattle.std.specs.List.{AllByRecursion}
use Rattle.std.proofs.lemmas.Int.{to_z-of_z}
use Rattle.math_facts.specs.Fits.{Fits}
use Rattle.proof_names.specs.ProofSpell.Spelled.{Writes}
use Rattle.proof_names.specs.ProofSpell.Nodes.{SpellsTerm, IsTermWithin}
use Rattle.proof_names.specs.ProofSpell.Correspond.{Correspond}
use Rattle.proof_names.proofs.ProofSpell.AtomLaws.{atom_spelled, terms_within}
use Rattle.proof_names.proofs.proof_spell.predicates.atom_line.Goals as goal

pub term_lines-requires-clause-within : goal.term_lines-requires-clause-within
term_lines-requires-clause-within c =
    subst (λ l. AllByRecursion (IsTermWithin (length c.args.frame.now)) l) (sym c.terms.ensures.value)
    (terms_within (length c.args.frame.now) c.args.row.now.terms c.terms.ensures.valid.coefficients c.requires.within)

pub integer-requires : goal.integer-requires
integer-requires c =
    let f : FitsSigned w128 c.bound.result = search rules in
    rw (to_z-of_z) (subst Fits (sym c.bound.ensures) c.terms.ensures.valid.bound_fits)

pub returns : goal.returns
returns c =
    let f : FitsSigned w128 c.bound.result = search rules in
    let w : Writes c.in_ok-bound.bound c.bound.result = simp to_z-of_z at c.in_ok-bound.ensures.writes in
    atom_spelled c.args.frame.now c.in_ok-bound.bound c.in_ok-terms.terms.items c.args.row.now c.terms.ensures.valid c.requires.atom
    (subst (Writes c.in_ok-bound.bound) c.bound.ensures w)
    (subst (λ l. Correspond (SpellsTerm c.args.frame.now) c.in_ok-terms.terms.items l) c.terms.ensures.value c.in_ok-terms.ensures)
