use Rattle.std.proofs.Common.{◌∙◌, not, List, [], ◌∷◌, subst, sym}
use Rattle.std.specs.Arc.{arc_value}
use Rattle.nwa_base.specs.declared.letters.Letter.{Letter}
use Rattle.nwa_base.specs.Automata.{Automaton}
use Rattle.nwa_base.specs.Acceptance.{Accepts}
use Rattle.version_cell.specs.Samples.{letter_of, IsRest}
use Rattle.version_cell.proofs.Sampled.{fair_sample}
use Rattle.word_tests.specs.contracts.cells.SampleEvidence.TheImpl.{automaton-value}
use Rattle.word_tests.proofs.cells.offer.Goals as goal

pub publish-requires-clause-fair : goal.publish-requires-clause-fair
publish-requires-clause-fair g c κs within =
    let kept = arc_value c.args.found.now.kept in
    let A : Automaton → Type 0 = λ m. Accepts m (letter_of c.args.first ∷ []) in
    let R : Automaton → Type 0 = λ m. IsRest m (not c.args.first) (arc_value c.in_ok-kept.kept) in
    let K : Automaton → Type 0 = λ m. IsRest c.deref-2.result.now (not c.args.first) m in
    let there = subst A c.deref.ensures (c.in_ok-is_left.ensures.0 c.if-not-branch.false) in
    let rest = subst R c.deref-2.ensures (subst K (sym c.in_ok-kept.ensures.ok) c.in_ok-rest.ensures) in
    fair_sample automaton-value.it c.args.pass.now.program c.args.pass.now.seen kept (arc_value c.in_ok-kept.kept)
    c.in_ok-entry.entry c.args.first c.args.found.now.version
    (c.requires.of_cell.0.program ∙ c.requires.of_cell.1) c.requires.found.0 c.requires.found.1 c.in_ok-entry.ensures.0 c.in_ok-entry.ensures.1
    there rest
