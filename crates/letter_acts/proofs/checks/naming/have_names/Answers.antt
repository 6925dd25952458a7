use Rattle.std.proofs.Common.{◌∙◌, sym, subst}
use Rattle.std.proofs.lemmas.Bool.{false≢true}
use Rattle.letter_acts.specs.Frames.{Columns, is_global}
use Rattle.letter_acts.specs.Invariant.{AreDistinct, names_where}
use Rattle.letter_acts.proofs.SharedNames.{names_by_first}
use Rattle.letter_acts.proofs.checks.naming.have_names.Goals as goal

pub returns-then-names_differ : goal.returns-then-names_differ
returns-then-names_differ c =
    let k = names_by_first c.args.frames.now c.in-Some.first.now c.in-Some.ensures.value c.requires in
    let d = subst (λ (xs : Columns). AreDistinct (names_where is_global xs)) c.as_slice.ensures.value (c.names_differ.ensures.0 c.if-names_differ.true) in
    (λ e. k.0 (d, c.have_own_names.ensures.0 e), λ h. c.have_own_names.ensures.1 (k.1 h).1)

pub returns-else-names_differ : goal.returns-else-names_differ
returns-else-names_differ c =
    let k = names_by_first c.args.frames.now c.in-Some.first.now c.in-Some.ensures.value c.requires in (
      λ e. absurd (false≢true (sym c.if-names_differ.false ∙ e)),
      λ h. c.names_differ.ensures.1 (subst (λ (xs : Columns). AreDistinct (names_where is_global xs)) (sym c.as_slice.ensures.value) (k.1 h).0),
    )
