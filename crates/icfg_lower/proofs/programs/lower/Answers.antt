use Rattle.std.proofs.Common.{◌≡◌, ◌∙◌, ap, sym, subst}
use Rattle.typed_tree.specs.TypingRules.TypedParts.{TypedParts, typed_program}
use Rattle.letter_acts.specs.Invariant.{Graph, IsGraph, alphabet_of}
use Rattle.letter_acts.specs.Widths.{ActsFit}
use Rattle.lowered_graph.specs.Laws.{IsFaithful}
use Rattle.lowered_graph.specs.Lowered.{lowered}
use Rattle.icfg_lower.proofs.programs.lower.Goals as goal

pub graph-requires-clause-kept : goal.graph-requires-clause-kept
graph-requires-clause-kept c =
    subst (λ (p : TypedParts). ActsFit (alphabet_of (lowered (typed_program p))) → IsGraph (lowered (typed_program p))) (sym c.in_ok-layout.ensures) c.laws.ensures.kept

pub returns-clause-faithful : goal.returns-clause-faithful
returns-clause-faithful c =
    let value : c.in_ok-graph-in-None.field-0 ≡ lowered (typed_program c.args.program.now) =
    c.in_ok-graph-in-None.ensures ∙ ap (λ (p : TypedParts). lowered (typed_program p)) c.in_ok-layout.ensures in
    subst (λ (g : Graph). IsFaithful (typed_program c.args.program.now) g) (sym value) c.laws.ensures.faithful
