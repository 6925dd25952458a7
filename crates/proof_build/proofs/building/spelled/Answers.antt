use Rattle.std.proofs.Common.{◌≡◌, ◌∙◌, List, map, sym, ap, subst}
use Rattle.std.specs.Prelude.{IfOk}
use Rattle.triple_rows.specs.declared.triples.Scoped.{Scoped}
use Rattle.proof_names.specs.Items.{Names}
use Rattle.proof_names.specs.Outlines.{Sketch, node}
use Rattle.proof_names.specs.declared.outlines.NamedNode.{NamedNode}
use Rattle.proof_names.specs.declared.outlines.NamedStep.{NamedStep}
use Rattle.proof_names.specs.declared.proof_spell.drafts.Shown.{Shown}
use Rattle.proof_names.specs.ProofSpell.Drafts.{Draft, draft, plain, MayBeSpelled}
use Rattle.proof_names.specs.ProofSpell.Spelled.{Outlines, Spells}
use Rattle.proof_build.specs.declared.proof_unwind.spots.Spot.{Spot}
use Rattle.proof_build.specs.declared.proof_unwind.unwinding.Unwound.{Unwound}
use Rattle.proof_build.specs.ProofUnwind.Spots.{nodes_of}
use Rattle.proof_build.specs.Unwindings.{steps_of, draft_of}
use Rattle.proof_build.specs.Ties.Built.{unwinding_of}
use Rattle.proof_build.proofs.building.spelled.Goals as goal

draft_is : (a preds : List Scoped) (triples : List Shown) (n nodes : List NamedNode) (spots : List Spot) (s steps : List NamedStep) (u : Unwound) → a ≡ preds → n ≡ nodes → map node nodes ≡ nodes_of spots →
    spots ≡ u.nodes.items → s ≡ steps → steps ≡ steps_of u.steps → draft a triples n s ≡ draft_of (unwinding_of preds triples u)
draft_is a preds triples n nodes spots s steps u ea en h eu es k =
    λ j. record { preds = ea j; triples = map plain triples; nodes = (ap (map node) en ∙ h ∙ ap nodes_of eu) j; steps = (es ∙ k) j }

pub spell-requires : goal.spell-requires
spell-requires c =
    subst (λ (d : Draft). MayBeSpelled c.args.icfg.now d)
    (sym (draft_is c.as_slice.result.now c.args.preds.now c.args.triples.now c.deref-2.result.now c.in_ok-nodes.nodes.items c.deref.result.now c.deref-3.result.now c.in_ok-steps.steps.items
    c.args.unwound.now c.as_slice.ensures c.deref-2.ensures.value c.in_ok-nodes.ensures c.deref.ensures.value c.deref-3.ensures.value c.in_ok-steps.ensures)) c.requires

pub returns-clause-spells : goal.returns-clause-spells
returns-clause-spells c =
    subst (λ (d : Draft). IfOk c.spell.result (λ a. Spells c.args.icfg.now a d))
    (draft_is c.as_slice.result.now c.args.preds.now c.args.triples.now c.deref-2.result.now c.in_ok-nodes.nodes.items c.deref.result.now c.deref-3.result.now c.in_ok-steps.steps.items
    c.args.unwound.now c.as_slice.ensures c.deref-2.ensures.value c.in_ok-nodes.ensures c.deref.ensures.value c.deref-3.ensures.value c.in_ok-steps.ensures) c.spell.ensures.spells

pub returns-clause-names : goal.returns-clause-names
returns-clause-names c =
    subst (λ (d : Draft). IfOk c.spell.result (λ a. (s : Sketch) × Names c.args.icfg.now a s × Outlines c.args.icfg.now s d))
    (draft_is c.as_slice.result.now c.args.preds.now c.args.triples.now c.deref-2.result.now c.in_ok-nodes.nodes.items c.deref.result.now c.deref-3.result.now c.in_ok-steps.steps.items
    c.args.unwound.now c.as_slice.ensures c.deref-2.ensures.value c.in_ok-nodes.ensures c.deref.ensures.value c.deref-3.ensures.value c.in_ok-steps.ensures) c.spell.ensures.names
