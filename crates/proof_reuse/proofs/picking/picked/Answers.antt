use Rattle.std.proofs.Common.{◌∙◌, sym}
use Rattle.std.proofs.lemmas.Bool.{false≢true}
use Rattle.proof_reuse.proofs.PickLaws.{none_there, none_agrees}
use Rattle.proof_reuse.proofs.picking.picked.Goals as goal

pub returns-in_default : goal.returns-in_default
returns-in_default c = none_there c.args.icfg.now c.args.preds.now c.args.listed.now c.in_ok-triple.field-0 c.in_ok-triple.ensures c.in_default.not-Some

pub returns-then-not-agrees : goal.returns-then-not-agrees
returns-then-not-agrees c =
    none_agrees c.args.icfg.now c.args.preds.now c.args.listed.now c.in_ok-triple.field-0 c.in-Some.triple c.in_ok-triple.ensures c.in-Some.is
    (λ a. false≢true (sym c.if-not-agrees.true ∙ c.agrees.ensures.1 a))

pub returns : goal.returns
returns c = record { is = sym c.in_ok-triple.ensures ∙ c.in-Some.is; agrees = c.agrees.ensures.0 c.if-not-agrees.false }
