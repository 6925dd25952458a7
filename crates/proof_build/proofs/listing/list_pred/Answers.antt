use Rattle.std.proofs.Common.{◌∙◌, ◌∷◌, [], ◌++◌, refl}
use Rattle.proof_build.proofs.NumberLaws.{lists_one, numbered_last, none_is}
use Rattle.proof_build.proofs.listing.list_pred.Goals as goal

pub returns-in_ok-push-clause-more : goal.returns-in_ok-push-clause-more
returns-in_ok-push-clause-more c =
    lists_one c.args.icfg.now c.args.preds.now c.args.scoped.now c.in_ok-number_of.field-0 c.push.new.self c.requires.listed c.requires.over (c.if-has_body.ensures.0 refl)
    (none_is c.in_ok-number_of.field-0 c.if-is_none.ensures)
    c.in_ok-number_of.ensures.number c.in_ok-number_of.ensures.truths
    (c.in_ok-push.ensures ∙ (λ j. c.args.preds.now ++ c.in_ok-copy.ensures j ∷ []))

pub returns-in_ok-push-clause-numbered : goal.returns-in_ok-push-clause-numbered
returns-in_ok-push-clause-numbered c = numbered_last c.args.icfg.now c.args.preds.now c.args.scoped.now c.push.new.self (c.in_ok-push.ensures ∙ (λ j. c.args.preds.now ++ c.in_ok-copy.ensures j ∷ []))
