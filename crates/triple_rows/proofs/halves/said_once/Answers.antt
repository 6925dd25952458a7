use Rattle.std.proofs.Common.{◌≡◌, ◌+◌, ℕ, sym, subst, rules}
use Rattle.triple_rows.specs.Predicates.{formula_of}
use Rattle.triple_rows.specs.Systems.{PlainSystem, PlainFits, said}
use Rattle.triple_rows.specs.Ties.Drafts.{Adds}
use Rattle.triple_rows.proofs.DraftLaws.{draft_is}
use Rattle.triple_rows.proofs.HalfLaws.{said_from_zero}
use Rattle.triple_rows.proofs.halves.said_once.Goals as goal

pub returns-clause-value : goal.returns-clause-value
returns-clause-value c =
    let f = formula_of c.args.from.now.pred in
    let a : Adds (said (λ k. k) f) c.new-draft.result c.said_of.new.draft =
    subst (λ (p : PlainSystem). Adds p c.new-draft.result c.said_of.new.draft) (said_from_zero f) c.in_ok-said_of.ensures.adds in
    draft_is (said (λ k. k) f) c.new-draft.result c.said_of.new.draft c.finish.result c.new-draft.ensures.rows c.new-draft.ensures.groups a
    c.finish.ensures.rows c.finish.ensures.groups

pub returns-clause-fits : goal.returns-clause-fits
returns-clause-fits c = subst PlainFits (said_from_zero (formula_of c.args.from.now.pred)) c.in_ok-said_of.ensures.fits

pub returns-in_err-said_of-clause-past : goal.returns-in_err-said_of-clause-past
returns-in_err-said_of-clause-past c = λ e h. c.in_err-said_of.ensures.past (search rules) (subst PlainFits (sym (said_from_zero (formula_of c.args.from.now.pred))) h)
