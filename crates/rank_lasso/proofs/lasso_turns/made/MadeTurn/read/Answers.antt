use Rattle.std.proofs.Common.{◌∙◌, Some, ap, subst}
use Rattle.letter_acts.specs.declared.acts.Act.{Act}
use Rattle.letter_acts.specs.Acts.{plain_act}
use Rattle.letter_acts.specs.Frames.{Columns}
use Rattle.letter_acts.specs.Kept.{Keeps}
use Rattle.rank_lasso.specs.LassoTurns.Stages.{StageIs}
use Rattle.rank_lasso.specs.LassoTurns.Made.{stage_of}
use Rattle.rank_lasso.proofs.LassoTurns.MadeLaws.{read_fits}
use Rattle.rank_lasso.proofs.lasso_turns.made.MadeTurn.read.Goals as goal

pub read_inside-requires-clause-fits : goal.read_inside-requires-clause-fits
unfolding Keeps
read_inside-requires-clause-fits c =
    let k =
    read_fits c.args.icfg.now c.requires.valid c.args.proc c.args.letter c.in-Inside.proc (stage_of c.args.self.now) c.in-Inside.written.items
    c.in-Inside.helpers c.in-Inside.rows.items c.requires.inside (c.act_at.ensures.value ∙ ap (λ (a : Act). Some (plain_act a)) c.in-Inside.is)
    (subst (λ (f : Columns). StageIs f (stage_of c.args.self.now)) c.requires.frame c.requires.stage) in
    rw (c.deref.ensures.value, c.deref-in-Inside.ensures.value) k.fits
