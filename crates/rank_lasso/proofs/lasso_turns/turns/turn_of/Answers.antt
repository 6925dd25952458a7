use Rattle.std.proofs.Common.{◌∙◌, length, refl, sym, ap, subst}
use Rattle.letter_acts.specs.Frames.{Columns}
use Rattle.letter_acts.specs.Kept.{Keeps}
use Rattle.letter_acts.specs.FrameRows.Rows.{bounds, types_of}
use Rattle.path_rows.specs.Paths.{first_stage}
use Rattle.rank_lasso.specs.LassoTurns.Stages.{StageIs}
use Rattle.rank_lasso.specs.LassoTurns.Made.{stage_of}
use Rattle.rank_lasso.proofs.LassoTurns.MadeLaws.{turn_starts, turn_here, turn_goes, turn_ends}
use Rattle.rank_lasso.proofs.lasso_turns.turns.turn_of.Goals as goal

pub loop-letter-init : goal.loop-letter-init
loop-letter-init c =
    let f = c.columns-frame.ensures.value in
    turn_starts c.args.icfg.now c.args.proc c.args.letters.now c.in_ok-turn.turn
    (c.in_ok-turn.ensures.stage ∙ ap first_stage f) (c.in_ok-turn.ensures.rows ∙ ap (λ (x : Columns). bounds 0 (types_of x)) f)
    (c.in_ok-turn.ensures.width ∙ ap length f) c.in_ok-turn.ensures.room c.requires

pub read-requires : goal.read-requires
read-requires c = record {
  valid = c.columns-frame.ensures.valid;
  frame = c.columns-frame.ensures.value;
  inside = turn_here c.args.icfg.now c.args.proc c.args.letters.now c.loop-letter.turn c.loop-letter.letter-index _ 0 c.loop-letter-test.true refl c.loop-letter.invariant;
  stage = subst (λ (f : Columns). StageIs f (stage_of c.loop-letter.turn)) (sym c.columns-frame.ensures.value) c.loop-letter.invariant.is;
  room = c.loop-letter.invariant.room;
}

pub loop-letter-preserved : goal.loop-letter-preserved
unfolding Keeps
loop-letter-preserved c =
    turn_goes c.args.icfg.now c.columns-frame.ensures.valid c.args.proc c.args.letters.now c.loop-letter.turn c.read.new.self c.loop-letter.letter-index _ 0
    c.loop-letter-test.true refl c.loop-letter.invariant c.in_ok-read.ensures.value c.in_ok-read.ensures.room

pub returns : goal.returns
returns c =
    let k = turn_ends c.args.icfg.now c.args.proc c.args.letters.now c.loop-letter.turn c.loop-letter.letter-index c.loop-letter-test.false c.loop-letter.invariant in
    record { value = k.value; ranked = k.ranked; room = c.loop-letter.invariant.room; valid = c.columns-frame.ensures.valid }
