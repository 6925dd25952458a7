-- Turns as the crate makes them, letter by letter.
use Rattle.std.specs.Prelude.{◌≡◌, [], ◌++◌, length}
use Rattle.letter_acts.specs.Invariant.{AreDistinct}
use Rattle.letter_acts.specs.FrameRows.Rows.{columns_from}
use Rattle.path_rows.specs.Versions.{PathStage, Part, part_rows}
use Rattle.rank_lasso.specs.declared.lasso_turns.made.MadeTurn.{MadeTurn}
use Rattle.rank_lasso.specs.LassoTurns.Turns.{Turn}
use Rattle.rank_lasso.specs.LassoTurns.Stages.{AreFirstOrNew}

-- where a turn that is being made has come to
abbrev pub stage_of : MadeTurn → PathStage
stage_of d = record { made = d.made; here = d.here.items; saved = [] }

-- the turn that it is
abbrev pub plain_turn : MadeTurn → Turn
plain_turn d = record { rows = d.rows.items; columns = d.made; before = columns_from 0 d.width; after = d.here.items }

-- the new one is the old one with what a letter made behind
pub record Reads (part : Part) (old new : MadeTurn) : Type 0 where
  pub stage : stage_of new ≡ part.after
  pub rows : new.rows.items ≡ old.rows.items ++ part_rows part
  pub width : new.width ≡ old.width

-- what is asked of the versions behind a turn, for a form to be laid over it
pub record CanBeRanked (d : MadeTurn) : Type 0 where
  pub long : length d.here.items ≡ d.width
  pub differ : AreDistinct d.here.items
  pub fresh : AreFirstOrNew d.width d.here.items
