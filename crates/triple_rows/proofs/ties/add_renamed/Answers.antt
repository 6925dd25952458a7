use Rattle.letter_acts.proofs.FrameRows.RenamingLaws.{distinct_rows}
use Rattle.triple_rows.proofs.ties.add_renamed.Goals as goal

pub renamed_rows-requires : goal.renamed_rows-requires
renamed_rows-requires c = distinct_rows c.args.columns.now c.args.rows.now c.requires.differ c.requires.below
