use Rattle.letter_acts.proofs.FrameRows.RenamingLaws.{distinct_names}
use Rattle.triple_rows.proofs.rows.stated_row.Goals as goal

pub renamed_row-requires-clause-differ : goal.renamed_row-requires-clause-differ
renamed_row-requires-clause-differ c = distinct_names c.args.columns.now c.args.row.now c.requires.differ c.requires.below
