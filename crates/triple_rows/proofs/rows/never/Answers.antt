use Rattle.letter_acts.proofs.FrameRows.RenamingLaws.{no_sums_fit}
use Rattle.triple_rows.proofs.rows.never.Goals as goal

pub fitting_row-requires : goal.fitting_row-requires
fitting_row-requires c = no_sums_fit
