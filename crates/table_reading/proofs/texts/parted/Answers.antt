use Rattle.std.proofs.Common.{refl}
use Rattle.table_reading.proofs.PartLaws.{parted_is}
use Rattle.table_reading.proofs.texts.parted.Goals as goal

pub returns : goal.returns
returns c = parted_is c.args.mark.now c.args.text.now c.split_once.result _ c.unwrap_or.result c.split_once.ensures.cases c.unwrap_or.ensures refl refl
