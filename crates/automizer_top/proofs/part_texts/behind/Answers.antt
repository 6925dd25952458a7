use Rattle.automizer_top.proofs.PartLines.{stripped_behind}
use Rattle.automizer_top.proofs.part_texts.behind.Goals as goal

pub returns : goal.returns
returns c = stripped_behind c.args.bytes.now c.args.text.now c.strip_prefix.result c.strip_prefix.ensures.cases
