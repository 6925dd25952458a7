-- What a table of letters holds at the end, without places in memory.
use Rattle.letter_acts.specs.declared.letter_table.table.Lettered.{Lettered}
use Rattle.letter_acts.specs.LetterTable.Letters as plain
use Rattle.letter_acts.specs.LetterTable.Letters.{marked_acts}

abbrev pub plain_lettered : Lettered → plain.Lettered
plain_lettered d = record { acts = marked_acts d.acts.items; insides = d.insides.items; calls = d.calls.items; backs = d.backs.items }
