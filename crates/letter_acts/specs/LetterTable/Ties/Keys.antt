-- Keys of acts, as acts with their marks.
use Rattle.std.specs.Prelude.{Bool, true, false, map}
use Rattle.lin_rows.specs.Rows.{LinearRow}
use Rattle.lin_rows.specs.declared.types.RowKind.{RowKind}
use Rattle.lin_rows.specs.declared.types.RowKind.TheVariants as kinds
use Rattle.letter_acts.specs.Acts.{PlainAct, inside_act, call_act, back_act}
use Rattle.letter_acts.specs.declared.letter_table.keys.RowKey.{RowKey}
use Rattle.letter_acts.specs.declared.letter_table.keys.ActKey.{ActKey}
use Rattle.letter_acts.specs.declared.letter_table.keys.ActKey.TheVariants.{Inside, Call, Back}
use Rattle.letter_acts.specs.declared.letter_table.keys.MarkedKey.{MarkedKey}
use Rattle.letter_acts.specs.LetterTable.Letters.{MarkedAct}

abbrev pub kind_said : Bool → RowKind
kind_said true = kinds.Eq
kind_said false = kinds.Le

abbrev pub plain_row : RowKey → LinearRow
plain_row k = record { terms = k.terms.items; kind = kind_said k.is_equality; bound = k.bound }

abbrev pub plain_key : ActKey → PlainAct
plain_key (Inside p written helpers rows) = inside_act p written.items helpers (map plain_row rows.items)
plain_key (Call caller callee helpers rows) = call_act caller callee helpers (map plain_row rows.items)
plain_key (Back c targets) = back_act c targets.items

abbrev pub marked_key : MarkedKey → MarkedAct
marked_key k = record { act = plain_key k.act; coarse = k.is_coarse }
