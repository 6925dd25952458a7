-- Stamps: from where on in a word a row or a column is counted. What letter n makes has the stamp 2n, what a call makes for its
-- callee the next one, and what belongs to the start has that of the first letter.
use Rattle.std.specs.Prelude.{ℕ, suc, ◌*◌, List, [], ◌∷◌, ◌++◌, length, Option, None, Some, unwrap_or, slice_get}
use Rattle.nwa_base.specs.declared.letters.Letter.{Letter}
use Rattle.letter_acts.specs.Frames.{Columns}
use Rattle.letter_acts.specs.Acts.{PlainAct, inside_act, call_act, back_act, Alphabet, frame_of, act_of}
use Rattle.letter_acts.specs.Invariant.{Graph, alphabet_of}
use Rattle.letter_acts.specs.FrameRows.Rows.{bounds, types_of}
use Rattle.path_rows.specs.Versions.{PathStage, Part, part_rows, local_columns, old_part, part_of}
use Rattle.path_rows.specs.Paths.{repeated, start_frame, first_stage}

-- of what letter n makes in the frame before it
abbrev pub stamp_of : ℕ → ℕ
stamp_of n = 2 * n

-- of what a call, letter n, makes for its callee: columns, entry rows and bounds
abbrev pub callee_stamp : ℕ → ℕ
callee_stamp n = suc (2 * n)

-- the stamps of the rows that letter n makes, in order: a call's own rows count in the caller
abbrev pub row_stamps : ℕ → Option PlainAct → Part → List ℕ
row_stamps n None part = repeated (stamp_of n) (length (part_rows part))
row_stamps n (Some (inside_act q written helpers rows)) part = repeated (stamp_of n) (length (part_rows part))
row_stamps n (Some (call_act caller callee helpers rows)) part =
    repeated (stamp_of n) (length part.own) ++ repeated (callee_stamp n) (length (part.entries ++ part.bounds))
row_stamps n (Some (back_act c targets)) part = repeated (stamp_of n) (length (part_rows part))

-- the stamps of the columns that a call of a frame makes: its locals, helpers, which count in the caller, and old columns
abbrev pub call_stamps : ℕ → Columns → ℕ → List ℕ
call_stamps n callee helpers =
    repeated (callee_stamp n) (length (local_columns callee)) ++
    (repeated (stamp_of n) helpers ++ repeated (callee_stamp n) (length (old_part callee)))

-- the stamps of the columns that letter n makes, in order
abbrev pub column_stamps : Alphabet → ℕ → Option PlainAct → Part → List ℕ
column_stamps al n None part = repeated (stamp_of n) part.columns
column_stamps al n (Some (inside_act q written helpers rows)) part = repeated (stamp_of n) part.columns
column_stamps al n (Some (call_act caller callee helpers rows)) part = call_stamps n (frame_of al callee) helpers
column_stamps al n (Some (back_act c targets)) part = repeated (stamp_of n) part.columns

-- the stamps of the rows and of the columns of a word
pub record Stamps : Type 0 where
  pub rows : List ℕ
  pub columns : List ℕ

abbrev pub stamps_led_by : List ℕ → List ℕ → Stamps → Stamps
stamps_led_by rows columns rest = record { rows = rows ++ rest.rows; columns = columns ++ rest.columns }

-- those of the letters from number n on, from where the path has come to
abbrev pub stamps_along : Alphabet → ℕ → PathStage → List Letter → Stamps
stamps_along al n p [] = record { rows = []; columns = [] }
stamps_along al n p (a ∷ w) =
    let part = part_of al a p in
    stamps_led_by (row_stamps n (act_of al a) part) (column_stamps al n (act_of al a) part) (stamps_along al (suc n) part.after w)

-- the stamps of a word's rows and columns
abbrev pub stamps_of : Graph → List Letter → Stamps
stamps_of g w =
    let frame = start_frame g in
    stamps_led_by (repeated (stamp_of 1) (length (bounds 0 (types_of frame)))) (repeated (stamp_of 1) (length frame))
    (stamps_along (alphabet_of g) 1 (first_stage frame) w)

-- the stamp of a column; one that no letter made belongs to the start
abbrev pub column_stamp : List ℕ → ℕ → ℕ
column_stamp columns c = unwrap_or (slice_get columns c) (stamp_of 1)
