-- Versions: the columns of a word's rows, which stand for the columns of frames at its positions. Each letter makes some.
use Rattle.std.specs.Prelude.{ℕ, suc, ◌+◌, List, [], ◌∷◌, ◌++◌, map, filter, length, take, drop, slice_index, slice_set, Option, None, Some, slice_get}
use Rattle.nwa_base.specs.declared.letters.Letter.{Letter}
use Rattle.lin_rows.specs.Rows.{LinearRow}
use Rattle.letter_acts.specs.Frames.{Columns, is_local, globals_of, variables_of, result_columns}
use Rattle.letter_acts.specs.Acts.{PlainAct, inside_act, call_act, back_act, Alphabet, frame_of, act_of}
use Rattle.letter_acts.specs.FrameRows.Rows.{columns_from, renamed, equal_row, bounds, types_of, types_at}
use Rattle.letter_acts.specs.FrameRows.Frames.{is_old}

-- Where the path of a word has come to: how many columns are made, the versions of the present frame's columns, and those
-- of the frames before the open calls, innermost first.
pub record PathStage : Type 0 where
  pub made : ℕ
  pub here : List ℕ
  pub saved : List (List ℕ)

-- What a letter makes: its own rows, the entry rows and bounds of new columns, how many columns; and where the path then is.
pub record Part : Type 0 where
  pub own : List LinearRow
  pub entries : List LinearRow
  pub bounds : List LinearRow
  pub columns : ℕ
  pub after : PathStage

-- the rows of a letter, in order
abbrev pub part_rows : Part → List LinearRow
part_rows p = p.own ++ (p.entries ++ p.bounds)

-- the versions of a frame with these columns written, one after the other, as long as both lists last
abbrev pub written_over : List ℕ → List ℕ → List ℕ → List ℕ
written_over here [] news = here
written_over here (c ∷ cs) [] = here
written_over here (c ∷ cs) (v ∷ vs) = written_over (slice_set here c v) cs vs

-- ---- inside letters

-- An inside letter makes a column for each one that it writes, in order, and then its helpers.
abbrev pub inside_part : Columns → List ℕ → ℕ → List LinearRow → PathStage → Part
inside_part frame written helpers rows p =
    let count = length written + helpers in
    let names = p.here ++ columns_from p.made count in
    record {
      own = map (renamed (slice_index names)) rows;
      entries = [];
      bounds = bounds p.made (types_at frame written);
      columns = count;
      after = record {
        made = p.made + count;
        here = written_over p.here written (columns_from p.made (length written));
        saved = p.saved;
      };
    }

-- ---- calls

-- the parameters, results and locals of a frame
abbrev pub local_columns : Columns → Columns
local_columns frame = filter is_local frame

-- its old columns
abbrev pub old_part : Columns → Columns
old_part frame = filter is_old frame

-- the versions at the entry of a callee, whose locals begin at one column and whose old columns begin at another: the
-- constants and globals are the caller's
abbrev pub entered_versions : Columns → ℕ → ℕ → List ℕ → List ℕ
entered_versions callee locals olds here =
    take (length (globals_of callee)) here ++ (columns_from olds (length (old_part callee)) ++ columns_from locals (length (local_columns callee)))

-- each column from n on equals one of these: `old - global = 0`
abbrev pub entry_rows : ℕ → List ℕ → List LinearRow
entry_rows n [] = []
entry_rows n (g ∷ gs) = equal_row n g ∷ entry_rows (suc n) gs

-- A call makes a column for each parameter, result and local of the callee, then its helpers, then a column for each old
-- column of the callee, which equals the caller's version of that global.
abbrev pub call_part : Columns → ℕ → List LinearRow → PathStage → Part
call_part callee helpers rows p =
    let locals = length (local_columns callee) in
    let olds = p.made + locals + helpers in
    let count = locals + helpers + length (old_part callee) in
    let entry = entered_versions callee p.made olds p.here in
    let names = p.here ++ (entry ++ columns_from (p.made + locals) helpers) in
    record {
      own = map (renamed (slice_index names)) rows;
      entries = entry_rows olds (map (slice_index p.here) (variables_of callee));
      bounds = bounds p.made (types_of (local_columns callee)) ++ bounds olds (types_of (old_part callee));
      columns = count;
      after = record { made = p.made + count; here = entry; saved = p.here ∷ p.saved };
    }

-- ---- returns

-- the versions after a return: of the constants and globals those of the exit, into each target the callee's result in its
-- place, also where the target is a global, and the rest as before the call
abbrev pub returned : Columns → Columns → List ℕ → List ℕ → List ℕ → List ℕ
returned caller callee targets exit before =
    written_over (take (length (globals_of caller)) exit ++ drop (length (globals_of caller)) before) targets (map (slice_index exit) (result_columns callee))

-- what makes neither rows nor columns and leads to these versions
abbrev pub rowless_part : PathStage → Part
rowless_part p = record { own = []; entries = []; bounds = []; columns = 0; after = p }

-- a return makes nothing
abbrev pub back_part : Columns → Columns → List ℕ → ℕ → List ℕ → List (List ℕ) → Part
back_part caller callee targets made exit [] = rowless_part (record { made = made; here = exit; saved = [] })
back_part caller callee targets made exit (before ∷ saved) =
    rowless_part (record { made = made; here = returned caller callee targets exit before; saved = saved })

-- ---- letters

-- what a return with these targets makes, whose call has this act
abbrev pub return_part : Alphabet → List ℕ → Option PlainAct → PathStage → Part
return_part al targets None p = rowless_part p
return_part al targets (Some (inside_act q written helpers rows)) p = rowless_part p
return_part al targets (Some (call_act caller callee helpers rows)) p =
    back_part (frame_of al caller) (frame_of al callee) targets p.made p.here p.saved
return_part al targets (Some (back_act c more)) p = rowless_part p

-- what a letter with this act makes
abbrev pub act_part : Alphabet → Option PlainAct → PathStage → Part
act_part al None p = rowless_part p
act_part al (Some (inside_act q written helpers rows)) p = inside_part (frame_of al q) written helpers rows p
act_part al (Some (call_act caller callee helpers rows)) p = call_part (frame_of al callee) helpers rows p
act_part al (Some (back_act c targets)) p = return_part al targets (slice_get al.acts c) p

-- what a letter makes
abbrev pub part_of : Alphabet → Letter → PathStage → Part
part_of al a p = act_part al (act_of al a) p
