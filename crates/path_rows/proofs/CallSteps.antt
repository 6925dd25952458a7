-- What the code makes of a call, by the counts that it has read.
use Rattle.std.proofs.Common.{◌≡◌, ◌∙◌, ℕ, ◌+◌, ◌-◌, ◌≤◌, ◌^◌, List, [], ◌++◌, length, map, Option, Some, sym, ap, subst, arith}
use Rattle.std.specs.Prelude.{slice_index}
use Rattle.std.proofs.lemmas.List.{length-map}
use Rattle.boogie_tree.specs.declared.tree.Column.{Column}
use Rattle.boogie_tree.specs.declared.tree.VarInfo.{VarInfo}
use Rattle.boogie_tree.specs.declared.tree.Ty.{Ty}
use Rattle.lin_rows.specs.Rows.{LinearRow}
use Rattle.letter_acts.specs.Frames.{Columns, variables_of}
use Rattle.path_rows.specs.declared.parts.Made.{Made}
use Rattle.letter_acts.specs.FrameRows.Rows.{renamed, bounds, types_of, columns_from, RowsAreNamed}
use Rattle.path_rows.specs.Versions.{entered_versions, entry_rows, call_part, local_columns, old_part}
use Rattle.path_rows.specs.Drafts.{IsMade}

pub types_counted : (n : ℕ) (ts : List (Option Ty)) (columns : Columns) → n ≡ length ts → ts ≡ types_of columns → n ≡ length columns
types_counted n ts columns e f = e ∙ ap (λ (l : List (Option Ty)). length l) f ∙ length-map columns (λ (v : Column × VarInfo). Some v.1.ty)

pub room_left : (made columns : ℕ) → made ≤ 2 ^ 32 → columns ≤ 2 ^ 32 - made → made + columns ≤ 2 ^ 32
room_left made columns r l = omega (arith, r, l)

-- the rows are named by the versions that were read
pub call_named : (callee : Columns) (helpers made locals : ℕ) (here entry : List ℕ) (rows : List LinearRow) → locals ≡ length (local_columns callee) →
    entry ≡ entered_versions callee made (made + locals + helpers) here →
    RowsAreNamed (here ++ (entered_versions callee made (made + length (local_columns callee) + helpers) here ++ columns_from (made + length (local_columns callee)) helpers)) rows →
    RowsAreNamed (here ++ (entry ++ columns_from (made + locals) helpers)) rows
call_named callee helpers made locals here entry rows l e h =
    subst (λ (en : List ℕ). RowsAreNamed (here ++ (en ++ columns_from (made + locals) helpers)) rows) (sym e)
    (subst (λ (n : ℕ). RowsAreNamed (here ++ (entered_versions callee made (made + n + helpers) here ++ columns_from (made + n) helpers)) rows) (sym l) h)

pub call_is : (callee : Columns) (helpers made locals olds : ℕ) (here entry : List ℕ) (rows own : List LinearRow) (local_types old_types : List (Option Ty)) (m : Made) →
    locals ≡ length (local_columns callee) → olds ≡ length (old_part callee) → local_types ≡ types_of (local_columns callee) → old_types ≡ types_of (old_part callee) →
    entry ≡ entered_versions callee made (made + locals + helpers) here → own ≡ map (renamed (slice_index (here ++ (entry ++ columns_from (made + locals) helpers)))) rows →
    m.rows.items ≡ own ++ (entry_rows (made + locals + helpers) (map (slice_index here) (variables_of callee)) ++ (bounds made local_types ++ bounds (made + locals + helpers) old_types)) →
    m.columns ≡ locals + helpers + olds → m.here.items ≡ entry → IsMade (call_part callee helpers rows (record { made = made; here = here; saved = [] })) m
call_is callee helpers made locals olds here entry rows own local_types old_types m l o lt ot e w r n h =
    let entries : ℕ → List LinearRow = λ k. entry_rows (made + k + helpers) (map (slice_index here) (variables_of callee)) in
    let named : ℕ → List ℕ → List LinearRow = λ k en. map (renamed (slice_index (here ++ (en ++ columns_from (made + k) helpers)))) rows in
    let first : ℕ → List ℕ = λ k. entered_versions callee made (made + k + helpers) here in
    let whole : ℕ → List LinearRow = λ k.
    named k (first k) ++ (entries k ++ (bounds made (types_of (local_columns callee)) ++ bounds (made + k + helpers) (types_of (old_part callee)))) in
    record {
      rows =
          r ∙ ap (λ (rs : List LinearRow). rs ++ (entries locals ++ (bounds made local_types ++ bounds (made + locals + helpers) old_types))) w ∙
          ap (λ (en : List ℕ). named locals en ++ (entries locals ++ (bounds made local_types ++ bounds (made + locals + helpers) old_types))) e ∙
          ap (λ (ts : List (Option Ty)). named locals (first locals) ++ (entries locals ++ (bounds made ts ++ bounds (made + locals + helpers) old_types))) lt ∙
          ap (λ (ts : List (Option Ty)). named locals (first locals) ++ (entries locals ++ (bounds made (types_of (local_columns callee)) ++ bounds (made + locals + helpers) ts))) ot ∙
          ap whole l;
      columns = n ∙ ap (λ (k : ℕ). k + helpers + olds) l ∙ ap (λ (k : ℕ). length (local_columns callee) + helpers + k) o;
      here = h ∙ e ∙ ap first l;
    }
