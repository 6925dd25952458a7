-- Lists of rows that keep what rows keep.
use Rattle.std.proofs.Common.{◌≡◌, List, [], ◌∷◌, ◌++◌, sym, subst}
use Rattle.std.specs.List.{AllByRecursion}
use Rattle.lin_rows.specs.Rows.{LinearRow, IsRow}
use Rattle.triple_rows.proofs.ListLaws.{all_joined}

-- and so does one with a row more
pub rows_pushed : (now new : List LinearRow) (row : LinearRow) → new ≡ now ++ row ∷ [] → AllByRecursion IsRow now → IsRow row → AllByRecursion IsRow new
rows_pushed now new row e h r = subst (AllByRecursion IsRow) (sym e) ((all_joined IsRow now (row ∷ [])).1 (h, (r, tt)))
