-- Columns by their numbers.
use Rattle.std.proofs.Common.{◌≡◌, nat_eq, List, [], ◌∷◌, map, refl, arith}
use Rattle.std.specs.List.{list_any}
use Rattle.std.proofs.lemmas.Bool.Decides.{nat_tests}
use Rattle.boogie_tree.specs.declared.tree.Column.{Column}
use Rattle.boogie_tree.specs.declared.tree.Column.TheVariants as columns
use Rattle.typed_tree.specs.TypingRules.Rules.{all_differ, same_column}
use Rattle.typed_tree.specs.TypingRules.Ties.ColumnKey.{column_key}

key_alike : (a b : Column) → nat_eq (column_key a) (column_key b) ≡ same_column a b
key_alike (columns.Global a) (columns.Global b) = grind (arith, nat_tests)
key_alike (columns.Global a) (columns.Old b) = grind (arith, nat_tests)
key_alike (columns.Global a) (columns.Local b) = grind (arith, nat_tests)
key_alike (columns.Old a) (columns.Global b) = grind (arith, nat_tests)
key_alike (columns.Old a) (columns.Old b) = grind (arith, nat_tests)
key_alike (columns.Old a) (columns.Local b) = grind (arith, nat_tests)
key_alike (columns.Local a) (columns.Global b) = grind (arith, nat_tests)
key_alike (columns.Local a) (columns.Old b) = grind (arith, nat_tests)
key_alike (columns.Local a) (columns.Local b) = grind (arith, nat_tests)

any_alike : (c : Column) (cs : List Column) → list_any (nat_eq (column_key c)) (map column_key cs) ≡ list_any (same_column c) cs
any_alike c [] = refl
any_alike c (d ∷ cs) = rw (key_alike c d, any_alike c cs) refl

-- columns differ where their numbers do
pub keys_differ : (cs : List Column) → all_differ nat_eq (map column_key cs) ≡ all_differ same_column cs
keys_differ [] = refl
keys_differ (c ∷ cs) = rw (any_alike c cs, keys_differ cs) refl
