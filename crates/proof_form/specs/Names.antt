-- How columns are named.
use Rattle.std.specs.Prelude.{ℕ, Bool, false, ◌&&◌, ◌||◌, nat_eq, List, ◌∷◌}
use Rattle.boogie_tree.specs.Names.{is_spelled}

-- what a column is: `g` a global or a constant, `o` an old value, `l` a local
abbrev pub is_column_mark : ℕ → Bool
is_column_mark b = nat_eq b 103 || (nat_eq b 111 || nat_eq b 108)

-- `g:`, `o:` or `l:`, followed by a name
abbrev pub is_column : List ℕ → Bool
is_column (a ∷ b ∷ bs) = is_column_mark a && (nat_eq b 58 && is_spelled bs)
is_column bs = false
