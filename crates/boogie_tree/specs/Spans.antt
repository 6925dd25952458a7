-- The order of places in a text.
use Rattle.std.specs.Prelude.{Bool, ◌&&◌, ◌||◌, nat_lt, nat_eq}
use Rattle.boogie_tree.specs.declared.span.Span.{Span}

-- the first stands before the second
abbrev pub stands_before : Span → Span → Bool
stands_before a b = nat_lt a.line b.line || (nat_eq a.line b.line && nat_lt a.col b.col)
