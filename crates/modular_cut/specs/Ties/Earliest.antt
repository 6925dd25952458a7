-- The earliest of several places of a text.
use Rattle.std.specs.Prelude.{Bool, List, [], ◌∷◌, Option, None, Some, if◌then◌else◌}
use Rattle.boogie_tree.specs.declared.span.Span.{Span}
use Rattle.boogie_tree.specs.Spans.{stands_before}

-- the one that is told so far, unless the other stands before it
abbrev pub earlier : Option Span → Span → Option Span
earlier None s = Some s
earlier (Some a) s = if stands_before s a then Some s else Some a

-- the earliest of these and of the one that is told so far
abbrev pub earliest : Option Span → List Span → Option Span
earliest so_far [] = so_far
earliest so_far (s ∷ ss) = earliest (earlier so_far s) ss
