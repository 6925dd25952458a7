-- Where bytes stand in a text: lines count line feeds from 1, columns count bytes from 1.
use Rattle.std.specs.Prelude.{ℕ, ◌+◌, ◌==◌, List, [], ◌∷◌, if◌then◌else◌}
use Rattle.boogie_tree.specs.declared.span.Span.{Span}

-- the place behind a byte that stands here
abbrev pub behind_byte : ℕ → Span → Span
behind_byte b here = if b == 10 then (record { line = here.line + 1; col = 1 }) else (record { line = here.line; col = here.col + 1 })

-- the place behind bytes that begin here
abbrev pub behind : List ℕ → Span → Span
behind [] here = here
behind (b ∷ bs) here = behind bs (behind_byte b here)
