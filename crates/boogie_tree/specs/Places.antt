-- Where parts of a text stand: lines and columns count from 1.
use Rattle.boogie_tree.specs.declared.span.Span.{Span}

-- the place of a text's first byte
abbrev pub beginning : Span
beginning = record { line = 1; col = 1 }
