-- What reading gives: a value and the symbols behind it, or a fault. The functions that read follow the code step by step; the laws lead from them to the grammar.
use Rattle.std.specs.Prelude.{List, [], ◌∷◌, Result, Ok, Err}
use Rattle.boogie_tree.specs.declared.span.Span.{Span}
use Rattle.boogie_parse.specs.declared.fault.Fault.{Fault}
use Rattle.boogie_parse.specs.declared.fault.Fault.TheVariants as faults
use Rattle.boogie_parse.specs.declared.fault.Which.{Which}
use Rattle.boogie_parse.specs.declared.symbols.Symbol.{Symbol}

pub record Read (X : Type 0) : Type 0 where
  pub value : X
  pub rest : List Symbol

abbrev pub ReadResult : Type 0 → Type 0
ReadResult X = Result (Read X) Fault

-- the place of the first symbol, or just past the text's end
abbrev pub place_or : Span → List Symbol → Span
place_or end [] = end
place_or end (t ∷ ts) = t.span

abbrev pub syntax_fault : Span → Fault
syntax_fault here = faults.Syntax here.line here.col

abbrev pub limit_fault : Which → Span → Fault
limit_fault which here = faults.Limit which here.line here.col

-- the first symbol can't stand there
abbrev pub refused : {X : Type 0} → Span → List Symbol → ReadResult X
refused end ts = Err (syntax_fault (place_or end ts))

-- what follows goes on from the value and the symbols behind it
abbrev pub and_then : {X Y : Type 0} → ReadResult X → (X → List Symbol → ReadResult Y) → ReadResult Y
and_then (Ok x) go = go x.value x.rest
and_then (Err f) go = Err f
