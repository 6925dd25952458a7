-- What a limit depends on.
use Rattle.std.specs.Prelude.{◌≡◌, ℕ, List, ◌∷◌, ◌++◌, Result, Err}
use Rattle.boogie_parse.specs.declared.fault.Fault.{Fault}
use Rattle.boogie_parse.specs.declared.fault.Fault.TheVariants as faults
use Rattle.boogie_parse.specs.declared.fault.Which.{Which}
use Rattle.boogie_parse.specs.declared.symbols.Symbol.{Symbol}
use Rattle.boogie_parse.specs.Reading.Outcomes.{limit_fault}

-- That limit stands at one of the symbols, and is the same fault whatever follows this one.
pub record IsSettled (X : Type 0) (reads : List Symbol → Result X Fault) (ts : List Symbol) (kind : Which) (line col : ℕ) : Type 0 where
  pub before : List Symbol
  pub symbol : Symbol
  pub after : List Symbol
  pub parts : ts ≡ before ++ symbol ∷ after
  pub place : limit_fault kind symbol.span ≡ faults.Limit kind line col
  pub settled : (more : List Symbol) → reads (before ++ symbol ∷ more) ≡ Err (faults.Limit kind line col)
