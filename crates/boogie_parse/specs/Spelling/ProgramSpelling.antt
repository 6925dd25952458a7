-- What the law on reading programs speaks of.
use Rattle.std.specs.Prelude.{◌≡◌, ℕ, ◌≤◌, List}
use Rattle.std.specs.List.{AllByRecursion}
use Rattle.boogie_tree.specs.Tree.{Declaration}
use Rattle.boogie_parse.specs.declared.symbols.Symbol.{Symbol}
use Rattle.boogie_parse.specs.Rules.GrammarProgram.{ReadsProgram, joined_groups}
use Rattle.boogie_parse.specs.Rules.GrammarLimits.{IsShallowDeclaration, variables_counted, procedures_counted}

-- The symbols are the program, where p parentheses and b blocks may be open at once, each declaration of the text may declare v variables, and the
-- program q procedures.
pub record Spells (p b v q : ℕ) (ts : List Symbol) (program : List Declaration) : Type 0 where
  pub groups : List (List Declaration)
  pub spelled : ReadsProgram p b ts groups
  pub declarations : program ≡ joined_groups groups
  pub shallow : AllByRecursion IsShallowDeclaration program
  pub few_variables : AllByRecursion (λ ds. variables_counted ds ≤ v) groups
  pub few_procedures : procedures_counted program ≤ q
