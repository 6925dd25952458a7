-- A statement that the code adds to its list, as contracts see it.
use Rattle.std.proofs.Common.{◌≡◌, List, [], ◌∷◌, ◌++◌, sym, ap, ◌∙◌}
use Rattle.boogie_tree.specs.declared.tree.Stmt.{Stmt}
use Rattle.boogie_tree.specs.Tree.{Statement}
use Rattle.boogie_tree.specs.View.{statement}
use Rattle.boogie_parse.specs.declared.symbols.Symbol.{Symbol}
use Rattle.boogie_parse.specs.Reading.Outcomes.{ReadResult}
use Rattle.boogie_parse.specs.Reading.ListReading.{read, there}

pub added : (old new : List Stmt) (s : Stmt) (v : Statement) (x : ReadResult Statement) (ts : List Symbol) → new ≡ old ++ s ∷ [] → statement s ≡ v → x ≡ read v ts
    → (t : Stmt) × (new ≡ old ++ t ∷ []) × (x ≡ read (statement t) ts)
added old new s v x ts e seen is = (s, e, is ∙ ap (λ w. read w ts) (sym seen))

-- the same where it is told that one stands there
pub added_if : (old new : List Stmt) (s : Stmt) (v : Statement) (x : ReadResult Statement) (ts : List Symbol) → new ≡ old ++ s ∷ [] → statement s ≡ v → x ≡ read v ts
    → (t : Stmt) × (new ≡ old ++ t ∷ []) × (there x ≡ there (read (statement t) ts))
added_if old new s v x ts e seen is = (s, e, ap there (is ∙ ap (λ w. read w ts) (sym seen)))
