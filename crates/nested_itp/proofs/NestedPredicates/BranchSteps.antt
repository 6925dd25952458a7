-- The branches of a refutation from its root on.
use Rattle.std.proofs.Common.{◌≡◌, ℕ, List, [], ◌∷◌, Result, subst}
use Rattle.std.specs.Prelude.{IfOk}
use Rattle.lin_rows.specs.Rows.{LinearRow}
use Rattle.nested_itp.specs.declared.nested_predicates.branches.Branches.{Branches}
use Rattle.nested_itp.specs.NestedPredicates.Sums.{Branch}
use Rattle.nested_itp.specs.NestedPredicates.Tables.{Await}

-- an equal branch waits alone
pub same_await : (s : Branches) (rows rows_at : List LinearRow) (stamps stamps_at : List ℕ) → rows ≡ rows_at → stamps ≡ stamps_at →
    Await s (record { rows = rows; stamps = stamps } ∷ []) → Await s (record { rows = rows_at; stamps = stamps_at } ∷ [])
same_await s rows rows_at stamps stamps_at e f a = subst (λ (b : Branch). Await s (b ∷ [])) (λ i. record { rows = e i; stamps = f i }) a

pub roots_await : {E : Type 0} (r : Result Branches E) (rows rows_at : List LinearRow) (stamps stamps_at : List ℕ) → rows ≡ rows_at → stamps ≡ stamps_at →
    IfOk r (λ s. Await s (record { rows = rows; stamps = stamps } ∷ [])) → IfOk r (λ s. Await s (record { rows = rows_at; stamps = stamps_at } ∷ []))
roots_await r rows rows_at stamps stamps_at e f a = subst (λ (b : Branch). IfOk r (λ s. Await s (b ∷ []))) (λ i. record { rows = e i; stamps = f i }) a
