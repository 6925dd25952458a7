-- What a call that ends by a fault owes.
use Rattle.std.proofs.Common.{◌≡◌, Result, Ok, Err, sym, subst, refl}
use Rattle.std.specs.Result.{IsErrAnd, MatchResult}
use Rattle.lin_rows.specs.declared.types.RowFault.{RowFault}
use Rattle.lin_rows.specs.declared.types.RowFault.TheVariants as row_fault
use Rattle.fm_elim.specs.declared.types.ElimFault.{ElimFault}
use Rattle.fm_elim.specs.declared.types.ElimFault.TheVariants.{Past, Memory}
use Rattle.fm_elim.specs.Answers.{fault_of, PastOnly, Exactly}

-- want of memory
pub exit_memory : {X : Type 0} (r : Result X ElimFault) (P : X → Type 0) (F : Type 0) → IsErrAnd r (λ e. e ≡ Memory) → Exactly r P F
exit_memory (Ok x) P F h = absurd h
exit_memory (Err e) P F h = subst (λ f. PastOnly f F) (sym h) tt

past_weaker : (e : ElimFault) (F G : Type 0) → (F → G) → PastOnly e G → PastOnly e F
past_weaker Past F G f h = λ x. h (f x)
past_weaker Memory F G f h = tt

-- the fault of a part
pub exit_part : {X : Type 0} (r : Result X ElimFault) (P : X → Type 0) (F G : Type 0) (e : ElimFault) → (F → G) → PastOnly e G → IsErrAnd r (λ f. f ≡ e) → Exactly r P F
exit_part (Ok x) P F G e f h i = absurd i
exit_part (Err d) P F G e f h i = subst (λ x. PastOnly x F) (sym i) (past_weaker e F G f h)

-- a number that does not fit
pub exit_past : {X : Type 0} (r : Result X ElimFault) (P : X → Type 0) (F : Type 0) → (F → ⊥) → IsErrAnd r (λ e. e ≡ Past) → Exactly r P F
exit_past (Ok x) P F n h = absurd h
exit_past (Err e) P F n h = subst (λ f. PastOnly f F) (sym h) n

-- the fault of a row
pub exit_row : {X : Type 0} (r : Result X ElimFault) (P : X → Type 0) (F G : Type 0) (e : RowFault) → (F → G) → (e ≡ row_fault.Past → G → ⊥) →
    IsErrAnd r (λ f. f ≡ fault_of e) → Exactly r P F
exit_row (Ok x) P F G e f h i = absurd i
exit_row (Err d) P F G row_fault.Past f h i = subst (λ x. PastOnly x F) (sym i) (λ x. h refl (f x))
exit_row (Err d) P F G row_fault.Memory f h i = subst (λ x. PastOnly x F) (sym i) tt

-- the fault of a step
pub exit_step : {X : Type 0} (r : Result X ElimFault) (P : X → Type 0) (F G : Type 0) (e : ElimFault) → (F → G) → PastOnly e G → IsErrAnd r (λ f. f ≡ e) → MatchResult r P (λ f. PastOnly f F)
exit_step (Ok x) P F G e f h i = absurd i
exit_step (Err d) P F G e f h i = subst (λ x. PastOnly x F) (sym i) (past_weaker e F G f h)
