-- Arguments in place of parameters, and calls without body: what stands for the columns has the values of the state.
use Rattle.std.proofs.Common.{◌≡◌, ℕ, zero, suc, ◌<◌, ◌≤◌, true, false, ℤ, List, [], ◌∷◌, ◌++◌, map, Option, None, Some, refl, subst, arith}
use Rattle.std.specs.Prelude.{slice_get}
use Rattle.std.specs.Option.{option_map}
use Rattle.std.specs.List.{AllByRecursion}
use Rattle.boogie_tree.specs.declared.tree.Ty.{Ty}
use Rattle.boogie_tree.specs.declared.tree.Ty.TheVariants as types
use Rattle.boogie_tree.specs.declared.tree.Column.{Column}
use Rattle.boogie_tree.specs.declared.tree.Column.TheVariants as columns
use Rattle.typed_tree.specs.TypedTree.{TypedExpression}
use Rattle.typed_tree.specs.Values.{State, column_value, at_entry, member, value}
use Rattle.typed_tree.specs.AffineForm.{is_linear}
use Rattle.typed_tree.specs.Laws.{IsTruth, FixedStay}
use Rattle.letter_acts.specs.Frames.{IsValue}
use Rattle.cond_jumps.specs.Forms.{column}
use Rattle.cond_jumps.specs.Environments.{Environment}
use Rattle.cond_jumps.specs.Passing.{Standing, Same, Numbered, Passed, standing_type, standing_sum, standing_plan, standing_environment, passed, passed_state, left_in, passed_locals, imported, imported_state}
use Rattle.cond_jumps.specs.Worth.{IsSum, IsChoice, Shows}
use Rattle.cond_jumps.proofs.FormLemmas.{column_sum}
use Rattle.cond_jumps.proofs.LinearLemmas.{linear_form}
use Rattle.cond_jumps.proofs.PathLemmas.{paths_mean}
use Rattle.cond_jumps.proofs.AssignLemmas.{sum_later, choice_later}
use Rattle.cond_jumps.proofs.FrameLemmas.{named_choice}

-- what stands there has this value: another column has it, a numbered column holds a value of its type, an expression is worth it
abbrev pub IsStanding : ℕ → (ℕ → ℤ) → Environment → State → Option Standing → ℤ → Type 0
IsStanding m p v s None z = Unit {0}
IsStanding m p v s (Some (Same c)) z = column_value s c ≡ z
IsStanding m p v s (Some (Numbered c t)) z = (c < m) × (p c ≡ z) × IsValue t z
IsStanding m p v s (Some (Passed e)) z = (is_linear v.fixed false e ≡ true) × (value s e ≡ z)

standing_sum_is : (w m : ℕ) (p : ℕ → ℤ) (v : Environment) (s : State) → Shows w p v s → w ≤ m → (o : Option Standing) (z : ℤ) → IsStanding m p v s o z →
    standing_type v o ≡ Some types.Int → IsSum m p (standing_sum v o) z
standing_sum_is w m p v s h l None z k t = absurd (cc)
standing_sum_is w m p v s h l (Some (Same c)) z k t = subst (IsSum m p (v.sum c)) k (sum_later w m p (v.sum c) (column_value s c) l (h.sums c t))
standing_sum_is w m p v s h l (Some (Numbered c u)) z k t = subst (IsSum m p (column c)) k.1 (column_sum m p c k.0)
standing_sum_is w m p v s h l (Some (Passed e)) z k t =
    subst (IsSum m p (standing_sum v (Some (Passed e)))) k.1 (sum_later w m p (standing_sum v (Some (Passed e))) (value s e) l (linear_form w p v s h false e t k.0))

truth_of : (t : Ty) (z : ℤ) → t ≡ types.Bool → IsValue t z → IsTruth z
truth_of types.Int z e h = absurd (cc)
truth_of types.Bool z e h = h

standing_choice_is : (w m : ℕ) (p : ℕ → ℤ) (v : Environment) (s : State) → Shows w p v s → w ≤ m → (o : Option Standing) (z : ℤ) → IsStanding m p v s o z →
    standing_type v o ≡ Some types.Bool → IsChoice m p (standing_plan v o) z
standing_choice_is w m p v s h l None z k t = absurd (cc)
standing_choice_is w m p v s h l (Some (Same c)) z k t = subst (IsChoice m p (v.plan c)) k (choice_later w m p (v.plan c) (column_value s c) l (h.choices c t))
standing_choice_is w m p v s h l (Some (Numbered c u)) z k t = named_choice m p c z k.0 k.1 (truth_of u z (let e : u ≡ types.Bool = cc in e) k.2)
standing_choice_is w m p v s h l (Some (Passed e)) z k t =
    subst (IsChoice m p (standing_plan v (Some (Passed e)))) k.1 (choice_later w m p (standing_plan v (Some (Passed e))) (value s e) l (paths_mean w p v s h false e t k.0))

-- what stands for the columns has the values of another state
pub standing_shows : (w m : ℕ) (p : ℕ → ℤ) (v : Environment) (s u : State) → Shows w p v s → w ≤ m → (stands : Column → Option Standing) →
    ((c : Column) → IsStanding m p v s (stands c) (column_value u c)) → FixedStay v.fixed u → Shows m p (standing_environment v stands) u
standing_shows w m p v s u h l stands k f =
    record {
      constants = f;
      sums = λ c t. standing_sum_is w m p v s h l (stands c) (column_value u c) (k c) t;
      choices = λ c t. standing_choice_is w m p v s h l (stands c) (column_value u c) (k c) t;
    }

-- ---- arguments in place of parameters

argument_stands : (m : ℕ) (p : ℕ → ℤ) (v : Environment) (s : State) (args : List TypedExpression) → AllByRecursion (λ e. is_linear v.fixed false e ≡ true) args → (n : ℕ) →
    IsStanding m p v s (option_map Passed (slice_get args n)) (member (map (value s) args) n)
argument_stands m p v s [] h n = tt
argument_stands m p v s (e ∷ es) h zero = (h.0, refl)
argument_stands m p v s (e ∷ es) h (suc n) = argument_stands m p v s es h.1 n

-- A condition of a called procedure may be read at the caller with the arguments in place of the parameters.
pub passed_show : (w : ℕ) (p : ℕ → ℤ) (v : Environment) (s : State) → Shows w p v s → (args : List TypedExpression) →
    AllByRecursion (λ e. is_linear v.fixed false e ≡ true) args → Shows w p (standing_environment v (passed args)) (passed_state s args)
passed_show w p v s h args k = standing_shows w w p v s (passed_state s args) h (omega arith) (passed args) (λ c. stands c) (λ c. stay c)
  where
    stay : (c : Column) → v.fixed c ≡ true → column_value (at_entry (passed_state s args)) c ≡ column_value (passed_state s args) c
    stay (columns.Global n) e = h.constants (columns.Global n) e
    stay (columns.Old n) e = refl
    stay (columns.Local n) e = refl

    stands : (c : Column) → IsStanding w p v s (passed args c) (column_value (passed_state s args) c)
    stands (columns.Global n) = refl
    stands (columns.Old n) = refl
    stands (columns.Local n) = argument_stands w p v s args k n

-- ---- calls without body

-- a global after the call: in its new column, or as before
abbrev pub IsLeft : ℕ → (ℕ → ℤ) → State → List ℤ → ℕ → Option (ℕ × Ty) → Type 0
IsLeft m p s globals n None = member s.globals n ≡ member globals n
IsLeft m p s globals n (Some x) = (x.0 < m) × (p x.0 ≡ member globals n) × IsValue x.1 (member globals n)

-- the columns of results have these values, of their types
abbrev pub AreResults : ℕ → (ℕ → ℤ) → List (ℕ × Ty) → List ℤ → Type 0
AreResults m p [] zs = Unit {0}
AreResults m p (r ∷ rs) [] = ⊥
AreResults m p (r ∷ rs) (z ∷ zs) = (r.0 < m) × (p r.0 ≡ z) × IsValue r.1 z × AreResults m p rs zs

global_stands : (m : ℕ) (p : ℕ → ℤ) (v : Environment) (s : State) (globals : List ℤ) (n : ℕ) (o : Option (ℕ × Ty)) → IsLeft m p s globals n o →
    IsStanding m p v s (Some (left_in n o)) (member globals n)
global_stands m p v s globals n None h = h
global_stands m p v s globals n (Some x) h = h

local_stands : (m : ℕ) (p : ℕ → ℤ) (v : Environment) (s : State) (args : List TypedExpression) (results : List (ℕ × Ty)) (zs : List ℤ) →
    AllByRecursion (λ e. is_linear v.fixed false e ≡ true) args → AreResults m p results zs → (n : ℕ) →
    IsStanding m p v s (slice_get (passed_locals args results) n) (member (map (value s) args ++ zs) n)
local_stands m p v s (e ∷ es) results zs h k zero = (h.0, refl)
local_stands m p v s (e ∷ es) results zs h k (suc n) = local_stands m p v s es results zs h.1 k n
local_stands m p v s [] [] zs h k n = tt
local_stands m p v s [] (r ∷ rs) [] h k n = absurd k
local_stands m p v s [] (r ∷ rs) (z ∷ zs) h k zero = (k.0, k.1, k.2)
local_stands m p v s [] (r ∷ rs) (z ∷ zs) h k (suc n) = local_stands m p v s [] rs zs h k.3 n

-- An ensures of a called procedure without body may be read at the caller.
pub import_show : (w m : ℕ) (p : ℕ → ℤ) (v : Environment) (s : State) → Shows w p v s → w ≤ m → (written : ℕ → Option (ℕ × Ty)) (args : List TypedExpression)
    (results : List (ℕ × Ty)) (globals zs : List ℤ) → AllByRecursion (λ e. is_linear v.fixed false e ≡ true) args → ((n : ℕ) → IsLeft m p s globals n (written n)) →
    AreResults m p results zs → ((n : ℕ) → v.fixed (columns.Global n) ≡ true → member s.globals n ≡ member globals n) →
    Shows m p (standing_environment v (imported written args results)) (imported_state s globals args zs)
import_show w m p v s h l written args results globals zs k g r f =
    standing_shows w m p v s (imported_state s globals args zs) h l (imported written args results) (λ c. stands c) (λ c. stay c)
  where
    stay : (c : Column) → v.fixed c ≡ true → column_value (at_entry (imported_state s globals args zs)) c ≡ column_value (imported_state s globals args zs) c
    stay (columns.Global n) e = f n e
    stay (columns.Old n) e = refl
    stay (columns.Local n) e = refl

    stands : (c : Column) → IsStanding m p v s (imported written args results c) (column_value (imported_state s globals args zs) c)
    stands (columns.Global n) = global_stands m p v s globals n (written n) (g n)
    stands (columns.Old n) = refl
    stands (columns.Local n) = local_stands m p v s args results zs k r n
