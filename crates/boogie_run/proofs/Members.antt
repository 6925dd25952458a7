-- Members of lists of numbers.
use Rattle.std.proofs.Common.{◌≡◌, ◌<◌, ◌≤◌, ℕ, zero, suc, ℤ, pos, List, [], ◌∷◌, map, length, slice_index_or, slice_get, Result, Ok, refl, arith}
use Rattle.typed_tree.specs.declared.types.TExpr.{TExpr}
use Rattle.typed_tree.specs.TypedView.{expression}
use Rattle.typed_tree.specs.Values.{State, member, value, PartsFit}
use Rattle.boogie_run.specs.declared.types.RunFault.{RunFault}
use Rattle.boogie_run.specs.Steps.{values}
use Rattle.boogie_run.specs.Fitting.{ArgumentFits, AllFit}
use Rattle.boogie_run.specs.Evaluated.{IsValue}

-- a member that is there
pub member_there : (zs : List ℤ) (n : ℕ) (d : ℤ) → n < length zs → member zs n ≡ slice_index_or zs n d
member_there [] n d h = absurd (omega arith)
member_there (z ∷ zs) zero d h = refl
member_there (z ∷ zs) (suc n) d h = member_there zs n d (omega arith)

-- a number past the end
pub member_past : (zs : List ℤ) (n : ℕ) → length zs ≤ n → member zs n ≡ pos 0
member_past [] n h = refl
member_past (z ∷ zs) zero h = absurd (omega arith)
member_past (z ∷ zs) (suc n) h = member_past zs n (omega arith)

pub ruleset members = (member_there, member_past)

-- the value of an argument that is there
pub passed_there : (s : State) (es : List TExpr) (n : ℕ) (e : TExpr) (r : Result ℤ RunFault) → n < length es → e ≡ slice_index_or es n e →
    IsValue (value s (expression e)) (PartsFit s (expression e)) r →
    IsValue (member (values s (map expression es)) n) (ArgumentFits s (slice_get (map expression es) n)) r
passed_there s [] n e r h g v = absurd (omega arith)
passed_there s (a ∷ es) zero e r h g v = rw (← g) v
passed_there s (a ∷ es) (suc n) e r h g v = passed_there s es n e r (omega arith) g v

-- an argument past the end
pub passed_past : (s : State) (es : List TExpr) (n : ℕ) → length es ≤ n →
    IsValue (member (values s (map expression es)) n) (ArgumentFits s (slice_get (map expression es) n)) (Ok (pos 0))
passed_past s [] n h = (refl, omega arith, tt)
passed_past s (a ∷ es) zero h = absurd (omega arith)
passed_past s (a ∷ es) (suc n) h = passed_past s es n (omega arith)

-- where the values of all parts fit, those of one expression do
pub not_all : (s : State) (es : List TExpr) (i : ℕ) (e : TExpr) → i < length es → e ≡ slice_index_or es i e → (PartsFit s (expression e) → ⊥) →
    AllFit s (map expression es) → ⊥
not_all s [] i e h g n f = absurd (omega arith)
not_all s (a ∷ es) zero e h g n f = n (rw g f.0)
not_all s (a ∷ es) (suc i) e h g n f = not_all s es i e (omega arith) g n f.1
