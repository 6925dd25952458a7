-- What outcomes and choices say.
use Rattle.std.proofs.Common.{◌≡◌, ℕ, zero, suc, Bool, true, false, ℤ, pos, negsuc, List, [], ◌∷◌, Option, None, Some, inl, inr, ◌⊎◌, refl, sym, ap, subst, ◌∙◌, arith, if◌then◌else◌}
use Rattle.std.specs.Prelude.{slice_get, nat_lt}
use Rattle.std.specs.List.{AllByRecursion}
use Rattle.std.proofs.lemmas.Bool.Decides.{nat_tests}
use Rattle.math_facts.specs.Optional.{or_zero}
use Rattle.boogie_tree.specs.declared.tree.Ty.{Ty}
use Rattle.boogie_tree.specs.declared.tree.Ty.TheVariants as types
use Rattle.boogie_tree.specs.declared.tree.Column.{Column}
use Rattle.boogie_tree.specs.declared.tree.Column.TheVariants as columns
use Rattle.boogie_tree.specs.declared.tree.VarInfo.{VarInfo}
use Rattle.typed_tree.specs.TypedTree.{TypedProgram}
use Rattle.letter_acts.specs.Frames.{IsValue}
use Rattle.boogie_run.specs.BoogiePoints.Points.{Point}
use Rattle.boogie_run.specs.Configurations.{Config}
use Rattle.boogie_run.specs.Needs.{need_of_type, need_of, need_of_column, is_taken, locals_at}
use Rattle.boogie_run.specs.Steps.{Outcome, Went, moved_to, went_if}
use Rattle.lowered_graph.specs.LoweredSteps.Moves.{IsTarget}

-- ---- outcomes

-- a step on that depends on a test
pub record WentIf (b : Bool) (x mid : Config) : Type 0 where
  pub true_is : b ≡ true
  pub same : x ≡ mid

pub went_if_true : (b : Bool) (x mid : Config) (o : Outcome) → (o ≡ Went mid → ⊥) → (if b then Went x else o) ≡ Went mid → WentIf b x mid
went_if_true true x mid o n e = record { true_is = refl; same = cc }
went_if_true false x mid o n e = absurd (n e)

pub record WentWay (o : Option Point) (c mid : Config) : Type 0 where
  pub way : Point
  pub is : o ≡ Some way
  pub same : moved_to c way ≡ mid

pub went_way : (o : Option Point) (c mid : Config) → went_if o c ≡ Went mid → WentWay o c mid
went_way None c mid e = absurd (cc)
went_way (Some p) c mid e = record { way = p; is = refl; same = cc }

pub all_at : {X : Type 0} (P : X → Type 0) (xs : List X) (n : ℕ) (x : X) → AllByRecursion P xs → slice_get xs n ≡ Some x → P x
all_at P [] n x h e = absurd (cc)
all_at P (y ∷ ys) zero x h e = let i : y ≡ x = cc in subst P i h.0
all_at P (y ∷ ys) (suc n) x h e = all_at P ys n x h.1 e

pub either_known : (P : Point → Type 0) (b : Bool) (hit miss : Point) → P hit → P miss → P (if b then hit else miss)
either_known P true hit miss h m = h
either_known P false hit miss h m = m

-- ---- choices

truth_taken : (n : ℕ) → nat_lt n 2 ≡ true → (pos n ≡ pos 0) ⊎ (pos n ≡ pos 1)
truth_taken zero e = inl refl
truth_taken (suc zero) e = inr refl
truth_taken (suc (suc n)) e = absurd (too_many n e)
  where
    too_many : (n : ℕ) → nat_lt (suc (suc n)) 2 ≡ true → ⊥
    too_many n e = grind (arith, nat_tests)

-- a choice that a type takes is a value of it
pub taken_value : (ty : Ty) (choice : Option ℤ) → is_taken (need_of_type ty) choice ≡ true → IsValue ty (or_zero choice)
taken_value types.Int choice e = tt
taken_value types.Bool None e = absurd (cc)
taken_value types.Bool (Some (pos n)) e = truth_taken n e
taken_value types.Bool (Some (negsuc n)) e = absurd (cc)

pub some_taken : (ty : Ty) (choice : Option ℤ) → is_taken (need_of_type ty) choice ≡ true → choice ≡ Some (or_zero choice)
some_taken types.Int None e = absurd (cc)
some_taken types.Int (Some z) e = refl
some_taken types.Bool None e = absurd (cc)
some_taken types.Bool (Some z) e = refl

pub taken_by_need : (o : Option VarInfo) (v : VarInfo) (choice : Option ℤ) → o ≡ Some v → is_taken (need_of o) choice ≡ true → is_taken (need_of_type v.ty) choice ≡ true
taken_by_need o v choice e h = sym (ap (λ (x : Option VarInfo). is_taken (need_of x) choice) e) ∙ h

-- a choice for a target is a value of its type
pub target_value : (t : TypedProgram) (n : ℕ) (ty : Ty) (x : Column) (choice : Option ℤ) → IsTarget t n ty x → is_taken (need_of_column t.globals (locals_at t n) x) choice ≡ true → IsValue ty (or_zero choice)
target_value t n ty (columns.Global g) choice h e =
    subst (λ (y : Ty). IsValue y (or_zero choice)) h.type (taken_value h.info.ty choice (taken_by_need (slice_get t.globals g) h.info choice h.is e))
target_value t n ty (columns.Old g) choice h e = absurd h
target_value t n ty (columns.Local l) choice h e =
    subst (λ (y : Ty). IsValue y (or_zero choice)) h.type (taken_value h.info.ty choice (taken_by_need (slice_get (locals_at t n) l) h.info choice h.is e))
