-- What expressions with a type read.
use Rattle.std.proofs.Common.{◌≡◌, zero, suc, ⊎_elim, Bool, true, false, [], ◌∷◌, Option, None, Some, if◌then◌else◌, Contains, refl, subst, arith}
use Rattle.std.specs.Option.{option_map, option_and_then}
use Rattle.std.proofs.lemmas.Option.{none-some}
use Rattle.std.proofs.lemmas.List.Elements.{Contains-append_cases}
use Rattle.boogie_tree.specs.declared.tree.Ty.{Ty}
use Rattle.boogie_tree.specs.declared.tree.Ty.TheVariants as types
use Rattle.boogie_tree.specs.declared.tree.Column.{Column}
use Rattle.boogie_tree.specs.declared.tree.Column.TheVariants as columns
use Rattle.boogie_tree.specs.declared.tree.VarInfo.{VarInfo}
use Rattle.typed_tree.specs.TypedTree.{Lit, Truth, Var, Old, Not, Neg, Bin}
use Rattle.typed_tree.specs.Scope.{variable_at}
use Rattle.typed_tree.specs.Typing.{type_of, only, operation_type}
use Rattle.typed_tree.specs.TypingRules.Laws as law

mapped_some : {A B : Type 0} (f : A → B) (o : Option A) (y : B) → option_map f o ≡ Some y → (x : A) × (o ≡ Some x)
mapped_some f None y h = absurd (none-some y h)
mapped_some f (Some x) y h = (x, refl)

then_some : {A B : Type 0} (f : A → Option B) (o : Option A) (y : B) → option_and_then f o ≡ Some y → (x : A) × (o ≡ Some x) × (f x ≡ Some y)
then_some f None y h = absurd (none-some y h)
then_some f (Some x) y h = (x, refl, h)

if_some : {A : Type 0} (b : Bool) (o : Option A) (y : A) → (if b then o else None) ≡ Some y → o ≡ Some y
if_some true o y h = h
if_some false o y h = absurd (none-some y h)

sole : {A : Type 0} (x c : A) → Contains (x ∷ []) c → x ≡ c
sole x c (zero, l, e) = e
sole x c (suc n, l, e) = absurd (omega arith)

none_in : {A : Type 0} (c : A) → Contains [] c → ⊥
none_in c (n, l, e) = omega arith

pub seen : law.ColumnsAreSeen
seen s ty (Lit at n) c h m = absurd (none_in c m)
seen s ty (Truth at b) c h m = absurd (none_in c m)
seen s ty (Var at x) c h m =
    let v = mapped_some (λ (w : VarInfo). w.ty) (variable_at s x) ty h in
    (v.0, subst (λ (d : Column). variable_at s d ≡ Some v.0) (sole x c m) v.1)
seen s ty (Old at e) c h m = seen s ty e c (if_some s.old (type_of s e) ty h) m
seen s ty (Not at e) c h m =
    let u = then_some (only types.Bool) (type_of s e) ty h in seen s u.0 e c u.1 m
seen s ty (Neg at e) c h m =
    let u = then_some (only types.Int) (type_of s e) ty h in seen s u.0 e c u.1 m
seen s ty (Bin at op a b) c h m =
    let u = then_some (λ (t : Ty). option_and_then (operation_type op t) (type_of s b)) (type_of s a) ty h in
    let w = then_some (operation_type op u.0) (type_of s b) ty u.2 in
    ⊎_elim (λ k. seen s u.0 a c u.1 k) (λ k. seen s w.0 b c w.1 k) (Contains-append_cases (law.columns_of a) (law.columns_of b) c m)

pub no_old : law.NoOldColumns
no_old s ty e n h m = let v = seen s ty e (columns.Old n) h m in none-some v.0 v.1
