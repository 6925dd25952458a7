-- What typing says of the columns that an expression reads and a statement writes, by the numbers of globals and locals.
use Rattle.std.proofs.Common.{◌≡◌, ℕ, ◌<◌, ◌≤◌, neg_ℤ, Bool, true, false, ◌&&◌, not, List, [], ◌∷◌, length, refl, Option, None, Some, slice_get, if◌then◌else◌, option_and_then, arith}
use Rattle.std.specs.List.{AllByRecursion, list_all}
use Rattle.std.specs.Option.{option_map}
use Rattle.std.proofs.lemmas.Bool.{and_parts, false≢true}
use Rattle.std.proofs.lemmas.Option.{none-some, slice_get_within}
use Rattle.boogie_tree.specs.declared.tree.Ty.{Ty}
use Rattle.boogie_tree.specs.declared.tree.Ty.TheVariants as types
use Rattle.boogie_tree.specs.declared.tree.Op.{Op}
use Rattle.boogie_tree.specs.declared.tree.Op.TheVariants.{Div, Mod}
use Rattle.boogie_tree.specs.declared.tree.Column.{Column}
use Rattle.boogie_tree.specs.declared.tree.Column.TheVariants as columns
use Rattle.boogie_tree.specs.declared.tree.VarInfo.{VarInfo}
use Rattle.typed_tree.specs.AffineForm.{divisor_of, is_divisor, forms_fit}
use Rattle.typed_tree.specs.Divided.{is_divided, is_divided_operation}
use Rattle.typed_tree.specs.KeptRules.{is_arithmetic, is_right}
use Rattle.typed_tree.specs.Scope.{Scope, unless_hidden, variable_at, fixed}
use Rattle.typed_tree.specs.TypedTree.{TypedExpression, Lit, Truth, Var, Old, Not, Neg, Bin}
use Rattle.typed_tree.specs.Typing.{type_of, only, operation_type, is_some_of, has_type}
use Rattle.typed_tree.specs.Values.{State, at_entry, value_is_zero, value}
use Rattle.typed_tree.specs.TypingRules.Rules.{Context, meets, is_member, is_writable, column_has, values_agree, arguments_agree, results_agree}
use Rattle.boogie_run.specs.RunDefaults.Reading.{HasColumn, Divides, Reads}
use Rattle.boogie_run.proofs.RunDefaults.Parts.{not_of, meets_some}

-- the column is one of so many globals and locals, and no old value
abbrev pub ColumnIn : ℕ → ℕ → Column → Type 0
ColumnIn g l (columns.Global n) = n < g
ColumnIn g l (columns.Old n) = ⊥
ColumnIn g l (columns.Local n) = n < l

-- a divisor is a literal that is not 0
abbrev pub DividesBy : Op → TypedExpression → Type 0
DividesBy Div e = is_divisor (divisor_of e) ≡ true
DividesBy Mod e = is_divisor (divisor_of e) ≡ true
DividesBy op e = Unit {0}

-- the expression reads such columns alone, and divides by such divisors alone
abbrev pub ReadsIn : ℕ → ℕ → TypedExpression → Type 0
ReadsIn g l (Lit at n) = Unit {0}
ReadsIn g l (Truth at b) = Unit {0}
ReadsIn g l (Var at c) = ColumnIn g l c
ReadsIn g l (Old at e) = ReadsIn g l e
ReadsIn g l (Not at e) = ReadsIn g l e
ReadsIn g l (Neg at e) = ReadsIn g l e
ReadsIn g l (Bin at op a b) = ReadsIn g l a × ReadsIn g l b × DividesBy op b

-- ---- in a state

nonzero : (s : State) (e : TypedExpression) → is_divisor (divisor_of e) ≡ true → value_is_zero (value s e) ≡ false
nonzero s (Lit at n) h = not_of (value_is_zero n) h
nonzero s (Truth at b) h = absurd (false≢true h)
nonzero s (Var at c) h = absurd (false≢true h)
nonzero s (Old at e) h = absurd (false≢true h)
nonzero s (Not at e) h = absurd (false≢true h)
nonzero s (Neg at (Lit at1 n)) h = not_of (value_is_zero (neg_ℤ n)) h
nonzero s (Neg at (Truth at1 b)) h = absurd (false≢true h)
nonzero s (Neg at (Var at1 c)) h = absurd (false≢true h)
nonzero s (Neg at (Old at1 e)) h = absurd (false≢true h)
nonzero s (Neg at (Not at1 e)) h = absurd (false≢true h)
nonzero s (Neg at (Neg at1 e)) h = absurd (false≢true h)
nonzero s (Neg at (Bin at1 op a b)) h = absurd (false≢true h)
nonzero s (Bin at op a b) h = absurd (false≢true h)

divides : (s : State) (op : Op) (e : TypedExpression) → DividesBy op e → Divides op (value s e)
divides s Div e h = nonzero s e h
divides s Mod e h = nonzero s e h
divides s op e h = tt

column_there : (s : State) (g l : ℕ) (c : Column) → ColumnIn g l c → g ≤ length s.globals → l ≤ length s.locals → HasColumn s c
column_there s g l (columns.Global n) h a b = omega (arith, h, a)
column_there s g l (columns.Old n) h a b = absurd h
column_there s g l (columns.Local n) h a b = omega (arith, h, b)

-- in a state with so many globals, now and at the entry, and locals
pub reads : (s : State) (g l : ℕ) (e : TypedExpression) → ReadsIn g l e → g ≤ length s.globals → g ≤ length s.old → l ≤ length s.locals → Reads s e
reads s g l (Lit at n) h a o b = tt
reads s g l (Truth at t) h a o b = tt
reads s g l (Var at c) h a o b = column_there s g l c h a b
reads s g l (Old at e) h a o b = reads (at_entry s) g l e h o o b
reads s g l (Not at e) h a o b = reads s g l e h a o b
reads s g l (Neg at e) h a o b = reads s g l e h a o b
reads s g l (Bin at op x y) h a o b = (reads s g l x h.0 a o b, reads s g l y h.1 a o b, divides s op y h.2)

pub all_read : (s : State) (g l : ℕ) (es : List TypedExpression) → AllByRecursion (ReadsIn g l) es → g ≤ length s.globals → g ≤ length s.old → l ≤ length s.locals →
    AllByRecursion (Reads s) es
all_read s g l [] h a o b = tt
all_read s g l (e ∷ es) h a o b = (reads s g l e h.0 a o b, all_read s g l es h.1 a o b)

-- ---- with more locals

wider : (g l m : ℕ) (c : Column) → l ≤ m → ColumnIn g l c → ColumnIn g m c
wider g l m (columns.Global n) less h = h
wider g l m (columns.Old n) less h = h
wider g l m (columns.Local n) less h = omega (arith, less, h)

pub widened : (g l m : ℕ) (e : TypedExpression) → l ≤ m → ReadsIn g l e → ReadsIn g m e
widened g l m (Lit at n) less h = tt
widened g l m (Truth at b) less h = tt
widened g l m (Var at c) less h = wider g l m c less h
widened g l m (Old at e) less h = widened g l m e less h
widened g l m (Not at e) less h = widened g l m e less h
widened g l m (Neg at e) less h = widened g l m e less h
widened g l m (Bin at op a b) less h = (widened g l m a less h.0, widened g l m b less h.1, h.2)

-- ---- by typing

mapped_some : {A B : Type 0} (f : A → B) (o : Option A) (y : B) → option_map f o ≡ Some y → (x : A) × (o ≡ Some x)
mapped_some f None y h = absurd (none-some y h)
mapped_some f (Some x) y h = (x, refl)

then_some : {A B : Type 0} (f : A → Option B) (o : Option A) (y : B) → option_and_then f o ≡ Some y → (x : A) × (o ≡ Some x) × (f x ≡ Some y)
then_some f None y h = absurd (none-some y h)
then_some f (Some x) y h = (x, refl, h)

if_some : {A : Type 0} (b : Bool) (o : Option A) (y : A) → (if b then o else None) ≡ Some y → o ≡ Some y
if_some true o y h = h
if_some false o y h = absurd (none-some y h)

pub seen_column : (s : Scope) (c : Column) (v : VarInfo) → variable_at s c ≡ Some v → ColumnIn (length s.globals) (length s.locals) c
seen_column s (columns.Global n) v h =
    let w = then_some (unless_hidden s.variables) (slice_get s.globals n) v h in slice_get_within s.globals n w.0 w.1
seen_column s (columns.Old n) v h = none-some v h
seen_column s (columns.Local n) v h = slice_get_within s.locals n v h

divides_by : (op : Op) (b : TypedExpression) → is_divided_operation op b ≡ true → DividesBy op b
divides_by Div b h = h
divides_by Mod b h = h
divides_by op b h = tt

typed_reads : (s : Scope) (ty : Ty) (e : TypedExpression) → type_of s e ≡ Some ty → is_divided e ≡ true → ReadsIn (length s.globals) (length s.locals) e
typed_reads s ty (Lit at n) h k = tt
typed_reads s ty (Truth at b) h k = tt
typed_reads s ty (Var at c) h k =
    let v = mapped_some (λ (w : VarInfo). w.ty) (variable_at s c) ty h in seen_column s c v.0 v.1
typed_reads s ty (Old at e) h k = typed_reads s ty e (if_some s.old (type_of s e) ty h) k
typed_reads s ty (Not at e) h k = let u = then_some (only types.Bool) (type_of s e) ty h in typed_reads s u.0 e u.1 k
typed_reads s ty (Neg at e) h k = let u = then_some (only types.Int) (type_of s e) ty h in typed_reads s u.0 e u.1 k
typed_reads s ty (Bin at op a b) h k =
    let u = then_some (λ (r : Ty). option_and_then (operation_type op r) (type_of s b)) (type_of s a) ty h in
    let w = then_some (operation_type op u.0) (type_of s b) ty u.2 in
    let first = and_parts (is_divided a) (is_divided b && is_divided_operation op b) k in
    let second = and_parts (is_divided b) (is_divided_operation op b) first.1 in
    (typed_reads s u.0 a u.1 first.0, typed_reads s w.0 b w.1 second.0, divides_by op b second.1)

some_type : (wanted : Ty) (o : Option Ty) → is_some_of wanted o ≡ true → (ty : Ty) × (o ≡ Some ty)
some_type wanted None h = absurd (false≢true h)
some_type wanted (Some ty) h = (ty, refl)

-- an expression that is right
pub right_reads : (s : Scope) (ty : Ty) (e : TypedExpression) → is_right s ty e ≡ true → ReadsIn (length s.globals) (length s.locals) e
right_reads s ty e h =
    let parts = and_parts (has_type s ty e) (is_arithmetic (fixed s) false e) h in
    let found = some_type ty (type_of s e) parts.0 in
    typed_reads s found.0 e found.1 (and_parts (is_divided e) (forms_fit (fixed s) false e) parts.1).0

-- what may be written
pub writable_column : (k : Context) (c : Column) → is_writable k c ≡ true → ColumnIn (length k.scope.globals) (length k.scope.locals) c
writable_column k (columns.Global n) h =
    let parts = and_parts (meets (λ v. not v.constant) (slice_get k.scope.globals n)) (is_member n k.modifies) h in
    let v = meets_some (λ (w : VarInfo). not w.constant) (slice_get k.scope.globals n) parts.0 in
    slice_get_within k.scope.globals n v.0 v.1
writable_column k (columns.Old n) h = absurd (false≢true h)
writable_column k (columns.Local n) h =
    let v = meets_some (λ (w : VarInfo). not w.constant) (slice_get k.scope.locals n) h in slice_get_within k.scope.locals n v.0 v.1

pub all_writable : (k : Context) (cs : List Column) → list_all (is_writable k) cs ≡ true → AllByRecursion (ColumnIn (length k.scope.globals) (length k.scope.locals)) cs
all_writable k [] h = tt
all_writable k (c ∷ cs) h =
    let parts = and_parts (is_writable k c) (list_all (is_writable k) cs) h in (writable_column k c parts.0, all_writable k cs parts.1)

-- values of an assignment
pub values_read : (s : Scope) (cs : List Column) (es : List TypedExpression) → values_agree s cs es ≡ true →
    (length cs ≡ length es) × AllByRecursion (ReadsIn (length s.globals) (length s.locals)) es
values_read s [] [] h = (refl, tt)
values_read s [] (e ∷ es) h = absurd (false≢true h)
values_read s (c ∷ cs) [] h = absurd (false≢true h)
values_read s (c ∷ cs) (e ∷ es) h =
    let parts = and_parts (meets (λ v. is_right s v.ty e) (variable_at s c)) (values_agree s cs es) h in
    let v = meets_some (λ (w : VarInfo). is_right s w.ty e) (variable_at s c) parts.0 in
    let rest = values_read s cs es parts.1 in
    (omega (arith, rest.0), (right_reads s v.0.ty e v.2, rest.1))

-- arguments of a call
pub arguments_read : (s : Scope) (vs : List VarInfo) (es : List TypedExpression) → arguments_agree s vs es ≡ true →
    (length es ≡ length vs) × AllByRecursion (ReadsIn (length s.globals) (length s.locals)) es
arguments_read s [] [] h = (refl, tt)
arguments_read s [] (e ∷ es) h = absurd (false≢true h)
arguments_read s (v ∷ vs) [] h = absurd (false≢true h)
arguments_read s (v ∷ vs) (e ∷ es) h =
    let parts = and_parts (is_right s v.ty e) (arguments_agree s vs es) h in
    let rest = arguments_read s vs es parts.1 in
    (omega (arith, rest.0), (right_reads s v.ty e parts.0, rest.1))

-- targets of a call
pub results_count : (s : Scope) (vs : List VarInfo) (cs : List Column) → results_agree s vs cs ≡ true → length cs ≡ length vs
results_count s [] [] h = refl
results_count s [] (c ∷ cs) h = absurd (false≢true h)
results_count s (v ∷ vs) [] h = absurd (false≢true h)
results_count s (v ∷ vs) (c ∷ cs) h =
    let rest = results_count s vs cs (and_parts (column_has s v.ty c) (results_agree s vs cs) h).1 in omega (arith, rest)
