-- Truth values in lists of variables and in columns.
use Rattle.std.proofs.Common.{◌≡◌, ◌⊎◌, inl, inr, ℕ, zero, suc, ◌+◌, ◌<◌, ℤ, pos, negsuc, Bool, true, false, nat_lt, List, [], ◌∷◌, ◌++◌, length, map, take, drop, refl, ap, sym, ◌∙◌, subst, Option, None, Some, slice_get, option_and_then, arith}
use Rattle.std.proofs.lemmas.Bool.{and_parts, false≢true}
use Rattle.std.proofs.lemmas.Bool.Decides.{nat_tests}
use Rattle.math_facts.specs.Optional.{or_zero}
use Rattle.boogie_tree.specs.declared.tree.Ty.{Ty}
use Rattle.boogie_tree.specs.declared.tree.Ty.TheVariants as types
use Rattle.boogie_tree.specs.declared.tree.Column.{Column}
use Rattle.boogie_tree.specs.declared.tree.Column.TheVariants as columns
use Rattle.boogie_tree.specs.declared.tree.VarInfo.{VarInfo}
use Rattle.typed_tree.specs.TypedTree.{TypedExpression}
use Rattle.typed_tree.specs.Scope.{Scope, body_scope, unless_hidden, variable_at, fixed}
use Rattle.typed_tree.specs.Typing.{type_of, same_type, is_some_of, has_type}
use Rattle.typed_tree.specs.KeptRules.{is_arithmetic, is_right}
use Rattle.typed_tree.specs.Values.{State, member, value}
use Rattle.typed_tree.specs.Laws.{IsTruth, BooleansHold}
use Rattle.typed_tree.proofs.Truths.{truth_value}
use Rattle.typed_tree.specs.TypingRules.Rules.{meets, column_has, values_agree, arguments_agree, results_agree}
use Rattle.boogie_run.specs.BoogiePoints.Actions.{results_from}
use Rattle.boogie_run.specs.Configurations.{Config}
use Rattle.boogie_run.specs.Needs as needs
use Rattle.boogie_run.specs.Needs.{Need, need_of, need_of_type, need_of_column, is_taken}
use Rattle.boogie_run.specs.Steps.{put, all_put, written, all_written}
use Rattle.boogie_run.specs.Laws.{TruthsHold}

-- ---- lists

put_member : (zs : List ℤ) (n m : ℕ) (z : ℤ) → (member (put zs n z) m ≡ member zs m) ⊎ ((m ≡ n) × (member (put zs n z) m ≡ z))
put_member [] n m z = inl refl
put_member (y ∷ ys) zero zero z = inr (refl, refl)
put_member (y ∷ ys) zero (suc m) z = inl refl
put_member (y ∷ ys) (suc n) zero z = inl refl
put_member (y ∷ ys) (suc n) (suc m) z = elim (put_member ys n m z) [ inl e ↦ inl e | inr e ↦ inr (ap suc e.0, e.1) ]

append_member : (zs : List ℤ) (m : ℕ) (z : ℤ) → (member (zs ++ z ∷ []) m ≡ member zs m) ⊎ ((m ≡ length zs) × (member (zs ++ z ∷ []) m ≡ z))
append_member [] zero z = inr (refl, refl)
append_member [] (suc m) z = inl refl
append_member (y ∷ ys) zero z = inl refl
append_member (y ∷ ys) (suc m) z = elim (append_member ys m z) [ inl e ↦ inl e | inr e ↦ inr (ap suc e.0, e.1) ]

pub holds_none : (vs : List VarInfo) → TruthsHold vs []
holds_none vs n v at b = inl refl

-- the value is one of that variable
abbrev pub IsOf : Option VarInfo → ℤ → Type 0
IsOf o z = (v : VarInfo) → o ≡ Some v → v.ty ≡ types.Bool → IsTruth z

pub put_holds : (vs : List VarInfo) (zs : List ℤ) (n : ℕ) (z : ℤ) → TruthsHold vs zs → IsOf (slice_get vs n) z → TruthsHold vs (put zs n z)
put_holds vs zs n z h w m v at b =
    elim (put_member zs n m z) [
      | inl e ↦ subst IsTruth (sym e) (h m v at b)
      | inr e ↦ subst IsTruth (sym e.1) (w v (ap (slice_get vs) (sym e.0) ∙ at) b)
    ]

pub append_holds : (vs : List VarInfo) (zs : List ℤ) (z : ℤ) → TruthsHold vs zs → IsOf (slice_get vs (length zs)) z → TruthsHold vs (zs ++ z ∷ [])
append_holds vs zs z h w m v at b =
    elim (append_member zs m z) [
      | inl e ↦ subst IsTruth (sym e) (h m v at b)
      | inr e ↦ subst IsTruth (sym e.1) (w v (ap (slice_get vs) (sym e.0) ∙ at) b)
    ]

-- values of variables, one after the other
abbrev pub ValuesHold : List ℤ → List VarInfo → Type 0
ValuesHold [] vs = Unit {0}
ValuesHold (z ∷ zs) [] = Unit {0}
ValuesHold (z ∷ zs) (v ∷ vs) = (v.ty ≡ types.Bool → IsTruth z) × ValuesHold zs vs

values_of : (zs : List ℤ) (vs : List VarInfo) → TruthsHold vs zs → ValuesHold zs vs
values_of [] vs h = tt
values_of (z ∷ zs) [] h = tt
values_of (z ∷ zs) (v ∷ vs) h = (λ b. h zero v refl b, values_of zs vs (λ n w at b. h (suc n) w at b))

values_none : (vs : List VarInfo) (zs : List ℤ) → vs ≡ [] → ValuesHold zs vs
values_none vs [] e = tt
values_none [] (z ∷ zs) e = tt
values_none (v ∷ vs) (z ∷ zs) e = absurd (cc)

values_drop : (p : ℕ) (zs : List ℤ) (vs : List VarInfo) → ValuesHold zs vs → ValuesHold (drop p zs) (drop p vs)
values_drop zero zs vs h = h
values_drop (suc p) [] vs h = tt
values_drop (suc p) (z ∷ zs) [] h = values_none [] (drop p zs) refl
values_drop (suc p) (z ∷ zs) (v ∷ vs) h = values_drop p zs vs h.1

values_take : (r : ℕ) (zs : List ℤ) (vs : List VarInfo) → ValuesHold zs vs → ValuesHold (take r zs) (take r vs)
values_take zero zs vs h = tt
values_take (suc r) [] vs h = tt
values_take (suc r) (z ∷ zs) [] h = tt
values_take (suc r) (z ∷ zs) (v ∷ vs) h = (h.0, values_take r zs vs h.1)

-- some of the locals
pub part_holds : (p r : ℕ) (zs : List ℤ) (vs : List VarInfo) → TruthsHold vs zs → ValuesHold (take r (drop p zs)) (take r (drop p vs))
part_holds p r zs vs h = values_take r (drop p zs) (drop p vs) (values_drop p zs vs (values_of zs vs h))

-- ---- columns

-- the value is one of that column, over these globals and locals
abbrev pub ColumnHolds : List VarInfo → List VarInfo → Column → ℤ → Type 0
ColumnHolds gs ls (columns.Global n) z = IsOf (slice_get gs n) z
ColumnHolds gs ls (columns.Old n) z = Unit {0}
ColumnHolds gs ls (columns.Local n) z = IsOf (slice_get ls n) z

abbrev pub ColumnsHold : List VarInfo → List VarInfo → List ℤ → List Column → Type 0
ColumnsHold gs ls [] cs = Unit {0}
ColumnsHold gs ls (z ∷ zs) [] = Unit {0}
ColumnsHold gs ls (z ∷ zs) (c ∷ cs) = ColumnHolds gs ls c z × ColumnsHold gs ls zs cs

pub append_columns : (gs ls : List VarInfo) (zs : List ℤ) (cs : List Column) (z : ℤ) → ColumnsHold gs ls zs cs →
    ((x : Column) → slice_get cs (length zs) ≡ Some x → ColumnHolds gs ls x z) → ColumnsHold gs ls (zs ++ z ∷ []) cs
append_columns gs ls [] [] z h w = tt
append_columns gs ls [] (c ∷ cs) z h w = (w c refl, tt)
append_columns gs ls (y ∷ ys) [] z h w = tt
append_columns gs ls (y ∷ ys) (c ∷ cs) z h w = (h.0, append_columns gs ls ys cs z h.1 w)

pub split_columns : (gs ls : List VarInfo) (ns : List ℕ) (cs : List Column) (zs : List ℤ) → ColumnsHold gs ls zs (map columns.Global ns ++ cs) →
    ColumnsHold gs ls zs (map columns.Global ns) × ColumnsHold gs ls (drop (length ns) zs) cs
split_columns gs ls [] cs [] h = (tt, tt)
split_columns gs ls [] cs (z ∷ zs) h = (tt, h)
split_columns gs ls (n ∷ ns) cs [] h = (tt, tt)
split_columns gs ls (n ∷ ns) cs (z ∷ zs) h = let rest = split_columns gs ls ns cs zs h.1 in ((h.0, rest.0), rest.1)

drop_at : (p : ℕ) (vs : List VarInfo) → (drop p vs ≡ []) ⊎ ((v : VarInfo) × (slice_get vs p ≡ Some v) × (drop p vs ≡ v ∷ drop (suc p) vs))
drop_at zero [] = inl refl
drop_at zero (v ∷ vs) = inr (v, refl, refl)
drop_at (suc p) [] = inl refl
drop_at (suc p) (v ∷ vs) = drop_at p vs

-- values of the results as locals
pub from_results : (gs ls : List VarInfo) (p r : ℕ) (zs : List ℤ) → ColumnsHold gs ls zs (results_from p r) → ValuesHold zs (take r (drop p ls))
from_results gs ls p r [] h = tt
from_results gs ls p zero (z ∷ zs) h = tt
from_results gs ls p (suc r) (z ∷ zs) h =
    elim (drop_at p ls) [
      | inl e ↦ subst (λ (vs : List VarInfo). ValuesHold (z ∷ zs) (take (suc r) vs)) (sym e) tt
      | inr e ↦
          let next : p + 1 ≡ suc p = omega arith in
          let rest = from_results gs ls (p + 1) r zs h.1 in
          subst (λ (vs : List VarInfo). ValuesHold (z ∷ zs) (take (suc r) vs)) (sym e.2)
          (h.0 e.0 e.1, subst (λ (n : ℕ). ValuesHold zs (take r (drop n ls))) next rest)
    ]

same_types : (a b : Ty) → same_type a b ≡ true → a ≡ b
same_types types.Int types.Int h = refl
same_types types.Int types.Bool h = absurd (false≢true h)
same_types types.Bool types.Int h = absurd (false≢true h)
same_types types.Bool types.Bool h = refl

seen_at : (o : Option VarInfo) (v : VarInfo) → o ≡ Some v → option_and_then (unless_hidden true) o ≡ Some v
seen_at None v e = e
seen_at (Some w) v e = e

unseen_at : (o : Option VarInfo) (v : VarInfo) → option_and_then (unless_hidden true) o ≡ Some v → o ≡ Some v
unseen_at None v e = e
unseen_at (Some w) v e = e

column_type : (gs ls : List VarInfo) (c : Column) (ty : Ty) (z : ℤ) → column_has (body_scope gs ls) ty c ≡ true → (ty ≡ types.Bool → IsTruth z) → ColumnHolds gs ls c z
column_type gs ls (columns.Global n) ty z h w =
    λ v at b. w (same_types ty v.ty (subst (λ (o : Option VarInfo). meets (λ (u : VarInfo). same_type ty u.ty) o ≡ true) (seen_at (slice_get gs n) v at) h) ∙ b)
column_type gs ls (columns.Old n) ty z h w = tt
column_type gs ls (columns.Local n) ty z h w =
    λ v at b. w (same_types ty v.ty (subst (λ (o : Option VarInfo). meets (λ (u : VarInfo). same_type ty u.ty) o ≡ true) at h) ∙ b)

-- values of results, for their targets
pub to_targets : (gs ls vs : List VarInfo) (cs : List Column) (zs : List ℤ) → results_agree (body_scope gs ls) vs cs ≡ true → ValuesHold zs vs → ColumnsHold gs ls zs cs
to_targets gs ls vs cs [] h w = tt
to_targets gs ls vs [] (z ∷ zs) h w = tt
to_targets gs ls [] (c ∷ cs) (z ∷ zs) h w = absurd (false≢true h)
to_targets gs ls (v ∷ vs) (c ∷ cs) (z ∷ zs) h w =
    let parts = and_parts (column_has (body_scope gs ls) v.ty c) (results_agree (body_scope gs ls) vs cs) h in
    (column_type gs ls c v.ty z parts.0 w.0, to_targets gs ls vs cs zs parts.1 w.1)

-- ---- expressions

pub booleans_hold : (gs ls : List VarInfo) (s : State) → TruthsHold gs s.globals → TruthsHold gs s.old → TruthsHold ls s.locals → BooleansHold (body_scope gs ls) s
booleans_hold gs ls s g o l (columns.Global n) v at b = let there = unseen_at (slice_get gs n) v at in (g n v there b, o n v there b)
booleans_hold gs ls s g o l (columns.Old n) v at b = absurd (cc)
booleans_hold gs ls s g o l (columns.Local n) v at b = (l n v at b, l n v at b)

some_type : (wanted : Ty) (o : Option Ty) → is_some_of wanted o ≡ true → o ≡ Some wanted
some_type wanted None h = absurd (false≢true h)
some_type wanted (Some found) h = ap Some (sym (same_types wanted found h))

right_truth : (c : Scope) (s : State) (ty : Ty) (e : TypedExpression) → is_right c ty e ≡ true → BooleansHold c s → ty ≡ types.Bool → IsTruth (value s e)
right_truth c s ty e h w b = truth_value c s e w (some_type ty (type_of c e) (and_parts (has_type c ty e) (is_arithmetic (fixed c) false e) h).0 ∙ ap Some b)

meets_at : (test : VarInfo → Bool) (o : Option VarInfo) (v : VarInfo) → meets test o ≡ true → o ≡ Some v → test v ≡ true
meets_at test o v h e = subst (λ (p : Option VarInfo). meets test p ≡ true) e h

assigned : (gs ls : List VarInfo) (s : State) (c : Column) (e : TypedExpression) → meets (λ v. is_right (body_scope gs ls) v.ty e) (variable_at (body_scope gs ls) c) ≡ true →
    BooleansHold (body_scope gs ls) s → ColumnHolds gs ls c (value s e)
assigned gs ls s (columns.Global n) e h w =
    λ v at b. right_truth (body_scope gs ls) s v.ty e (meets_at (λ (u : VarInfo). is_right (body_scope gs ls) u.ty e) _ v h (seen_at (slice_get gs n) v at)) w b
assigned gs ls s (columns.Old n) e h w = tt
assigned gs ls s (columns.Local n) e h w =
    λ v at b. right_truth (body_scope gs ls) s v.ty e (meets_at (λ (u : VarInfo). is_right (body_scope gs ls) u.ty e) (slice_get ls n) v h at) w b

-- values of an assignment
pub all_assigned : (gs ls : List VarInfo) (s : State) (cs : List Column) (es : List TypedExpression) → values_agree (body_scope gs ls) cs es ≡ true →
    BooleansHold (body_scope gs ls) s → ColumnsHold gs ls (map (value s) es) cs
all_assigned gs ls s cs [] h w = tt
all_assigned gs ls s [] (e ∷ es) h w = tt
all_assigned gs ls s (c ∷ cs) (e ∷ es) h w =
    let parts = and_parts (meets (λ v. is_right (body_scope gs ls) v.ty e) (variable_at (body_scope gs ls) c)) (values_agree (body_scope gs ls) cs es) h in
    (assigned gs ls s c e parts.0 w, all_assigned gs ls s cs es parts.1 w)

-- values of arguments, as the first locals
pub arguments_hold : (c : Scope) (s : State) (p : ℕ) (vs : List VarInfo) (es : List TypedExpression) → arguments_agree c (take p vs) es ≡ true → BooleansHold c s →
    TruthsHold vs (map (value s) es)
arguments_hold c s p vs [] h w n v at b = inl refl
arguments_hold c s zero vs (e ∷ es) h w n v at b = absurd (false≢true h)
arguments_hold c s (suc p) [] (e ∷ es) h w n v at b = absurd (false≢true h)
arguments_hold c s (suc p) (u ∷ vs) (e ∷ es) h w zero v at b =
    let parts = and_parts (is_right c u.ty e) (arguments_agree c (take p vs) es) h in
    let same : u ≡ v = cc in
    right_truth c s u.ty e parts.0 w (ap (λ (x : VarInfo). x.ty) same ∙ b)
arguments_hold c s (suc p) (u ∷ vs) (e ∷ es) h w (suc n) v at b =
    let parts = and_parts (is_right c u.ty e) (arguments_agree c (take p vs) es) h in
    arguments_hold c s p vs es parts.1 w n v at b

-- ---- writing

abbrev pub BothHold : List VarInfo → List VarInfo → Config → Type 0
BothHold gs ls c = TruthsHold gs c.globals × TruthsHold ls c.top.locals

written_holds : (gs ls : List VarInfo) (c : Config) (x : Column) (z : ℤ) → BothHold gs ls c → ColumnHolds gs ls x z → BothHold gs ls (written c x z)
written_holds gs ls c (columns.Global n) z h w = (put_holds gs c.globals n z h.0 w, h.1)
written_holds gs ls c (columns.Old n) z h w = h
written_holds gs ls c (columns.Local n) z h w = (h.0, put_holds ls c.top.locals n z h.1 w)

pub all_written_holds : (gs ls : List VarInfo) (c : Config) (xs : List Column) (zs : List ℤ) → BothHold gs ls c → ColumnsHold gs ls zs xs → BothHold gs ls (all_written c xs zs)
all_written_holds gs ls c [] zs h w = h
all_written_holds gs ls c (x ∷ xs) [] h w = h
all_written_holds gs ls c (x ∷ xs) (z ∷ zs) h w = all_written_holds gs ls (written c x z) xs zs (written_holds gs ls c x z h w.0) w.1

pub one_written_holds : (gs ls : List VarInfo) (c : Config) (x : Column) (z : ℤ) → BothHold gs ls c → ColumnHolds gs ls x z → BothHold gs ls (written c x z)
one_written_holds = written_holds

pub all_put_holds : (gs ls : List VarInfo) (zs : List ℤ) (ns : List ℕ) (ws : List ℤ) → TruthsHold gs zs → ColumnsHold gs ls ws (map columns.Global ns) → TruthsHold gs (all_put zs ns ws)
all_put_holds gs ls zs [] ws h w = h
all_put_holds gs ls zs (n ∷ ns) [] h w = h
all_put_holds gs ls zs (n ∷ ns) (z ∷ ws) h w = all_put_holds gs ls (put zs n z) ns ws (put_holds gs zs n z h w.0) w.1

-- ---- choices

abbrev pub NeedHolds : Need → ℤ → Type 0
NeedHolds needs.Truth z = IsTruth z
NeedHolds needs.Nothing z = Unit {0}
NeedHolds needs.Whole z = Unit {0}
NeedHolds (needs.Below n) z = Unit {0}

below_of : (a b : ℕ) → nat_lt a b ≡ true → a < b
below_of a b h = grind (arith, nat_tests)

truth_taken : (k : ℕ) → nat_lt k 2 ≡ true → IsTruth (pos k)
truth_taken zero h = inl refl
truth_taken (suc zero) h = inr refl
truth_taken (suc (suc k)) h = let less : suc (suc k) < 2 = below_of (suc (suc k)) 2 h in absurd (omega arith)

pub taken_holds : (n : Need) (choice : Option ℤ) → is_taken n choice ≡ true → NeedHolds n (or_zero choice)
taken_holds needs.Nothing choice h = tt
taken_holds needs.Whole choice h = tt
taken_holds (needs.Below n) choice h = tt
taken_holds needs.Truth None h = inl refl
taken_holds needs.Truth (Some (pos k)) h = truth_taken k h
taken_holds needs.Truth (Some (negsuc k)) h = absurd (false≢true h)

pub need_holds : (o : Option VarInfo) (z : ℤ) → NeedHolds (need_of o) z → IsOf o z
need_holds o z h v at b =
    subst (λ (ty : Ty). NeedHolds (need_of_type ty) z) b (subst (λ (p : Option VarInfo). NeedHolds (need_of p) z) at h)

pub column_holds : (gs ls : List VarInfo) (c : Column) (z : ℤ) → NeedHolds (need_of_column gs ls c) z → ColumnHolds gs ls c z
column_holds gs ls (columns.Global n) z h = need_holds (slice_get gs n) z h
column_holds gs ls (columns.Old n) z h = tt
column_holds gs ls (columns.Local n) z h = need_holds (slice_get ls n) z h
