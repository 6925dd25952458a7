-- In the ensures of a call without body what stands for the columns has the values behind the call; where a helper stands for a truth value and has
-- none, no member is met for the wrong one.
use Rattle.std.proofs.Common.{◌≡◌, inl, inr, ℕ, zero, suc, ◌+◌, ◌<◌, ◌≤◌, Bool, true, false, not, nat_eq, ℤ, pos, negsuc, List, [], ◌∷◌, ◌++◌, map, Option, None, Some, slice_get, if◌then◌else◌, refl, sym, ap, subst, ◌∙◌, arith}
use Rattle.std.specs.List.{AllByRecursion}
use Rattle.std.proofs.lemmas.Bool.Decides.{nat_tests}
use Rattle.std.proofs.lemmas.Int.{ints}
use Rattle.boogie_tree.specs.declared.tree.Ty.{Ty}
use Rattle.boogie_tree.specs.declared.tree.Ty.TheVariants as types
use Rattle.boogie_tree.specs.declared.tree.Column.{Column}
use Rattle.boogie_tree.specs.declared.tree.Column.TheVariants as columns
use Rattle.boogie_tree.specs.declared.tree.VarInfo.{VarInfo}
use Rattle.typed_tree.specs.TypedTree.{TypedExpression}
use Rattle.typed_tree.specs.Values.{State, column_value, at_entry, member, value, truth}
use Rattle.typed_tree.specs.AffineForm.{is_linear}
use Rattle.typed_tree.specs.Laws.{IsTruth}
use Rattle.nwa_base.specs.Members.{Member}
use Rattle.letter_acts.specs.Frames.{IsValue}
use Rattle.cond_jumps.specs.Conjunctions.{Just}
use Rattle.cond_jumps.specs.Forms.{column}
use Rattle.cond_jumps.specs.Comparisons.{truth_of_column}
use Rattle.cond_jumps.specs.Environments.{Environment}
use Rattle.cond_jumps.specs.Passing.{Standing, Same, Numbered, Passed, standing_type, standing_sum, standing_plan, standing_environment, left_in, passed_locals, imported, imported_state}
use Rattle.cond_jumps.specs.Worth.{IsSum, Shows}
use Rattle.cond_jumps.proofs.FormLemmas.{column_sum}
use Rattle.cond_jumps.proofs.LinearLemmas.{linear_form}
use Rattle.cond_jumps.proofs.ComparisonLemmas.{named_path}
use Rattle.cond_jumps.proofs.PathLemmas.{paths_mean}
use Rattle.cond_jumps.proofs.AssignLemmas.{sum_later, choice_later}
use Rattle.cond_jumps.proofs.PassingLemmas.{IsLeft, AreResults}
use Rattle.lowered_graph.specs.LoweredSteps.Edges.{found_from, typed_column, left_if}
use Rattle.lowered_graph.specs.LoweredImports.Imports.{as_truth, as_value}
use Rattle.lowered_graph.proofs.LoweredImports.ImportLists.{found_more}
use Rattle.lowered_graph.proofs.LoweredImports.Followed.{IsFollowed, Follows, followed_of_choice}

-- ---- the first place of a number in a list

abbrev pub FoundIs : ℕ → List ℕ → ℕ → Option ℕ → Type 0
FoundIs k ns g None = Member ns g → ⊥
FoundIs k ns g (Some j) = (i : ℕ) × (j ≡ k + i) × (slice_get ns i ≡ Some g)

equal_of : (a b : ℕ) → nat_eq a b ≡ true → a ≡ b
equal_of a b h = grind (arith, nat_tests)

differ_of : (a b : ℕ) → nat_eq a b ≡ false → a ≡ b → ⊥
differ_of a b h e = grind (arith, nat_tests)

found_later : (k m : ℕ) (ms : List ℕ) (g : ℕ) (o : Option ℕ) → (m ≡ g → ⊥) → FoundIs (suc k) ms g o → FoundIs k (m ∷ ms) g o
found_later k m ms g None d h = λ i. elim i [ inl e ↦ d e | inr j ↦ h j ]
found_later k m ms g (Some j) d (i, e, s) = (suc i, omega (arith, e), s)

pub found_is : (k : ℕ) (ns : List ℕ) (g : ℕ) → FoundIs k ns g (found_from k ns g)
found_is k [] g = λ m. m
found_is k (m ∷ ms) g = by_test (nat_eq m g) refl (found_is (suc k) ms g)
  where
    by_test : (b : Bool) → nat_eq m g ≡ b → FoundIs (suc k) ms g (found_from (suc k) ms g) → FoundIs k (m ∷ ms) g (if b then Some k else found_from (suc k) ms g)
    by_test true e h = let z : k ≡ k + 0 = omega arith in (0, z, ap Some (equal_of m g e))
    by_test false e h = found_later k m ms g (found_from (suc k) ms g) (differ_of m g e) h

-- ---- near values

-- a number is worth z: it is z, or z is a truth value and the number is none or z
abbrev pub IsNear : Ty → ℤ → ℤ → Type 0
IsNear types.Int a z = a ≡ z
IsNear types.Bool a z = IsTruth z × (IsTruth a → a ≡ z)

pub near_of : (ty : Ty) (a z : ℤ) → a ≡ z → IsValue ty z → IsNear ty a z
near_of types.Int a z e h = e
near_of types.Bool a z e h = (h, λ t. e)

truth_of_as : (z : ℤ) → IsTruth (as_truth z)
truth_of_as (pos zero) = inl refl
truth_of_as (pos (suc zero)) = inr refl
truth_of_as (pos (suc (suc n))) = inl refl
truth_of_as (negsuc n) = inl refl

as_of_truth : (z : ℤ) → IsTruth z → z ≡ as_truth z
as_of_truth z (inl e) = e ∙ sym (ap as_truth e)
as_of_truth z (inr e) = e ∙ sym (ap as_truth e)

-- any number is near the value of the type that is made of it
pub near_as : (ty : Ty) (a : ℤ) → IsNear ty a (as_value ty a)
near_as types.Int a = refl
near_as types.Bool a = (truth_of_as a, λ t. as_of_truth a t)

pub value_as : (ty : Ty) (a : ℤ) → IsValue ty (as_value ty a)
value_as types.Int a = tt
value_as types.Bool a = truth_of_as a

-- ---- what stands for the columns

abbrev pub IsStandingNear : ℕ → (ℕ → ℤ) → Environment → State → Option Standing → ℤ → Type 0
IsStandingNear m p v s None z = Unit {0}
IsStandingNear m p v s (Some (Same c)) z = column_value s c ≡ z
IsStandingNear m p v s (Some (Numbered c t)) z = (c < m) × IsNear t (p c) z
IsStandingNear m p v s (Some (Passed e)) z = (is_linear v.fixed false e ≡ true) × (value s e ≡ z)

near_whole : (t : Ty) (a z : ℤ) → t ≡ types.Int → IsNear t a z → a ≡ z
near_whole types.Int a z e h = h
near_whole types.Bool a z e h = absurd (cc)

near_truth : (t : Ty) (a z : ℤ) → t ≡ types.Bool → IsNear t a z → IsTruth z × (IsTruth a → a ≡ z)
near_truth types.Int a z e h = absurd (cc)
near_truth types.Bool a z e h = h

standing_sum_near : (w m : ℕ) (p : ℕ → ℤ) (v : Environment) (s : State) → Shows w p v s → w ≤ m → (o : Option Standing) (z : ℤ) → IsStandingNear m p v s o z →
    standing_type v o ≡ Some types.Int → IsSum m p (standing_sum v o) z
standing_sum_near w m p v s h l None z k t = absurd (cc)
standing_sum_near w m p v s h l (Some (Same c)) z k t = subst (IsSum m p (v.sum c)) k (sum_later w m p (v.sum c) (column_value s c) l (h.sums c t))
standing_sum_near w m p v s h l (Some (Numbered c u)) z k t =
    subst (IsSum m p (column c)) (near_whole u (p c) z (let e : u ≡ types.Int = cc in e) k.1) (column_sum m p c k.0)
standing_sum_near w m p v s h l (Some (Passed e)) z k t =
    subst (IsSum m p (standing_sum v (Some (Passed e)))) k.1 (sum_later w m p (standing_sum v (Some (Passed e))) (value s e) l (linear_form w p v s h false e t k.0))

truth_is : (b : Bool) → IsTruth (truth b)
truth_is true = inr refl
truth_is false = inl refl

both_truths : (b : Bool) → truth (not b) ≡ truth b → ⊥
both_truths true e = absurd (omega (arith, ints))
both_truths false e = absurd (omega (arith, ints))

named_followed : (m : ℕ) (p : ℕ → ℤ) (c : ℕ) (z : ℤ) → c < m → IsTruth z → (IsTruth (p c) → p c ≡ z) → IsFollowed m p (λ want. Just (truth_of_column c want)) z
named_followed m p c z l (inl e) near = record {
  truth_value = false;
  is = e;
  refused = record {
    never = λ n q k s i.
        let d : p c ≡ pos 1 = (named_path m p c true (p c) l refl).so n q k s i in
        both_truths false (sym d ∙ near (inr d) ∙ e);
  };
}
named_followed m p c z l (inr e) near = record {
  truth_value = true;
  is = e;
  refused = record {
    never = λ n q k s i.
        let d : p c ≡ pos 0 = (named_path m p c false (p c) l refl).so n q k s i in
        both_truths true (sym d ∙ near (inl d) ∙ e);
  };
}

standing_choice_near : (w m : ℕ) (p : ℕ → ℤ) (v : Environment) (s : State) → Shows w p v s → w ≤ m → (o : Option Standing) (z : ℤ) → IsStandingNear m p v s o z →
    standing_type v o ≡ Some types.Bool → IsFollowed m p (standing_plan v o) z
standing_choice_near w m p v s h l None z k t = absurd (cc)
standing_choice_near w m p v s h l (Some (Same c)) z k t =
    subst (IsFollowed m p (v.plan c)) k (followed_of_choice m p (v.plan c) (column_value s c) (choice_later w m p (v.plan c) (column_value s c) l (h.choices c t)))
standing_choice_near w m p v s h l (Some (Numbered c u)) z k t =
    let near = near_truth u (p c) z (let e : u ≡ types.Bool = cc in e) k.1 in
    named_followed m p c z k.0 near.0 near.1
standing_choice_near w m p v s h l (Some (Passed e)) z k t =
    subst (IsFollowed m p (standing_plan v (Some (Passed e)))) k.1
    (followed_of_choice m p (standing_plan v (Some (Passed e))) (value s e) (choice_later w m p (standing_plan v (Some (Passed e))) (value s e) l (paths_mean w p v s h false e t k.0)))

-- ---- the results and the globals

-- the global is behind the call: in its column or its helper, or as before
abbrev pub IsLeftNear : ℕ → (ℕ → ℤ) → State → List ℤ → ℕ → Option (ℕ × Ty) → Type 0
IsLeftNear m p s globals n None = member s.globals n ≡ member globals n
IsLeftNear m p s globals n (Some x) = (x.0 < m) × IsNear x.1 (p x.0) (member globals n)

global_near : (m : ℕ) (p : ℕ → ℤ) (v : Environment) (s : State) (globals : List ℤ) (n : ℕ) (o : Option (ℕ × Ty)) → IsLeftNear m p s globals n o →
    IsStandingNear m p v s (Some (left_in n o)) (member globals n)
global_near m p v s globals n None h = h
global_near m p v s globals n (Some x) h = h

local_near : (m : ℕ) (p : ℕ → ℤ) (v : Environment) (s : State) (args : List TypedExpression) (results : List (ℕ × Ty)) (zs : List ℤ) →
    AllByRecursion (λ e. is_linear v.fixed false e ≡ true) args → AreResults m p results zs → (n : ℕ) →
    IsStandingNear m p v s (slice_get (passed_locals args results) n) (member (map (value s) args ++ zs) n)
local_near m p v s (e ∷ es) results zs h k zero = (h.0, refl)
local_near m p v s (e ∷ es) results zs h k (suc n) = local_near m p v s es results zs h.1 k n
local_near m p v s [] [] zs h k n = tt
local_near m p v s [] (r ∷ rs) [] h k n = absurd k
local_near m p v s [] (r ∷ rs) (z ∷ zs) h k zero = (k.0, near_of r.1 (p r.0) z k.1 k.2)
local_near m p v s [] (r ∷ rs) (z ∷ zs) h k (suc n) = local_near m p v s [] rs zs h k.3 n

-- An ensures of a called procedure without body may be read at the caller, where helpers are near.
pub import_follows : (w m : ℕ) (p : ℕ → ℤ) (v : Environment) (s : State) → Shows w p v s → w ≤ m → (written : ℕ → Option (ℕ × Ty)) (args : List TypedExpression)
    (results : List (ℕ × Ty)) (globals zs : List ℤ) → AllByRecursion (λ e. is_linear v.fixed false e ≡ true) args → ((n : ℕ) → IsLeftNear m p s globals n (written n)) →
    AreResults m p results zs → ((n : ℕ) → v.fixed (columns.Global n) ≡ true → member s.globals n ≡ member globals n) →
    Follows m p (standing_environment v (imported written args results)) (imported_state s globals args zs)
import_follows w m p v s h l written args results globals zs k g r f = record {
  constants = λ c e. stay c e;
  sums = λ c t. standing_sum_near w m p v s h l (imported written args results c) (column_value (imported_state s globals args zs) c) (stands c) t;
  choices = λ c t. standing_choice_near w m p v s h l (imported written args results c) (column_value (imported_state s globals args zs) c) (stands c) t;
}
  where
    stay : (c : Column) → v.fixed c ≡ true → column_value (at_entry (imported_state s globals args zs)) c ≡ column_value (imported_state s globals args zs) c
    stay (columns.Global n) e = f n e
    stay (columns.Old n) e = refl
    stay (columns.Local n) e = refl

    stands : (c : Column) → IsStandingNear m p v s (imported written args results c) (column_value (imported_state s globals args zs) c)
    stands (columns.Global n) = global_near m p v s globals n (written n) (g n)
    stands (columns.Old n) = refl
    stands (columns.Local n) = local_near m p v s args results zs k r n

-- ---- where a global is left

-- as before, or some column with its type is so
abbrev pub LeftBy : (ℕ → Ty → Type 0) → Type 0 → Option (ℕ × Ty) → Type 0
LeftBy R same None = same
LeftBy R same (Some x) = R x.0 x.1

typed_left : (R : ℕ → Ty → Type 0) (same : Type 0) (c : ℕ) (o : Option VarInfo) (v : VarInfo) → o ≡ Some v → R c v.ty → LeftBy R same (typed_column c o)
typed_left R same c o v e h = subst (λ (x : Option VarInfo). LeftBy R same (typed_column c x)) (sym e) h

-- a modified global stands in the column that is written for it, or in its helper where it is a target, too
pub left_by : (globals : List VarInfo) (base behind g : ℕ) (ns hs : List ℕ) (R : ℕ → Ty → Type 0) (same : Type 0) → ((Member ns g → ⊥) → same) →
    ((j : ℕ) → slice_get ns j ≡ Some g → (v : VarInfo) × (slice_get globals g ≡ Some v)) →
    ((j : ℕ) (v : VarInfo) → slice_get ns j ≡ Some g → (Member hs g → ⊥) → slice_get globals g ≡ Some v → R (base + j) v.ty) →
    ((i : ℕ) (v : VarInfo) → found_from 0 hs g ≡ Some i → slice_get hs i ≡ Some g → slice_get globals g ≡ Some v → R (behind + i) v.ty) →
    LeftBy R same (left_if globals base g (found_from 0 ns g) (found_from behind hs g))
left_by globals base behind g ns hs R same outside there written helper =
    by_places (found_from 0 ns g) (found_from behind hs g) (found_is 0 ns g) (found_is behind hs g) refl
  where
    by_places : (a b : Option ℕ) → FoundIs 0 ns g a → FoundIs behind hs g b → found_from behind hs g ≡ b → LeftBy R same (left_if globals base g a b)
    by_places None b h k f = outside h
    by_places (Some j) None (i, e, s) k f =
        let v = there i s in
        let at : base + i ≡ base + j = omega (arith, e) in
        typed_left R same (base + j) (slice_get globals g) v.0 v.1 (subst (λ (c : ℕ). R c v.0.ty) at (written i v.0 s k v.1))
    by_places (Some j) (Some h) (i, e, s) (l, d, u) f =
        let v = there i s in
        let none : behind + 0 ≡ behind = omega arith in
        let first : found_from 0 hs g ≡ Some l = found_more behind 0 l hs g (ap (λ (m : ℕ). found_from m hs g) none ∙ f ∙ ap Some d) in
        typed_left R same h (slice_get globals g) v.0 v.1 (subst (λ (c : ℕ). R c v.0.ty) (sym d) (helper l v.0 first u v.1))

pub left_of : (m : ℕ) (p : ℕ → ℤ) (s : State) (globals : List ℤ) (g : ℕ) (o : Option (ℕ × Ty)) →
    LeftBy (λ c ty. (c < m) × (p c ≡ member globals g) × IsValue ty (member globals g)) (member s.globals g ≡ member globals g) o → IsLeft m p s globals g o
left_of m p s globals g None h = h
left_of m p s globals g (Some x) h = h

pub left_near_of : (m : ℕ) (p : ℕ → ℤ) (s : State) (globals : List ℤ) (g : ℕ) (o : Option (ℕ × Ty)) →
    LeftBy (λ c ty. (c < m) × IsNear ty (p c) (member globals g)) (member s.globals g ≡ member globals g) o → IsLeftNear m p s globals g o
left_near_of m p s globals g None h = h
left_near_of m p s globals g (Some x) h = h
