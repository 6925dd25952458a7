-- What the caller's sum at a call has at the columns of the callee.
use Rattle.std.proofs.Common.{◌≡◌, ◌∙◌, ℕ, zero, suc, ◌+◌, ◌<◌, ◌≤◌, ℤ, pos, Bool, true, false, List, [], ◌∷◌, ◌++◌, length, map, drop, take, get_or, length-append, refl, sym, ap, subst, arith}
use Rattle.std.specs.Prelude.{Option, Some, slice_get, Result, Ok, Err, IfOk}
use Rattle.std.specs.List.{AllByRecursion}
use Rattle.std.proofs.lemmas.List.{append-nil}
use Rattle.boogie_tree.specs.declared.tree.Column.{Column}
use Rattle.boogie_tree.specs.declared.tree.Column.TheVariants.{Global, Old, Local}
use Rattle.letter_acts.specs.Frames.{Columns}
use Rattle.triple_rows.specs.declared.predicates.PredNode.{PredNode}
use Rattle.triple_rows.specs.Predicates.{prefix_of}
use Rattle.nested_itp.specs.declared.nested_predicates.wide.Wide.{Wide}
use Rattle.nested_itp.specs.declared.nested_predicates.running.Running.{Running}
use Rattle.nested_itp.specs.NestedPredicates.Wides.{value_of, HasRoom, AreParts}
use Rattle.nested_itp.specs.NestedPredicates.Positions.{if_constant_version, known_at, known_columns}
use Rattle.nested_itp.specs.NestedPredicates.Sums.{inequality}
use Rattle.nested_itp.specs.NestedPredicates.Runnings.{value_at, AreCounted}
use Rattle.nested_itp.specs.NestedPredicates.Bases.{known_value, node_of}
use Rattle.nested_itp.proofs.NestedPredicates.SumLaws.{value_found}
use Rattle.nested_itp.proofs.NestedPredicates.RunningLaws.{room_at}

constant_made : (P : ℕ → Type 0) (constant : Bool) (version v : ℕ) → P version → if_constant_version constant version ≡ Some v → P v
constant_made P true version v h e = subst P (let k : version ≡ v = cc in k) h
constant_made P false version v h e = absurd (cc)

got_made : (P : ℕ → Type 0) (vs : List ℕ) (i v : ℕ) → AllByRecursion P vs → slice_get vs i ≡ Some v → P v
got_made P [] i v h e = absurd (cc)
got_made P (x ∷ vs) zero v h e = subst P (let k : x ≡ v = cc in k) h.0
got_made P (x ∷ vs) (suc i) v h e = got_made P vs i v h.1 e

pub known_made : (P : ℕ → Type 0) (column : Column) (constant : Bool) (version : ℕ) (before : List ℕ) (v : ℕ) → P version → AllByRecursion P before →
    known_at column constant version before ≡ Some v → P v
known_made P (Global g) constant version before v h all e = constant_made P constant version v h e
known_made P (Old g) constant version before v h all e = got_made P before g v all e
known_made P (Local l) constant version before v h all e = constant_made P constant version v h e

pub known_found : (columns : List Wide) (o : Option ℕ) (v : ℕ) (w d : Wide) → v < length columns → o ≡ Some v → w ≡ get_or columns v d → value_of w ≡ known_value columns o
known_found columns o v w d l e h = ap value_of h ∙ value_found columns v d l ∙ ap (known_value columns) (sym e)

pub known_room : (r : Running) (v : ℕ) (w d : Wide) → AreCounted r → v < length r.columns.items → w ≡ get_or r.columns.items v d → HasRoom w
known_room r v w d h l e = (r.count, (let s = h.small in omega (arith, s)), subst (AreParts r.count) (sym e) (room_at r.count v r.columns.items d l h.columns))

-- ---- the columns of a callee

dropped_none : {X : Type 0} (xs : List X) (i : ℕ) → length xs ≤ i → drop i xs ≡ []
dropped_none [] zero l = refl
dropped_none [] (suc i) l = refl
dropped_none (x ∷ xs) zero l = absurd (omega (arith, l))
dropped_none (x ∷ xs) (suc i) l = dropped_none xs i (omega (arith, l))

pub no_callee : (callee : Columns) (entry before : List ℕ) (j : ℕ) → length callee ≤ j → known_columns (drop j callee) (drop j entry) before ≡ []
no_callee callee entry before j l = ap (λ (c : Columns). known_columns c (drop j entry) before) (dropped_none callee j l)

none_entered : (callee : Columns) (before : List ℕ) → known_columns callee [] before ≡ []
none_entered [] before = refl
none_entered (c ∷ cs) before = refl

pub no_entry : (callee : Columns) (entry before : List ℕ) (j : ℕ) → length entry ≤ j → known_columns (drop j callee) (drop j entry) before ≡ []
no_entry callee entry before j l = ap (λ (v : List ℕ). known_columns (drop j callee) v before) (dropped_none entry j l) ∙ none_entered (drop j callee) before

pub all_taken : (columns : List Wide) (known : List (Option ℕ)) (left : List (Option ℕ)) (now : List Wide) → left ≡ [] →
    map value_of now ++ map (known_value columns) left ≡ map (known_value columns) known → map value_of now ≡ map (known_value columns) known
all_taken columns known left now e h = sym (append-nil (map value_of now)) ∙ sym (ap (λ (l : List (Option ℕ)). map value_of now ++ map (known_value columns) l) e) ∙ h

pub all_more : {X : Type 0} (P : X → Type 0) (xs new : List X) (x : X) → new ≡ xs ++ x ∷ [] → AllByRecursion P xs → P x → AllByRecursion P new
all_more {X} P xs new x e h p = subst (λ (l : List X). AllByRecursion P l) (sym e) (joined xs h)
  where
    joined : (ys : List X) → AllByRecursion P ys → AllByRecursion P (ys ++ x ∷ [])
    joined [] h = (p, tt)
    joined (y ∷ ys) h = (h.0, joined ys h.1)

pub below_next : (state : List ℕ) (i old new : ℕ) → i < length state → AllByRecursion (λ v. v < old) (take i state) → old ≤ new → get_or state i 0 < new →
    AllByRecursion (λ v. v < new) (take (i + 1) state)
below_next [] i old new l h a b = absurd (omega (arith, l))
below_next (x ∷ xs) zero old new l h a b = (b, tt)
below_next (x ∷ xs) (suc i) old new l h a b = subst (λ (n : ℕ). AllByRecursion (λ v. v < new) (take n (x ∷ xs))) (let n : suc (i + 1) ≡ suc i + 1 = omega arith in n)
    ((let k = h.0 in omega (arith, k, a)), below_next xs i old new (omega (arith, l)) h.1 a b)

-- columns without numbers
pub record AreZero (n : ℕ) (ws : List Wide) : Type 0 where
  pub count : length ws ≡ n
  pub values : (v : ℕ) → value_at ws v ≡ pos 0
  pub parts : AllByRecursion (AreParts 0) ws

pub no_zero : (ws : List Wide) → ws ≡ [] → AreZero 0 ws
no_zero ws e = subst (AreZero 0) (sym e) (record { count = refl; values = λ v. refl; parts = tt })

pushed_value : (ws : List Wide) (w : Wide) → value_of w ≡ pos 0 → ((v : ℕ) → value_at ws v ≡ pos 0) → (v : ℕ) → value_at (ws ++ w ∷ []) v ≡ pos 0
pushed_value [] w e h zero = e
pushed_value [] w e h (suc v) = refl
pushed_value (x ∷ ws) w e h zero = h 0
pushed_value (x ∷ ws) w e h (suc v) = pushed_value ws w e (λ k. h (suc k)) v

pub one_zero : (n : ℕ) (ws new : List Wide) (w : Wide) → new ≡ ws ++ w ∷ [] → value_of w ≡ pos 0 → AreParts 0 w → AreZero n ws → AreZero (n + 1) new
one_zero n ws new w e v p h = record {
  count = ap (λ (l : List Wide). length l) e ∙ length-append ws (w ∷ []) ∙ ap (λ (k : ℕ). k + 1) h.count;
  values = λ k. ap (λ (l : List Wide). value_at l k) e ∙ pushed_value ws w v h.values k;
  parts = all_more (AreParts 0) ws new w e h.parts p;
}

-- ---- the node of a sum

pub sum_node : (n : PredNode) (ts : List (ℕ × ℤ)) (bound : ℤ) → n ∷ [] ≡ prefix_of (inequality ts bound) → n ≡ node_of (inequality ts bound)
sum_node n [] bound e = cc
sum_node n (t ∷ ts) bound e = cc

pub if_ok : {A E : Type 0} (P Q : A → Type 0) → ((a : A) → P a → Q a) → (r : Result A E) → IfOk r P → IfOk r Q
if_ok P Q f (Ok a) h = f a h
if_ok P Q f (Err e) h = tt
