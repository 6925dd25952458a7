-- Several conditions together: how many members their list has, and what fits.
use Rattle.std.proofs.Common.{◌≡◌, ℕ, zero, suc, ◌+◌, ◌-◌, ◌*◌, ◌<◌, ◌≤◌, Bool, true, false, ◌&&◌, ◌||◌, List, [], ◌∷◌, map, length, drop, get_or, refl, sym, ◌∙◌, ap, length-append, Result, Ok, Err, arith}
use Rattle.std.specs.Result.{IsErrAnd}
use Rattle.std.proofs.lemmas.Bool.{lt-ltb}
use Rattle.std.proofs.lemmas.Bool.Decides.{nat_tests}
use Rattle.std.proofs.Math.Seq.{drop-cons}
use Rattle.typed_tree.specs.TypedTree.{TypedExpression}
use Rattle.typed_tree.specs.TypedView.{expression}
use Rattle.typed_tree.specs.declared.types.TExpr.{TExpr}
use Rattle.cond_jumps.specs.declared.fault.JumpFault.{JumpFault}
use Rattle.cond_jumps.specs.Conjunctions.{Conjunction, Jumps, joined, each_with, listed_plan, is_long, is_wide, list_fits, all_fit}
use Rattle.cond_jumps.specs.Environments.{Environment}
use Rattle.cond_jumps.specs.Moving.{moved, IsEven, IsEvenPlan, IsEvenEnvironment}
use Rattle.cond_jumps.specs.Paths.{paths}
use Rattle.cond_jumps.proofs.EvenLemmas.{listed_even, paths_even}
use Rattle.lowered_graph.specs.LoweredSteps.Edges.{all_hold}
use Rattle.icfg_lower.specs.CallJumps.Ties.Conjoined.{HasMembers}

pub conjoined_even : (w : ℕ) (v : Environment) → IsEvenEnvironment w v → (es : List TypedExpression) → IsEvenPlan w (all_hold v es)
conjoined_even w v h [] = λ n k l. refl
conjoined_even w v h (e ∷ es) = (paths_even w v h false e true, conjoined_even w v h es)

-- ---- numbers of members

length-map : {A B : Type 0} (f : A → B) (xs : List A) → length (map f xs) ≡ length xs
length-map f [] = refl
length-map f (x ∷ xs) = ap suc (length-map f xs)

-- each of one list joined to each of another
each_length : (n : ℕ) (cs : List Conjunction) (b : Jumps) → IsEven n b → length (each_with cs b n) ≡ length cs * length (b n)
each_length n [] b h = omega arith
each_length n (c ∷ cs) b h =
    let a = length-append (map (joined c) (b (n + c.helpers))) (each_with cs b n) in
    let d = length-map (joined c) (b (n + c.helpers)) in
    let e : length (b (n + c.helpers)) ≡ length (b n) = ap length (h n c.helpers (omega arith)) ∙ length-map (moved n c.helpers) (b n) in
    let f = each_length n cs b h in
    omega (arith, a, d, e, f)

-- one more condition in front
members_are : (n : ℕ) (v : Environment) → IsEvenEnvironment n v → (e : TypedExpression) (es : List TypedExpression) (one all : ℕ) → one ≡ length (listed_plan (paths v false e true) n) →
    all ≡ length (listed_plan (all_hold v es) n) → length (listed_plan (all_hold v (e ∷ es)) n) ≡ one * all
members_are n v h e es one all i j =
    each_length n (listed_plan (paths v false e true) n) (listed_plan (all_hold v es)) (listed_even n (all_hold v es) (conjoined_even n v h es)) ∙ (λ k. sym i k * sym j k)

pub more_members : (n : ℕ) (v : Environment) → IsEvenEnvironment n v → (e : TypedExpression) (es : List TypedExpression) (one all both : ℕ) →
    is_wide (paths v false e true) n ≡ false → one ≡ length (listed_plan (paths v false e true) n) → HasMembers (all_hold v es) n all → (both ≡ one * all) × (both ≤ 4096) →
    HasMembers (all_hold v (e ∷ es)) n both
more_members n v h e es one all both w i k b =
    let m = members_are n v h e es one all i k.count in
    let l : length (listed_plan (all_hold v (e ∷ es)) n) ≤ 4096 = omega (arith, m, b) in
    record {
      narrow = λ j. not_long (listed_plan (all_hold v (e ∷ es)) n) l j || (w j || k.narrow j);
      count = b.0 ∙ sym m;
    }
  where
    not_long : (cs : List Conjunction) → length cs ≤ 4096 → is_long cs ≡ false
    not_long cs l = grind (arith, nat_tests)

pub no_members : (n : ℕ) (v : Environment) → HasMembers (all_hold v []) n 1
no_members n v = record { narrow = refl; count = refl }

pub too_many : (n : ℕ) (v : Environment) → IsEvenEnvironment n v → (e : TypedExpression) (es : List TypedExpression) (one all : ℕ) →
    one ≡ length (listed_plan (paths v false e true) n) → HasMembers (all_hold v es) n all → 4096 < one * all → is_wide (all_hold v (e ∷ es)) n ≡ true
too_many n v h e es one all i k l =
    let m = members_are n v h e es one all i k.count in
    let g : 4096 < length (listed_plan (all_hold v (e ∷ es)) n) = omega (arith, m) in
    λ j. lt-ltb 4096 (length (listed_plan (all_hold v (e ∷ es)) n)) g j || (is_wide (paths v false e true) n || is_wide (all_hold v es) n)

-- ---- a part of the conditions

second_wide : (x a b : Bool) → b ≡ true → (x || (a || b)) ≡ true
second_wide true a b h = refl
second_wide false true b h = refl
second_wide false false b h = h

first_wide : (x a b : Bool) → a ≡ true → (x || (a || b)) ≡ true
first_wide true a b h = refl
first_wide false a b h = λ j. h j || b

pub wide_part : (n : ℕ) (v : Environment) (place : ℕ) (es : List TypedExpression) → is_wide (all_hold v (drop place es)) n ≡ true → is_wide (all_hold v es) n ≡ true
wide_part n v zero es h = h
wide_part n v (suc place) [] h = h
wide_part n v (suc place) (e ∷ es) h =
    second_wide (is_long (listed_plan (all_hold v (e ∷ es)) n)) (is_wide (paths v false e true) n) (is_wide (all_hold v es) n) (wide_part n v place es h)

pub wide_first : (n : ℕ) (v : Environment) (e : TypedExpression) (es : List TypedExpression) → is_wide (paths v false e true) n ≡ true → is_wide (all_hold v (e ∷ es)) n ≡ true
wide_first n v e es h = first_wide (is_long (listed_plan (all_hold v (e ∷ es)) n)) (is_wide (paths v false e true) n) (is_wide (all_hold v es) n) h

second_unfit : (x a b : Bool) → b ≡ false → (x && (a && b)) ≡ false
second_unfit true true b h = h
second_unfit true false b h = refl
second_unfit false a b h = refl

first_unfit : (x a b : Bool) → a ≡ false → (x && (a && b)) ≡ false
first_unfit true a b h = λ j. h j && b
first_unfit false a b h = refl

pub unfit_part : (n : ℕ) (v : Environment) (place : ℕ) (es : List TypedExpression) → all_fit (all_hold v (drop place es)) n ≡ false → all_fit (all_hold v es) n ≡ false
unfit_part n v zero es h = h
unfit_part n v (suc place) [] h = h
unfit_part n v (suc place) (e ∷ es) h =
    second_unfit (list_fits (listed_plan (all_hold v (e ∷ es)) n)) (all_fit (paths v false e true) n) (all_fit (all_hold v es) n) (unfit_part n v place es h)

pub unfit_first : (n : ℕ) (v : Environment) (e : TypedExpression) (es : List TypedExpression) → all_fit (paths v false e true) n ≡ false → all_fit (all_hold v (e ∷ es)) n ≡ false
unfit_first n v e es h = first_unfit (list_fits (listed_plan (all_hold v (e ∷ es)) n)) (all_fit (paths v false e true) n) (all_fit (all_hold v es) n) h

-- ---- places of conditions

pub drop_map : (place : ℕ) (xs : List TExpr) → drop place (map expression xs) ≡ map expression (drop place xs)
drop_map zero xs = refl
drop_map (suc place) [] = refl
drop_map (suc place) (x ∷ xs) = drop_map place xs

-- the condition before a place, in front of those from it on
pub from_place : (place : ℕ) (xs : List TExpr) (x : TExpr) → 0 < place → place ≤ length xs → x ≡ get_or xs (place - 1) x →
    drop (place - 1) (map expression xs) ≡ expression x ∷ map expression (drop place xs)
from_place place xs x l m i =
    let e : suc (place - 1) ≡ place = omega arith in
    drop_map (place - 1) xs ∙ ap (map expression) (drop-cons xs (place - 1) x (omega arith)) ∙ (λ j. expression (sym i j) ∷ map expression (drop (e j) xs))

pub from_there : (place : ℕ) (xs : List TExpr) → map expression (drop place xs) ≡ drop place (map expression xs)
from_there place xs = sym (drop_map place xs)

-- ---- faults that are handed on

pub handed : {X Y : Type 0} (q : Result X JumpFault) (r : Result Y JumpFault) (f want : JumpFault) → q ≡ Err f → IsErrAnd r (λ g. g ≡ f) → r ≡ Err want → q ≡ Err want
handed q (Ok y) f want e h t = absurd h
handed q (Err g) f want e h t = let k : g ≡ want = cc in e ∙ ap Err (sym h ∙ k)
