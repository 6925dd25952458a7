-- What the code answers for the numbers of members.
use Rattle.std.proofs.Common.{◌≡◌, ℕ, ◌+◌, ◌*◌, ◌<◌, ◌≤◌, Bool, true, false, ◌||◌, List, [], ◌∷◌, ◌++◌, map, length, length-append, Result, Ok, Err, refl, sym, ◌∙◌, ap, arith}
use Rattle.std.proofs.lemmas.Bool.{lt-ltb}
use Rattle.std.proofs.lemmas.Bool.Decides.{nat_tests}
use Rattle.cond_jumps.specs.declared.fault.JumpFault.{JumpFault}
use Rattle.cond_jumps.specs.declared.fault.JumpFault.TheVariants.{TooWide, TooBig}
use Rattle.cond_jumps.specs.Conjunctions.{Conjunction, joined, each_with, Plan, Then, With, listed_plan, is_long, is_wide}
use Rattle.cond_jumps.specs.Ties.JoinView.{each_moved}
use Rattle.cond_jumps.specs.Moving.{moved, IsEvenPlan}
use Rattle.cond_jumps.specs.Ties.WidthView.{IsWidth, IsWidthAnswer, IsLimited}
use Rattle.cond_jumps.proofs.EvenLemmas.{listed_even}
use Rattle.cond_jumps.proofs.PlanAnswers.{each_moved_is}

-- ---- numbers of members

length-map : {A B : Type 0} (f : A → B) (xs : List A) → length (map f xs) ≡ length xs
length-map f [] = refl
length-map f (x ∷ xs) = let e = length-map f xs in omega (arith, e)

length-each_moved : (w : ℕ) (cs ds : List Conjunction) → length (each_moved w cs ds) ≡ length cs * length ds
length-each_moved w [] ds = omega arith
length-each_moved w (c ∷ cs) ds =
    let a = length-append (map (joined c) (map (moved w c.helpers) ds)) (each_moved w cs ds) in
    let b = length-map (joined c) (map (moved w c.helpers) ds) in
    let d = length-map (moved w c.helpers) ds in
    let e = length-each_moved w cs ds in
    omega (arith, a, b, d, e)

not_long : (cs : List Conjunction) → length cs ≤ 4096 → is_long cs ≡ false
not_long cs l = grind (arith, nat_tests)

long : (cs : List Conjunction) → 4096 < length cs → is_long cs ≡ true
long cs l = lt-ltb 4096 (length cs) l

-- ---- a list made of two

-- where one of them is too wide
pub first_wide : (x a b : Bool) → a ≡ true → (x || (a || b)) ≡ true
first_wide true a b h = refl
first_wide false a b h = rw h refl

pub second_wide : (x a b : Bool) → b ≡ true → (x || (a || b)) ≡ true
second_wide true a b h = refl
second_wide false true b h = refl
second_wide false false b h = h

all_narrow : (x a b : Bool) → x ≡ false → a ≡ false → b ≡ false → (x || (a || b)) ≡ false
all_narrow x a b h k l = rw (h, k, l) refl

pub then_width : (p q : Plan) (n : ℕ) (a b m : ℕ) (r : Result ℕ JumpFault) → IsWidth p n a → IsWidth q n b → m ≡ a + b → IsLimited m r → IsWidthAnswer (Then p q) n r
then_width p q n a b m (Ok w) h k e l =
    let d = length-append (listed_plan p n) (listed_plan q n) in
    let s : length (listed_plan p n ++ listed_plan q n) ≡ m = omega (arith, d, e, h.exact, k.exact) in
    let i : m ≤ 4096 = l.1 in
    record {
      narrow = all_narrow (is_long (listed_plan p n ++ listed_plan q n)) (is_wide p n) (is_wide q n) (not_long (listed_plan p n ++ listed_plan q n) (omega arith)) h.narrow k.narrow;
      exact = l.0 ∙ sym s;
    }
then_width p q n a b m (Err f) h k e l =
    let d = length-append (listed_plan p n) (listed_plan q n) in
    let s : length (listed_plan p n ++ listed_plan q n) ≡ m = omega (arith, d, e, h.exact, k.exact) in
    let i : 4096 < m = l.1 in
    ((λ t. ap (λ (x : Bool). x || (is_wide p n || is_wide q n)) (long (listed_plan p n ++ listed_plan q n) (omega arith))), (λ t. not_both (sym l.0 ∙ t)))
  where
    not_both : TooWide ≡ TooBig → ⊥
    not_both t = cc

pub with_width : (p q : Plan) (n : ℕ) (a b m : ℕ) (r : Result ℕ JumpFault) → IsEvenPlan n q → IsWidth p n a → IsWidth q n b → m ≡ a * b → IsLimited m r →
    IsWidthAnswer (With p q) n r
with_width p q n a b m r i h k e l = by_answer r l
  where
    members : length (each_with (listed_plan p n) (listed_plan q) n) ≡ m
    members =
        ap length (each_moved_is n (listed_plan p n) (listed_plan q) (listed_even n q i)) ∙ length-each_moved n (listed_plan p n) (listed_plan q n)
        ∙ (λ j. sym h.exact j * sym k.exact j) ∙ sym e

    not_both : TooWide ≡ TooBig → ⊥
    not_both t = cc

    by_answer : (s : Result ℕ JumpFault) → IsLimited m s → IsWidthAnswer (With p q) n s
    by_answer (Ok w) g =
        let d = members in
        let j : m ≤ 4096 = g.1 in
        record {
          narrow =
              all_narrow (is_long (each_with (listed_plan p n) (listed_plan q) n)) (is_wide p n) (is_wide q n) (not_long (each_with (listed_plan p n) (listed_plan q) n) (omega arith))
              h.narrow k.narrow;
          exact = g.0 ∙ sym d;
        }
    by_answer (Err f) g =
        let d = members in
        let j : 4096 < m = g.1 in
        ((λ t. ap (λ (x : Bool). x || (is_wide p n || is_wide q n)) (long (each_with (listed_plan p n) (listed_plan q) n) (omega arith))), (λ t. not_both (sym g.0 ∙ t)))
