-- Numbers added to running sums.
use Rattle.std.proofs.Common.{◌≡◌, ◌∙◌, ℕ, zero, suc, ◌+◌, ◌^◌, ◌<◌, ◌≤◌, ℤ, pos, ◌+ℤ◌, ◌*ℤ◌, Bool, true, false, List, [], ◌∷◌, length, get_or, set, drop, refl, ap, subst, arith}
use Prim.Native.Nat.compare
use Rattle.std.specs.Prelude.{nat_eq, if◌then◌else◌, Result, Ok, Err, OnOk}
use Rattle.std.specs.List.{AllByRecursion}
use Rattle.math_facts.specs.Terms.{coefficient}
use Rattle.math_facts.proofs.Whole.{distrib_left, product_zero_right}
use Rattle.lin_rows.specs.Rows.{LinearRow}
use Rattle.lin_rows.specs.Combinations.{combined, row_at}
use Rattle.std.proofs.lemmas.Int.{ints}
use Rattle.std.proofs.lemmas.Bool.{ne_eqb}
use Rattle.std.proofs.lemmas.List.{drop_all}
use Rattle.std.proofs.Math.Seq.{drop-cons}
use Rattle.nested_itp.specs.declared.nested_predicates.wide.Wide.{Wide}
use Rattle.nested_itp.specs.declared.nested_predicates.running.Running.{Running}
use Rattle.nested_itp.specs.NestedPredicates.Wides.{value_of, AreParts, KeepsCount}
use Rattle.nested_itp.specs.NestedPredicates.Runnings.{value_at, AreCounted, SameWidth, AddsTerm, AddsTerms, AddsBound, AddsRow}

-- ---- one more

more_parts : (n : ℕ) (w : Wide) → AreParts n w → AreParts (suc n) w
more_parts n w h = record {
  high_above = omega (arith, ints, h.high_above);
  high_below = omega (arith, ints, h.high_below);
  low_above = h.low_above;
  low_below = omega (arith, ints, h.low_below);
}

all_more : (n : ℕ) (ws : List Wide) → AllByRecursion (AreParts n) ws → AllByRecursion (AreParts (suc n)) ws
all_more n [] h = tt
all_more n (w ∷ ws) h = (more_parts n w h.0, all_more n ws h.1)

all_set : (n c : ℕ) (ws : List Wide) (w : Wide) → AllByRecursion (AreParts n) ws → AreParts (suc n) w → AllByRecursion (AreParts (suc n)) (set ws c w)
all_set n c [] w h k = tt
all_set n zero (v ∷ ws) w h k = (k, all_more n ws h.1)
all_set n (suc c) (v ∷ ws) w h k = (more_parts n v h.0, all_set n c ws w h.1 k)

pub room_at : (n c : ℕ) (ws : List Wide) (d : Wide) → c < length ws → AllByRecursion (AreParts n) ws → AreParts n (get_or ws c d)
room_at n c [] d l h = absurd (omega (arith, l))
room_at n zero (w ∷ ws) d l h = h.0
room_at n (suc c) (w ∷ ws) d l h = room_at n c ws d (omega (arith, l)) h.1

length_set : (c : ℕ) (ws : List Wide) (w : Wide) → length (set ws c w) ≡ length ws
length_set c [] w = refl
length_set zero (v ∷ ws) w = refl
length_set (suc c) (v ∷ ws) w = ap suc (length_set c ws w)

-- ---- the numbers

value_set : (c : ℕ) (ws : List Wide) (w d : Wide) (z : ℤ) (x : ℕ) → c < length ws → value_of w ≡ value_of (get_or ws c d) +ℤ z →
    value_at (set ws c w) x ≡ value_at ws x +ℤ (if nat_eq c x then z else pos 0)
value_set c [] w d z x l e = absurd (omega (arith, l))
value_set zero (v ∷ ws) w d z zero l e = e
value_set zero (v ∷ ws) w d z (suc x) l e =
    let f : nat_eq 0 (suc x) ≡ false = ne_eqb 0 (suc x) (λ (s : 0 ≡ suc x). omega (arith, s)) in
    rw f (omega (arith, ints))
value_set (suc c) (v ∷ ws) w d z zero l e =
    let f : nat_eq (suc c) 0 ≡ false = ne_eqb (suc c) 0 (λ (s : suc c ≡ 0). omega (arith, s)) in
    rw f (omega (arith, ints))
value_set (suc c) (v ∷ ws) w d z (suc x) l e = rw compare.suc-suc (value_set c ws w d z x (omega (arith, l)) e)

pub term_added : (r new : Running) (column : ℕ) (z : ℤ) (w d : Wide) → AreCounted r → r.count < 2 ^ 59 → column < length r.columns.items →
    value_of w ≡ value_of (get_or r.columns.items column d) +ℤ z → KeepsCount (get_or r.columns.items column d) w →
    new.columns.items ≡ set r.columns.items column w → new.bound ≡ r.bound → new.count ≡ r.count + 1 → AddsTerm column z r new
term_added r new column z w d h small l e k items bound count =
    let c : new.count ≡ suc r.count = omega (arith, count) in
    record {
      width = rw items (length_set column r.columns.items w);
      columns = λ x i. rw items (value_set column r.columns.items w d z x l e);
      bound = bound;
      counted = record {
        columns = rw c (rw items (all_set r.count column r.columns.items w h.columns (k r.count (room_at r.count column r.columns.items d l h.columns))));
        bound = rw c (rw bound (more_parts r.count r.bound h.bound));
        small = omega (arith, count, small);
      };
    }

pub term_left_out : (r new : Running) (column : ℕ) (z : ℤ) → AreCounted r → r.count < 2 ^ 59 → length r.columns.items ≤ column →
    new.columns.items ≡ r.columns.items → new.bound ≡ r.bound → new.count ≡ r.count + 1 → AddsTerm column z r new
term_left_out r new column z h small l items bound count =
    let c : new.count ≡ suc r.count = omega (arith, count) in
    record {
      width = ap length items;
      columns = λ x i.
          let e : nat_eq column x ≡ false = ne_eqb column x (λ (s : column ≡ x). omega (arith, i, l, s)) in
          rw items (rw e (omega (arith, ints)));
      bound = bound;
      counted = record {
        columns = rw c (rw items (all_more r.count r.columns.items h.columns));
        bound = rw c (rw bound (more_parts r.count r.bound h.bound));
        small = omega (arith, count, small);
      };
    }

pub bound_added : (r new : Running) (z : ℤ) → AreCounted r → r.count < 2 ^ 59 → new.columns.items ≡ r.columns.items → value_of new.bound ≡ value_of r.bound +ℤ z →
    KeepsCount r.bound new.bound → new.count ≡ r.count + 1 → AddsBound z r new
bound_added r new z h small items e k count =
    let c : new.count ≡ suc r.count = omega (arith, count) in
    record {
      columns = items;
      bound = e;
      counted = record {
        columns = rw c (rw items (all_more r.count r.columns.items h.columns));
        bound = rw c (k r.count h.bound);
        small = omega (arith, count, small);
      };
    }

-- ---- lists

pub drop_front : (xs : List (ℕ × ℤ)) (i : ℕ) (d : ℕ × ℤ) → i < length xs → drop i xs ≡ get_or xs i d ∷ drop (i + 1) xs
drop_front xs i d l = drop-cons xs i d l ∙ ap (λ (n : ℕ). get_or xs i d ∷ drop n xs) (let e : suc i ≡ i + 1 = omega arith in e)

pub all_at : (P : ℕ × ℤ → Type 0) (xs : List (ℕ × ℤ)) (i : ℕ) (d : ℕ × ℤ) → i < length xs → AllByRecursion P xs → P (get_or xs i d)
all_at P [] i d l h = absurd (omega (arith, l))
all_at P (x ∷ xs) zero d l h = h.0
all_at P (x ∷ xs) (suc i) d l h = all_at P xs i d (omega (arith, l)) h.1

pub row_found : (rows : List LinearRow) (k : ℕ) (d : LinearRow) → k < length rows → row_at rows k ≡ get_or rows k d
row_found [] k d l = absurd (omega (arith, l))
row_found (r ∷ rs) zero d l = refl
row_found (r ∷ rs) (suc k) d l = row_found rs k d (omega (arith, l))

-- ---- terms, from the front

-- the terms from number i on are left to be added
pub record TermsLeft (terms : List (ℕ × ℤ)) (times : ℤ) (i : ℕ) (first now : Running) : Type 0 where
  pub width : SameWidth first now
  pub columns : (x : ℕ) → x < length first.columns.items →
      value_at now.columns.items x +ℤ (times *ℤ coefficient x (drop i terms)) ≡ value_at first.columns.items x +ℤ (times *ℤ coefficient x terms)
  pub bound : now.bound ≡ first.bound
  pub counted : AreCounted now

product_of_front : (b : Bool) (times a rest : ℤ) → times *ℤ ((if b then a else pos 0) +ℤ rest) ≡ (if b then times *ℤ a else pos 0) +ℤ (times *ℤ rest)
product_of_front true times a rest = distrib_left times a rest
product_of_front false times a rest = distrib_left times (pos 0) rest ∙ ap (λ (z : ℤ). z +ℤ (times *ℤ rest)) (product_zero_right times)

pub term_taken : (terms : List (ℕ × ℤ)) (times : ℤ) (i : ℕ) (first now next : Running) (t d : ℕ × ℤ) → i < length terms → get_or terms i d ≡ t →
    TermsLeft terms times i first now → AddsTerm t.0 (times *ℤ t.1) now next → TermsLeft terms times (i + 1) first next
term_taken terms times i first now next t d l e h a = record {
  width = a.width ∙ h.width;
  columns = λ x k.
      let f : drop i terms ≡ t ∷ drop (i + 1) terms = drop_front terms i d l ∙ ap (λ (u : ℕ × ℤ). u ∷ drop (i + 1) terms) e in
      let old : value_at now.columns.items x +ℤ (times *ℤ coefficient x (t ∷ drop (i + 1) terms)) ≡ value_at first.columns.items x +ℤ (times *ℤ coefficient x terms) =
      subst (λ (ts : List (ℕ × ℤ)). value_at now.columns.items x +ℤ (times *ℤ coefficient x ts) ≡ value_at first.columns.items x +ℤ (times *ℤ coefficient x terms)) f (h.columns x k) in
      let grown : value_at next.columns.items x ≡ value_at now.columns.items x +ℤ (if nat_eq t.0 x then times *ℤ t.1 else pos 0) = a.columns x (rw h.width k) in
      let split : times *ℤ coefficient x (t ∷ drop (i + 1) terms) ≡ (if nat_eq t.0 x then times *ℤ t.1 else pos 0) +ℤ (times *ℤ coefficient x (drop (i + 1) terms)) =
      product_of_front (nat_eq t.0 x) times t.1 (coefficient x (drop (i + 1) terms)) in
      omega (arith, ints, old, grown, split);
  bound = a.bound ∙ h.bound;
  counted = a.counted;
}

pub terms_done : (terms : List (ℕ × ℤ)) (times : ℤ) (i : ℕ) (first now : Running) → length terms ≤ i → TermsLeft terms times i first now → AddsTerms terms times first now
terms_done terms times i first now l h = record {
  width = h.width;
  columns = λ x k.
      let e : drop i terms ≡ [] = drop_all i terms l in
      let z : times *ℤ coefficient x (drop i terms) ≡ pos 0 = ap (λ (ts : List (ℕ × ℤ)). times *ℤ coefficient x ts) e ∙ product_zero_right times in
      omega (arith, ints, h.columns x k, z);
  bound = h.bound;
  counted = h.counted;
}

-- ---- rows

pub row_added : (row : LinearRow) (times number : ℤ) (old mid new : Running) → number ≡ times *ℤ row.bound → AddsTerms row.terms times old mid → AddsBound number mid new → AddsRow row times old new
row_added row times number old mid new e a b = record {
  width = ap length b.columns ∙ a.width;
  columns = λ x l. rw b.columns (a.columns x l);
  bound = b.bound ∙ ap (λ (w : Wide). value_of w +ℤ number) a.bound ∙ ap (λ (z : ℤ). value_of old.bound +ℤ z) e;
  counted = b.counted;
}

-- the parts from number i on are left to be added
pub record PartsLeft (rows : List LinearRow) (parts : List (ℕ × ℤ)) (i : ℕ) (first now : Running) : Type 0 where
  pub width : SameWidth first now
  pub columns : (x : ℕ) → x < length first.columns.items →
      value_at now.columns.items x +ℤ combined (λ r. coefficient x r.terms) rows (drop i parts) ≡ value_at first.columns.items x +ℤ combined (λ r. coefficient x r.terms) rows parts
  pub bound : value_of now.bound +ℤ combined (λ r. r.bound) rows (drop i parts) ≡ value_of first.bound +ℤ combined (λ r. r.bound) rows parts
  pub counted : AreCounted now

pub part_taken : (rows : List LinearRow) (parts : List (ℕ × ℤ)) (i : ℕ) (first now next : Running) (t d : ℕ × ℤ) → i < length parts → get_or parts i d ≡ t →
    PartsLeft rows parts i first now → AddsRow (row_at rows t.0) t.1 now next → PartsLeft rows parts (i + 1) first next
part_taken rows parts i first now next t d l e h a =
    let f : drop i parts ≡ t ∷ drop (i + 1) parts = drop_front parts i d l ∙ ap (λ (u : ℕ × ℤ). u ∷ drop (i + 1) parts) e in
    let row : LinearRow = row_at rows t.0 in
    let rest : List (ℕ × ℤ) = drop (i + 1) parts in
    record {
      width = a.width ∙ h.width;
      columns = λ x k.
          let number : LinearRow → ℤ = λ r. coefficient x r.terms in
          let old : value_at now.columns.items x +ℤ ((t.1 *ℤ number row) +ℤ combined number rows rest) ≡ value_at first.columns.items x +ℤ combined number rows parts =
          subst (λ (ts : List (ℕ × ℤ)). value_at now.columns.items x +ℤ combined number rows ts ≡ value_at first.columns.items x +ℤ combined number rows parts) f (h.columns x k) in
          let grown : value_at next.columns.items x ≡ value_at now.columns.items x +ℤ (t.1 *ℤ number row) = a.columns x (rw h.width k) in
          omega (arith, ints, old, grown);
      bound =
          let number : LinearRow → ℤ = λ r. r.bound in
          let old : value_of now.bound +ℤ ((t.1 *ℤ number row) +ℤ combined number rows rest) ≡ value_of first.bound +ℤ combined number rows parts =
          subst (λ (ts : List (ℕ × ℤ)). value_of now.bound +ℤ combined number rows ts ≡ value_of first.bound +ℤ combined number rows parts) f h.bound in
          omega (arith, ints, old, a.bound);
      counted = a.counted;
    }

pub on_ok : {A E : Type 0} (P Q : Type 0) → (P → Q) → (r : Result A E) → OnOk r P → OnOk r Q
on_ok P Q f (Ok a) h = f h
on_ok P Q f (Err e) h = tt
