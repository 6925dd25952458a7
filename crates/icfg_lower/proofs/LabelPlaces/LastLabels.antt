-- Labels at the end of a block.
use Rattle.std.proofs.Common.{◌≡◌, ◌∙◌, ℕ, zero, suc, ◌-◌, ◌<◌, ◌≤◌, Bool, true, false, ◌&&◌, List, [], ◌∷◌, map, length, drop, get_or, nat_le, refl, sym, ap, inl, inr, ◌⊎◌, arith}
use Rattle.std.specs.List.{list_all}
use Rattle.std.proofs.lemmas.Bool.{and_parts}
use Rattle.std.proofs.lemmas.Bool.Decides.{nat_tests}
use Rattle.typed_tree.specs.declared.types.TStmt.{TStmt}
use Rattle.typed_tree.specs.TypedView as view
use Rattle.boogie_run.specs.BoogiePoints.Stacks.{is_label}

abbrev are_labels : List TStmt → Bool
are_labels xs = list_all is_label (map view.statement xs)

pub none_left : (xs : List TStmt) → are_labels (drop (length xs) xs) ≡ true
none_left [] = refl
none_left (x ∷ xs) = none_left xs

all_behind : (xs : List TStmt) (c k : ℕ) → are_labels (drop c xs) ≡ true → c ≤ k → are_labels (drop k xs) ≡ true
all_behind [] c zero h l = refl
all_behind [] c (suc k) h l = refl
all_behind (x ∷ xs) zero zero h l = h
all_behind (x ∷ xs) zero (suc k) h l = all_behind xs zero k (and_parts (is_label (view.statement x)) (are_labels xs) h).1 (omega arith)
all_behind (x ∷ xs) (suc c) zero h l = absurd (omega arith)
all_behind (x ∷ xs) (suc c) (suc k) h l = all_behind xs c k h (omega arith)

none_before : (xs : List TStmt) (c k : ℕ) (x : TStmt) → k ≤ c → c < length xs → x ≡ get_or xs c x → is_label (view.statement x) ≡ false → are_labels (drop k xs) ≡ false
none_before [] c k x l m e i = absurd (omega arith)
none_before (y ∷ ys) zero zero x l m e i =
    let one : is_label (view.statement y) ≡ false = ap (λ (z : TStmt). is_label (view.statement z)) (sym e) ∙ i in
    ap (λ (b : Bool). b && are_labels ys) one
none_before (y ∷ ys) zero (suc k) x l m e i = absurd (omega arith)
none_before (y ∷ ys) (suc c) zero x l m e i =
    ap (λ (b : Bool). is_label (view.statement y) && b) (none_before ys c zero x (omega arith) (omega arith) e i) ∙ never (is_label (view.statement y))
  where
    never : (b : Bool) → (b && false) ≡ false
    never true = refl
    never false = refl
none_before (y ∷ ys) (suc c) (suc k) x l m e i = none_before ys c k x (omega arith) (omega arith) e i

tested : (c k : ℕ) → c ≤ k → nat_le c k ≡ true
tested c k l = grind (arith, nat_tests)

not_tested : (c k : ℕ) → k < c → nat_le c k ≡ false
not_tested c k l = grind (arith, nat_tests)

either : (c k : ℕ) → (c ≤ k) ⊎ (k < c)
either zero k = inl (omega arith)
either (suc c) zero = inr (omega arith)
either (suc c) (suc k) = elim (either c k) [ inl l ↦ inl (omega arith) | inr l ↦ inr (omega arith) ]

-- only labels are left behind the last statement that is none
pub last_found : (xs : List TStmt) (c : ℕ) (x : TStmt) → 0 < c → c ≤ length xs → x ≡ get_or xs (c - 1) x → is_label (view.statement x) ≡ false → are_labels (drop c xs) ≡ true →
    (k : ℕ) → are_labels (drop k xs) ≡ nat_le c k
last_found xs c x p l e i h k =
    elim (either c k) [
      | inl m ↦ all_behind xs c k h m ∙ sym (tested c k m)
      | inr m ↦ none_before xs (c - 1) k x (omega arith) (omega arith) e i ∙ sym (not_tested c k m)
    ]

-- and where all statements are labels, from the first on
pub all_found : (xs : List TStmt) (c : ℕ) → c ≤ 0 → are_labels (drop c xs) ≡ true → (k : ℕ) → are_labels (drop k xs) ≡ nat_le c k
all_found xs c l h k = all_behind xs c k h (omega arith) ∙ sym (tested c k (omega arith))
