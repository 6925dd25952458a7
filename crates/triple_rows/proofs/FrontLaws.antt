-- Lists over frames, read from the front: what one member more adds.
use Rattle.std.proofs.Common.{◌≡◌, ◌∙◌, ℕ, zero, suc, ◌+◌, ◌<◌, ◌≤◌, List, [], ◌∷◌, ◌++◌, length, take, get_or, None, Some, refl, sym, ap, arith}
use Rattle.std.proofs.lemmas.List.{append-nil, take_more, length-take-le}
use Rattle.boogie_tree.specs.declared.tree.Column.{Column}
use Rattle.boogie_tree.specs.declared.tree.Column.TheVariants.{Global, Old, Local}
use Rattle.boogie_tree.specs.declared.tree.VarInfo.{VarInfo}
use Rattle.letter_acts.specs.Frames.{Columns, old_at, olds_from, olds_of}
use Rattle.letter_acts.specs.Reading.{taken}
use Rattle.triple_rows.specs.Ties.Tables.{old_global}

-- ---- old columns

old_at-append : (c : Column) (n : ℕ) (xs ys : List (ℕ × ℕ)) → old_at c n (xs ++ ys) ≡ old_at c n xs ++ ys
old_at-append (Global g) n xs ys = refl
old_at-append (Old g) n xs ys = refl
old_at-append (Local l) n xs ys = refl

olds_joined : (xs ys : Columns) (n m : ℕ) → m ≡ n + length xs → olds_from n (xs ++ ys) ≡ olds_from n xs ++ olds_from m ys
olds_joined [] ys n m e = ap (λ (k : ℕ). olds_from k ys) (let i : n ≡ m = omega (arith, e) in i)
olds_joined (c ∷ xs) ys n m e =
    ap (old_at c.0 n) (olds_joined xs ys (suc n) m (omega (arith, e))) ∙ old_at-append c.0 n (olds_from (suc n) xs) (olds_from m ys)

olds_next : (xs : Columns) (i : ℕ) (x d : Column × VarInfo) → x ≡ get_or xs i d → i < length xs → olds_of (take (i + 1) xs) ≡ olds_of (take i xs) ++ old_at x.0 i []
olds_next xs i x d e l =
    ap olds_of (take_more xs i d l) ∙
    olds_joined (take i xs) (get_or xs i d ∷ []) 0 i (let k = length-take-le i xs (omega (arith, l)) in omega (arith, k)) ∙
    ap (λ (y : Column × VarInfo). olds_of (take i xs) ++ old_at y.0 i []) (sym e)

is_old : (c : Column) (n g : ℕ) → Some g ≡ old_global c → old_at c n [] ≡ (n, g) ∷ []
is_old (Global k) n g e = absurd (cc)
is_old (Old k) n g e = let h : g ≡ k = cc in ap (λ (m : ℕ). (n, m) ∷ []) (sym h)
is_old (Local k) n g e = absurd (cc)

is_not_old : (c : Column) (n : ℕ) → None ≡ old_global c → old_at c n [] ≡ []
is_not_old (Global k) n e = refl
is_not_old (Old k) n e = absurd (cc)
is_not_old (Local k) n e = refl

pub olds_pass : (xs : Columns) (i g : ℕ) (x d : Column × VarInfo) (now new : List (ℕ × ℕ)) → x ≡ get_or xs i d → i < length xs → Some g ≡ old_global x.0 →
    now ≡ olds_of (take i xs) → new ≡ now ++ (i, g) ∷ [] → new ≡ olds_of (take (i + 1) xs)
olds_pass xs i g x d now new e l t h k =
    k ∙ ap (λ (ns : List (ℕ × ℕ)). ns ++ (i, g) ∷ []) h ∙
    sym (olds_next xs i x d e l ∙ ap (λ (b : List (ℕ × ℕ)). olds_of (take i xs) ++ b) (is_old x.0 i g t))

pub olds_miss : (xs : Columns) (i : ℕ) (x d : Column × VarInfo) (now : List (ℕ × ℕ)) → x ≡ get_or xs i d → i < length xs → None ≡ old_global x.0 →
    now ≡ olds_of (take i xs) → now ≡ olds_of (take (i + 1) xs)
olds_miss xs i x d now e l t h =
    h ∙ sym (olds_next xs i x d e l ∙ ap (λ (b : List (ℕ × ℕ)). olds_of (take i xs) ++ b) (is_not_old x.0 i t) ∙ append-nil (olds_of (take i xs)))

-- ---- targets and results

pub taken_next : (ts rs : List ℕ) (i : ℕ) → i < length ts → i < length rs →
    taken (take i ts) (take i rs) ++ (get_or ts i 0, get_or rs i 0) ∷ [] ≡ taken (take (i + 1) ts) (take (i + 1) rs)
taken_next ts rs i l k = at ts rs i l k ∙ ap (λ (n : ℕ). taken (take n ts) (take n rs)) (let e : suc i ≡ i + 1 = omega arith in e)
  where
    at : (ts rs : List ℕ) (i : ℕ) → i < length ts → i < length rs →
        taken (take i ts) (take i rs) ++ (get_or ts i 0, get_or rs i 0) ∷ [] ≡ taken (take (suc i) ts) (take (suc i) rs)
    at [] rs i l k = absurd (omega arith)
    at (t ∷ ts) [] i l k = absurd (omega arith)
    at (t ∷ ts) (r ∷ rs) zero l k = refl
    at (t ∷ ts) (r ∷ rs) (suc i) l k = ap (λ (ps : List (ℕ × ℕ)). (t, r) ∷ ps) (at ts rs i (omega arith) (omega arith))

pub taken_short : (ts rs : List ℕ) (i : ℕ) → length rs ≤ i → taken (take i ts) (take i rs) ≡ taken ts rs
taken_short [] rs zero l = refl
taken_short [] rs (suc i) l = refl
taken_short (t ∷ ts) [] zero l = refl
taken_short (t ∷ ts) [] (suc i) l = refl
taken_short (t ∷ ts) (r ∷ rs) zero l = absurd (omega arith)
taken_short (t ∷ ts) (r ∷ rs) (suc i) l = ap (λ (ps : List (ℕ × ℕ)). (t, r) ∷ ps) (taken_short ts rs i (omega arith))

pub taken_long : (ts rs : List ℕ) (i : ℕ) → length ts ≤ i → taken (take i ts) (take i rs) ≡ taken ts rs
taken_long [] rs zero l = refl
taken_long [] rs (suc i) l = refl
taken_long (t ∷ ts) rs zero l = absurd (omega arith)
taken_long (t ∷ ts) [] (suc i) l = refl
taken_long (t ∷ ts) (r ∷ rs) (suc i) l = ap (λ (ps : List (ℕ × ℕ)). (t, r) ∷ ps) (taken_long ts rs i (omega arith))
