-- What the code answers for an expression, from what it answered for the parts.
use Rattle.std.proofs.Common.{◌≡◌, ℕ, ◌+◌, Bool, true, false, ◌&&◌, ℤ, List, ◌++◌, Option, None, Some, Result, Box, Ok, Err, refl, sym, ◌∙◌, ap, subst}
use Rattle.std.specs.Result.{IsErrAnd}
use Rattle.std.specs.declared.alloc.Global.{Global}
use Rattle.std.proofs.lemmas.Bool.{false≢true}
use Rattle.std.proofs.lemmas.List.Folds.{list_all-append}
use Rattle.lin_rows.specs.Rows.{LinearRow}
use Rattle.boogie_tree.specs.declared.tree.Op.{Op}
use Rattle.boogie_tree.specs.declared.tree.Op.TheVariants.{Iff, Implies, And, Or, Eq, Ne, Lt, Le, Gt, Ge, Add, Sub, Mul, Div, Mod}
use Rattle.typed_tree.specs.TypedTree.{TypedExpression, Bin}
use Rattle.typed_tree.specs.AffineForm.{divisor_of}
use Rattle.boogie_tree.specs.declared.span.Span.{Span}
use Rattle.cond_jumps.specs.declared.long.Long.{Long}
use Rattle.cond_jumps.specs.declared.sums.Sum.{Sum}
use Rattle.cond_jumps.specs.declared.sums.Divisor.{Divisor}
use Rattle.cond_jumps.specs.declared.refusal.Refusal.{Refusal}
use Rattle.cond_jumps.specs.declared.refusal.Refusal.TheVariants.{TooBig}
use Rattle.cond_jumps.specs.Conjunctions.{row_fits}
use Rattle.cond_jumps.specs.Forms.{Linear, Linears, after, quotient_rows}
use Rattle.cond_jumps.specs.Environments.{Environment}
use Rattle.cond_jumps.specs.Paths.{constant_of, arithmetic, linear}
use Rattle.cond_jumps.specs.LongView.{long}
use Rattle.cond_jumps.specs.CodeView.{combination, is_combination, is_division, IsDivisorFound}
use Rattle.cond_jumps.specs.Ties.SumView.{sum_of, rows_fit, IsSumOf, IsBoxedAnswer, part, IsPartAnswer}

-- ---- rows that fit

pub both_fit : (a b : List LinearRow) → rows_fit a ≡ true → rows_fit b ≡ true → rows_fit (a ++ b) ≡ true
both_fit a b h k = list_all-append row_fits a b ∙ (λ j. h j && k j)

pub and_second : (x y : Bool) → y ≡ false → (x && y) ≡ false
and_second true y h = h
and_second false y h = refl

pub and_first : (x y : Bool) → x ≡ false → (x && y) ≡ false
and_first x y h = rw h refl

pub second_too_big : (a b : List LinearRow) → rows_fit b ≡ false → rows_fit (a ++ b) ≡ false
second_too_big a b h = list_all-append row_fits a b ∙ and_second (rows_fit a) (rows_fit b) h

pub first_too_big : (a b : List LinearRow) → rows_fit a ≡ false → rows_fit (a ++ b) ≡ false
first_too_big a b h = list_all-append row_fits a b ∙ and_first (rows_fit a) (rows_fit b) h

-- ---- answers

-- a fault that is handed on
pub handed_on : (x : Linear) (r : Result (Box Sum Global) Refusal) (f : Refusal) → IsErrAnd r (λ g. g ≡ f) → (f ≡ TooBig → rows_fit x.rows ≡ false) → IsBoxedAnswer x r
handed_on x (Ok s) f h k = absurd h
handed_on x (Err g) f h k = λ e. k (sym h ∙ e)

-- ---- `+`, `-` and `*`

combination_is : (op : Op) (k l : ℤ) (d : Option ℤ) (a b : Linears) (n : ℕ) → is_combination op ≡ true → arithmetic op k l d a b n ≡ combination op k l (a n) (after a b n)
combination_is Add k l d a b n h = refl
combination_is Sub k l d a b n h = refl
combination_is Mul k l d a b n h = refl
combination_is Div k l d a b n h = absurd (false≢true h)
combination_is Mod k l d a b n h = absurd (false≢true h)
combination_is Iff k l d a b n h = absurd (false≢true h)
combination_is Implies k l d a b n h = absurd (false≢true h)
combination_is And k l d a b n h = absurd (false≢true h)
combination_is Or k l d a b n h = absurd (false≢true h)
combination_is Eq k l d a b n h = absurd (false≢true h)
combination_is Ne k l d a b n h = absurd (false≢true h)
combination_is Lt k l d a b n h = absurd (false≢true h)
combination_is Le k l d a b n h = absurd (false≢true h)
combination_is Gt k l d a b n h = absurd (false≢true h)
combination_is Ge k l d a b n h = absurd (false≢true h)

combination_rows : (op : Op) (k l : ℤ) (x y : Linear) → (combination op k l x y).rows ≡ x.rows ++ y.rows
combination_rows Add k l x y = refl
combination_rows Sub k l x y = refl
combination_rows Mul k l x y = refl
combination_rows Div k l x y = refl
combination_rows Mod k l x y = refl
combination_rows Iff k l x y = refl
combination_rows Implies k l x y = refl
combination_rows And k l x y = refl
combination_rows Or k l x y = refl
combination_rows Eq k l x y = refl
combination_rows Ne k l x y = refl
combination_rows Lt k l x y = refl
combination_rows Le k l x y = refl
combination_rows Gt k l x y = refl
combination_rows Ge k l x y = refl

-- where the second sum stands, by what was answered for the first
later_is : (a b : Linears) (n m : ℕ) (x : Sum) → IsSumOf (a n) x → m ≡ n + x.helpers → b m ≡ after a b n
later_is a b n m x h e = ap b (e ∙ ap (λ (z : Linear). n + z.helpers) h.seen)

-- a row of the second operand does not fit
pub second_refused : (op : Op) (k l : ℤ) (d : Option ℤ) (a b : Linears) (n m : ℕ) (x : Sum) → is_combination op ≡ true → IsSumOf (a n) x → m ≡ n + x.helpers →
    rows_fit (b m).rows ≡ false → rows_fit (arithmetic op k l d a b n).rows ≡ false
second_refused op k l d a b n m x o h e f =
    let g : (arithmetic op k l d a b n).rows ≡ (a n).rows ++ (after a b n).rows =
    ap (λ (z : Linear). z.rows) (combination_is op k l d a b n o) ∙ combination_rows op k l (a n) (after a b n) in
    let i : rows_fit (after a b n).rows ≡ false = ap (λ (z : Linear). rows_fit z.rows) (sym (later_is a b n m x h e)) ∙ f in
    ap rows_fit g ∙ second_too_big (a n).rows (after a b n).rows i

-- a row of the first operand does not fit
pub first_refused : (op : Op) (k l : ℤ) (d : Option ℤ) (a b : Linears) (n : ℕ) → is_combination op ≡ true → rows_fit (a n).rows ≡ false →
    rows_fit (arithmetic op k l d a b n).rows ≡ false
first_refused op k l d a b n o f =
    let g : (arithmetic op k l d a b n).rows ≡ (a n).rows ++ (after a b n).rows =
    ap (λ (z : Linear). z.rows) (combination_is op k l d a b n o) ∙ combination_rows op k l (a n) (after a b n) in
    ap rows_fit g ∙ first_too_big (a n).rows (after a b n).rows f

-- both operands stand
pub both_combined : (op : Op) (k l : ℤ) (d : Option ℤ) (a b : Linears) (n m : ℕ) (x y s : Sum) → is_combination op ≡ true → IsSumOf (a n) x → m ≡ n + x.helpers → IsSumOf (b m) y →
    sum_of s ≡ combination op k l (sum_of x) (sum_of y) → IsSumOf (arithmetic op k l d a b n) s
both_combined op k l d a b n m x y s o h e i c =
    let z : b m ≡ after a b n = later_is a b n m x h e in
    let u : sum_of y ≡ after a b n = i.seen ∙ z in
    let v : sum_of x ≡ a n = h.seen in
    let w : arithmetic op k l d a b n ≡ combination op k l (a n) (after a b n) = combination_is op k l d a b n o in
    let g : (arithmetic op k l d a b n).rows ≡ (a n).rows ++ (after a b n).rows = ap (λ (t : Linear). t.rows) w ∙ combination_rows op k l (a n) (after a b n) in
    let f : rows_fit (after a b n).rows ≡ true = ap (λ (t : Linear). rows_fit t.rows) (sym z) ∙ i.fit in
    record {
      seen = c ∙ (λ j. combination op k l (v j) (u j)) ∙ sym w;
      fit = ap rows_fit g ∙ both_fit (a n).rows (after a b n).rows h.fit f;
    }

-- ---- `div` and `mod`

divided_is : (op : Op) (k l q : ℤ) (a b : Linears) (n : ℕ) → is_division op ≡ true → arithmetic op k l (Some q) a b n ≡ part op q (a n) n
divided_is Div k l q a b n h = refl
divided_is Mod k l q a b n h = refl
divided_is Add k l q a b n h = absurd (false≢true h)
divided_is Sub k l q a b n h = absurd (false≢true h)
divided_is Mul k l q a b n h = absurd (false≢true h)
divided_is Iff k l q a b n h = absurd (false≢true h)
divided_is Implies k l q a b n h = absurd (false≢true h)
divided_is And k l q a b n h = absurd (false≢true h)
divided_is Or k l q a b n h = absurd (false≢true h)
divided_is Eq k l q a b n h = absurd (false≢true h)
divided_is Ne k l q a b n h = absurd (false≢true h)
divided_is Lt k l q a b n h = absurd (false≢true h)
divided_is Le k l q a b n h = absurd (false≢true h)
divided_is Gt k l q a b n h = absurd (false≢true h)
divided_is Ge k l q a b n h = absurd (false≢true h)

part_rows : (op : Op) (k : ℤ) (x : Linear) (n : ℕ) → (part op k x n).rows ≡ x.rows ++ quotient_rows k x (n + x.helpers)
part_rows Div k x n = refl
part_rows Mod k x n = refl
part_rows Add k x n = refl
part_rows Sub k x n = refl
part_rows Mul k x n = refl
part_rows Iff k x n = refl
part_rows Implies k x n = refl
part_rows And k x n = refl
part_rows Or k x n = refl
part_rows Eq k x n = refl
part_rows Ne k x n = refl
part_rows Lt k x n = refl
part_rows Le k x n = refl
part_rows Gt k x n = refl
part_rows Ge k x n = refl

part_answer : (op : Op) (q : ℤ) (x y : Linear) (n : ℕ) (r : Result (Box Sum Global) Refusal) → x ≡ y → rows_fit y.rows ≡ true → IsPartAnswer op q x n r → IsBoxedAnswer (part op q y n) r
part_answer op q x y n (Ok s) e f h =
    let P : Linear → Type 0 = λ z. (sum_of s.value ≡ part op q z n) × (rows_fit (quotient_rows q z (n + z.helpers)) ≡ true) in
    let k = subst P e h in
    record { seen = k.0; fit = ap rows_fit (part_rows op q y n) ∙ both_fit y.rows (quotient_rows q y (n + y.helpers)) f k.1 }
part_answer op q x y n (Err g) e f h = λ t.
    let P : Linear → Type 0 = λ z. rows_fit (quotient_rows q z (n + z.helpers)) ≡ false in
    ap rows_fit (part_rows op q y n) ∙ second_too_big y.rows (quotient_rows q y (n + y.helpers)) (subst P e (h t))

-- the operand stands, and the divisor was found
pub divided_answer : (op : Op) (k l : ℤ) (d : Option ℤ) (a b : Linears) (n : ℕ) (x : Sum) (q : Divisor) (r : Result (Box Sum Global) Refusal) → is_division op ≡ true → IsDivisorFound d (Some q) →
    IsSumOf (a n) x → IsPartAnswer op (long q.value) (sum_of x) n r → IsBoxedAnswer (arithmetic op k l d a b n) r
divided_answer op k l None a b n x q r o f h i = absurd f
divided_answer op k l (Some z) a b n x q r o f h i =
    let P : Linear → Type 0 = λ y. IsBoxedAnswer y r in
    let Q : ℤ → Type 0 = λ y. IsPartAnswer op y (sum_of x) n r in
    subst P (sym (divided_is op k l z a b n o)) (part_answer op z (sum_of x) (a n) n r h.seen h.fit (subst Q f.0 i))

-- ---- expressions

-- `+`, `-` and `*` of two expressions, whose parts were answered
pub combined_answer : (v : Environment) (old : Bool) (at : Span) (op : Op) (e f d1 d2 d3 d4 : TypedExpression) (n m : ℕ) (k l : Long) (x y s : Sum) →
    d1 ≡ e → d2 ≡ f → d3 ≡ e → d4 ≡ f → is_combination op ≡ true → long k ≡ constant_of d1 → long l ≡ constant_of d2 → IsSumOf (linear v old d3 n) x → m ≡ n + x.helpers →
    IsSumOf (linear v old d4 m) y → sum_of s ≡ combination op (long k) (long l) (sum_of x) (sum_of y) → IsSumOf (linear v old (Bin at op e f) n) s
combined_answer v old at op e f d1 d2 d3 d4 n m k l x y s i1 i2 i3 i4 o ke le hx hm hy hs =
    let p : long k ≡ constant_of e = ke ∙ ap constant_of i1 in
    let q : long l ≡ constant_of f = le ∙ ap constant_of i2 in
    let P : TypedExpression → Type 0 = λ d. IsSumOf (linear v old d n) x in
    let Q : TypedExpression → Type 0 = λ d. IsSumOf (linear v old d m) y in
    both_combined op (constant_of e) (constant_of f) (divisor_of f) (linear v old e) (linear v old f) n m x y s o (subst P i3 hx) hm (subst Q i4 hy)
    (hs ∙ (λ j. combination op (p j) (q j) (sum_of x) (sum_of y)))

-- the same, where the constants were computed behind the sums
pub combination_answer : (v : Environment) (old : Bool) (at : Span) (op : Op) (e f d1 d2 d3 d4 : TypedExpression) (n m : ℕ) (x y s : Sum) →
    d1 ≡ e → d2 ≡ f → d3 ≡ e → d4 ≡ f → is_combination op ≡ true → IsSumOf (linear v old d1 n) x → m ≡ n + x.helpers →
    IsSumOf (linear v old d2 m) y → sum_of s ≡ combination op (constant_of d3) (constant_of d4) (sum_of x) (sum_of y) → IsSumOf (linear v old (Bin at op e f) n) s
combination_answer v old at op e f d1 d2 d3 d4 n m x y s i1 i2 i3 i4 o hx hm hy hs =
    let p : constant_of d3 ≡ constant_of e = ap constant_of i3 in
    let q : constant_of d4 ≡ constant_of f = ap constant_of i4 in
    let P : TypedExpression → Type 0 = λ d. IsSumOf (linear v old d n) x in
    let Q : TypedExpression → Type 0 = λ d. IsSumOf (linear v old d m) y in
    both_combined op (constant_of e) (constant_of f) (divisor_of f) (linear v old e) (linear v old f) n m x y s o (subst P i1 hx) hm (subst Q i2 hy)
    (hs ∙ (λ j. combination op (p j) (q j) (sum_of x) (sum_of y)))

-- the second of them was refused
pub second_answer : (v : Environment) (old : Bool) (at : Span) (op : Op) (e f d3 d4 : TypedExpression) (n m : ℕ) (x : Sum) (g : Refusal) (r : Result (Box Sum Global) Refusal) →
    d3 ≡ e → d4 ≡ f → is_combination op ≡ true → IsSumOf (linear v old d3 n) x → m ≡ n + x.helpers → (g ≡ TooBig → rows_fit (linear v old d4 m).rows ≡ false) →
    IsErrAnd r (λ h. h ≡ g) → IsBoxedAnswer (linear v old (Bin at op e f) n) r
second_answer v old at op e f d3 d4 n m x g r i3 i4 o hx hm hy hr =
    let P : TypedExpression → Type 0 = λ d. IsSumOf (linear v old d n) x in
    let Q : TypedExpression → Type 0 = λ d. rows_fit (linear v old d m).rows ≡ false in
    handed_on (linear v old (Bin at op e f) n) r g hr
    (λ t. second_refused op (constant_of e) (constant_of f) (divisor_of f) (linear v old e) (linear v old f) n m x o (subst P i3 hx) hm (subst Q i4 (hy t)))

-- `div` and `mod`, whose operand was answered
pub quotient_answer : (v : Environment) (old : Bool) (at : Span) (op : Op) (e f d1 d3 : TypedExpression) (n : ℕ) (x : Sum) (q : Divisor) (r : Result (Box Sum Global) Refusal) →
    d1 ≡ f → d3 ≡ e → is_division op ≡ true → IsDivisorFound (divisor_of d1) (Some q) → IsSumOf (linear v old d3 n) x → IsPartAnswer op (long q.value) (sum_of x) n r →
    IsBoxedAnswer (linear v old (Bin at op e f) n) r
quotient_answer v old at op e f d1 d3 n x q r i1 i3 o hd hx hr =
    let P : TypedExpression → Type 0 = λ d. IsSumOf (linear v old d n) x in
    let D : TypedExpression → Type 0 = λ d. IsDivisorFound (divisor_of d) (Some q) in
    divided_answer op (constant_of e) (constant_of f) (divisor_of f) (linear v old e) (linear v old f) n x q r o (subst D i1 hd) (subst P i3 hx) hr
