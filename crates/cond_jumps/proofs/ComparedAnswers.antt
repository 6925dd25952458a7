-- What the code answers for a comparison of two sums, from what it answered for each.
use Rattle.std.proofs.Common.{◌≡◌, ℕ, ◌+◌, true, false, ◌++◌, ◌∷◌, [], Result, Ok, Err, sym, ◌∙◌, ap, subst}
use Rattle.std.specs.Prelude.{Vec}
use Rattle.std.specs.Global.{Global}
use Rattle.std.specs.Result.{IsErrAnd}
use Rattle.lin_rows.specs.Rows.{LinearRow}
use Rattle.cond_jumps.specs.declared.conj.Conj.{Conj}
use Rattle.cond_jumps.specs.declared.refusal.Refusal.{Refusal}
use Rattle.cond_jumps.specs.declared.refusal.Refusal.TheVariants.{TooBig}
use Rattle.cond_jumps.specs.declared.sums.Sum.{Sum}
use Rattle.cond_jumps.specs.Conjunctions.{Jumps, Just, list_fits}
use Rattle.cond_jumps.specs.Comparisons.{compared}
use Rattle.cond_jumps.specs.CompareView.{IsListAnswer, compared_list}
use Rattle.cond_jumps.specs.Forms.{Linear, Linears, after}
use Rattle.cond_jumps.specs.ListView.{IsPlanAnswer}
use Rattle.cond_jumps.specs.Ties.SumView.{sum_of, rows_fit, IsSumOf}
use Rattle.cond_jumps.proofs.AnswerLemmas.{and_first, first_too_big, second_too_big}

-- the rows of a sum that was made fit
pub own_rows_fit : (a : Linear) (x : Sum) → IsSumOf a x → rows_fit (sum_of x).rows ≡ true
own_rows_fit a x h = ap (λ (z : Linear). rows_fit z.rows) h.seen ∙ h.fit

-- where the second sum stands
later_is : (a b : Linears) (n m : ℕ) (x : Sum) → IsSumOf (a n) x → m ≡ n + x.helpers → b m ≡ after a b n
later_is a b n m x h e = ap b (e ∙ ap (λ (z : Linear). n + z.helpers) h.seen)

list_answers : (j : Jumps) (n : ℕ) (r : Result (Vec Conj Global) Refusal) → IsListAnswer (j n) r → IsPlanAnswer (Just j) n r
list_answers j n (Ok v) h = record { seen = h.0; fit = h.1 }
list_answers j n (Err f) h = h

-- both sums stand
pub both_compared : (row : Linear → Linear → LinearRow) (a b : Linears) (n m : ℕ) (x y : Sum) (r : Result (Vec Conj Global) Refusal) → IsSumOf (a n) x → m ≡ n + x.helpers →
    IsSumOf (b m) y → IsListAnswer (compared_list (row (sum_of x) (sum_of y)) (sum_of x) (sum_of y)) r → IsPlanAnswer (Just (compared row a b)) n r
both_compared row a b n m x y r h e k l =
    let u : sum_of y ≡ after a b n = k.seen ∙ later_is a b n m x h e in
    let P : Linear → Linear → Type 0 = λ s t. IsListAnswer (compared_list (row s t) s t) r in
    list_answers (compared row a b) n r (subst (P (a n)) u (subst (λ (s : Linear). P s (sum_of y)) h.seen l))

handed_on : (j : Jumps) (n : ℕ) (r : Result (Vec Conj Global) Refusal) (f : Refusal) → IsErrAnd r (λ g. g ≡ f) → (f ≡ TooBig → list_fits (j n) ≡ false) → IsPlanAnswer (Just j) n r
handed_on j n (Ok v) f h k = absurd h
handed_on j n (Err g) f h k = λ e. k (sym h ∙ e)

parts_too_big : (row : Linear → Linear → LinearRow) (a b : Linears) (n : ℕ) → rows_fit ((a n).rows ++ (after a b n).rows) ≡ false → list_fits (compared row a b n) ≡ false
parts_too_big row a b n h =
    and_first (rows_fit (((a n).rows ++ (after a b n).rows) ++ row (a n) (after a b n) ∷ [])) true
    (first_too_big ((a n).rows ++ (after a b n).rows) (row (a n) (after a b n) ∷ []) h)

-- the first sum was refused
pub first_refused : (row : Linear → Linear → LinearRow) (a b : Linears) (n : ℕ) (f : Refusal) (r : Result (Vec Conj Global) Refusal) → IsErrAnd r (λ g. g ≡ f) →
    (f ≡ TooBig → rows_fit (a n).rows ≡ false) → IsPlanAnswer (Just (compared row a b)) n r
first_refused row a b n f r h k = handed_on (compared row a b) n r f h (λ e. parts_too_big row a b n (first_too_big (a n).rows (after a b n).rows (k e)))

-- the second sum was refused
pub second_refused : (row : Linear → Linear → LinearRow) (a b : Linears) (n m : ℕ) (x : Sum) (f : Refusal) (r : Result (Vec Conj Global) Refusal) → IsSumOf (a n) x → m ≡ n + x.helpers →
    IsErrAnd r (λ g. g ≡ f) → (f ≡ TooBig → rows_fit (b m).rows ≡ false) → IsPlanAnswer (Just (compared row a b)) n r
second_refused row a b n m x f r i e h k =
    handed_on (compared row a b) n r f h
    (λ t. parts_too_big row a b n (second_too_big (a n).rows (after a b n).rows (ap (λ (z : Linear). rows_fit z.rows) (sym (later_is a b n m x i e)) ∙ k t)))
