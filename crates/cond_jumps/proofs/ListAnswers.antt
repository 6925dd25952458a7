-- What the code answers for lists.
use Rattle.std.proofs.Common.{◌≡◌, ◌+◌, Bool, true, false, ◌&&◌, ℤ, ◌+ℤ◌, ◌-ℤ◌, List, [], ◌∷◌, ◌++◌, Result, Ok, Err, refl, sym, ◌∙◌, ap}
use Rattle.std.specs.Prelude.{Vec}
use Rattle.std.specs.Global.{Global}
use Rattle.std.specs.Result.{IsErrAnd}
use Rattle.math_facts.specs.Terms.{opposite}
use Rattle.lin_rows.specs.declared.types.RowKind.{RowKind}
use Rattle.lin_rows.specs.Rows.{LinearRow}
use Rattle.lin_rows.specs.Sums.{row_of}
use Rattle.cond_jumps.specs.declared.conj.Conj.{Conj}
use Rattle.cond_jumps.specs.declared.long.Long.{Long}
use Rattle.cond_jumps.specs.declared.sums.Sum.{Sum}
use Rattle.cond_jumps.specs.declared.totals.Term.{Term}
use Rattle.cond_jumps.specs.declared.refusal.Refusal.{Refusal}
use Rattle.cond_jumps.specs.declared.refusal.Refusal.TheVariants.{TooBig}
use Rattle.cond_jumps.specs.Conjunctions.{Conjunction, row_fits, list_fits}
use Rattle.cond_jumps.specs.Conjs.{conjunctions}
use Rattle.cond_jumps.specs.Forms.{Linear}
use Rattle.cond_jumps.specs.LongView.{long}
use Rattle.cond_jumps.specs.Ties.Totals.{terms_of}
use Rattle.cond_jumps.specs.Ties.SumView.{sum_of, rows_fit}
use Rattle.cond_jumps.specs.CompareView.{IsListAnswer, compared_row, compared_list}
use Rattle.cond_jumps.proofs.AnswerLemmas.{both_fit, second_too_big}

-- a fault that is handed on
pub list_handed_on : (cs : List Conjunction) (r : Result (Vec Conj Global) Refusal) (f : Refusal) → IsErrAnd r (λ g. g ≡ f) → (f ≡ TooBig → list_fits cs ≡ false) → IsListAnswer cs r
list_handed_on cs (Ok v) f h k = absurd h
list_handed_on cs (Err g) f h k = λ e. k (sym h ∙ e)

and_true : (b : Bool) → (b && true) ≡ b
and_true true = refl
and_true false = refl

-- a comparison fits where its parts do
pub compared_fits : (r : LinearRow) (x y : Linear) → rows_fit x.rows ≡ true → rows_fit y.rows ≡ true → row_fits r ≡ true → list_fits (compared_list r x y) ≡ true
compared_fits r x y h k f =
    let e : rows_fit (r ∷ []) ≡ true = and_true (row_fits r) ∙ f in
    and_true (rows_fit ((x.rows ++ y.rows) ++ r ∷ [])) ∙ both_fit (x.rows ++ y.rows) (r ∷ []) (both_fit x.rows y.rows h k) e

pub compared_too_big : (r : LinearRow) (x y : Linear) → row_fits r ≡ false → list_fits (compared_list r x y) ≡ false
compared_too_big r x y f =
    let e : rows_fit (r ∷ []) ≡ false = and_true (row_fits r) ∙ f in
    and_true (rows_fit ((x.rows ++ y.rows) ++ r ∷ [])) ∙ second_too_big (x.rows ++ y.rows) (r ∷ []) e

-- the row that was made
pub compared_row_is : (kind : RowKind) (k : ℤ) (x y : Sum) (now ts from : List Term) (b : Long) → now ≡ ts → terms_of ts ≡ terms_of x.terms.items ++ opposite (terms_of from) →
    from ≡ y.terms.items → long b ≡ (k -ℤ long x.constant) +ℤ long y.constant → row_of (terms_of now) kind (long b) ≡ compared_row kind k (sum_of x) (sum_of y)
compared_row_is kind k x y now ts from b e f g h =
    let t : terms_of now ≡ terms_of x.terms.items ++ opposite (terms_of y.terms.items) =
    ap terms_of e ∙ f ∙ ap (λ (l : List Term). terms_of x.terms.items ++ opposite (terms_of l)) g in
    λ j. row_of (t j) kind (h j)

-- the list that was made
pub compared_list_is : (cs : List Conj) (c : Conj) (r s : LinearRow) (x y : Sum) (rows : List LinearRow) → cs ≡ c ∷ [] → c.rows.items ≡ rows ++ r ∷ [] → rows ≡ x.rows.items ++ y.rows.items →
    r ≡ s → c.helpers ≡ x.helpers + y.helpers → conjunctions cs ≡ compared_list s (sum_of x) (sum_of y)
compared_list_is cs c r s x y rows e f g h i =
    let t : c.rows.items ≡ (x.rows.items ++ y.rows.items) ++ s ∷ [] = f ∙ (λ j. g j ++ h j ∷ []) in
    ap conjunctions e ∙ (λ j. record { rows = t j; helpers = i j } ∷ [])
