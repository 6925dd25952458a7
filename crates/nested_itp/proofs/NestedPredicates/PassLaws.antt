-- A leaf's sums, one position after another: the running sums, and the bases of the open frames.
use Rattle.std.proofs.Common.{◌≡◌, ◌∙◌, ℕ, zero, suc, ◌+◌, ◌*◌, ◌<◌, ℤ, pos, ◌+ℤ◌, ◌-ℤ◌, ◌*ℤ◌, Bool, true, false, cond, List, [], ◌∷◌, length, map, refl, sym, ap, subst, arith, inl, inr}
use Rattle.std.specs.Prelude.{Option, None, Some, slice_index, filter, nat_lt, nat_eq}
use Rattle.std.specs.List.{AllByRecursion}
use Rattle.std.proofs.lemmas.Bool.{ltb-true, ltb-false, eqb-true, eqb-false, cases_eq}
use Rattle.std.proofs.lemmas.Int.{ints}
use Rattle.math_facts.specs.Fits.{Fits}
use Rattle.math_facts.specs.Terms.{coefficient}
use Rattle.math_facts.proofs.Whole.{product_zero_right}
use Rattle.lin_rows.specs.Rows.{LinearRow, AscendsFrom, IsRow}
use Rattle.lin_rows.specs.Combinations.{row_at, IsPart, combined, RunFits, Contradicts}
use Rattle.lin_rows.proofs.Ascending.{coefficient_below, coefficient_first, coefficient_rest}
use Rattle.nested_itp.specs.declared.nested_predicates.wide.Wide.{Wide}
use Rattle.nested_itp.specs.declared.nested_predicates.running.Running.{Running}
use Rattle.nested_itp.specs.declared.nested_predicates.bases.Base.{Base}
use Rattle.nested_itp.specs.NestedPredicates.Wides.{value_of}
use Rattle.nwa_base.specs.declared.letters.Kind.{Kind}
use Rattle.nwa_base.specs.declared.letters.Kind.TheVariants.{Inside, Call, Back}
use Rattle.nwa_base.specs.declared.letters.Letter.{Letter}
use Rattle.letter_acts.specs.Frames.{Columns}
use Rattle.letter_acts.specs.Acts.{PlainAct, Alphabet, frame_of}
use Rattle.nested_itp.specs.NestedPredicates.Positions.{CallScope, no_scope, Position, innermost, position_at, known_columns, callee_scope, has_return, scopes_after, callee_of}
use Rattle.nested_itp.specs.NestedPredicates.Positions as positions
use Rattle.nested_itp.specs.NestedPredicates.Sums.{Branch, parts_upto, column_upto, bound_upto, known_sum, column_sums, coefficients_at, bound_at, sum_at, inequality, terms_from}
use Rattle.nested_itp.specs.NestedPredicates.Runnings.{value_at, ProductsFit, PartsFit, AddsParts, behind_first, differences, parts_at}
use Rattle.nested_itp.specs.NestedPredicates.Bases.{AreMade, known_value, IsEntered, bases_left, Enters, first_columns, first_bound, node_of, IsSummed, known_sum_at, IsBase, AreBases}
use Rattle.nested_itp.proofs.NestedPredicates.SumLaws.{fits_zero}
use Rattle.nested_itp.proofs.NestedPredicates.BaseLaws.{known_made}

-- ---- the parts up to the next stamp

upto_next : (number : LinearRow → ℤ) (rows : List LinearRow) (stamps : List ℕ) (s : ℕ) (parts : List (ℕ × ℤ)) →
    combined number rows (parts_upto stamps (suc s) parts) ≡ combined number rows (parts_upto stamps s parts) +ℤ combined number rows (parts_at stamps (suc s) parts)
upto_next number rows stamps s [] = refl
upto_next number rows stamps s (t ∷ ts) =
    by_tests (nat_lt x (suc (suc s))) (nat_lt x (suc s)) (nat_eq x (suc s)) refl refl refl (upto_next number rows stamps s ts)
  where
    x : ℕ
    x = slice_index stamps t.0

    a : List (ℕ × ℤ)
    a = parts_upto stamps (suc s) ts

    b : List (ℕ × ℤ)
    b = parts_upto stamps s ts

    d : List (ℕ × ℤ)
    d = parts_at stamps (suc s) ts

    by_tests : (p q r : Bool) → nat_lt x (suc (suc s)) ≡ p → nat_lt x (suc s) ≡ q → nat_eq x (suc s) ≡ r → combined number rows a ≡ combined number rows b +ℤ combined number rows d →
        combined number rows (cond p (t ∷ a) a) ≡ combined number rows (cond q (t ∷ b) b) +ℤ combined number rows (cond r (t ∷ d) d)
    by_tests true true false e f g h = omega (arith, ints, h)
    by_tests true false true e f g h = omega (arith, ints, h)
    by_tests false false false e f g h = h
    by_tests true true true e f g h =
        absurd (let i = ltb-true x (suc s) f in let j : x ≡ suc s = eqb-true x (suc s) g in omega (arith, i, j))
    by_tests true false false e f g h =
        absurd (let i = ltb-true x (suc (suc s)) e in let j = ltb-false x (suc s) f in eqb-false x (suc s) g (omega (arith, i, j)))
    by_tests false true r e f g h = absurd (let i = ltb-false x (suc (suc s)) e in let j = ltb-true x (suc s) f in omega (arith, i, j))
    by_tests false false true e f g h = absurd (let i = ltb-false x (suc (suc s)) e in let j : x ≡ suc s = eqb-true x (suc s) g in omega (arith, i, j))

pub summed_next : (b : Branch) (parts ps : List (ℕ × ℤ)) (s n : ℕ) (old new : Running) → n ≡ suc s → ps ≡ parts_at b.stamps n parts → IsSummed b parts s old → AddsParts b.rows ps old new →
    IsSummed b parts n new
summed_next b parts ps s n old new m e h a =
    let k : ps ≡ parts_at b.stamps (suc s) parts = e ∙ ap (λ (i : ℕ). parts_at b.stamps i parts) m in
    subst (λ (i : ℕ). IsSummed b parts i new) (sym m)
    (record {
      columns = λ v l.
          let number : LinearRow → ℤ = λ r. coefficient v r.terms in
          let i : v < length old.columns.items = (let w = a.width in omega (arith, l, w)) in
          a.columns v i ∙ ap (λ (z : ℤ). z +ℤ combined number b.rows ps) (h.columns v i) ∙
          ap (λ (qs : List (ℕ × ℤ)). column_upto b parts s v +ℤ combined number b.rows qs) k ∙
          sym (upto_next number b.rows b.stamps s parts);
      bound =
          let number : LinearRow → ℤ = λ r. r.bound in
          a.bound ∙ ap (λ (z : ℤ). z +ℤ combined number b.rows ps) h.bound ∙
          ap (λ (qs : List (ℕ × ℤ)). bound_upto b parts s +ℤ combined number b.rows qs) k ∙
          sym (upto_next number b.rows b.stamps s parts);
      counted = a.counted;
    })

-- ---- products fit

filtered_all : {X : Type 0} (P : X → Type 0) (test : X → Bool) (xs : List X) → AllByRecursion P xs → AllByRecursion P (filter test xs)
filtered_all P test [] h = tt
filtered_all {X} P test (x ∷ xs) h = by_test (test x) (filtered_all P test xs h.1)
  where
    by_test : (b : Bool) → AllByRecursion P (filter test xs) → AllByRecursion P (cond b (x ∷ filter test xs) (filter test xs))
    by_test true k = (h.0, k)
    by_test false k = k

-- each term of a row is one of its coefficients
terms_fit : (m : ℤ) (low : ℕ) (ts : List (ℕ × ℤ)) → AscendsFrom low ts → ((c : ℕ) → Fits (m *ℤ coefficient c ts)) → AllByRecursion (λ t. Fits (m *ℤ t.1)) ts
terms_fit m low [] up f = tt
terms_fit m low (t ∷ ts) up f = (
  subst (λ (z : ℤ). Fits (m *ℤ z)) (coefficient_first t.0 t ts up.1 refl) (f t.0),
  terms_fit m (t.0 + 1) ts up.1 (λ c. rest c),
)
  where
    rest : (c : ℕ) → Fits (m *ℤ coefficient c ts)
    rest c = elim (cases_eq t.0 c) [
      | inl e ↦ subst (λ (z : ℤ). Fits (m *ℤ z)) (sym (coefficient_below (t.0 + 1) c ts up.1 (omega (arith, e)))) (subst Fits (sym (product_zero_right m)) fits_zero)
      | inr n ↦ subst (λ (z : ℤ). Fits (m *ℤ z)) (coefficient_rest c t ts n) (f c)
    ]

row_is : (rows : List LinearRow) (k : ℕ) → k < length rows → AllByRecursion IsRow rows → IsRow (row_at rows k)
row_is [] k l h = absurd (omega (arith, l))
row_is (r ∷ rows) zero l h = h.0
row_is (r ∷ rows) (suc k) l h = row_is rows k (omega (arith, l)) h.1

products_fit : (rows : List LinearRow) (sums : ℕ → ℤ) (bound : ℤ) (parts : List (ℕ × ℤ)) → AllByRecursion IsRow rows → ((c : ℕ) → RunFits (λ r. coefficient c r.terms) rows (sums c) parts) →
    RunFits (λ r. r.bound) rows bound parts → AllByRecursion (IsPart rows) parts → PartsFit rows parts
products_fit rows sums bound [] ok f g each = tt
products_fit rows sums bound (t ∷ ts) ok f g each =
    let row : LinearRow = row_at rows t.0 in (
      (each.0.exists, record { terms = terms_fit t.1 0 row.terms (row_is rows t.0 each.0.exists ok).ascends (λ c. (f c).0); bound = g.0 }),
      products_fit rows (λ c. sums c +ℤ (t.1 *ℤ coefficient c row.terms)) (bound +ℤ (t.1 *ℤ row.bound)) ts ok (λ c. (f c).2) g.2 each.1,
    )

-- the products of the parts with one stamp fit
pub parts_fit : (rows : List LinearRow) (stamps : List ℕ) (parts ps : List (ℕ × ℤ)) (s : ℕ) → AllByRecursion IsRow rows → Contradicts rows parts → ps ≡ parts_at stamps s parts → PartsFit rows ps
parts_fit rows stamps parts ps s ok c e =
    subst (PartsFit rows) (sym e)
    (filtered_all (λ t. (t.0 < length rows) × ProductsFit (row_at rows t.0) t.1) (λ t. nat_eq (slice_index stamps t.0) s) parts
    (products_fit rows (λ k. pos 0) (pos 0) parts ok c.columns_fit c.bound_fits c.each))

-- ---- read over a frame

behind_value : (ws : List Wide) (j : ℕ) → value_at (behind_first ws) j ≡ value_at ws (suc j)
behind_value [] j = refl
behind_value (w ∷ ws) j = refl

pub differences_are : (b : Branch) (parts : List (ℕ × ℤ)) (own upto : ℕ) (columns ws : List Wide) (here : List ℕ) (known : List (Option ℕ)) → AreMade columns here →
    ((v : ℕ) → v < length columns → value_at columns v ≡ column_upto b parts upto v) → ((j : ℕ) → value_at ws j ≡ known_sum_at b parts own known j) →
    differences columns ws here ≡ column_sums b parts own upto here known
differences_are b parts own upto columns ws [] known made sums h = refl
differences_are b parts own upto columns ws (v ∷ vs) [] made sums h =
    let x : value_at columns v ≡ column_upto b parts upto v = sums v made.0 in
    let y : value_at ws 0 ≡ pos 0 = h 0 in
    let z : value_at columns v -ℤ value_at ws 0 ≡ column_upto b parts upto v = omega (arith, ints, x, y) in
    ap (λ (k : ℤ). k ∷ differences columns (behind_first ws) vs) z ∙
    ap (λ (l : List ℤ). column_upto b parts upto v ∷ l) (differences_are b parts own upto columns (behind_first ws) vs [] made.1 sums (λ j. behind_value ws j ∙ h (suc j)))
differences_are b parts own upto columns ws (v ∷ vs) (k ∷ ks) made sums h =
    ap (λ (z : ℤ). (z -ℤ value_at ws 0) ∷ differences columns (behind_first ws) vs) (sums v made.0) ∙
    ap (λ (z : ℤ). (column_upto b parts upto v -ℤ z) ∷ differences columns (behind_first ws) vs) (h 0) ∙
    ap (λ (l : List ℤ). (column_upto b parts upto v -ℤ known_sum b parts own k) ∷ l)
    (differences_are b parts own upto columns (behind_first ws) vs ks made.1 sums (λ j. behind_value ws j ∙ h (suc j)))

-- nothing is counted up to 0
pub record StartsEmpty (b : Branch) (parts : List (ℕ × ℤ)) : Type 0 where
  pub columns : (v : ℕ) → column_upto b parts 0 v ≡ pos 0
  pub bound : bound_upto b parts 0 ≡ pos 0

-- the numbers of the sum at a position
pub numbers_read : (b : Branch) (parts : List (ℕ × ℤ)) (q : Position) (running : Running) (bases : List Base) (scopes : List CallScope) → q.scope ≡ innermost scopes → StartsEmpty b parts →
    IsSummed b parts q.upto running → AreMade running.columns.items q.here → AreBases b parts scopes bases →
    (differences running.columns.items (first_columns bases) q.here ≡ coefficients_at b parts q) × (value_of running.bound -ℤ first_bound bases ≡ bound_at b parts q)
numbers_read b parts q running [] [] e empty h made k = (
  differences_are b parts 0 q.upto running.columns.items [] q.here [] made h.columns (λ j. refl) ∙ ap (λ (s : CallScope). column_sums b parts s.own q.upto q.here s.known) (sym e),
  (let i = h.bound in let j = empty.bound in let y : value_of running.bound -ℤ pos 0 ≡ bound_upto b parts q.upto -ℤ bound_upto b parts 0 = omega (arith, ints, i, j) in y) ∙
      ap (λ (s : CallScope). bound_upto b parts q.upto -ℤ bound_upto b parts s.own) (sym e),
)
numbers_read b parts q running [] (t ∷ scopes) e empty h made k = absurd k
numbers_read b parts q running (x ∷ bases) [] e empty h made k = absurd k
numbers_read b parts q running (x ∷ bases) (t ∷ scopes) e empty h made k = (
  differences_are b parts t.own q.upto running.columns.items x.columns.items q.here t.known made h.columns k.0.columns ∙ ap (λ (s : CallScope). column_sums b parts s.own q.upto q.here s.known) (sym e),
  ap (λ (z : ℤ). z -ℤ value_of x.bound) h.bound ∙ ap (λ (z : ℤ). bound_upto b parts q.upto -ℤ z) k.0.bound ∙ ap (λ (s : CallScope). bound_upto b parts q.upto -ℤ bound_upto b parts s.own) (sym e),
)

pub sum_read : (b : Branch) (parts : List (ℕ × ℤ)) (q : Position) (running : Running) (bases : List Base) (scopes : List CallScope) → q.scope ≡ innermost scopes → StartsEmpty b parts →
    IsSummed b parts q.upto running → AreMade running.columns.items q.here → AreBases b parts scopes bases →
    node_of (inequality (terms_from 0 (differences running.columns.items (first_columns bases) q.here)) (value_of running.bound -ℤ first_bound bases)) ≡ node_of (sum_at b parts q)
sum_read b parts q running bases scopes e empty h made k =
    let numbers = numbers_read b parts q running bases scopes e empty h made k in
    ap (λ (l : List ℤ). node_of (inequality (terms_from 0 l) (value_of running.bound -ℤ first_bound bases))) numbers.0 ∙
    ap (λ (z : ℤ). node_of (inequality (terms_from 0 (coefficients_at b parts q)) z)) numbers.1

-- ---- bases

known_same : (b : Branch) (parts : List (ℕ × ℤ)) (s : ℕ) (columns : List Wide) (o : Option ℕ) → ((v : ℕ) → o ≡ Some v → v < length columns) →
    ((v : ℕ) → v < length columns → value_at columns v ≡ column_upto b parts s v) → known_value columns o ≡ known_sum b parts s o
known_same b parts s columns None made h = refl
known_same b parts s columns (Some v) made h = h v (made v refl)

taken_sums : (b : Branch) (parts : List (ℕ × ℤ)) (s : ℕ) (columns ws : List Wide) (known : List (Option ℕ)) → AllByRecursion (λ o. (v : ℕ) → o ≡ Some v → v < length columns) known →
    ((v : ℕ) → v < length columns → value_at columns v ≡ column_upto b parts s v) → map value_of ws ≡ map (known_value columns) known →
    (j : ℕ) → value_at ws j ≡ known_sum_at b parts s known j
taken_sums b parts s columns [] [] made h e j = refl
taken_sums b parts s columns [] (k ∷ ks) made h e j = absurd (cc)
taken_sums b parts s columns (w ∷ ws) [] made h e j = absurd (cc)
taken_sums b parts s columns (w ∷ ws) (k ∷ ks) made h e zero =
    let f : value_of w ≡ known_value columns k = cc in f ∙ known_same b parts s columns k made.0 h
taken_sums b parts s columns (w ∷ ws) (k ∷ ks) made h e (suc j) =
    taken_sums b parts s columns ws ks made.1 h (let f : map value_of ws ≡ map (known_value columns) ks = cc in f) j

columns_made : (columns : List Wide) (callee : Columns) (entry before : List ℕ) → AreMade columns entry → AreMade columns before →
    AllByRecursion (λ o. (v : ℕ) → o ≡ Some v → v < length columns) (known_columns callee entry before)
columns_made columns [] entry before h k = tt
columns_made columns (c ∷ cs) [] before h k = tt
columns_made columns (c ∷ cs) (v ∷ vs) before h k = (
  λ x e. known_made (λ y. y < length columns) c.0 c.1.constant v before x h.0 k e,
  columns_made columns cs vs before h.1 k,
)

nothing_known : (b : Branch) (parts : List (ℕ × ℤ)) → StartsEmpty b parts → (known : List (Option ℕ)) (j : ℕ) → pos 0 ≡ known_sum_at b parts 0 known j
nothing_known b parts empty [] j = refl
nothing_known b parts empty (None ∷ ks) zero = refl
nothing_known b parts empty (Some v ∷ ks) zero = sym (empty.columns v)
nothing_known b parts empty (k ∷ ks) (suc j) = nothing_known b parts empty ks j

-- of the callee of a call, which returns or does not
pub base_entered : (b : Branch) (parts : List (ℕ × ℤ)) (al : Alphabet) (n callee : ℕ) (returns : Bool) (entry before : List ℕ) (running : Running) (x : Base) → StartsEmpty b parts →
    IsSummed b parts (2 * n) running → AreMade running.columns.items entry → AreMade running.columns.items before →
    IsEntered returns (known_columns (frame_of al callee) entry before) running x → IsBase b parts (callee_scope al n callee returns entry before) x
base_entered b parts al n callee true entry before running x empty h m k e = record {
  columns = taken_sums b parts (2 * n) running.columns.items x.columns.items (known_columns (frame_of al callee) entry before)
      (columns_made running.columns.items (frame_of al callee) entry before m k) h.columns e.columns;
  bound = ap value_of e.bound ∙ h.bound;
  room = e.room;
}
base_entered b parts al n callee false entry before running x empty h m k e = record {
  columns = λ j. ap (λ (ws : List Wide). value_at ws j) e.columns ∙ nothing_known b parts empty (known_columns (frame_of al callee) entry before) j;
  bound = e.bound ∙ sym empty.bound;
  room = e.room;
}

left_bases : (b : Branch) (parts : List (ℕ × ℤ)) (scopes : List CallScope) (bases : List Base) → AreBases b parts scopes bases → AreBases b parts (positions.left_scopes scopes) (bases_left bases)
left_bases b parts [] [] h = tt
left_bases b parts [] (x ∷ bases) h = absurd h
left_bases b parts (s ∷ scopes) [] h = absurd h
left_bases b parts (s ∷ scopes) (x ∷ bases) h = h.1

pub bases_after : (b : Branch) (parts : List (ℕ × ℤ)) (al : Alphabet) (n : ℕ) (kind : Kind) (act : Option PlainAct) (rest : List Letter) (returns : Bool) (entry before : List ℕ) (running : Running)
    (scopes : List CallScope) (old new : List Base) → StartsEmpty b parts → IsSummed b parts (2 * n) running → AreMade running.columns.items entry → AreMade running.columns.items before →
    returns ≡ has_return 0 rest → Enters kind returns (known_columns (frame_of al (callee_of act)) entry before) running old new → AreBases b parts scopes old →
    AreBases b parts (scopes_after al n kind act rest entry before scopes) new
bases_after b parts al n Inside act rest returns entry before running scopes old new empty h m k r e a = subst (AreBases b parts scopes) (sym e) a
bases_after b parts al n Call act rest returns entry before running scopes old new empty h m k r e a =
    subst (AreBases b parts (callee_scope al n (callee_of act) (has_return 0 rest) entry before ∷ scopes)) (sym e.1) (
      subst (λ (t : Bool). IsBase b parts (callee_scope al n (callee_of act) t entry before) e.0) r
          (base_entered b parts al n (callee_of act) returns entry before running e.0 empty h m k e.2),
      a,
    )
bases_after b parts al n Back act rest returns entry before running scopes old new empty h m k r e a =
    subst (AreBases b parts (positions.left_scopes scopes)) (sym e) (left_bases b parts scopes old a)
