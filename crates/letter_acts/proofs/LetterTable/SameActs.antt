-- The test of equal acts passes exactly where two acts are one.
use Rattle.std.proofs.Common.{◌≡◌, ◌∙◌, ℕ, ℤ, Bool, true, false, not, sym, ◌&&◌, List, [], ◌∷◌, refl, subst, if◌then◌else◌}
use Rattle.std.specs.Prelude.{nat_eq}
use Rattle.std.specs.Ordering.{int_eq}
use Rattle.std.specs.Cmp.Lexicographic.{pointwise}
use Rattle.std.proofs.lemmas.Bool.{false≢true, eqb-true}
use Rattle.std.proofs.lemmas.Bool.Decides.{Decides-int_eq}
use Rattle.lin_rows.specs.Rows.{LinearRow}
use Rattle.lin_rows.specs.declared.types.RowKind.{RowKind}
use Rattle.lin_rows.specs.declared.types.RowKind.TheVariants as kinds
use Rattle.nwa_base.proofs.LetterLemmas.{and_left, and_right, and_both, eqb-refl}
use Rattle.letter_acts.specs.Acts.{PlainAct, inside_act, call_act, back_act}
use Rattle.letter_acts.specs.LetterTable.Letters.{MarkedAct, same_row_kind, same_term, same_row, same_act, same_marked}

-- ---- lists

same_members : {X : Type 0} (test : X → X → Bool) → ((x y : X) → test x y ≡ true → x ≡ y) → (xs ys : List X) → pointwise test xs ys ≡ true → xs ≡ ys
same_members test f [] [] h = refl
same_members test f [] (y ∷ ys) h = absurd (false≢true h)
same_members test f (x ∷ xs) [] h = absurd (false≢true h)
same_members test f (x ∷ xs) (y ∷ ys) h =
    let first : x ≡ y = f x y (and_left _ _ h) in
    let rest : xs ≡ ys = same_members test f xs ys (and_right _ _ h) in
    λ i. first i ∷ rest i

each_itself : {X : Type 0} (test : X → X → Bool) → ((x : X) → test x x ≡ true) → (xs : List X) → pointwise test xs xs ≡ true
each_itself test f [] = refl
each_itself test f (x ∷ xs) = and_both _ _ (f x) (each_itself test f xs)

numbers_same : (xs ys : List ℕ) → pointwise nat_eq xs ys ≡ true → xs ≡ ys
numbers_same xs ys h = same_members nat_eq (λ x y e. eqb-true x y e) xs ys h

numbers_themselves : (xs : List ℕ) → pointwise nat_eq xs xs ≡ true
numbers_themselves xs = each_itself nat_eq eqb-refl xs

-- ---- rows

same_kind-true : (a b : RowKind) → same_row_kind a b ≡ true → a ≡ b
same_kind-true kinds.Le kinds.Le h = refl
same_kind-true kinds.Le kinds.Eq h = absurd (false≢true h)
same_kind-true kinds.Eq kinds.Le h = absurd (false≢true h)
same_kind-true kinds.Eq kinds.Eq h = refl

same_kind-refl : (a : RowKind) → same_row_kind a a ≡ true
same_kind-refl kinds.Le = refl
same_kind-refl kinds.Eq = refl

int_eq-true : (x y : ℤ) → int_eq x y ≡ true → x ≡ y
int_eq-true x y h = (Decides-int_eq x y).0 h

int_eq-refl : (x : ℤ) → int_eq x x ≡ true
int_eq-refl x = (Decides-int_eq x x).1 refl

same_term-true : (s u : ℕ × ℤ) → same_term s u ≡ true → s ≡ u
same_term-true s u h =
    let column : s.0 ≡ u.0 = eqb-true _ _ (and_left _ _ h) in
    let factor : s.1 ≡ u.1 = int_eq-true _ _ (and_right _ _ h) in
    λ i. (column i, factor i)

same_term-refl : (s : ℕ × ℤ) → same_term s s ≡ true
same_term-refl s = and_both _ _ (eqb-refl s.0) (int_eq-refl s.1)

same_row-true : (r s : LinearRow) → same_row r s ≡ true → r ≡ s
same_row-true r s h =
    let terms : r.terms ≡ s.terms = same_members same_term same_term-true r.terms s.terms (and_left _ _ h) in
    let rest : (same_row_kind r.kind s.kind && int_eq r.bound s.bound) ≡ true = and_right _ _ h in
    let kind : r.kind ≡ s.kind = same_kind-true _ _ (and_left _ _ rest) in
    let bound : r.bound ≡ s.bound = int_eq-true _ _ (and_right _ _ rest) in
    λ i. record { terms = terms i; kind = kind i; bound = bound i }

same_row-refl : (r : LinearRow) → same_row r r ≡ true
same_row-refl r = and_both _ _ (each_itself same_term same_term-refl r.terms) (and_both _ _ (same_kind-refl r.kind) (int_eq-refl r.bound))

rows_same : (rs ss : List LinearRow) → pointwise same_row rs ss ≡ true → rs ≡ ss
rows_same rs ss h = same_members same_row same_row-true rs ss h

-- ---- acts

same_act-true : (a b : PlainAct) → same_act a b ≡ true → a ≡ b
same_act-true (inside_act p written helpers rows) (inside_act q writes more others) h =
    let rest = and_right (nat_eq p q) (pointwise nat_eq written writes && (nat_eq helpers more && pointwise same_row rows others)) h in
    let last = and_right (pointwise nat_eq written writes) (nat_eq helpers more && pointwise same_row rows others) rest in
    let proc : p ≡ q = eqb-true p q (and_left _ _ h) in
    let columns : written ≡ writes = numbers_same written writes (and_left _ _ rest) in
    let count : helpers ≡ more = eqb-true helpers more (and_left _ _ last) in
    let same : rows ≡ others = rows_same rows others (and_right _ _ last) in
    λ i. inside_act (proc i) (columns i) (count i) (same i)
same_act-true (inside_act p written helpers rows) (call_act caller callee more others) h = absurd (false≢true h)
same_act-true (inside_act p written helpers rows) (back_act c targets) h = absurd (false≢true h)
same_act-true (call_act p f helpers rows) (inside_act q writes more others) h = absurd (false≢true h)
same_act-true (call_act p f helpers rows) (call_act q g more others) h =
    let rest = and_right (nat_eq p q) (nat_eq f g && (nat_eq helpers more && pointwise same_row rows others)) h in
    let last = and_right (nat_eq f g) (nat_eq helpers more && pointwise same_row rows others) rest in
    let caller : p ≡ q = eqb-true p q (and_left _ _ h) in
    let callee : f ≡ g = eqb-true f g (and_left _ _ rest) in
    let count : helpers ≡ more = eqb-true helpers more (and_left _ _ last) in
    let same : rows ≡ others = rows_same rows others (and_right _ _ last) in
    λ i. call_act (caller i) (callee i) (count i) (same i)
same_act-true (call_act p f helpers rows) (back_act c targets) h = absurd (false≢true h)
same_act-true (back_act c targets) (inside_act q writes more others) h = absurd (false≢true h)
same_act-true (back_act c targets) (call_act caller callee more others) h = absurd (false≢true h)
same_act-true (back_act c targets) (back_act d others) h =
    let call : c ≡ d = eqb-true c d (and_left _ _ h) in
    let same : targets ≡ others = numbers_same targets others (and_right _ _ h) in
    λ i. back_act (call i) (same i)

same_act-refl : (a : PlainAct) → same_act a a ≡ true
same_act-refl (inside_act p written helpers rows) = and_both _ _ (eqb-refl p) (and_both _ _ (numbers_themselves written) (and_both _ _ (eqb-refl helpers) (each_itself same_row same_row-refl rows)))
same_act-refl (call_act p f helpers rows) = and_both _ _ (eqb-refl p) (and_both _ _ (eqb-refl f) (and_both _ _ (eqb-refl helpers) (each_itself same_row same_row-refl rows)))
same_act-refl (back_act c targets) = and_both _ _ (eqb-refl c) (numbers_themselves targets)

pub same_act_so : (a b : PlainAct) → same_act a b ≡ true → a ≡ b
same_act_so a b h = same_act-true a b h

pub same_act_back : (a b : PlainAct) → a ≡ b → same_act a b ≡ true
same_act_back a b e = subst (λ (x : PlainAct). same_act a x ≡ true) e (same_act-refl a)

-- ---- acts with their marks

abbrev pub same_mark : Bool → Bool → Bool
same_mark a b = if a then b else not b

same_mark-true : (a b : Bool) → same_mark a b ≡ true → a ≡ b
same_mark-true true b h = sym h
same_mark-true false true h = absurd (false≢true h)
same_mark-true false false h = refl

same_mark-refl : (a : Bool) → same_mark a a ≡ true
same_mark-refl true = refl
same_mark-refl false = refl

pub same_marked_so : (a b : MarkedAct) → same_marked a b ≡ true → a ≡ b
same_marked_so a b h =
    let act : a.act ≡ b.act = same_act_so a.act b.act (and_left _ _ h) in
    let coarse : a.coarse ≡ b.coarse = same_mark-true a.coarse b.coarse (and_right (same_act a.act b.act) (same_mark a.coarse b.coarse) h) in
    λ i. record { act = act i; coarse = coarse i }

same_marked-refl : (a : MarkedAct) → same_marked a a ≡ true
same_marked-refl a = and_both _ _ (same_act-refl a.act) (same_mark-refl a.coarse)

pub same_marked_back : (a b : MarkedAct) → a ≡ b → same_marked a b ≡ true
same_marked_back a b e = subst (λ (x : MarkedAct). same_marked a x ≡ true) e (same_marked-refl a)
