-- Sums that give the same rows: operators keep them, and comparisons cannot tell them apart.
use Rattle.std.proofs.Common.{◌≡◌, ℕ, ◌+◌, ℤ, pos, ◌+ℤ◌, ◌-ℤ◌, ◌*ℤ◌, neg_ℤ, List, [], ◌∷◌, ◌++◌, refl, sym, ◌∙◌, ap}
use Rattle.std.specs.Prelude.{unsigned_abs}
use Rattle.math_facts.specs.Terms.{coefficient, scaled, opposite}
use Rattle.math_facts.proofs.TermLaws.{coefficient-append, coefficient-scaled, coefficient-opposite}
use Rattle.lin_rows.specs.declared.types.RowKind.{RowKind}
use Rattle.lin_rows.specs.declared.types.RowKind.TheVariants.{Le, Eq}
use Rattle.lin_rows.specs.Rows.{LinearRow}
use Rattle.lin_rows.specs.Sums.{row_of, summed}
use Rattle.lin_rows.proofs.SummedLaws.{coefficient-summed, AscendsFrom-summed, HasNoZero-summed, summed_from_coefficients}
use Rattle.cond_jumps.specs.Forms.{Linear, Linears, linear_negated, after, linear_plus, linear_minus, linear_times, quotient_rows, linear_divided, remaining}
use Rattle.cond_jumps.specs.Comparisons.{compared, below_row, above_row, equal}
use Rattle.icfg_lower.specs.CallJumps.Ties.Sums.{IsSame}

-- the sums are the same wherever their helpers begin
abbrev pub AreSame : Linears → Linears → Type 0
AreSame a b = (n : ℕ) → IsSame (a n) (b n)

pub same : (x : Linear) → IsSame x x
same x = record { terms = λ c. refl; constant = refl; rows = refl; helpers = refl }

pub same_through : (x y z : Linear) → IsSame x y → IsSame y z → IsSame x z
same_through x y z h k =
    record { terms = λ c. h.terms c ∙ k.terms c; constant = h.constant ∙ k.constant; rows = h.rows ∙ k.rows; helpers = h.helpers ∙ k.helpers }

-- ---- rows

pub row_same : (ts us : List (ℕ × ℤ)) (kind : RowKind) (a b : ℤ) → ((c : ℕ) → coefficient c ts ≡ coefficient c us) → a ≡ b → row_of ts kind a ≡ row_of us kind b
row_same ts us kind a b h e =
    let s : summed ts ≡ summed us = summed_from_coefficients us (summed ts) (AscendsFrom-summed ts) (HasNoZero-summed ts) (λ c. coefficient-summed c ts ∙ h c) in
    λ j. record { terms = s j; kind = kind; bound = e j }

opposite_same : (ts us : List (ℕ × ℤ)) → ((c : ℕ) → coefficient c ts ≡ coefficient c us) → (c : ℕ) → coefficient c (opposite ts) ≡ coefficient c (opposite us)
opposite_same ts us h c = coefficient-opposite c ts ∙ ap neg_ℤ (h c) ∙ sym (coefficient-opposite c us)

append_same : (ts us vs ws : List (ℕ × ℤ)) → ((c : ℕ) → coefficient c ts ≡ coefficient c us) → ((c : ℕ) → coefficient c vs ≡ coefficient c ws) → (c : ℕ) →
    coefficient c (ts ++ vs) ≡ coefficient c (us ++ ws)
append_same ts us vs ws h k c = coefficient-append c ts vs ∙ (λ j. h c j +ℤ k c j) ∙ sym (coefficient-append c us ws)

scaled_same : (m : ℤ) (ts us : List (ℕ × ℤ)) → ((c : ℕ) → coefficient c ts ≡ coefficient c us) → (c : ℕ) → coefficient c (scaled m ts) ≡ coefficient c (scaled m us)
scaled_same m ts us h c = coefficient-scaled c m ts ∙ ap (λ (z : ℤ). m *ℤ z) (h c) ∙ sym (coefficient-scaled c m us)

-- ---- operators

-- the second sum, behind the helpers of the first
pub after_same : (a b d e : Linears) → AreSame a b → AreSame d e → (n : ℕ) → IsSame (after a d n) (after b e n)
after_same a b d e h k n =
    let i : IsSame (d (n + (a n).helpers)) (e (n + (a n).helpers)) = k (n + (a n).helpers) in
    let f : e (n + (a n).helpers) ≡ e (n + (b n).helpers) = λ j. e (n + (h n).helpers j) in
    record {
      terms = λ c. i.terms c ∙ ap (λ (z : Linear). coefficient c z.terms) f;
      constant = i.constant ∙ ap (λ (z : Linear). z.constant) f;
      rows = i.rows ∙ ap (λ (z : Linear). z.rows) f;
      helpers = i.helpers ∙ ap (λ (z : Linear). z.helpers) f;
    }

pub negated_same : (a b : Linears) → AreSame a b → AreSame (linear_negated a) (linear_negated b)
negated_same a b h n =
    let i = h n in
    record { terms = opposite_same (a n).terms (b n).terms i.terms; constant = ap neg_ℤ i.constant; rows = i.rows; helpers = i.helpers }

pub plus_same : (a b d e : Linears) → AreSame a b → AreSame d e → AreSame (linear_plus a d) (linear_plus b e)
plus_same a b d e h k n =
    let i = h n in
    let l = after_same a b d e h k n in
    record {
      terms = append_same (a n).terms (b n).terms (after a d n).terms (after b e n).terms i.terms l.terms;
      constant = λ j. i.constant j +ℤ l.constant j;
      rows = λ j. i.rows j ++ l.rows j;
      helpers = λ j. i.helpers j + l.helpers j;
    }

pub minus_same : (a b d e : Linears) → AreSame a b → AreSame d e → AreSame (linear_minus a d) (linear_minus b e)
minus_same a b d e h k n =
    let i = h n in
    let l = after_same a b d e h k n in
    record {
      terms = append_same (a n).terms (b n).terms (opposite (after a d n).terms) (opposite (after b e n).terms) i.terms (opposite_same (after a d n).terms (after b e n).terms l.terms);
      constant = λ j. i.constant j -ℤ l.constant j;
      rows = λ j. i.rows j ++ l.rows j;
      helpers = λ j. i.helpers j + l.helpers j;
    }

pub times_same : (k l : ℤ) (a b d e : Linears) → AreSame a b → AreSame d e → AreSame (linear_times k l a d) (linear_times k l b e)
times_same k l a b d e h g n =
    let i = h n in
    let f = after_same a b d e h g n in
    record {
      terms = append_same (scaled k (after a d n).terms) (scaled k (after b e n).terms) (scaled l (a n).terms) (scaled l (b n).terms)
          (scaled_same k (after a d n).terms (after b e n).terms f.terms) (scaled_same l (a n).terms (b n).terms i.terms);
      constant = λ j. ((k *ℤ f.constant j) +ℤ (l *ℤ i.constant j)) -ℤ (k *ℤ l);
      rows = λ j. i.rows j ++ f.rows j;
      helpers = λ j. i.helpers j + f.helpers j;
    }

quotient_rows_same : (k : ℤ) (x y : Linear) (q : ℕ) → IsSame x y → quotient_rows k x q ≡ quotient_rows k y q
quotient_rows_same k x y q h =
    let first = row_same ((q, k) ∷ opposite x.terms) ((q, k) ∷ opposite y.terms) Le x.constant y.constant
    (append_same ((q, k) ∷ []) ((q, k) ∷ []) (opposite x.terms) (opposite y.terms) (λ c. refl) (opposite_same x.terms y.terms h.terms)) h.constant in
    let second = row_same (x.terms ++ (q, neg_ℤ k) ∷ []) (y.terms ++ (q, neg_ℤ k) ∷ []) Le ((pos (unsigned_abs k) -ℤ pos 1) -ℤ x.constant) ((pos (unsigned_abs k) -ℤ pos 1) -ℤ y.constant)
    (append_same x.terms y.terms ((q, neg_ℤ k) ∷ []) ((q, neg_ℤ k) ∷ []) h.terms (λ c. refl)) (ap (λ (z : ℤ). (pos (unsigned_abs k) -ℤ pos 1) -ℤ z) h.constant) in
    λ j. first j ∷ second j ∷ []

-- the rows of the helpers of a sum, and those of its quotient
parted_rows_same : (k : ℤ) (x y : Linear) (n : ℕ) → IsSame x y → x.rows ++ quotient_rows k x (n + x.helpers) ≡ y.rows ++ quotient_rows k y (n + y.helpers)
parted_rows_same k x y n h =
    (λ j. h.rows j ++ quotient_rows_same k x y (n + x.helpers) h j) ∙ (λ j. y.rows ++ quotient_rows k y (n + h.helpers j))

pub divided_same : (k : ℤ) (a b : Linears) → AreSame a b → AreSame (linear_divided k a) (linear_divided k b)
divided_same k a b h n =
    let i = h n in
    record {
      terms = λ c. λ j. coefficient c ((n + i.helpers j, pos 1) ∷ []);
      constant = refl;
      rows = parted_rows_same k (a n) (b n) n i;
      helpers = λ j. i.helpers j + 1;
    }

pub remaining_same : (k : ℤ) (a b : Linears) → AreSame a b → AreSame (remaining k a) (remaining k b)
remaining_same k a b h n =
    let i = h n in
    record {
      terms = append_same (a n).terms (b n).terms ((n + (a n).helpers, neg_ℤ k) ∷ []) ((n + (b n).helpers, neg_ℤ k) ∷ []) i.terms
          (λ c. λ j. coefficient c ((n + i.helpers j, neg_ℤ k) ∷ []));
      constant = i.constant;
      rows = parted_rows_same k (a n) (b n) n i;
      helpers = λ j. i.helpers j + 1;
    }

-- ---- comparisons

difference_same : (x y u v : Linear) → IsSame x y → IsSame u v → (c : ℕ) → coefficient c (x.terms ++ opposite u.terms) ≡ coefficient c (y.terms ++ opposite v.terms)
difference_same x y u v h k = append_same x.terms y.terms (opposite u.terms) (opposite v.terms) h.terms (opposite_same u.terms v.terms k.terms)

pub below_same : (z : ℤ) (x y u v : Linear) → IsSame x y → IsSame u v → below_row z x u ≡ below_row z y v
below_same z x y u v h k =
    row_same (x.terms ++ opposite u.terms) (y.terms ++ opposite v.terms) Le ((z -ℤ x.constant) +ℤ u.constant) ((z -ℤ y.constant) +ℤ v.constant)
    (difference_same x y u v h k) (λ j. (z -ℤ h.constant j) +ℤ k.constant j)

pub above_same : (z : ℤ) (x y u v : Linear) → IsSame x y → IsSame u v → above_row z x u ≡ above_row z y v
above_same z x y u v h k = below_same z u v x y k h

pub equal_same : (x y u v : Linear) → IsSame x y → IsSame u v → equal x u ≡ equal y v
equal_same x y u v h k =
    row_same (x.terms ++ opposite u.terms) (y.terms ++ opposite v.terms) Eq ((pos 0 -ℤ x.constant) +ℤ u.constant) ((pos 0 -ℤ y.constant) +ℤ v.constant)
    (difference_same x y u v h k) (λ j. (pos 0 -ℤ h.constant j) +ℤ k.constant j)

-- a row that cannot tell them apart
abbrev pub IsBlind : (Linear → Linear → LinearRow) → Type 0
IsBlind row = (x y u v : Linear) → IsSame x y → IsSame u v → row x u ≡ row y v

pub compared_same : (row : Linear → Linear → LinearRow) → IsBlind row → (a b d e : Linears) → AreSame a b → AreSame d e → compared row a d ≡ compared row b e
compared_same row r a b d e h k = λ j n.
    let i = h n in
    let f = after_same a b d e h k n in
    record { rows = (i.rows j ++ f.rows j) ++ r (a n) (b n) (after a d n) (after b e n) i f j ∷ []; helpers = i.helpers j + f.helpers j } ∷ []
