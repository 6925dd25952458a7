-- Which columns the rows of letters name: those of the frame, the further ones moved down by the products, and the helpers that stay.
use Rattle.std.proofs.Common.{◌≡◌, ◌⊎◌, inl, inr, ℕ, ◌+◌, ◌-◌, ◌<◌, ◌≤◌, Bool, false, not, ℤ, List, [], ◌∷◌, map, ap, sym, ◌∙◌, subst, arith}
use Rattle.std.specs.List.{AllByRecursion}
use Rattle.std.proofs.lemmas.Bool.{cases_lt, true≢false}
use Rattle.lin_rows.specs.Rows.{LinearRow}
use Rattle.cond_jumps.specs.Conjunctions.{Conjunction}
use Rattle.cond_jumps.specs.FreeProducts.Letters.{MarkedConjunction, ProductSpan, is_product_column, names_any, plain_rows, is_left_out, staying, renumbered, span_over, marked_letter}
use Rattle.cond_jumps.proofs.FreeProducts.SpanLemmas.{below_low, from_high, is_inside, other_stays, product_goes, plain_stay, all_filtered}
use Rattle.cond_jumps.proofs.FreeProducts.NarrowLemmas.{staying-append, all_staying, none_staying, staying_below}
use Rattle.lowered_graph.proofs.NamedColumns.{AreNamed, RowsName, IsNamed, ListNames}

-- the rows of each letter name these columns and its helpers alone
abbrev pub LettersName : (ℕ → Type 0) → ℕ → List MarkedConjunction → Type 0
LettersName B n ls = AllByRecursion (λ l. RowsName (IsNamed B n l.plain.helpers) l.plain.rows) ls

terms_moved : (P Q : ℕ → Type 0) (out : ℕ → Bool) → ((d : ℕ) → P d → out d ≡ false → Q (staying out 0 d)) → (ts : List (ℕ × ℤ)) → AreNamed P ts → AllByRecursion (λ (t : ℕ × ℤ). out t.0 ≡ false) ts →
    AreNamed Q (map (λ (t : ℕ × ℤ). (staying out 0 t.0, t.1)) ts)
terms_moved P Q out f [] h k = tt
terms_moved P Q out f (t ∷ ts) h k = (f t.0 h.0 k.0, terms_moved P Q out f ts h.1 k.1)

rows_moved : (P Q : ℕ → Type 0) (out : ℕ → Bool) → ((d : ℕ) → P d → out d ≡ false → Q (staying out 0 d)) → (rows : List LinearRow) → RowsName P rows →
    AllByRecursion (λ (r : LinearRow). AllByRecursion (λ (t : ℕ × ℤ). out t.0 ≡ false) r.terms) rows → RowsName Q (map (renumbered out) rows)
rows_moved P Q out f [] h k = tt
rows_moved P Q out f (r ∷ rows) h k = (terms_moved P Q out f r.terms h.0 k.0, rows_moved P Q out f rows h.1 k.1)

module _ (low count more : ℕ) (A B : ℕ → Type 0) (bounded : (d : ℕ) → A d → d < low + count + more) (front : (d : ℕ) → d < low → A d → B d)
    (further : (d : ℕ) → d < more → A (low + count + d) → B (low + d)) where
  -- a column that stays, where its letter has it
  column_moved : (c : Conjunction) (d : ℕ) → IsNamed A (low + count + more) c.helpers d → is_left_out (span_over low count more c) c.rows d ≡ false →
      IsNamed B (low + more) (marked_letter low count more c).plain.helpers (staying (is_left_out (span_over low count more c) c.rows) 0 d)
  column_moved c d h e = by_place (cases_lt d low) (cases_lt d (low + count)) (cases_lt d (low + count + more))
    where
      s : ProductSpan
      s = span_over low count more c

      out : ℕ → Bool
      out = is_left_out (span_over low count more c) c.rows

      in_front : (k : ℕ) → k ≤ low → staying (is_left_out (span_over low count more c) c.rows) 0 k ≡ k
      in_front k l =
          all_staying (is_left_out (span_over low count more c) c.rows) 0 k (λ x a b. other_stays (span_over low count more c) c.rows x (below_low low (low + count) x (omega arith))
          (below_low (low + count + more) (low + count + more + c.helpers) x (omega arith)))

      gone : staying (is_left_out (span_over low count more c) c.rows) low count ≡ 0
      gone = none_staying (is_left_out (span_over low count more c) c.rows) low count (λ x a b. product_goes (span_over low count more c) c.rows x (is_inside low (low + count) x a b))

      in_middle : (k : ℕ) → k ≤ more → staying (is_left_out (span_over low count more c) c.rows) 0 (low + count + k) ≡ low + k
      in_middle k l =
          let o : ℕ → Bool = is_left_out (span_over low count more c) c.rows in
          let a : staying o 0 (low + count + k) ≡ staying o 0 (low + count) + staying o (low + count) k = staying-append o 0 (low + count) (low + count) k (omega arith) in
          let b : staying o 0 (low + count) ≡ staying o 0 low + staying o low count = staying-append o 0 low low count (omega arith) in
          let f : staying o 0 low ≡ low = in_front low (omega arith) in
          let g : staying o low count ≡ 0 = gone in
          let m : staying o (low + count) k ≡ k =
          all_staying o (low + count) k (λ x i j. other_stays (span_over low count more c) c.rows x (from_high low (low + count) x i)
          (below_low (low + count + more) (low + count + more + c.helpers) x (omega arith))) in
          omega (arith, a, b, f, g, m)

      behind : (k : ℕ) → staying (is_left_out (span_over low count more c) c.rows) 0 (low + count + more + k) ≡ (low + more) + staying (is_left_out (span_over low count more c) c.rows) (low + count + more) k
      behind k =
          let o : ℕ → Bool = is_left_out (span_over low count more c) c.rows in
          let a : staying o 0 (low + count + more + k) ≡ staying o 0 (low + count + more) + staying o (low + count + more) k = staying-append o 0 (low + count + more) (low + count + more) k (omega arith) in
          let b : staying o 0 (low + count + more) ≡ low + more = in_middle more (omega arith) in
          omega (arith, a, b)

      by_place : (d < low) ⊎ (low ≤ d) → (d < low + count) ⊎ (low + count ≤ d) → (d < low + count + more) ⊎ (low + count + more ≤ d) →
          IsNamed B (low + more) (marked_letter low count more c).plain.helpers (staying (is_left_out (span_over low count more c) c.rows) 0 d)
      by_place (inl l) i j = inl (subst B (sym (in_front d (omega arith))) (front d l (own h)))
        where
          own : IsNamed A (low + count + more) c.helpers d → A d
          own (inl a) = a
          own (inr b) = absurd (let x : low + count + more ≤ d = b.0 in omega arith)
      by_place (inr l) (inl u) j = absurd (true≢false (sym (product_goes (span_over low count more c) c.rows d (is_inside low (low + count) d l u)) ∙ e))
      by_place (inr l) (inr u) (inl v) =
          let k : ℕ = d - (low + count) in
          let at : d ≡ low + count + k = omega arith in
          inl (subst B (sym (ap (staying (is_left_out (span_over low count more c) c.rows) 0) at ∙ in_middle k (omega arith))) (further k (omega arith) (subst A at (own h))))
        where
          own : IsNamed A (low + count + more) c.helpers d → A d
          own (inl a) = a
          own (inr b) = absurd (let x : low + count + more ≤ d = b.0 in omega arith)
      by_place (inr l) (inr u) (inr v) =
          let o : ℕ → Bool = is_left_out (span_over low count more c) c.rows in
          let k : ℕ = d - (low + count + more) in
          let at : d ≡ low + count + more + k = omega arith in
          let here : staying o 0 d ≡ (low + more) + staying o (low + count + more) k = ap (staying o 0) at ∙ behind k in
          let top : staying o 0 (low + count + more + c.helpers) ≡ (low + more) + staying o (low + count + more) c.helpers = behind c.helpers in
          let less : staying o 0 d < staying o 0 (low + count + more + c.helpers) = staying_below o d (low + count + more + c.helpers) (within h) e in
          inr (omega (arith, here), omega (arith, top, less))
        where
          within : IsNamed A (low + count + more) c.helpers d → d < low + count + more + c.helpers
          within (inl a) = let x : d < low + count + more = bounded d a in omega arith
          within (inr b) = b.1

  pub letter_names : (c : Conjunction) → RowsName (IsNamed A (low + count + more) c.helpers) c.rows → RowsName (IsNamed B (low + more) (marked_letter low count more c).plain.helpers) (marked_letter low count more c).plain.rows
  letter_names c h =
      let s : ProductSpan = span_over low count more c in
      rows_moved (IsNamed A (low + count + more) c.helpers) (IsNamed B (low + more) (marked_letter low count more c).plain.helpers) (is_left_out s c.rows) (λ d k e. column_moved c d k e) (plain_rows s c.rows)
      (all_filtered (λ (r : LinearRow). AreNamed (IsNamed A (low + count + more) c.helpers) r.terms) (λ (r : LinearRow). not (names_any (is_product_column s) r)) c.rows h) (plain_stay s c.rows)

  pub letters_name : (cs : List Conjunction) → ListNames A (low + count + more) cs → LettersName B (low + more) (map (marked_letter low count more) cs)
  letters_name [] h = tt
  letters_name (c ∷ cs) h = (letter_names c h.0, letters_name cs h.1)
