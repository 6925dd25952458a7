-- The rows of a return's system that are rows of its call in the word, and the bounds of the frame before it.
use Rattle.std.proofs.Common.{◌≡◌, ◌∙◌, ◌⊎◌, inl, inr, ℕ, suc, ◌+◌, ◌-◌, ◌<◌, ◌≤◌, ℤ, pos, negsuc, List, [], ◌∷◌, length, map, refl, sym, ap, subst, arith, Option, None, Some}
use Rattle.std.specs.Prelude.{slice_index}
use Rattle.std.specs.List.{AllByRecursion}
use Rattle.std.proofs.lemmas.Int.{ints}
use Rattle.std.proofs.lemmas.Bool.{cases_eq}
use Rattle.math_facts.specs.Terms.{coefficient, IsBelow}
use Rattle.boogie_tree.specs.declared.tree.Ty.{Ty}
use Rattle.boogie_tree.specs.declared.tree.Ty.TheVariants as types
use Rattle.lin_rows.specs.declared.types.RowKind.TheVariants.{Le}
use Rattle.lin_rows.specs.Rows.{LinearRow}
use Rattle.lin_rows.specs.Sums.{row_of}
use Rattle.lin_rows.specs.Tightening.{tightened}
use Rattle.letter_acts.specs.Frames.{Columns}
use Rattle.letter_acts.specs.Invariant.{MayName}
use Rattle.path_rows.specs.Paths.{start_frame}
use Rattle.letter_acts.specs.FrameRows.Rows.{renamed, types_of, bounds}
use Rattle.nested_itp.proofs.NestedRefutations.RowsLaws.{AllPairs, pairs_weaker}
use Rattle.nested_itp.proofs.NestedRefutations.ContentLaws.{IsMoved, tightened_moved, tightened_off, renamed_at, renamed_off, AreMoved, both_moved}
use Rattle.nested_itp.proofs.NestedRefutations.AlongLaws.{first_reading}
use Rattle.nested_itp.proofs.NestedRefutations.LayoutLaws.{parameter_behind}
use Rattle.nested_itp.proofs.NestedRefutations.CallColumnLaws.{caller_in, callee_in, width, heads, olds, locals, made, call_names, call_names_differ, caller_long, callee_long, call_names_count, name_local, name_helper}
use Rattle.nested_itp.proofs.NestedRefutations.CallRowLaws.{own_rows_below, length_types}
use Rattle.nested_itp.proofs.NestedRefutations.CallSumLaws.{own_block, front_of}
use Rattle.nested_itp.proofs.NestedRefutations.CallAddLaws.{caller_first, front_first}
use Rattle.nested_itp.proofs.NestedRefutations.ReturningLaws.{own_off}
use Rattle.nested_itp.proofs.NestedRefutations.BackColumnLaws.{BackLetter, m_of, n_of, w_of, moved_to, caller_at, callee_at, helper_at, ColumnCase, in_caller, in_callee, in_helper, column_case, columns_differ}
use Rattle.nested_itp.proofs.NestedRefutations.BackCutLaws.{start_wide}

-- ---- the call's own rows

abbrev pub back_own_rows : BackLetter → List LinearRow
back_own_rows c = map tightened (map (renamed (moved_to c)) c.call.rows)

abbrev pub back_frame : BackLetter → List LinearRow
back_frame c = map tightened (bounds (m_of c) (types_of (caller_in c.call)))

own_moved : (c : BackLetter) → AllPairs (AreMoved (length (call_names c.call)) (moved_to c) (slice_index (call_names c.call))) (back_own_rows c) (own_block c.call)
own_moved c = each c.call.rows (own_rows_below c.call)
  where
    each : (rows : List LinearRow) → AllByRecursion (λ r. IsBelow (length (call_names c.call)) r.terms) rows →
        AllPairs (AreMoved (length (call_names c.call)) (moved_to c) (slice_index (call_names c.call))) (map tightened (map (renamed (moved_to c)) rows)) (map tightened (map (renamed (slice_index (call_names c.call))) rows))
    each [] h = tt
    each (r ∷ rows) h =
        (both_moved (length (call_names c.call)) (moved_to c) (slice_index (call_names c.call)) (columns_differ (m_of c) (n_of c) (w_of c) (length (call_names c.call))) (call_names_differ c.call) r h.0, each rows h.1)

own_same : (c : BackLetter) (x y j : ℕ) → j < length (call_names c.call) → moved_to c j ≡ x → slice_index (call_names c.call) j ≡ y →
    AllPairs (λ r s. coefficient x r.terms ≡ coefficient y s.terms) (back_own_rows c) (own_block c.call)
own_same c x y j l e f =
    pairs_weaker (AreMoved (length (call_names c.call)) (moved_to c) (slice_index (call_names c.call))) (λ r s. coefficient x r.terms ≡ coefficient y s.terms)
    (λ r s h. ap (λ (z : ℕ). coefficient z r.terms) (sym e) ∙ h.at j l ∙ ap (λ (z : ℕ). coefficient z s.terms) f) (back_own_rows c) (own_block c.call) (own_moved c)

-- what a row of the call does not name, that of the system does not
back_own_off : (c : BackLetter) (x j : ℕ) → j < length (call_names c.call) → moved_to c j ≡ x → AllByRecursion (λ r. coefficient j r.terms ≡ pos 0) c.call.rows →
    AllByRecursion (λ r. coefficient x r.terms ≡ pos 0) (back_own_rows c)
back_own_off c x j l e h = each c.call.rows (own_rows_below c.call) h
  where
    each : (rows : List LinearRow) → AllByRecursion (λ r. IsBelow (length (call_names c.call)) r.terms) rows → AllByRecursion (λ r. coefficient j r.terms ≡ pos 0) rows →
        AllByRecursion (λ r. coefficient x r.terms ≡ pos 0) (map tightened (map (renamed (moved_to c)) rows))
    each [] b z = tt
    each (r ∷ rows) b z = (
      tightened_off x (renamed (moved_to c) r) (ap (λ (y : ℕ). coefficient y (renamed (moved_to c) r).terms) (sym e) ∙
          renamed_at (length (call_names c.call)) (moved_to c) (columns_differ (m_of c) (n_of c) (w_of c) (length (call_names c.call))) r b.0 j l ∙ z.0),
      each rows b.1 z.1,
    )

back_own_past : (c : BackLetter) (x : ℕ) → ((j : ℕ) → j < length (call_names c.call) → moved_to c j ≡ x → ⊥) → AllByRecursion (λ r. coefficient x r.terms ≡ pos 0) (back_own_rows c)
back_own_past c x off = each c.call.rows (own_rows_below c.call)
  where
    each : (rows : List LinearRow) → AllByRecursion (λ r. IsBelow (length (call_names c.call)) r.terms) rows → AllByRecursion (λ r. coefficient x r.terms ≡ pos 0) (map tightened (map (renamed (moved_to c)) rows))
    each [] b = tt
    each (r ∷ rows) b = (tightened_off x (renamed (moved_to c) r) (renamed_off (length (call_names c.call)) (moved_to c) x off r b.0), each rows b.1)

-- ---- bounds

bounds_related : (P : LinearRow → LinearRow → Type 0) (n k : ℕ) (ts : List (Option Ty)) →
    ((i : ℕ) → i < length ts → P (tightened (row_of ((n + i, negsuc 0) ∷ []) Le (pos 0))) (tightened (row_of ((k + i, negsuc 0) ∷ []) Le (pos 0))) ×
    P (tightened (row_of ((n + i, pos 1) ∷ []) Le (pos 1))) (tightened (row_of ((k + i, pos 1) ∷ []) Le (pos 1)))) →
    AllPairs P (map tightened (bounds n ts)) (map tightened (bounds k ts))
bounds_related P n k [] h = tt
bounds_related P n k (t ∷ ts) h = by_type t (bounds_related P (suc n) (suc k) ts (λ i l. next i (h (suc i) (omega (arith, l)))))
  where
    next : (i : ℕ) → P (tightened (row_of ((n + suc i, negsuc 0) ∷ []) Le (pos 0))) (tightened (row_of ((k + suc i, negsuc 0) ∷ []) Le (pos 0))) ×
        P (tightened (row_of ((n + suc i, pos 1) ∷ []) Le (pos 1))) (tightened (row_of ((k + suc i, pos 1) ∷ []) Le (pos 1))) →
        P (tightened (row_of ((suc n + i, negsuc 0) ∷ []) Le (pos 0))) (tightened (row_of ((suc k + i, negsuc 0) ∷ []) Le (pos 0))) ×
        P (tightened (row_of ((suc n + i, pos 1) ∷ []) Le (pos 1))) (tightened (row_of ((suc k + i, pos 1) ∷ []) Le (pos 1)))
    next i p =
        subst (λ (x : ℕ). P (tightened (row_of ((x, negsuc 0) ∷ []) Le (pos 0))) (tightened (row_of ((suc k + i, negsuc 0) ∷ []) Le (pos 0))) ×
        P (tightened (row_of ((x, pos 1) ∷ []) Le (pos 1))) (tightened (row_of ((suc k + i, pos 1) ∷ []) Le (pos 1)))) (let e : n + suc i ≡ suc n + i = omega arith in e)
        (subst (λ (y : ℕ). P (tightened (row_of ((n + suc i, negsuc 0) ∷ []) Le (pos 0))) (tightened (row_of ((y, negsuc 0) ∷ []) Le (pos 0))) ×
        P (tightened (row_of ((n + suc i, pos 1) ∷ []) Le (pos 1))) (tightened (row_of ((y, pos 1) ∷ []) Le (pos 1)))) (let e : k + suc i ≡ suc k + i = omega arith in e) p)

    first : P (tightened (row_of ((n + 0, negsuc 0) ∷ []) Le (pos 0))) (tightened (row_of ((k + 0, negsuc 0) ∷ []) Le (pos 0))) ×
        P (tightened (row_of ((n + 0, pos 1) ∷ []) Le (pos 1))) (tightened (row_of ((k + 0, pos 1) ∷ []) Le (pos 1))) →
        P (tightened (row_of ((n, negsuc 0) ∷ []) Le (pos 0))) (tightened (row_of ((k, negsuc 0) ∷ []) Le (pos 0))) ×
        P (tightened (row_of ((n, pos 1) ∷ []) Le (pos 1))) (tightened (row_of ((k, pos 1) ∷ []) Le (pos 1)))
    first p =
        subst (λ (x : ℕ). P (tightened (row_of ((x, negsuc 0) ∷ []) Le (pos 0))) (tightened (row_of ((k, negsuc 0) ∷ []) Le (pos 0))) ×
        P (tightened (row_of ((x, pos 1) ∷ []) Le (pos 1))) (tightened (row_of ((k, pos 1) ∷ []) Le (pos 1)))) (let e : n + 0 ≡ n = omega arith in e)
        (subst (λ (y : ℕ). P (tightened (row_of ((n + 0, negsuc 0) ∷ []) Le (pos 0))) (tightened (row_of ((y, negsuc 0) ∷ []) Le (pos 0))) ×
        P (tightened (row_of ((n + 0, pos 1) ∷ []) Le (pos 1))) (tightened (row_of ((y, pos 1) ∷ []) Le (pos 1)))) (let e : k + 0 ≡ k = omega arith in e) p)

    by_type : (t : Option Ty) → AllPairs P (map tightened (bounds (suc n) ts)) (map tightened (bounds (suc k) ts)) → AllPairs P (map tightened (bounds n (t ∷ ts))) (map tightened (bounds k (t ∷ ts)))
    by_type None r = r
    by_type (Some types.Int) r = r
    by_type (Some types.Bool) r = let p = first (h 0 (omega arith)) in (p.0, (p.1, r))

-- the tightened bound of a column names it alone, as that of any other
bound_is : (a b : ℤ) → (a ≡ pos 0 → ⊥) → (c : ℕ) → IsMoved 1 (λ z. c) (tightened (record { terms = (0, a) ∷ []; kind = Le; bound = b })) (tightened (row_of ((c, a) ∷ []) Le b))
bound_is a b n c =
    tightened_moved 1 (λ z. c) (λ i j l m e. omega (arith, l, m)) (record { terms = (0, a) ∷ []; kind = Le; bound = b }) (omega arith, tt) (omega arith, tt) (n, tt)

bound_same : (a b : ℤ) → (a ≡ pos 0 → ⊥) → (c d x y : ℕ) → (c ≡ x → d ≡ y) → (d ≡ y → c ≡ x) →
    coefficient x (tightened (row_of ((c, a) ∷ []) Le b)).terms ≡ coefficient y (tightened (row_of ((d, a) ∷ []) Le b)).terms
bound_same a b n c d x y f g = by_case (cases_eq c x)
  where
    by_case : (c ≡ x) ⊎ (c ≡ x → ⊥) → coefficient x (tightened (row_of ((c, a) ∷ []) Le b)).terms ≡ coefficient y (tightened (row_of ((d, a) ∷ []) Le b)).terms
    by_case (inl e) =
        ap (λ (z : ℕ). coefficient z (tightened (row_of ((c, a) ∷ []) Le b)).terms) (sym e) ∙ (bound_is a b n c).at 0 (omega arith) ∙ sym ((bound_is a b n d).at 0 (omega arith)) ∙
        ap (λ (z : ℕ). coefficient z (tightened (row_of ((d, a) ∷ []) Le b)).terms) (f e)
    by_case (inr q) = (bound_is a b n c).off x (λ j l e. q e) ∙ sym ((bound_is a b n d).off y (λ j l e. q (g e)))

less : negsuc 0 ≡ pos 0 → ⊥
less e = omega (arith, ints, e)

more : pos 1 ≡ pos 0 → ⊥
more e = omega (arith, ints, e)

bounds_same : (n k x y : ℕ) (ts : List (Option Ty)) → ((i : ℕ) → i < length ts → (n + i ≡ x → k + i ≡ y) × (k + i ≡ y → n + i ≡ x)) →
    AllPairs (λ r s. coefficient x r.terms ≡ coefficient y s.terms) (map tightened (bounds n ts)) (map tightened (bounds k ts))
bounds_same n k x y ts h =
    bounds_related (λ r s. coefficient x r.terms ≡ coefficient y s.terms) n k ts
    (λ i l. (bound_same (negsuc 0) (pos 0) less (n + i) (k + i) x y (h i l).0 (h i l).1, bound_same (pos 1) (pos 1) more (n + i) (k + i) x y (h i l).0 (h i l).1))

bounds_bound : (n k : ℕ) (ts : List (Option Ty)) → AllPairs (λ r s. r.bound ≡ s.bound) (map tightened (bounds n ts)) (map tightened (bounds k ts))
bounds_bound n k ts =
    bounds_related (λ r s. r.bound ≡ s.bound) n k ts
    (λ i l. ((bound_is (negsuc 0) (pos 0) less (n + i)).bound ∙ sym (bound_is (negsuc 0) (pos 0) less (k + i)).bound, (bound_is (pos 1) (pos 1) more (n + i)).bound ∙ sym (bound_is (pos 1) (pos 1) more (k + i)).bound))

bounds_kind : (n k : ℕ) (ts : List (Option Ty)) → AllPairs (λ r s. r.kind ≡ s.kind) (map tightened (bounds n ts)) (map tightened (bounds k ts))
bounds_kind n k ts =
    bounds_related (λ r s. r.kind ≡ s.kind) n k ts
    (λ i l. ((bound_is (negsuc 0) (pos 0) less (n + i)).kind ∙ sym (bound_is (negsuc 0) (pos 0) less (k + i)).kind, (bound_is (pos 1) (pos 1) more (n + i)).kind ∙ sym (bound_is (pos 1) (pos 1) more (k + i)).kind))

-- ---- rows that are so related to their rows in the word

pub record BackRows (c : BackLetter) (P : LinearRow → LinearRow → Type 0) : Type 0 where
  pub own : AllPairs P (back_own_rows c) (own_block c.call)
  pub frame : c.call.r ≡ first_reading c.call.g → caller_in c.call ≡ start_frame c.call.g → AllPairs P (back_frame c) (front_of c.call)

-- before the first letter the rows are the bounds of the start
front_is : (c : BackLetter) (P : LinearRow → LinearRow → Type 0) → c.call.r ≡ first_reading c.call.g → caller_in c.call ≡ start_frame c.call.g →
    AllPairs P (back_frame c) (map tightened (bounds 0 (types_of (caller_in c.call)))) → AllPairs P (back_frame c) (front_of c.call)
front_is c P q s h =
    subst (AllPairs P (back_frame c)) (ap (λ (x : Columns). map tightened (bounds 0 (types_of x))) s ∙ ap (map tightened) (sym (front_first c.call q))) h

pub rows_of_caller : (c : BackLetter) (j : ℕ) → j < width c.call → BackRows c (λ r s. coefficient (m_of c + j) r.terms ≡ coefficient (slice_index (call_names c.call) j) s.terms)
rows_of_caller c j l =
    let n = call_names_count c.call in
    let a = caller_long c.call in
    record {
      own = own_same c (m_of c + j) (slice_index (call_names c.call) j) j (omega (arith, n, l)) (caller_at (m_of c) (n_of c) (w_of c) j (omega (arith, l, a))) refl;
      frame = λ q s.
          (let v = caller_first c.call q j l in
          front_is c (λ r s. coefficient (m_of c + j) r.terms ≡ coefficient (slice_index (call_names c.call) j) s.terms) q s
          (bounds_same (m_of c) 0 (m_of c + j) (slice_index (call_names c.call) j) (types_of (caller_in c.call)) (λ i b. ((λ e. omega (arith, e, v)), (λ e. omega (arith, e, v))))));
    }

-- the bounds of the caller's columns name no other
frame_apart : (c : BackLetter) (x y : ℕ) → (x < m_of c) ⊎ (m_of c + n_of c ≤ x) → made c.call ≤ y → c.call.r ≡ first_reading c.call.g → caller_in c.call ≡ start_frame c.call.g →
    AllPairs (λ r s. coefficient x r.terms ≡ coefficient y s.terms) (back_frame c) (front_of c.call)
frame_apart c x y h b q s =
    let a = caller_long c.call in
    let t = length_types (caller_in c.call) in
    let w = start_wide c q in
    front_is c (λ r s. coefficient x r.terms ≡ coefficient y s.terms) q s
    (bounds_same (m_of c) 0 x y (types_of (caller_in c.call)) (λ i l. ((λ e. absurd (off i (omega (arith, l, t)) e h)), (λ e. omega (arith, e, b, w, a, l, t)))))
  where
    off : (i : ℕ) → i < n_of c → m_of c + i ≡ x → (x < m_of c) ⊎ (m_of c + n_of c ≤ x) → ⊥
    off i l e (inl k) = omega (arith, e, k)
    off i l e (inr k) = omega (arith, e, k, l)

pub rows_of_local : (c : BackLetter) (i : ℕ) → i < locals c.call → BackRows c (λ r s. coefficient (heads c.call + (olds c.call + i)) r.terms ≡ coefficient (made c.call + i) s.terms)
rows_of_local c i l =
    let n = call_names_count c.call in
    let a = caller_long c.call in
    let k = callee_long c.call in
    let j : ℕ = width c.call + (heads c.call + (olds c.call + i)) in
    record {
      own = own_same c (heads c.call + (olds c.call + i)) (made c.call + i) j (omega (arith, n, l)) (callee_at (m_of c) (n_of c) (w_of c) j (heads c.call + (olds c.call + i)) (omega (arith, a)) (omega (arith, k, l)))
          (name_local c.call j i refl l);
      frame = λ q s. frame_apart c (heads c.call + (olds c.call + i)) (made c.call + i) (inl (omega (arith, k, l))) (omega arith) q s;
    }

pub rows_of_helper : (c : BackLetter) (i : ℕ) → i < c.call.helpers → BackRows c (λ r s. coefficient (m_of c + n_of c + w_of c + i) r.terms ≡ coefficient (made c.call + locals c.call + i) s.terms)
rows_of_helper c i l =
    let n = call_names_count c.call in
    let a = caller_long c.call in
    let k = callee_long c.call in
    let j : ℕ = width c.call + (heads c.call + (olds c.call + locals c.call) + i) in
    record {
      own = own_same c (m_of c + n_of c + w_of c + i) (made c.call + locals c.call + i) j (omega (arith, n, l)) (helper_at (m_of c) (n_of c) (w_of c) j i (omega (arith, a, k))) (name_helper c.call j i refl l);
      frame = λ q s. frame_apart c (m_of c + n_of c + w_of c + i) (made c.call + locals c.call + i) (inr (omega arith)) (omega arith) q s;
    }

pub rows_bounds : (c : BackLetter) → BackRows c (λ r s. r.bound ≡ s.bound)
rows_bounds c = record {
  own = pairs_weaker (AreMoved (length (call_names c.call)) (moved_to c) (slice_index (call_names c.call))) (λ r s. r.bound ≡ s.bound) (λ r s h. h.bound) (back_own_rows c) (own_block c.call) (own_moved c);
  frame = λ q s. front_is c (λ r s. r.bound ≡ s.bound) q s (bounds_bound (m_of c) 0 (types_of (caller_in c.call)));
}

pub rows_kinds : (c : BackLetter) → BackRows c (λ r s. r.kind ≡ s.kind)
rows_kinds c = record {
  own = pairs_weaker (AreMoved (length (call_names c.call)) (moved_to c) (slice_index (call_names c.call))) (λ r s. r.kind ≡ s.kind) (λ r s h. h.kind) (back_own_rows c) (own_block c.call) (own_moved c);
  frame = λ q s. front_is c (λ r s. r.kind ≡ s.kind) q s (bounds_kind (m_of c) 0 (types_of (caller_in c.call)));
}

-- ---- columns that the call's rows do not name

-- of the callee's they name parameters alone
pub callee_off : (c : BackLetter) (x : ℕ) → x < m_of c → (MayName (caller_in c.call) (callee_in c.call) c.call.helpers (width c.call + x) → ⊥) → AllByRecursion (λ r. coefficient x r.terms ≡ pos 0) (back_own_rows c)
callee_off c x l n =
    let k = call_names_count c.call in
    let a = caller_long c.call in
    let b = callee_long c.call in
    back_own_off c x (width c.call + x) (omega (arith, k, l, b)) (callee_at (m_of c) (n_of c) (w_of c) (width c.call + x) x (omega (arith, a)) l) (own_off c.call (width c.call + x) n)

pub front_off : (c : BackLetter) (x : ℕ) → x < heads c.call + olds c.call → AllByRecursion (λ r. coefficient x r.terms ≡ pos 0) (back_own_rows c)
front_off c x l =
    let b = callee_long c.call in
    callee_off c x (omega (arith, l, b)) (λ may. not_parameter may)
  where
    not_parameter : MayName (caller_in c.call) (callee_in c.call) c.call.helpers (width c.call + x) → ⊥
    not_parameter may =
        let a = caller_long c.call in
        let k = callee_long c.call in
        let p = may.parameter (omega (arith, a)) (omega (arith, a, k, l)) in
        let q = parameter_behind c.call.at.infos (callee_in c.call) c.call.at.to_frame (width c.call + x - length (caller_in c.call)) p in
        omega (arith, q, a, l)

-- nor those that are written
pub written_off : (c : BackLetter) (x : ℕ) → m_of c + n_of c ≤ x → (x < m_of c + n_of c + w_of c) ⊎ (m_of c + n_of c + w_of c + c.call.helpers ≤ x) → AllByRecursion (λ r. coefficient x r.terms ≡ pos 0) (back_own_rows c)
written_off c x l h = back_own_past c x (λ j b e. off j b e (column_case (m_of c) (n_of c) (w_of c) j) h)
  where
    off : (j : ℕ) → j < length (call_names c.call) → moved_to c j ≡ x → ColumnCase (m_of c) (n_of c) (w_of c) j → (x < m_of c + n_of c + w_of c) ⊎ (m_of c + n_of c + w_of c + c.call.helpers ≤ x) → ⊥
    off j b e (in_caller p q) k = omega (arith, p, q, e, l)
    off j b e (in_callee i p d q) k = omega (arith, p, q, e, l)
    off j b e (in_helper i d q) (inl k) = omega (arith, q, e, k)
    off j b e (in_helper i d q) (inr k) =
        let n = call_names_count c.call in
        let a = caller_long c.call in
        let f = callee_long c.call in
        omega (arith, q, e, k, d, b, n, a, f)
