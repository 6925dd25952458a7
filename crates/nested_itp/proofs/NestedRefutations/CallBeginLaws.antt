-- The refutation of a call's triple begins well.
use Rattle.std.proofs.Common.{◌≡◌, ◌∙◌, ◌⊎◌, inl, inr, ℕ, zero, suc, ◌+◌, ◌<◌, Bool, true, false, IsTrue, List, [], ◌∷◌, ◌++◌, length, map, refl, sym, ap, subst, arith, append_assoc, length-append, None, Some}
use Rattle.std.specs.Prelude.{ℤ, not, ◌&&◌, slice_get, slice_index, IfSome, if◌then◌else◌}
use Rattle.std.specs.List.{AllByRecursion}
use Rattle.std.proofs.lemmas.Bool.{eq-eqb, ne_eqb}
use Rattle.std.proofs.lemmas.List.{map-append, length-map}
use Rattle.nwa_base.specs.Members.{Member}
use Rattle.lin_rows.specs.Rows.{LinearRow}
use Rattle.lin_rows.specs.Tightening.{tightened}
use Rattle.lin_rows.specs.Combinations.{Contradicts}
use Rattle.farkas_check.specs.Trees.{TreeRefutes}
use Rattle.letter_acts.specs.Frames.{globals_from, globals_of, olds_of}
use Rattle.letter_acts.specs.Invariant.{alphabet_of}
use Rattle.path_rows.specs.Versions.{local_columns, old_part}
use Rattle.path_rows.specs.Paths.{start_frame}
use Rattle.triple_rows.specs.Systems.{PlainFits}
use Rattle.letter_acts.specs.FrameRows.Rows.{renamed, equal_row, bounds, types_of}
use Rattle.triple_rows.specs.Triples.{system_of}
use Rattle.nested_itp.specs.NestedPredicates.Positions.{has_return}
use Rattle.nested_itp.specs.NestedPredicates.Sums.{Branch, root_of}
use Rattle.nested_itp.proofs.NestedPredicates.EndLaws.{rows_goal}
use Rattle.nested_itp.specs.NestedRefutations.Refutations.{Claim, rows_in, said_at, Role, target_tie, opposite_tie, stands, atom_roles, is_used, stops, leaf_from}
use Rattle.nested_itp.specs.NestedRefutations.Numbers.{branch_rows, spares, before_bounds, bounds_in, Reading, LeafNumbersFit, IsFalse, AreCutsAt}
use Rattle.nested_itp.specs.NestedRefutations.Waiting.{StepWaits}
use Rattle.nested_itp.proofs.NestedRefutations.TruthLaws.{IsOpen}
use Rattle.nested_itp.proofs.NestedRefutations.SpotLaws.{spot, StandsIn, IsUncased, uncased_stands}
use Rattle.nested_itp.proofs.NestedRefutations.HeldLaws.{truth_at, Held}
use Rattle.nested_itp.proofs.NestedRefutations.RowsLaws.{AllPairs, pairs_joined, pairs_counted}
use Rattle.nested_itp.proofs.NestedRefutations.StopLaws.{AllHeld, IsView, refuted_uncased}
use Rattle.nested_itp.proofs.NestedRefutations.WayLaws.{RoleFits, stands_left, stands_right, stands_exposed}
use Rattle.nested_itp.proofs.NestedRefutations.ClaimLaws.{AddsUp}
use Rattle.nested_itp.proofs.NestedRefutations.LeafLaws.{BeginsHeld, groups_wait}
use Rattle.nested_itp.proofs.NestedRefutations.LeavesLaws.{LeafFacts, leaves_refute}
use Rattle.nested_itp.proofs.NestedRefutations.BeginLaws.{begin_groups, begin_held, claim_pairs}
use Rattle.nested_itp.proofs.NestedRefutations.ViewLaws.{TwoClaims, two_view}
use Rattle.nested_itp.proofs.NestedRefutations.PairLaws.{branch_pairs, spare_pairs}
use Rattle.nested_itp.proofs.NestedRefutations.MovingLaws.{kinds_moved, bounds_counted}
use Rattle.nested_itp.proofs.NestedRefutations.TieLaws.{tie_pairs, AreTies}
use Rattle.nested_itp.proofs.NestedRefutations.AlongLaws.{first_reading}
use Rattle.nested_itp.proofs.NestedRefutations.CallColumnLaws.{CallLetter, caller_in, callee_in, heads, olds, call_names, call_names_differ, call_step_in, call_view, call_root, call_first, caller_long, heads_within}
use Rattle.nested_itp.proofs.NestedRefutations.CallRowLaws.{IsOldAt, olds_at, olds_number, named_tie, old_bounds, local_bounds, global_bounds, callee_bounds_rows, callee_roles}
use Rattle.nested_itp.proofs.NestedRefutations.CallSumLaws.{own_block, entry_block, local_block, old_block, call_block, front_of, later_rows, call_root_rows, source_rows, target_rows, source_claim, target_claim, leaves_of, global_ties, old_ties, caller_bounds, old_tie_roles, own_roles, caller_roles, bound_roles, call_first_rows, call_first_roles}
use Rattle.nested_itp.proofs.NestedRefutations.CallAddLaws.{CallRowsFit, call_rows_fit, CallRows, call_rows}
use Rattle.nested_itp.proofs.NestedRefutations.CallLeafLaws.{target_told, globals_tie}
use Rattle.nested_itp.proofs.NestedRefutations.InsideLeafLaws.{all_weaker}
use Rattle.nested_itp.proofs.NestedRefutations.InsideColumnLaws.{owns_innermost}
use Rattle.nested_itp.proofs.NestedRefutations.PendingLaws.{CallOpens, own_of, target_own, call_entry_kind}

-- neither claim is false
pub record CallOpenClaims (c : CallLetter) : Type 0 where
  pub uncased : IsUncased c.t
  pub before : IsOpen false (truth_at (call_view c).columns (source_claim c) (root_of c.g c.w) c.t)
  pub after : IsOpen true (truth_at (call_view c).columns (target_claim c) (root_of c.g c.w) c.t)

root_stands : (c : CallLetter) → IsUncased c.t → StandsIn (call_view c).columns 0 (root_of c.g c.w) c.t (spot 0 (root_of c.g c.w) c.t)
root_stands c un = uncased_stands (call_view c).columns 0 (root_of c.g c.w) c.t un

claim_rows : (c : CallLetter) → IsUncased c.t → (i : ℕ) (d : Claim) → slice_get (call_view c).claims i ≡ Some d → IsOpen d.is_denied (truth_at (call_view c).columns d (root_of c.g c.w) c.t) →
    AllPairs (RoleFits (call_view c) (call_root c) (root_of c.g c.w).rows) (atom_roles (is_used (call_view c) i) i (leaves_of c d)) (map tightened (rows_in (said_at (call_view c).columns d (call_root c))))
claim_rows c un i d e is_open = claim_pairs (call_view c) (call_root c) un (root_stands c un) (root_of c.g c.w).rows i d e is_open

call_opens : (c : CallLetter) → CallOpenClaims c → CallRowsFit c → CallOpens c
call_opens c o fits = record {
  source_count = pairs_counted (RoleFits (call_view c) (call_root c) (root_of c.g c.w).rows) (atom_roles (is_used (call_view c) 0) 0 (leaves_of c (source_claim c))) (source_rows c)
      (claim_rows c o.uncased 0 (source_claim c) refl o.before);
  target_count = pairs_counted (RoleFits (call_view c) (call_root c) (root_of c.g c.w).rows) (atom_roles (is_used (call_view c) 1) 1 (leaves_of c (target_claim c))) (target_rows c)
      (claim_rows c o.uncased 1 (target_claim c) refl o.after);
  fits = fits;
}

-- ---- its view

none_some : {X : Type 0} (x : X) → None ≡ Some x → ⊥
none_some x e = absurd (cc)

same_some : {X : Type 0} (x y : X) → Some x ≡ Some y → x ≡ y
same_some x y e = cc

pending_claims : (c : CallLetter) → has_return 0 c.rest ≡ false → TwoClaims (call_view c)
pending_claims c pending = record {
  before = source_claim c;
  after = target_claim c;
  claims = refl;
  returns = pending;
  holds = refl;
  fails = refl;
  own = own_of c pending ∙ sym (target_own c pending);
  upto = omega arith;
  counts = (let l = owns_innermost c.r.letters c.r.scopes c.at.along.placed.owns in omega (arith, l));
}

-- of a call that returns only the target is followed
returning_view : (c : CallLetter) → has_return 0 c.rest ≡ true → IsView (call_view c)
returning_view c returns = record {
  claims = (refl, refl);
  one_source = λ e. refl;
  one_asks = λ s i j d e f h used also x y. one i j d e f h used also;
}
  where
    unused : is_used (call_view c) 0 ≡ true → ⊥
    unused u = clash (has_return 0 c.rest) returns u
      where
        clash : (z : Bool) → z ≡ true → not (z && true) ≡ true → ⊥
        clash true e f = absurd (cc)
        clash false e f = absurd (cc)

    one : (i j : ℕ) (d e : Claim) → slice_get (source_claim c ∷ target_claim c ∷ []) i ≡ Some d → slice_get (source_claim c ∷ target_claim c ∷ []) j ≡ Some e →
        IsTrue (is_used (call_view c) i) → IsTrue (is_used (call_view c) j) → i ≡ j
    one zero j d e f h u v = absurd (unused u)
    one (suc zero) zero d e f h u v = absurd (unused v)
    one (suc zero) (suc zero) d e f h u v = refl
    one (suc zero) (suc (suc j)) d e f h u v = absurd (none_some e h)
    one (suc (suc i)) j d e f h u v = absurd (none_some d f)

call_is_view : (c : CallLetter) → IsView (call_view c)
call_is_view c = by_return (has_return 0 c.rest) refl
  where
    by_return : (z : Bool) → has_return 0 c.rest ≡ z → IsView (call_view c)
    by_return true e = returning_view c e
    by_return false e = two_view (call_view c) (pending_claims c e)

-- ---- its rows

abbrev Fits : CallLetter → Role → LinearRow → Type 0
Fits c = RoleFits (call_view c) (call_root c) (root_of c.g c.w).rows

kinds_same : (c : CallLetter) → CallRowsFit c → CallRows c (λ r s. r.kind ≡ s.kind)
kinds_same c fits =
    call_rows c (λ r s. r.kind ≡ s.kind) fits (λ rows h k. kinds_moved (call_names c) (call_names_differ c) rows h k) (λ p h. call_entry_kind c p h)

pub olds_tie : (c : CallLetter) → AreTies (λ o. length (caller_in c) + o.0) (λ o. o.1) (olds_of (callee_in c))
olds_tie c =
    all_weaker (IsOldAt c) (λ o. length (caller_in c) + o.0 ≡ o.1 → ⊥) (λ o q r. (let a = caller_long c in let e = q.column in let g = q.global in let w = heads_within c in omega (arith, r, e, g, w, a)))
    (olds_of (callee_in c)) (olds_at c)

row_at_own : (c : CallLetter) → c.r.rows ≡ length (front_of c)
row_at_own c = sym c.at.along.read.row_count ∙ sym (length-map c.at.along.read.front tightened)

own_length : (c : CallLetter) → length c.rows ≡ length (own_block c)
own_length c = sym (length-map c.rows tightened) ∙ own_blocks c
  where
    own_blocks : (c : CallLetter) → length (map tightened c.rows) ≡ length (own_block c)
    own_blocks c = length-map c.rows tightened ∙ sym (length-map c.rows (renamed (slice_index (call_names c)))) ∙ sym (length-map (map (renamed (slice_index (call_names c))) c.rows) tightened)

entry_length : (c : CallLetter) → length (olds_of (callee_in c)) ≡ length (entry_block c)
entry_length c = sym (length-map (olds_of (callee_in c)) (named_tie c)) ∙ sym (length-map (map (named_tie c) (olds_of (callee_in c))) tightened)

-- the rows of the branch, with so many of the letter's in front
behind_own : (c : CallLetter) → (root_of c.g c.w).rows ≡ (front_of c ++ own_block c) ++ (entry_block c ++ ((local_block c ++ old_block c) ++ map tightened (later_rows c)))
behind_own c =
    call_root_rows c ∙ ap (λ (l : List LinearRow). front_of c ++ l) (append_assoc (own_block c) (entry_block c ++ (local_block c ++ old_block c)) (map tightened (later_rows c))) ∙
    sym (append_assoc (front_of c) (own_block c) ((entry_block c ++ (local_block c ++ old_block c)) ++ map tightened (later_rows c))) ∙
    ap (λ (l : List LinearRow). (front_of c ++ own_block c) ++ l) (append_assoc (entry_block c) (local_block c ++ old_block c) (map tightened (later_rows c)))

behind_entries : (c : CallLetter) → (root_of c.g c.w).rows ≡ ((front_of c ++ own_block c) ++ entry_block c) ++ (local_block c ++ (old_block c ++ map tightened (later_rows c)))
behind_entries c =
    behind_own c ∙ sym (append_assoc (front_of c ++ own_block c) (entry_block c) ((local_block c ++ old_block c) ++ map tightened (later_rows c))) ∙
    ap (λ (l : List LinearRow). ((front_of c ++ own_block c) ++ entry_block c) ++ l) (append_assoc (local_block c) (old_block c) (map tightened (later_rows c)))

behind_locals : (c : CallLetter) → (root_of c.g c.w).rows ≡ (((front_of c ++ own_block c) ++ entry_block c) ++ local_block c) ++ (old_block c ++ map tightened (later_rows c))
behind_locals c = behind_entries c ∙ sym (append_assoc ((front_of c ++ own_block c) ++ entry_block c) (local_block c) (old_block c ++ map tightened (later_rows c)))

old_tie_pairs : (c : CallLetter) → CallRowsFit c → AllPairs (Fits c) (old_tie_roles c) (old_ties c)
old_tie_pairs c fits = by_return (has_return 0 c.rest)
  where
    by_return : (z : Bool) → AllPairs (Fits c) (if z then map (λ o. opposite_tie o.1) (olds_of (callee_in c)) else branch_rows (c.r.rows + length c.rows) (length (olds_of (callee_in c)))) (old_ties c)
    by_return true = tie_pairs (call_view c) (call_root c) (root_of c.g c.w).rows (λ o. opposite_tie o.1) (λ p row k. k) (λ o. length (caller_in c) + o.0) (λ o. o.1) (olds_of (callee_in c)) (olds_tie c)
    by_return false =
        let at : length (front_of c ++ own_block c) ≡ c.r.rows + length c.rows =
        length-append (front_of c) (own_block c) ∙ (let a = row_at_own c in let b = own_length c in let q : length (front_of c) + length (own_block c) ≡ c.r.rows + length c.rows = omega (arith, a, b) in q) in
        let n : length (old_ties c) ≡ length (olds_of (callee_in c)) =
        length-map (map (λ o. equal_row (length (caller_in c) + o.0) o.1) (olds_of (callee_in c))) tightened ∙ length-map (olds_of (callee_in c)) (λ o. equal_row (length (caller_in c) + o.0) o.1) in
        subst (λ (k : ℕ). AllPairs (Fits c) (branch_rows k (length (olds_of (callee_in c)))) (old_ties c)) at
        (subst (λ (k : ℕ). AllPairs (Fits c) (branch_rows (length (front_of c ++ own_block c)) k) (old_ties c)) n
        (branch_pairs (call_view c) (call_root c) (root_of c.g c.w).rows (front_of c ++ own_block c) (old_ties c) (entry_block c) ((local_block c ++ old_block c) ++ map tightened (later_rows c))
        (behind_own c) (kinds_same c fits).entry))

own_pairs : (c : CallLetter) → CallRowsFit c → AllPairs (Fits c) (own_roles c) (map tightened c.rows)
own_pairs c fits = by_return (has_return 0 c.rest)
  where
    count : length (map tightened c.rows) ≡ length c.rows
    count = length-map c.rows tightened

    by_return : (z : Bool) → AllPairs (Fits c) (if z then spares (length c.rows) else branch_rows c.r.rows (length c.rows)) (map tightened c.rows)
    by_return true = subst (λ (k : ℕ). AllPairs (Fits c) (spares k) (map tightened c.rows)) count (spare_pairs (call_view c) (call_root c) (root_of c.g c.w).rows 0 (map tightened c.rows))
    by_return false =
        subst (λ (k : ℕ). AllPairs (Fits c) (branch_rows k (length c.rows)) (map tightened c.rows)) (sym (row_at_own c))
        (subst (λ (k : ℕ). AllPairs (Fits c) (branch_rows (length (front_of c)) k) (map tightened c.rows)) count
        (branch_pairs (call_view c) (call_root c) (root_of c.g c.w).rows (front_of c) (map tightened c.rows) (own_block c) ((entry_block c ++ (local_block c ++ old_block c)) ++ map tightened (later_rows c))
        (call_root_rows c ∙ ap (λ (l : List LinearRow). front_of c ++ l) (append_assoc (own_block c) (entry_block c ++ (local_block c ++ old_block c)) (map tightened (later_rows c)))) (kinds_same c fits).own))

caller_pairs : (c : CallLetter) → CallRowsFit c → AllPairs (Fits c) (caller_roles c) (caller_bounds c)
caller_pairs c fits = by_return (has_return 0 c.rest)
  where
    count : length (caller_bounds c) ≡ bounds_in (caller_in c)
    count = length-map (bounds 0 (types_of (caller_in c))) tightened ∙ bounds_counted 0 0 (types_of (caller_in c))

    all_spare : AllPairs (Fits c) (spares (bounds_in (caller_in c))) (caller_bounds c)
    all_spare = subst (λ (k : ℕ). AllPairs (Fits c) (spares k) (caller_bounds c)) count (spare_pairs (call_view c) (call_root c) (root_of c.g c.w).rows 0 (caller_bounds c))

    by_begun : ((c.r ≡ first_reading c.g) × (caller_in c ≡ start_frame c.g)) ⊎ (0 < c.r.letters) → AllPairs (Fits c) (before_bounds (suc c.r.letters) (caller_in c)) (caller_bounds c)
    by_begun (inl e) =
        let letters : suc c.r.letters ≡ 1 = ap (λ (x : Reading). suc x.letters) e.0 in
        let here : before_bounds (suc c.r.letters) (caller_in c) ≡ branch_rows 0 (bounds_in (caller_in c)) = ap (λ (z : Bool). if z then branch_rows 0 (bounds_in (caller_in c)) else spares (bounds_in (caller_in c))) (eq-eqb (suc c.r.letters) 1 letters) in
        subst (λ (l : List Role). AllPairs (Fits c) l (caller_bounds c)) (sym (here ∙ ap (branch_rows 0) (sym count)))
        (branch_pairs (call_view c) (call_root c) (root_of c.g c.w).rows [] (caller_bounds c) (front_of c) (call_block c ++ map tightened (later_rows c)) (call_root_rows c) ((kinds_same c fits).frame e.0 e.1))
    by_begun (inr l) =
        let here : before_bounds (suc c.r.letters) (caller_in c) ≡ spares (bounds_in (caller_in c)) =
        ap (λ (z : Bool). if z then branch_rows 0 (bounds_in (caller_in c)) else spares (bounds_in (caller_in c))) (ne_eqb (suc c.r.letters) 1 (λ (e : suc c.r.letters ≡ 1). omega (arith, l, e))) in
        subst (λ (l : List Role). AllPairs (Fits c) l (caller_bounds c)) (sym here) all_spare

    by_return : (z : Bool) → AllPairs (Fits c) (if z then spares (bounds_in (caller_in c)) else before_bounds (suc c.r.letters) (caller_in c)) (caller_bounds c)
    by_return true = all_spare
    by_return false = by_begun c.at.begun

bound_pairs : (c : CallLetter) → CallRowsFit c → AllPairs (Fits c) (bound_roles c) (map tightened (bounds (length (caller_in c)) (types_of (callee_in c))))
bound_pairs c fits =
    let local : ℕ = c.r.rows + length c.rows + length (old_part (callee_in c)) in
    let old : ℕ = local + bounds_in (local_columns (callee_in c)) in
    let g_rows : List LinearRow = map tightened (global_bounds c) in
    let o_rows : List LinearRow = map tightened (old_bounds c) in
    let l_rows : List LinearRow = map tightened (local_bounds c) in
    let kinds = kinds_same c fits in
    let rows_are : map tightened (bounds (length (caller_in c)) (types_of (callee_in c))) ≡ g_rows ++ (o_rows ++ l_rows) =
    ap (map tightened) (callee_bounds_rows c) ∙ map-append tightened (global_bounds c) (old_bounds c ++ local_bounds c) ∙ ap (λ (l : List LinearRow). g_rows ++ l) (map-append tightened (old_bounds c) (local_bounds c)) in
    let on : length o_rows ≡ bounds_in (old_part (callee_in c)) = length-map (old_bounds c) tightened ∙ bounds_counted (length (caller_in c) + heads c) 0 (types_of (old_part (callee_in c))) in
    let ln : length l_rows ≡ bounds_in (local_columns (callee_in c)) = length-map (local_bounds c) tightened ∙ bounds_counted (length (caller_in c) + (heads c + olds c)) 0 (types_of (local_columns (callee_in c))) in
    let gn : length g_rows ≡ bounds_in (globals_from 0 c.at.infos) = length-map (global_bounds c) tightened ∙ bounds_counted (length (caller_in c)) 0 (types_of (globals_from 0 c.at.infos)) in
    let lb : length l_rows ≡ length (local_block c) = pairs_counted (λ r s. r.kind ≡ s.kind) l_rows (local_block c) kinds.local in
    let rows = row_at_own c in
    let own = own_length c in
    let entries : length (old_part (callee_in c)) ≡ length (entry_block c) = sym (olds_number c) ∙ entry_length c in
    let a1 = length-append (front_of c) (own_block c) in
    let a2 = length-append (front_of c ++ own_block c) (entry_block c) in
    let a3 = length-append ((front_of c ++ own_block c) ++ entry_block c) (local_block c) in
    let local_at : length ((front_of c ++ own_block c) ++ entry_block c) ≡ local = omega (arith, rows, own, entries, a1, a2) in
    let old_at : length (((front_of c ++ own_block c) ++ entry_block c) ++ local_block c) ≡ old = omega (arith, rows, own, entries, a1, a2, a3, ln, lb) in
    let p_local = subst (λ (k : ℕ). AllPairs (Fits c) (branch_rows k (bounds_in (local_columns (callee_in c)))) l_rows) local_at
    (subst (λ (k : ℕ). AllPairs (Fits c) (branch_rows (length ((front_of c ++ own_block c) ++ entry_block c)) k) l_rows) ln
    (branch_pairs (call_view c) (call_root c) (root_of c.g c.w).rows ((front_of c ++ own_block c) ++ entry_block c) l_rows (local_block c) (old_block c ++ map tightened (later_rows c)) (behind_entries c) kinds.local)) in
    let p_old = subst (λ (k : ℕ). AllPairs (Fits c) (branch_rows k (bounds_in (old_part (callee_in c)))) o_rows) old_at
    (subst (λ (k : ℕ). AllPairs (Fits c) (branch_rows (length (((front_of c ++ own_block c) ++ entry_block c) ++ local_block c)) k) o_rows) on
    (branch_pairs (call_view c) (call_root c) (root_of c.g c.w).rows (((front_of c ++ own_block c) ++ entry_block c) ++ local_block c) o_rows (old_block c) (map tightened (later_rows c)) (behind_locals c) kinds.old)) in
    let p_global = subst (λ (k : ℕ). AllPairs (Fits c) (spares k) g_rows) gn (spare_pairs (call_view c) (call_root c) (root_of c.g c.w).rows 0 g_rows) in
    let both = pairs_joined (Fits c) (branch_rows old (bounds_in (old_part (callee_in c)))) o_rows (branch_rows local (bounds_in (local_columns (callee_in c)))) l_rows p_old p_local in
    let whole = pairs_joined (Fits c) (spares (bounds_in (globals_from 0 c.at.infos))) g_rows (branch_rows old (bounds_in (old_part (callee_in c))) ++ branch_rows local (bounds_in (local_columns (callee_in c)))) (o_rows ++ l_rows) p_global both in
    subst (λ (l : List Role). AllPairs (Fits c) l (map tightened (bounds (length (caller_in c)) (types_of (callee_in c))))) (sym (callee_roles c local old))
    (subst (AllPairs (Fits c) (spares (bounds_in (globals_from 0 c.at.infos)) ++ (branch_rows old (bounds_in (old_part (callee_in c))) ++ branch_rows local (bounds_in (local_columns (callee_in c)))))) (sym rows_are) whole)

all_pairs : (c : CallLetter) → CallOpenClaims c → CallRowsFit c → AllPairs (Fits c) (call_first c).roles (call_first c).rows
all_pairs c o fits =
    let a : List Role = atom_roles (is_used (call_view c) 0) 0 (leaves_of c (source_claim c)) in
    let b : List Role = map target_tie (globals_of (callee_in c)) in
    let d : List Role = old_tie_roles c in
    let e : List Role = own_roles c in
    let f : List Role = atom_roles (is_used (call_view c) 1) 1 (leaves_of c (target_claim c)) in
    let h : List Role = caller_roles c in
    let k : List Role = bound_roles c in
    let last : List LinearRow = map tightened (bounds (length (caller_in c)) (types_of (callee_in c))) in
    let p6 = pairs_joined (Fits c) h (caller_bounds c) k last (caller_pairs c fits) (bound_pairs c fits) in
    let p5 = pairs_joined (Fits c) f (target_rows c) (h ++ k) (caller_bounds c ++ last) (claim_rows c o.uncased 1 (target_claim c) refl o.after) p6 in
    let p4 = pairs_joined (Fits c) e (map tightened c.rows) (f ++ (h ++ k)) (target_rows c ++ (caller_bounds c ++ last)) (own_pairs c fits) p5 in
    let p3 = pairs_joined (Fits c) d (old_ties c) (e ++ (f ++ (h ++ k))) (map tightened c.rows ++ (target_rows c ++ (caller_bounds c ++ last))) (old_tie_pairs c fits) p4 in
    let p2 = pairs_joined (Fits c) b (global_ties c) (d ++ (e ++ (f ++ (h ++ k)))) (old_ties c ++ (map tightened c.rows ++ (target_rows c ++ (caller_bounds c ++ last))))
    (tie_pairs (call_view c) (call_root c) (root_of c.g c.w).rows target_tie (λ p row q. q) (λ x. length (caller_in c) + x) (λ x. x) (globals_of (callee_in c)) (globals_tie c)) p3 in
    let p1 = pairs_joined (Fits c) a (source_rows c) (b ++ (d ++ (e ++ (f ++ (h ++ k))))) (global_ties c ++ (old_ties c ++ (map tightened c.rows ++ (target_rows c ++ (caller_bounds c ++ last)))))
    (claim_rows c o.uncased 0 (source_claim c) refl o.before) p2 in
    subst (λ (l : List Role). AllPairs (Fits c) l (call_first c).rows) (sym (call_first_roles c))
    (subst (AllPairs (Fits c) (a ++ (b ++ (d ++ (e ++ (f ++ (h ++ k))))))) (sym (call_first_rows c)) p1)

-- ---- what is held

all_held : (c : CallLetter) → CallOpenClaims c → AllHeld (call_view c) (call_first c) 0 (root_of c.g c.w) c.t
all_held c o i d found used = by_claim i found used
  where
    atoms_stand : (j : ℕ) (leaves : List ℕ) (m : ℕ) → is_used (call_view c) j ≡ true → Member leaves m → IsTrue (stands (atom_roles (is_used (call_view c) j) j leaves) j m)
    atoms_stand j leaves m u h = subst (λ (z : Bool). IsTrue (stands (atom_roles z j leaves) j m)) (sym u) (stands_exposed j leaves m h)

    whole : (j m : ℕ) → IsTrue (stands (atom_roles (is_used (call_view c) 0) 0 (leaves_of c (source_claim c)) ++ (map target_tie (globals_of (callee_in c)) ++ (old_tie_roles c ++ (own_roles c ++
        (atom_roles (is_used (call_view c) 1) 1 (leaves_of c (target_claim c)) ++ (caller_roles c ++ bound_roles c)))))) j m) → IsTrue (stands (call_first c).roles j m)
    whole j m h = subst (λ (l : List Role). IsTrue (stands l j m)) (sym (call_first_roles c)) h

    by_claim : (i : ℕ) → slice_get (call_view c).claims i ≡ Some d → is_used (call_view c) i ≡ true →
        Held (call_view c).columns i d (call_first c).roles (call_first c).groups (call_first c).taken 0 (root_of c.g c.w) c.t
    by_claim zero e u =
        subst (λ (x : Claim). Held (call_view c).columns 0 x (call_first c).roles (call_first c).groups (call_first c).taken 0 (root_of c.g c.w) c.t) (same_some (source_claim c) d e)
        (begin_held c.g c.w c.t (call_view c) (call_first c) o.uncased refl 0 (source_claim c) refl o.before
        (λ m h. whole 0 m (stands_left (atom_roles (is_used (call_view c) 0) 0 (leaves_of c (source_claim c)))
        (map target_tie (globals_of (callee_in c)) ++ (old_tie_roles c ++ (own_roles c ++ (atom_roles (is_used (call_view c) 1) 1 (leaves_of c (target_claim c)) ++ (caller_roles c ++ bound_roles c))))) 0 m
        (atoms_stand 0 (leaves_of c (source_claim c)) m u h))))
    by_claim (suc zero) e u =
        subst (λ (x : Claim). Held (call_view c).columns 1 x (call_first c).roles (call_first c).groups (call_first c).taken 0 (root_of c.g c.w) c.t) (same_some (target_claim c) d e)
        (begin_held c.g c.w c.t (call_view c) (call_first c) o.uncased refl 1 (target_claim c) refl o.after
        (λ m h. whole 1 m
        (stands_right (atom_roles (is_used (call_view c) 0) 0 (leaves_of c (source_claim c)))
        (map target_tie (globals_of (callee_in c)) ++ (old_tie_roles c ++ (own_roles c ++ (atom_roles (is_used (call_view c) 1) 1 (leaves_of c (target_claim c)) ++ (caller_roles c ++ bound_roles c))))) 1 m
        (stands_right (map target_tie (globals_of (callee_in c)))
        (old_tie_roles c ++ (own_roles c ++ (atom_roles (is_used (call_view c) 1) 1 (leaves_of c (target_claim c)) ++ (caller_roles c ++ bound_roles c)))) 1 m
        (stands_right (old_tie_roles c) (own_roles c ++ (atom_roles (is_used (call_view c) 1) 1 (leaves_of c (target_claim c)) ++ (caller_roles c ++ bound_roles c))) 1 m
        (stands_right (own_roles c) (atom_roles (is_used (call_view c) 1) 1 (leaves_of c (target_claim c)) ++ (caller_roles c ++ bound_roles c)) 1 m
        (stands_left (atom_roles (is_used (call_view c) 1) 1 (leaves_of c (target_claim c))) (caller_roles c ++ bound_roles c) 1 m
        (atoms_stand 1 (leaves_of c (target_claim c)) m u h))))))))
    by_claim (suc (suc j)) e u = absurd (none_some d e)

call_held : (c : CallLetter) → TreeRefutes c.t (rows_goal (root_of c.g c.w)) → CallOpenClaims c → BeginsHeld (call_view c) (call_root c) (call_first c)
call_held c refuted o = record {
  view = call_is_view c;
  refuted = refuted;
  stands = root_stands c o.uncased;
  groups = begin_groups c.g c.w c.t (call_view c) o.uncased (root_stands c o.uncased) 0 (call_view c).claims (λ p d e. ap (slice_get (call_view c).claims) (let q : 0 + p ≡ p = omega arith in q) ∙ e);
  held = all_held c o;
  taken = refl;
}

claims_open : (c : CallLetter) → TreeRefutes c.t (rows_goal (root_of c.g c.w)) → AllByRecursion (λ d. IsFalse c.g c.w c.t (call_view c) d → ⊥) (call_view c).claims → CallOpenClaims c
claims_open c refuted open_claims = record { uncased = refuted_uncased c.t (root_of c.g c.w) refuted; before = open_claims.0; after = open_claims.1.0 }

-- where each of its leaves adds up, the leaves contradict their rows
pub call_refutes : (c : CallLetter) → TreeRefutes c.t (rows_goal (root_of c.g c.w)) → AreCutsAt (length (call_view c).columns) c.t →
    (CallOpens c → (more : List LinearRow) (late : List ℕ) (n : ℕ) (b : Branch) (parts : List (ℕ × ℤ)) → LeafFacts (call_view c) (call_root c) more late n b parts →
    AddsUp (call_view c) (call_root c) (call_first c) more late n b parts) →
    PlainFits (system_of (alphabet_of c.g) (call_step_in c).triple) → AllByRecursion (λ d. IsFalse c.g c.w c.t (call_view c) d → ⊥) (call_view c).claims → (sides : List Bool) →
    IfSome (leaf_from (call_view c) sides (call_first c) (stops (call_view c) [] 0 (root_of c.g c.w) c.t)) (λ l. LeafNumbersFit l → Contradicts l.rows l.parts)
call_refutes c refuted cuts adds fits open_claims sides =
    let o : CallOpenClaims c = claims_open c refuted open_claims in
    let rows : CallRowsFit c = call_rows_fit c fits in
    leaves_refute (call_view c) (call_root c) (call_first c) (record { begins = call_held c refuted o; pairs = all_pairs c o rows }) cuts ((λ i j l m e. e), (target_told c, tt)) (adds (call_opens c o rows)) sides

-- where it stops at a group, one waits
pub call_waits : (c : CallLetter) → TreeRefutes c.t (rows_goal (root_of c.g c.w)) → StepWaits c.g c.w c.t (call_step_in c)
call_waits c refuted open_claims = groups_wait (call_view c) (call_root c) (call_first c) (call_held c refuted (claims_open c refuted open_claims))
