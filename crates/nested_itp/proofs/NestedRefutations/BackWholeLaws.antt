-- At a leaf of a return's triple all rows and claims come to nothing in each column, and to a bound below 0.
use Rattle.std.proofs.Common.{◌≡◌, ◌∙◌, ◌⊎◌, inl, inr, ℕ, suc, ◌+◌, ◌-◌, ◌*◌, ◌<◌, ◌≤◌, ℤ, pos, neg_ℤ, ◌+ℤ◌, ◌<ℤ◌, Bool, true, false, List, [], ◌∷◌, length, refl, sym, ap, subst, arith, Option, Some}
use Rattle.std.specs.Prelude.{not, ◌&&◌, slice_get, slice_index, IsSomeAnd, ◌-ℤ◌}
use Rattle.std.proofs.lemmas.Int.{ints}
use Rattle.math_facts.specs.Terms.{coefficient}
use Rattle.boogie_tree.specs.declared.tree.Column.{Column}
use Rattle.boogie_tree.specs.declared.tree.VarInfo.{VarInfo}
use Rattle.nwa_base.specs.Members.{Member}
use Rattle.lin_rows.specs.Rows.{LinearRow}
use Rattle.lin_rows.specs.Negating.{below_opposite}
use Rattle.letter_acts.specs.Frames.{is_global_column, is_old_column, is_fixed_column, is_local, is_parameter, is_result, constants_of, variables_of, result_columns, olds_of}
use Rattle.letter_acts.specs.Reading.{taken}
use Rattle.letter_acts.specs.Invariant.{AreDistinct, MayName, MayTarget}
use Rattle.letter_acts.proofs.ListLemmas.{member_or_not, all_member}
use Rattle.letter_acts.proofs.FrameLemmas.{variable_or_constant, olds_of_variables}
use Rattle.path_rows.proofs.OpenLemmas.{at_place}
use Rattle.nested_itp.specs.NestedPredicates.Positions.{innermost}
use Rattle.nested_itp.specs.NestedPredicates.Sums.{Branch, root_of, column_upto, bound_upto, bound_at}
use Rattle.nested_itp.specs.NestedRefutations.Refutations.{Role, target_tie, source_tie, multiplier}
use Rattle.nested_itp.proofs.NestedRefutations.WayLaws.{others, own_sum}
use Rattle.nested_itp.proofs.NestedRefutations.ClaimLaws.{columns_added, AddsUp}
use Rattle.nested_itp.proofs.NestedRefutations.NamesLaws.{index_member}
use Rattle.nested_itp.proofs.NestedRefutations.VersionLaws.{split_at, after_absent}
use Rattle.nested_itp.proofs.NestedRefutations.GoneLaws.{below_at}
use Rattle.nested_itp.proofs.NestedRefutations.LeavesLaws.{LeafFacts}
use Rattle.nested_itp.proofs.NestedRefutations.TieLaws.{ties_bound}
use Rattle.nested_itp.proofs.NestedRefutations.CallColumnLaws.{caller_in, callee_in, width, heads, olds, locals, made, call_names, caller_long, callee_long, name_caller}
use Rattle.nested_itp.proofs.NestedRefutations.CallLeafLaws.{claim_sum, new_before}
use Rattle.nested_itp.proofs.NestedRefutations.ReturningLaws.{olds_in}
use Rattle.nested_itp.proofs.NestedRefutations.WrittenLaws.{map_in, variable_written, target_written, written_are, taken_of, taken_parts, taken_or_not, after_at, written_apart}
use Rattle.nested_itp.proofs.NestedRefutations.BackColumnLaws.{BackLetter, after_position, back_written, m_of, n_of, w_of, after_of, exit_claim, before_claim, after_claim, back_view, back_root, back_first}
use Rattle.nested_itp.proofs.NestedRefutations.BackCutLaws.{column_of_caller, column_of_local, column_of_helper}
use Rattle.nested_itp.proofs.NestedRefutations.BackRowLaws.{back_own_rows, back_frame, rows_of_caller, rows_of_local, rows_of_helper, rows_bounds, callee_off, front_off, written_off}
use Rattle.nested_itp.proofs.NestedRefutations.BackSumLaws.{kept_globals, taken_in, constant_ties, old_ties, global_ties, result_ties, constant_roles, old_roles, own_roles, global_roles, result_roles, frame_roles, BackOpens, back_parts_add}
use Rattle.nested_itp.proofs.NestedRefutations.BackAddLaws.{as_call, columns_differ_by, bounds_differ_by, nothing_added}
use Rattle.nested_itp.proofs.NestedRefutations.BackLeafLaws.{over_return, ComesFrom, as_result, as_global, AfterFrom, from_result, from_exit, from_before, after_from, exit_gone, caller_quiet, target_gone, helper_gone}
use Rattle.nested_itp.proofs.NestedRefutations.BackTieLaws.{exit_sum, before_sum, after_sum, exit_at, exit_off, before_at, before_off, after_at_column, after_off, source_times, target_times, same_variables, same_constants, constant_below, variable_head, heads_in, constant_no_variable, variable_target, written_range, kept_variable, variable_kept, kept_range, target_below, taken_range, constants_tied, constants_tie, constant_first, constant_second, constant_off, olds_tied, old_range, olds_tie, old_first, old_second, old_off, globals_tied, globals_tie, one_after, global_first, global_second, global_off, results_tied, results_tie, result_first, result_second, result_off, exit_variable, constant_version, exit_constant, exit_old, LocalAt, local_at, exit_parameter, exit_local, unknown_caller}

-- ---- a leaf of the letter

-- a leaf, with the counts of the rows of the claims
pub record BackLeaf (c : BackLetter) : Type 0 where
  pub opens : BackOpens c
  pub more : List LinearRow
  pub late : List ℕ
  pub node : ℕ
  pub branch : Branch
  pub parts : List (ℕ × ℤ)
  pub facts : LeafFacts (back_view c) (back_root c) more late node branch parts

abbrev val_of : (c : BackLetter) → BackLeaf c → Role → ℤ
val_of c l = multiplier (back_view c) l.node l.branch l.parts

-- what the own cuts and the rows that are rows of the word add at a column
abbrev words_at : (c : BackLetter) → BackLeaf c → ℕ → ℤ
words_at c l x =
    (others (val_of c l) (λ r. coefficient x r.terms) (own_roles c) (back_own_rows c) +ℤ others (val_of c l) (λ r. coefficient x r.terms) (frame_roles c) (back_frame c)) +ℤ
    own_sum (back_view c) (val_of c l) (λ r. coefficient x r.terms) (length (root_of c.call.g c.call.w).rows) l.more l.late

-- what the ties add there
abbrev ties_at : (c : BackLetter) → BackLeaf c → ℕ → ℤ
ties_at c l x = (constants_tied c (val_of c l) x +ℤ olds_tied c (val_of c l) x) +ℤ (globals_tied c (val_of c l) x +ℤ results_tied c (val_of c l) x)

-- and the claims
abbrev claims_at : (c : BackLetter) → BackLeaf c → ℕ → ℤ
claims_at c l x = (claim_sum (exit_claim c) l.branch l.parts x +ℤ claim_sum (before_claim c) l.branch l.parts x) +ℤ neg_ℤ (claim_sum (after_claim c) l.branch l.parts x)

abbrev AddsAt : (c : BackLetter) → BackLeaf c → ℕ → Type 0
AddsAt c l x =
    (others (val_of c l) (λ r. coefficient x r.terms) (back_first c).roles (back_first c).rows +ℤ
    own_sum (back_view c) (val_of c l) (λ r. coefficient x r.terms) (length (root_of c.call.g c.call.w).rows) l.more l.late) +ℤ columns_added (back_view c) l.branch l.parts x 0 (back_view c).claims ≡ pos 0

put_law : (whole tc to ow tg tr fr os e bf af : ℤ) → whole ≡ tc +ℤ (to +ℤ (ow +ℤ (tg +ℤ (tr +ℤ fr)))) →
    (((tc +ℤ to) +ℤ (tg +ℤ tr)) +ℤ ((ow +ℤ fr) +ℤ os)) +ℤ ((e +ℤ bf) +ℤ neg_ℤ af) ≡ pos 0 → (whole +ℤ os) +ℤ (e +ℤ (bf +ℤ (neg_ℤ af +ℤ pos 0))) ≡ pos 0
put_law whole tc to ow tg tr fr os e bf af p q = omega (arith, ints, p, q)

put_together : (c : BackLetter) (l : BackLeaf c) (x : ℕ) → (ties_at c l x +ℤ words_at c l x) +ℤ claims_at c l x ≡ pos 0 → AddsAt c l x
put_together c l x h =
    put_law (others (val_of c l) (λ r. coefficient x r.terms) (back_first c).roles (back_first c).rows) (constants_tied c (val_of c l) x) (olds_tied c (val_of c l) x)
    (others (val_of c l) (λ r. coefficient x r.terms) (own_roles c) (back_own_rows c)) (globals_tied c (val_of c l) x) (results_tied c (val_of c l) x)
    (others (val_of c l) (λ r. coefficient x r.terms) (frame_roles c) (back_frame c))
    (own_sum (back_view c) (val_of c l) (λ r. coefficient x r.terms) (length (root_of c.call.g c.call.w).rows) l.more l.late)
    (claim_sum (exit_claim c) l.branch l.parts x) (claim_sum (before_claim c) l.branch l.parts x) (claim_sum (after_claim c) l.branch l.parts x)
    (back_parts_add c l.opens (val_of c l) (λ r. coefficient x r.terms)) h

-- the columns of the frame after it stand behind the callee's
after_behind : (c : BackLetter) (x : ℕ) → x < m_of c → (j : ℕ) → j < n_of c → after_of c j ≡ x → ⊥
after_behind c x l j b e = by_member (member_or_not (back_written c) j)
  where
    by_member : Member (back_written c) j ⊎ (Member (back_written c) j → ⊥) → ⊥
    by_member (inl m) = let r = (written_range c j m).0 in omega (arith, r, e, l)
    by_member (inr n) = let r = after_absent (m_of c) (m_of c + n_of c) (back_written c) j n in omega (arith, r, e, l)

abbrev exit_upto : (c : BackLetter) → BackLeaf c → ℕ → ℤ
exit_upto c l y = column_upto l.branch l.parts (suc (2 * c.r.letters)) y

abbrev after_upto : (c : BackLetter) → BackLeaf c → ℕ → ℤ
after_upto c l y = column_upto l.branch l.parts (suc (2 * suc c.r.letters)) y

abbrev call_upto : (c : BackLetter) → BackLeaf c → ℕ → ℤ
call_upto c l y = column_upto l.branch l.parts (2 * suc c.call.r.letters) y

abbrev before_upto : (c : BackLetter) → BackLeaf c → ℕ → ℤ
before_upto c l y = column_upto l.branch l.parts (suc (2 * c.call.r.letters)) y

after_same : (c : BackLetter) (l : BackLeaf c) (y : ℕ) → after_upto c l y ≡ exit_upto c l y
after_same c l y = over_return c l.more l.late l.node l.branch l.parts l.facts (λ r. coefficient y r.terms)

-- the caller's own sum speaks of no target, so that the sum after it is that of the version
after_target : (c : BackLetter) (l : BackLeaf c) (j : ℕ) → MayTarget (caller_in c.call) j → after_sum c l.branch l.parts j ≡ exit_upto c l (slice_index (after_position c).here j)
after_target c l j may =
    let u = unknown_caller c l.branch l.parts j may in
    let s = after_same c l (slice_index (after_position c).here j) in
    omega (arith, ints, u, s)

target_may : (c : BackLetter) (j : ℕ) → Member c.targets j → MayTarget (caller_in c.call) j
target_may c j m = all_member (MayTarget (caller_in c.call)) c.targets j m c.acted.may_target

-- a constant is no target
may_not : (c : BackLetter) (j : ℕ) → Member (constants_of (callee_in c.call)) j → MayTarget (caller_in c.call) j → ⊥
may_not c j m may =
    let p = at_place is_fixed_column 0 (caller_in c.call) j (subst (λ (xs : List ℕ). Member xs j) (same_constants c) m) in
    let e : j ≡ p.0 = (let k = p.2 in omega (arith, k)) in
    clash p.1.1.constant (second (is_global_column p.1.0) p.1.1.constant p.4)
    (changes p.1 (subst (λ (o : Option (Column × VarInfo)). IsSomeAnd o (λ v. (v.1.constant ≡ false) × (is_old_column v.0 ≡ false))) (ap (slice_get (caller_in c.call)) e ∙ p.3) may))
  where
    second : (x y : Bool) → (x && y) ≡ true → y ≡ true
    second true y e = e
    second false y e = absurd (cc)

    changes : (v : Column × VarInfo) → IsSomeAnd (Some v) (λ v. (v.1.constant ≡ false) × (is_old_column v.0 ≡ false)) → v.1.constant ≡ false
    changes v h = h.0

    clash : (z : Bool) → z ≡ true → z ≡ false → ⊥
    clash true e f = absurd (cc)
    clash false e f = absurd (cc)

-- an old column is of a global that may change
old_variable : (c : BackLetter) (o : ℕ × ℕ) → Member (olds_of (callee_in c.call)) o → Member (variables_of (callee_in c.call)) o.1
old_variable c o m = subst (λ (xs : List ℕ). Member xs o.1) (olds_of_variables c.call.at.infos (callee_in c.call) c.call.at.to_frame) (map_in (λ p. p.1) (olds_of (callee_in c.call)) o m)

-- a target takes one result
one_result : (targets results : List ℕ) → AreDistinct targets → (t r q : ℕ) → Member (taken targets results) (t, r) → Member (taken targets results) (t, q) → r ≡ q
one_result [] results d t r q m k = absurd m
one_result (x ∷ targets) [] d t r q m k = absurd m
one_result (x ∷ targets) (y ∷ results) d t r q (inl e) (inl f) = sym (ap (λ (z : ℕ × ℕ). z.1) e) ∙ ap (λ (z : ℕ × ℕ). z.1) f
one_result (x ∷ targets) (y ∷ results) d t r q (inl e) (inr k) = absurd (d.0 (subst (Member targets) (sym (ap (λ (z : ℕ × ℕ). z.0) e)) (taken_parts targets results (t, q) k).0))
one_result (x ∷ targets) (y ∷ results) d t r q (inr m) (inl f) = absurd (d.0 (subst (Member targets) (sym (ap (λ (z : ℕ × ℕ). z.0) f)) (taken_parts targets results (t, r) m).0))
one_result (x ∷ targets) (y ∷ results) d t r q (inr m) (inr k) = one_result targets results d.1 t r q m k

-- ---- columns of the callee

callee_claims : (c : BackLetter) (l : BackLeaf c) (x : ℕ) → x < m_of c → claims_at c l x ≡ exit_sum c l.branch l.parts x
callee_claims c l x b =
    let e = exit_at c l.branch l.parts x b in
    let f = before_off c l.branch l.parts x (inl b) in
    let a = after_off c l.branch l.parts x (after_behind c x b) in
    omega (arith, ints, e, f, a)

-- no tie of a constant or an old column is at a column of the callee but at its own
no_constant : (c : BackLetter) (l : BackLeaf c) (x : ℕ) → x < m_of c → (Member (constants_of (callee_in c.call)) x → ⊥) → constants_tied c (val_of c l) x ≡ pos 0
no_constant c l x b n =
    constant_off c (val_of c l) x (λ y m. ((λ e. n (subst (Member (constants_of (callee_in c.call))) e m)), (λ e. omega (arith, e, b))))

no_old : (c : BackLetter) (l : BackLeaf c) (x : ℕ) → x < m_of c → ((o : ℕ × ℕ) → Member (olds_of (callee_in c.call)) o → o.0 ≡ x → ⊥) → olds_tied c (val_of c l) x ≡ pos 0
no_old c l x b n = old_off c (val_of c l) x (λ o m. (n o m, (λ e. omega (arith, e, b))))

no_global : (c : BackLetter) (l : BackLeaf c) (x : ℕ) → x < m_of c → (Member (kept_globals c) x → ⊥) → globals_tied c (val_of c l) x ≡ pos 0
no_global c l x b n =
    global_off c (val_of c l) x (λ j m. ((λ e. (let r = (kept_range c j m).1.0 in omega (arith, r, e, b))), (λ e. n (subst (Member (kept_globals c)) e m))))

no_result : (c : BackLetter) (l : BackLeaf c) (x : ℕ) → x < m_of c → ((t : ℕ) → Member (taken_in c) (t, x) → ⊥) → results_tied c (val_of c l) x ≡ pos 0
no_result c l x b n =
    result_off c (val_of c l) x (λ p m. ((λ e. (let r = (taken_range c p m).1.0 in omega (arith, r, e, b))), (λ e. n p.0 (subst (λ (y : ℕ). Member (taken_in c) (p.0, y)) e m))))

not_taken : (c : BackLetter) (x : ℕ) → x < heads c.call + olds c.call → (t : ℕ) → Member (taken_in c) (t, x) → ⊥
not_taken c x l t m = let r = (taken_range c (t, x) m).2.0 in omega (arith, r, l)

no_words : (c : BackLetter) (l : BackLeaf c) (x : ℕ) → x < heads c.call + olds c.call → words_at c l x ≡ pos 0
no_words c l x b =
    let k = callee_long c.call in
    nothing_added c l.more l.late l.node l.branch l.parts l.facts x (front_off c x b) (inl (omega (arith, b, k)))

at_constant : (c : BackLetter) (l : BackLeaf c) (x : ℕ) → Member (constants_of (callee_in c.call)) x → AddsAt c l x
at_constant c l x m =
    let b = constant_below c x m in
    let k = (heads_in c).0 in
    let in_callee : x < m_of c = omega (arith, b, k) in
    let t1 = constant_first c (val_of c l) x m in
    let t2 = no_old c l x in_callee (λ o h e. (let r = (old_range c o h).0 in omega (arith, r, e, b))) in
    let t3 = no_global c l x in_callee (λ h. constant_no_variable c x m (subst (λ (xs : List ℕ). Member xs x) (same_variables c) (kept_variable c x h).0)) in
    let t4 = no_result c l x in_callee (not_taken c x (omega (arith, b))) in
    let w = no_words c l x (omega (arith, b)) in
    let s = callee_claims c l x in_callee in
    let v = source_times c l.node l.branch l.parts x in_callee in
    put_together c l x (omega (arith, ints, t1, t2, t3, t4, w, s, v))

at_variable : (c : BackLetter) (l : BackLeaf c) (x : ℕ) → Member (variables_of (callee_in c.call)) x → AddsAt c l x
at_variable c l x m = by_target (member_or_not c.targets x)
  where
    by_target : Member c.targets x ⊎ (Member c.targets x → ⊥) → AddsAt c l x
    by_target (inl t) =
        let b = variable_head c x (subst (λ (xs : List ℕ). Member xs x) (sym (same_variables c)) m) in
        let k = (heads_in c).0 in
        let in_callee : x < m_of c = omega (arith, b, k) in
        let t1 = no_constant c l x in_callee (λ h. constant_no_variable c x h m) in
        let t2 = no_old c l x in_callee (λ o h e. (let r = (old_range c o h).0 in omega (arith, r, e, b))) in
        let t3 = no_global c l x in_callee (λ h. (kept_variable c x h).1 t) in
        let t4 = no_result c l x in_callee (not_taken c x (omega (arith, b))) in
        let w = no_words c l x (omega (arith, b)) in
        let s = callee_claims c l x in_callee in
        let v = exit_variable c l.branch l.parts x m in
        let g = exit_gone c l.more l.late l.node l.branch l.parts l.facts x in_callee (λ from. gone from b t) in
        put_together c l x (omega (arith, ints, t1, t2, t3, t4, w, s, v, g))
      where
        gone : ComesFrom c x → x < heads c.call → Member c.targets x → ⊥
        gone (as_result q h) b t = not_taken c x (omega (arith, b)) q h
        gone (as_global h n) b t = n t
    by_target (inr n) =
        let b = variable_head c x (subst (λ (xs : List ℕ). Member xs x) (sym (same_variables c)) m) in
        let k = (heads_in c).0 in
        let k2 = (heads_in c).1 in
        let in_callee : x < m_of c = omega (arith, b, k) in
        let mine : Member (variables_of (caller_in c.call)) x = subst (λ (xs : List ℕ). Member xs x) (sym (same_variables c)) m in
        let t1 = no_constant c l x in_callee (λ h. constant_no_variable c x h m) in
        let t2 = no_old c l x in_callee (λ o h e. (let r = (old_range c o h).0 in omega (arith, r, e, b))) in
        let t3 = global_second c (val_of c l) x (variable_kept c x mine n) in
        let t4 = no_result c l x in_callee (not_taken c x (omega (arith, b))) in
        let w = no_words c l x (omega (arith, b)) in
        let s = callee_claims c l x in_callee in
        let v = exit_variable c l.branch l.parts x m in
        let u = target_times c l.node l.branch l.parts x (omega (arith, b, k2)) in
        let a = after_target c l x (variable_target (caller_in c.call) x mine) in
        let f : exit_upto c l (slice_index (after_position c).here x) ≡ exit_upto c l (slice_index c.r.stage.here x) = ap (exit_upto c l) (from_here (after_from c x (omega (arith, b, k2))) b n) in
        put_together c l x (omega (arith, ints, t1, t2, t3, t4, w, s, v, u, a, f))
      where
        from_here : AfterFrom c x → x < heads c.call → (Member c.targets x → ⊥) → slice_index (after_position c).here x ≡ slice_index c.r.stage.here x
        from_here (from_result r t e) b n = absurd (n (taken_parts c.targets (result_columns (callee_in c.call)) (x, r) t).0)
        from_here (from_exit h k e) b n = e
        from_here (from_before h k e) b n = absurd (omega (arith, h, b))

at_old : (c : BackLetter) (l : BackLeaf c) (o : ℕ × ℕ) → Member (olds_of (callee_in c.call)) o → AddsAt c l o.0
at_old c l o m =
    let r = old_range c o m in
    let low = r.0 in
    let high = r.1 in
    let k = callee_long c.call in
    let in_callee : o.0 < m_of c = omega (arith, high, k) in
    let t1 = no_constant c l o.0 in_callee (λ h. (let b = constant_below c o.0 h in omega (arith, b, low))) in
    let t2 = old_first c (val_of c l) o m in
    let t3 = no_global c l o.0 in_callee (λ h. (let b = (kept_range c o.0 h).0 in omega (arith, b, low))) in
    let t4 = no_result c l o.0 in_callee (not_taken c o.0 high) in
    let w = no_words c l o.0 high in
    let s = callee_claims c l o.0 in_callee in
    let v = source_times c l.node l.branch l.parts o.0 in_callee in
    put_together c l o.0 (omega (arith, ints, t1, t2, t3, t4, w, s, v))

at_local : (c : BackLetter) (l : BackLeaf c) (i : ℕ) → i < locals c.call → AddsAt c l (heads c.call + (olds c.call + i))
at_local c l i b = by_constant (local_at c i b) ((local_at c i b).column.1.constant) refl
  where
    clash : (z : Bool) → z ≡ true → z ≡ false → ⊥
    clash true e f = absurd (cc)
    clash false e f = absurd (cc)

    constant_too : (v : Column × VarInfo) → is_parameter v ≡ true → v.1.constant ≡ true
    constant_too (d, info) h = by_both (is_local (d, info)) info.constant h
      where
        by_both : (p q : Bool) → (p && q) ≡ true → q ≡ true
        by_both true q h = h
        by_both false q h = absurd (cc)

    -- a parameter is no result
    not_result : (h : LocalAt c i) → h.column.1.constant ≡ true → Member (result_columns (callee_in c.call)) (heads c.call + (olds c.call + i)) → ⊥
    not_result h k m =
        let p = at_place is_result 0 (callee_in c.call) (heads c.call + (olds c.call + i)) m in
        let e : heads c.call + (olds c.call + i) ≡ p.0 = (let q = p.2 in omega (arith, q)) in
        let same : Some h.column ≡ Some p.1 = sym h.there ∙ ap (slice_get (callee_in c.call)) e ∙ p.3 in
        differ h.column p.1 (one h.column p.1 same) k p.4
      where
        one : (u v : Column × VarInfo) → Some u ≡ Some v → u ≡ v
        one u v e = cc

        second_false : (x y : Bool) → (x && not y) ≡ true → y ≡ false
        second_false true true e = absurd (cc)
        second_false true false e = refl
        second_false false y e = absurd (cc)

        differ : (u v : Column × VarInfo) → u ≡ v → u.1.constant ≡ true → is_result v ≡ true → ⊥
        differ u v e k r = clash v.1.constant (subst (λ (z : Column × VarInfo). z.1.constant ≡ true) e k) (second_false (is_local v) v.1.constant r)

    no_ties : (x : ℕ) → x < m_of c → heads c.call + olds c.call ≤ x → (constants_tied c (val_of c l) x ≡ pos 0) × (olds_tied c (val_of c l) x ≡ pos 0) × (globals_tied c (val_of c l) x ≡ pos 0)
    no_ties x in_callee low = (
      no_constant c l x in_callee (λ h. (let k = constant_below c x h in omega (arith, k, low))),
      no_old c l x in_callee (λ o h e. (let k = (old_range c o h).1 in omega (arith, k, e, low))),
      no_global c l x in_callee (λ h. (let k = (kept_range c x h).0 in omega (arith, k, low))),
    )

    -- what is no parameter the call's rows do not name
    not_named : (h : LocalAt c i) → h.column.1.constant ≡ false → MayName (caller_in c.call) (callee_in c.call) c.call.helpers (width c.call + (heads c.call + (olds c.call + i))) → ⊥
    not_named h k may =
        let near = caller_long c.call in
        let long = callee_long c.call in
        let place : width c.call + (heads c.call + (olds c.call + i)) - length (caller_in c.call) ≡ heads c.call + (olds c.call + i) = omega (arith, near) in
        let p = may.parameter (omega (arith, near)) (omega (arith, near, b, long)) in
        let q : IsSomeAnd (Some h.column) (λ w. is_parameter w ≡ true) =
        subst (λ (o : Option (Column × VarInfo)). IsSomeAnd o (λ w. is_parameter w ≡ true)) h.there (subst (λ (m : ℕ). IsSomeAnd (slice_get (callee_in c.call) m) (λ w. is_parameter w ≡ true)) place p) in
        clash h.column.1.constant (constant_too h.column q) k

    by_constant : (h : LocalAt c i) (z : Bool) → h.column.1.constant ≡ z → AddsAt c l (heads c.call + (olds c.call + i))
    by_constant h true k =
        let x : ℕ = heads c.call + (olds c.call + i) in
        let long = callee_long c.call in
        let in_callee : x < m_of c = omega (arith, b, long) in
        let t = no_ties x in_callee (omega arith) in
        let t1 = t.0 in
        let t2 = t.1 in
        let t3 = t.2 in
        let t4 = no_result c l x in_callee (λ q m. not_result h k (taken_parts c.targets (result_columns (callee_in c.call)) (q, x) m).1) in
        let w = columns_differ_by c l.more l.late l.node l.branch l.parts l.facts x (made c.call + i) (rows_of_local c i b) (column_of_local c x (made c.call + i) in_callee (omega arith) (omega (arith, b))) in
        let s = callee_claims c l x in_callee in
        let v = exit_parameter c l.branch l.parts i b h k in
        let n = new_before c.call l.more l.late l.node l.branch l.parts (as_call c l.more l.late l.node l.branch l.parts l.facts) (made c.call + i) (omega arith) in
        let g = exit_gone c l.more l.late l.node l.branch l.parts l.facts x in_callee (λ from. gone h k from) in
        put_together c l x (omega (arith, ints, t1, t2, t3, t4, w, s, v, n, g))
      where
        gone : (h : LocalAt c i) → h.column.1.constant ≡ true → ComesFrom c (heads c.call + (olds c.call + i)) → ⊥
        gone h k (as_result q m) = not_result h k (taken_parts c.targets (result_columns (callee_in c.call)) (q, heads c.call + (olds c.call + i)) m).1
        gone h k (as_global q n) = omega (arith, q)
    by_constant h false k = by_taken (taken_or_not c.targets (result_columns (callee_in c.call)) (heads c.call + (olds c.call + i)))
      where
        by_taken : ((t : ℕ) × Member (taken c.targets (result_columns (callee_in c.call))) (t, heads c.call + (olds c.call + i))) ⊎
            ((t : ℕ) → Member (taken c.targets (result_columns (callee_in c.call))) (t, heads c.call + (olds c.call + i)) → ⊥) → AddsAt c l (heads c.call + (olds c.call + i))
        by_taken (inl h2) =
            let x : ℕ = heads c.call + (olds c.call + i) in
            let long = callee_long c.call in
            let in_callee : x < m_of c = omega (arith, b, long) in
            let t = no_ties x in_callee (omega arith) in
            let t1 = t.0 in
            let t2 = t.1 in
            let t3 = t.2 in
            let target = (taken_parts c.targets (result_columns (callee_in c.call)) (h2.0, x) h2.1).0 in
            let below = target_below c h2.0 target in
            let t4 = result_second c (val_of c l) (h2.0, x) h2.1 in
            let w = nothing_added c l.more l.late l.node l.branch l.parts l.facts x (callee_off c x in_callee (not_named h k)) (inl in_callee) in
            let s = callee_claims c l x in_callee in
            let v = exit_local c l.branch l.parts i b h k in
            let u = target_times c l.node l.branch l.parts h2.0 below in
            let a = after_target c l h2.0 (target_may c h2.0 target) in
            let f : exit_upto c l (slice_index (after_position c).here h2.0) ≡ exit_upto c l (slice_index c.r.stage.here x) = ap (exit_upto c l) (from_here h2.0 h2.1 (after_from c h2.0 below)) in
            put_together c l x (omega (arith, ints, t1, t2, t3, t4, w, s, v, u, a, f))
          where
            from_here : (t : ℕ) → Member (taken c.targets (result_columns (callee_in c.call))) (t, heads c.call + (olds c.call + i)) → AfterFrom c t →
                slice_index (after_position c).here t ≡ slice_index c.r.stage.here (heads c.call + (olds c.call + i))
            from_here t m (from_result r q e) = e ∙ ap (slice_index c.r.stage.here) (one_result c.targets (result_columns (callee_in c.call)) c.acted.distinct t r (heads c.call + (olds c.call + i)) q m)
            from_here t m (from_exit h n e) = absurd (n (taken_parts c.targets (result_columns (callee_in c.call)) (t, heads c.call + (olds c.call + i)) m).0)
            from_here t m (from_before h n e) = absurd (n (taken_parts c.targets (result_columns (callee_in c.call)) (t, heads c.call + (olds c.call + i)) m).0)
        by_taken (inr n) =
            let x : ℕ = heads c.call + (olds c.call + i) in
            let long = callee_long c.call in
            let in_callee : x < m_of c = omega (arith, b, long) in
            let t = no_ties x in_callee (omega arith) in
            let t1 = t.0 in
            let t2 = t.1 in
            let t3 = t.2 in
            let t4 = no_result c l x in_callee (λ q m. n q m) in
            let w = nothing_added c l.more l.late l.node l.branch l.parts l.facts x (callee_off c x in_callee (not_named h k)) (inl in_callee) in
            let s = callee_claims c l x in_callee in
            let v = exit_local c l.branch l.parts i b h k in
            let g = exit_gone c l.more l.late l.node l.branch l.parts l.facts x in_callee (λ from. gone from) in
            put_together c l x (omega (arith, ints, t1, t2, t3, t4, w, s, v, g))
          where
            gone : ComesFrom c (heads c.call + (olds c.call + i)) → ⊥
            gone (as_result q m) = n q m
            gone (as_global q u) = omega (arith, q)

at_callee : (c : BackLetter) (l : BackLeaf c) (x : ℕ) → x < m_of c → AddsAt c l x
at_callee c l x b = by_head (split_at (heads c.call) x)
  where
    by_old : (k : ℕ) → x ≡ heads c.call + k → (k < olds c.call) ⊎ ((i : ℕ) × (k ≡ olds c.call + i)) → AddsAt c l x
    by_old k e (inl h) = let o = (olds_in c.call).at k h in subst (AddsAt c l) (o.2 ∙ sym e) (at_old c l o.0 o.1)
    by_old k e (inr h) =
        let q = h.1 in
        let long = callee_long c.call in
        subst (AddsAt c l) (let s : heads c.call + (olds c.call + h.0) ≡ x = omega (arith, e, q) in s) (at_local c l h.0 (omega (arith, e, q, b, long)))

    by_kind : Member (variables_of (callee_in c.call)) x ⊎ Member (constants_of (callee_in c.call)) x → AddsAt c l x
    by_kind (inl m) = at_variable c l x m
    by_kind (inr m) = at_constant c l x m

    by_head : (x < heads c.call) ⊎ ((k : ℕ) × (x ≡ heads c.call + k)) → AddsAt c l x
    by_head (inl h) = by_kind (variable_or_constant c.call.at.infos (callee_in c.call) (callee_in c.call) c.call.at.to_frame c.call.at.to_frame x h)
    by_head (inr h) = by_old h.0 h.1 (split_at (olds c.call) h.0)

-- ---- columns of the caller before the call

-- its own rows and cuts add what its version has more after the call's own rows
caller_words : (c : BackLetter) (l : BackLeaf c) (j : ℕ) → j < width c.call → words_at c l (m_of c + j) ≡ call_upto c l (slice_index c.call.r.stage.here j) -ℤ before_upto c l (slice_index c.call.r.stage.here j)
caller_words c l j b =
    let e = name_caller c.call j b in
    columns_differ_by c l.more l.late l.node l.branch l.parts l.facts (m_of c + j) (slice_index (call_names c.call) j) (rows_of_caller c j b)
    (column_of_caller c j b (subst (λ (y : ℕ). y < made c.call) (sym e) (below_at (made c.call) c.call.r.stage.here j c.call.at.versions.below b))) ∙
    ap (λ (y : ℕ). call_upto c l y -ℤ before_upto c l y) e

caller_claims : (c : BackLetter) (l : BackLeaf c) (j : ℕ) → j < width c.call → claims_at c l (m_of c + j) ≡ before_sum c l.branch l.parts j +ℤ neg_ℤ (claim_sum (after_claim c) l.branch l.parts (m_of c + j))
caller_claims c l j b =
    let e = exit_off c l.branch l.parts (m_of c + j) (omega arith) in
    let f = before_at c l.branch l.parts j b in
    omega (arith, ints, e, f)

-- a column that is not written stands where it did
stays_claim : (c : BackLetter) (l : BackLeaf c) (j : ℕ) → j < n_of c → (Member (back_written c) j → ⊥) → claim_sum (after_claim c) l.branch l.parts (m_of c + j) ≡ after_sum c l.branch l.parts j
stays_claim c l j b n =
    ap (claim_sum (after_claim c) l.branch l.parts) (sym (after_absent (m_of c) (m_of c + n_of c) (back_written c) j n)) ∙ after_at_column c l.branch l.parts j b

-- and none stands where a written one did
leaves_claim : (c : BackLetter) (l : BackLeaf c) (j : ℕ) → j < n_of c → Member (back_written c) j → claim_sum (after_claim c) l.branch l.parts (m_of c + j) ≡ pos 0
leaves_claim c l j b m = after_off c l.branch l.parts (m_of c + j) (λ i k e. off i k e (member_or_not (back_written c) i))
  where
    off : (i : ℕ) → i < n_of c → after_of c i ≡ m_of c + j → Member (back_written c) i ⊎ (Member (back_written c) i → ⊥) → ⊥
    off i k e (inl h) = let r = (written_range c i h).0 in omega (arith, r, e, b)
    off i k e (inr n) =
        let r = after_absent (m_of c) (m_of c + n_of c) (back_written c) i n in
        let same : i ≡ j = omega (arith, r, e) in
        n (subst (Member (back_written c)) (sym same) m)

no_global_before : (c : BackLetter) (l : BackLeaf c) (j : ℕ) → j < n_of c → globals_tied c (val_of c l) (m_of c + j) ≡ pos 0
no_global_before c l j b =
    global_off c (val_of c l) (m_of c + j)
    (λ i m. (let r = kept_range c i m in let a = r.0 in let d = r.1.0 in let k = (heads_in c).0 in ((λ e. omega (arith, d, e, b)), (λ e. omega (arith, a, e, k)))))

no_result_before : (c : BackLetter) (l : BackLeaf c) (j : ℕ) → j < n_of c → results_tied c (val_of c l) (m_of c + j) ≡ pos 0
no_result_before c l j b =
    result_off c (val_of c l) (m_of c + j) (λ p m. (let r = taken_range c p m in let a = r.1.0 in let d = r.2.1 in ((λ e. omega (arith, a, e, b)), (λ e. omega (arith, d, e)))))

no_old_before : (c : BackLetter) (l : BackLeaf c) (j : ℕ) → ((o : ℕ × ℕ) → Member (olds_of (callee_in c.call)) o → o.1 ≡ j → ⊥) → olds_tied c (val_of c l) (m_of c + j) ≡ pos 0
no_old_before c l j n =
    old_off c (val_of c l) (m_of c + j) (λ o m. (let r = (old_range c o m).1 in let k = callee_long c.call in ((λ e. omega (arith, r, e, k)), (λ e. n o m (omega (arith, e))))))

no_constant_before : (c : BackLetter) (l : BackLeaf c) (j : ℕ) → (Member (constants_of (callee_in c.call)) j → ⊥) → constants_tied c (val_of c l) (m_of c + j) ≡ pos 0
no_constant_before c l j n =
    constant_off c (val_of c l) (m_of c + j)
    (λ y m. (let b = constant_below c y m in let k = (heads_in c).0 in ((λ e. omega (arith, b, e, k)), (λ e. n (subst (Member (constants_of (callee_in c.call))) (let q : y ≡ j = omega (arith, e) in q) m)))))

caller_constant : (c : BackLetter) (l : BackLeaf c) (j : ℕ) → j < width c.call → Member (constants_of (callee_in c.call)) j → AddsAt c l (m_of c + j)
caller_constant c l j b m =
    let low = constant_below c j m in
    let k = (heads_in c).0 in
    let a = caller_long c.call in
    let y : ℕ = slice_index c.call.r.stage.here j in
    let t1 = constant_second c (val_of c l) j m in
    let t2 = no_old_before c l j (λ o h e. constant_no_variable c j m (subst (Member (variables_of (callee_in c.call))) e (old_variable c o h))) in
    let t3 = no_global_before c l j (omega (arith, b, a)) in
    let t4 = no_result_before c l j (omega (arith, b, a)) in
    let w = caller_words c l j b in
    let s = caller_claims c l j b in
    let v = source_times c l.node l.branch l.parts j (omega (arith, low, k)) in
    let x = exit_constant c l.branch l.parts j m in
    let d = stays_claim c l j (omega (arith, b, a)) (λ h. not_written (written_are (caller_in c.call) c.targets j h)) in
    let f : after_upto c l (slice_index (after_position c).here j) ≡ exit_upto c l y =
    ap (after_upto c l) (from_here (after_from c j (omega (arith, b, a))) low) ∙ after_same c l y in
    put_together c l (m_of c + j) (omega (arith, ints, t1, t2, t3, t4, w, s, v, x, d, f))
  where
    not_written : Member (variables_of (caller_in c.call)) j ⊎ Member c.targets j → ⊥
    not_written (inl h) = constant_no_variable c j m (subst (λ (xs : List ℕ). Member xs j) (same_variables c) h)
    not_written (inr h) = may_not c j m (target_may c j h)

    from_here : AfterFrom c j → j < heads c.call → slice_index (after_position c).here j ≡ slice_index c.call.r.stage.here j
    from_here (from_result r t e) b = absurd (may_not c j m (target_may c j (taken_parts c.targets (result_columns (callee_in c.call)) (j, r) t).0))
    from_here (from_exit h n e) b = e ∙ constant_version c j m
    from_here (from_before h n e) b = absurd (omega (arith, h, b))

caller_variable : (c : BackLetter) (l : BackLeaf c) (j : ℕ) → j < width c.call → Member (variables_of (caller_in c.call)) j → AddsAt c l (m_of c + j)
caller_variable c l j b m =
    let mine : Member (variables_of (callee_in c.call)) j = subst (λ (xs : List ℕ). Member xs j) (same_variables c) m in
    let o = (olds_in c.call).of j mine in
    let r = old_range c o.0 o.1 in
    let high = r.1 in
    let low = r.0 in
    let k = callee_long c.call in
    let a = caller_long c.call in
    let in_callee : o.0.0 < m_of c = omega (arith, high, k) in
    let t1 = no_constant_before c l j (λ h. constant_no_variable c j h mine) in
    let t2 : olds_tied c (val_of c l) (m_of c + j) ≡ neg_ℤ (val_of c l (source_tie o.0.0)) = subst (λ (i : ℕ). olds_tied c (val_of c l) (m_of c + i) ≡ neg_ℤ (val_of c l (source_tie o.0.0))) o.2 (old_second c (val_of c l) o.0 o.1) in
    let t3 = no_global_before c l j (omega (arith, b, a)) in
    let t4 = no_result_before c l j (omega (arith, b, a)) in
    let w = caller_words c l j b in
    let s = caller_claims c l j b in
    let v = source_times c l.node l.branch l.parts o.0.0 in_callee in
    let x : exit_sum c l.branch l.parts o.0.0 ≡ exit_upto c l (slice_index c.r.stage.here o.0.0) -ℤ call_upto c l (slice_index c.call.r.stage.here j) =
    exit_old c l.branch l.parts o.0 o.1 ∙ ap (λ (i : ℕ). exit_upto c l (slice_index c.r.stage.here o.0.0) -ℤ call_upto c l (slice_index c.call.r.stage.here i)) o.2 in
    let g = exit_gone c l.more l.late l.node l.branch l.parts l.facts o.0.0 in_callee (λ from. gone o.0.0 high low from) in
    let d = leaves_claim c l j (omega (arith, b, a)) (variable_written (caller_in c.call) c.targets j m) in
    let u = unknown_caller c l.branch l.parts j (variable_target (caller_in c.call) j m) in
    put_together c l (m_of c + j) (omega (arith, ints, t1, t2, t3, t4, w, s, v, x, g, d, u))
  where
    gone : (x : ℕ) → x < heads c.call + olds c.call → heads c.call ≤ x → ComesFrom c x → ⊥
    gone x high low (as_result t h) = not_taken c x high t h
    gone x high low (as_global h n) = omega (arith, h, low)

caller_behind : (c : BackLetter) (l : BackLeaf c) (j : ℕ) → heads c.call ≤ j → j < width c.call → AddsAt c l (m_of c + j)
caller_behind c l j low b = by_target (member_or_not c.targets j)
  where
    no_ties : (constants_tied c (val_of c l) (m_of c + j) ≡ pos 0) × (olds_tied c (val_of c l) (m_of c + j) ≡ pos 0) × (globals_tied c (val_of c l) (m_of c + j) ≡ pos 0) × (results_tied c (val_of c l) (m_of c + j) ≡ pos 0)
    no_ties =
        let a = caller_long c.call in (
          no_constant_before c l j (λ h. (let k = constant_below c j h in omega (arith, k, low))),
          no_old_before c l j (λ o h e. (let k = (old_range c o h).2 in omega (arith, k, e, low))),
          no_global_before c l j (omega (arith, b, a)),
          no_result_before c l j (omega (arith, b, a)),
        )

    by_target : Member c.targets j ⊎ (Member c.targets j → ⊥) → AddsAt c l (m_of c + j)
    by_target (inl t) =
        let a = caller_long c.call in
        let ties = no_ties in
        let t1 = ties.0 in
        let t2 = ties.1 in
        let t3 = ties.2 in
        let t4 = ties.3 in
        let w = caller_words c l j b in
        let s = caller_claims c l j b in
        let d = leaves_claim c l j (omega (arith, b, a)) (target_written (caller_in c.call) c.targets j c.acted.may_target t) in
        let u = unknown_caller c l.branch l.parts j (target_may c j t) in
        let q = caller_quiet c l.more l.late l.node l.branch l.parts l.facts j low b in
        let g = target_gone c l.more l.late l.node l.branch l.parts l.facts j low b t in
        put_together c l (m_of c + j) (omega (arith, ints, t1, t2, t3, t4, w, s, d, u, q, g))
    by_target (inr n) =
        let a = caller_long c.call in
        let ties = no_ties in
        let t1 = ties.0 in
        let t2 = ties.1 in
        let t3 = ties.2 in
        let t4 = ties.3 in
        let w = caller_words c l j b in
        let s = caller_claims c l j b in
        let d = stays_claim c l j (omega (arith, b, a)) (λ h. not_written n (written_are (caller_in c.call) c.targets j h)) in
        let q = caller_quiet c l.more l.late l.node l.branch l.parts l.facts j low b in
        let f : after_upto c l (slice_index (after_position c).here j) ≡ exit_upto c l (slice_index c.call.r.stage.here j) =
        ap (after_upto c l) (from_here n (after_from c j (omega (arith, b, a)))) ∙ after_same c l (slice_index c.call.r.stage.here j) in
        put_together c l (m_of c + j) (omega (arith, ints, t1, t2, t3, t4, w, s, d, q, f))
      where
        not_written : (Member c.targets j → ⊥) → Member (variables_of (caller_in c.call)) j ⊎ Member c.targets j → ⊥
        not_written n (inl h) = let k = variable_head c j h in omega (arith, k, low)
        not_written n (inr h) = n h

        from_here : (Member c.targets j → ⊥) → AfterFrom c j → slice_index (after_position c).here j ≡ slice_index c.call.r.stage.here j
        from_here n (from_result r t e) = absurd (n (taken_parts c.targets (result_columns (callee_in c.call)) (j, r) t).0)
        from_here n (from_exit h k e) = absurd (omega (arith, h, low))
        from_here n (from_before h k e) = e

at_caller : (c : BackLetter) (l : BackLeaf c) (j : ℕ) → j < width c.call → AddsAt c l (m_of c + j)
at_caller c l j b = by_head (split_at (heads c.call) j)
  where
    by_kind : Member (variables_of (caller_in c.call)) j ⊎ Member (constants_of (callee_in c.call)) j → AddsAt c l (m_of c + j)
    by_kind (inl m) = caller_variable c l j b m
    by_kind (inr m) = caller_constant c l j b m

    by_head : (j < heads c.call) ⊎ ((k : ℕ) × (j ≡ heads c.call + k)) → AddsAt c l (m_of c + j)
    by_head (inl h) = by_kind (variable_or_constant c.call.at.infos (caller_in c.call) (callee_in c.call) c.call.at.from_frame c.call.at.to_frame j h)
    by_head (inr h) = let e = h.1 in caller_behind c l j (omega (arith, e)) b

-- ---- columns that are written, and helpers

far_claims : (c : BackLetter) (l : BackLeaf c) (x : ℕ) → m_of c + n_of c ≤ x → claims_at c l x ≡ neg_ℤ (claim_sum (after_claim c) l.branch l.parts x)
far_claims c l x b =
    let e = exit_off c l.branch l.parts x (omega (arith, b)) in
    let f = before_off c l.branch l.parts x (inr b) in
    omega (arith, ints, e, f)

far_constant : (c : BackLetter) (l : BackLeaf c) (x : ℕ) → m_of c + n_of c ≤ x → constants_tied c (val_of c l) x ≡ pos 0
far_constant c l x b =
    constant_off c (val_of c l) x (λ y m. (let k = constant_below c y m in let h = heads_in c in let p = h.0 in let q = h.1 in ((λ e. omega (arith, k, e, b, p)), (λ e. omega (arith, k, e, b, q)))))

far_old : (c : BackLetter) (l : BackLeaf c) (x : ℕ) → m_of c + n_of c ≤ x → olds_tied c (val_of c l) x ≡ pos 0
far_old c l x b =
    old_off c (val_of c l) x
    (λ o m. (let r = old_range c o m in let p = r.1 in let q = r.2 in let k = callee_long c.call in let h = (heads_in c).1 in ((λ e. omega (arith, p, e, b, k)), (λ e. omega (arith, q, e, b, h)))))

far_words : (c : BackLetter) (l : BackLeaf c) (x : ℕ) → m_of c + n_of c ≤ x → (x < m_of c + n_of c + w_of c) ⊎ (m_of c + n_of c + w_of c + c.call.helpers ≤ x) → words_at c l x ≡ pos 0
far_words c l x b h = nothing_added c l.more l.late l.node l.branch l.parts l.facts x (written_off c x b h) (inr (b, h))

at_written : (c : BackLetter) (l : BackLeaf c) (i : ℕ) → i < w_of c → AddsAt c l (m_of c + n_of c + i)
at_written c l i b =
    subst (AddsAt c l) (after_at (m_of c) (m_of c + n_of c) (back_written c) (written_apart (caller_in c.call) c.targets c.acted.distinct) i b)
    (by_target (slice_index (back_written c) i) (index_member (back_written c) i b) (member_or_not c.targets (slice_index (back_written c) i)))
  where
    in_frame : (j : ℕ) → Member (variables_of (caller_in c.call)) j ⊎ Member c.targets j → j < n_of c
    in_frame j (inl m) = let k = variable_head c j m in let h = (heads_in c).1 in omega (arith, k, h)
    in_frame j (inr m) = target_below c j m

    untaken : (j : ℕ) → (Member c.targets j → ⊥) → Member (variables_of (caller_in c.call)) j ⊎ Member c.targets j → Member (variables_of (caller_in c.call)) j
    untaken j n (inl m) = m
    untaken j n (inr m) = absurd (n m)

    by_target : (j : ℕ) → Member (back_written c) j → Member c.targets j ⊎ (Member c.targets j → ⊥) → AddsAt c l (after_of c j)
    by_target j m (inl t) =
        let r = written_range c j m in
        let a = r.0 in
        let d = r.1 in
        let below = target_below c j t in
        let taken_by = taken_of (caller_in c.call) (callee_in c.call) c.targets (result_columns (callee_in c.call)) c.acted.take j t in
        let t1 = far_constant c l (after_of c j) a in
        let t2 = far_old c l (after_of c j) a in
        let t3 = global_off c (val_of c l) (after_of c j)
        (λ i h. (let q = kept_range c i h in let e1 = q.0 in let k1 = (heads_in c).1 in let k0 = (heads_in c).0 in (
          (λ e. (kept_variable c i h).1 (subst (Member c.targets) (sym (one_after c i j (omega (arith, e1, k1)) below e)) t)),
          (λ e. omega (arith, e1, e, a, k0)),
        ))) in
        let t4 = result_first c (val_of c l) (j, taken_by.0) taken_by.1 in
        let w = far_words c l (after_of c j) a (inl d) in
        let s = far_claims c l (after_of c j) a in
        let f = after_at_column c l.branch l.parts j below in
        let u = target_times c l.node l.branch l.parts j below in
        put_together c l (after_of c j) (omega (arith, ints, t1, t2, t3, t4, w, s, f, u))
    by_target j m (inr n) =
        let r = written_range c j m in
        let a = r.0 in
        let d = r.1 in
        let v = untaken j n (written_are (caller_in c.call) c.targets j m) in
        let below = in_frame j (inl v) in
        let t1 = far_constant c l (after_of c j) a in
        let t2 = far_old c l (after_of c j) a in
        let t3 = global_first c (val_of c l) j (variable_kept c j v n) in
        let t4 = result_off c (val_of c l) (after_of c j)
        (λ p h. (let q = taken_range c p h in let e1 = q.2.1 in (
          (λ e. n (subst (Member c.targets) (one_after c p.0 j q.0 below e) (taken_parts c.targets (result_columns (callee_in c.call)) p h).0)),
          (λ e. omega (arith, e1, e, a)),
        ))) in
        let w = far_words c l (after_of c j) a (inl d) in
        let s = far_claims c l (after_of c j) a in
        let f = after_at_column c l.branch l.parts j below in
        let u = target_times c l.node l.branch l.parts j below in
        put_together c l (after_of c j) (omega (arith, ints, t1, t2, t3, t4, w, s, f, u))

-- behind them stand none of the claims' columns and no ties
past_ties : (c : BackLetter) (l : BackLeaf c) (x : ℕ) → m_of c + n_of c + w_of c ≤ x → (ties_at c l x ≡ pos 0) × (claims_at c l x ≡ pos 0)
past_ties c l x b =
    let t1 = far_constant c l x (omega (arith, b)) in
    let t2 = far_old c l x (omega (arith, b)) in
    let t3 = global_off c (val_of c l) x
    (λ i h. (let q = kept_range c i h in let e1 = q.0 in let e2 = q.1.1 in let k = (heads_in c).0 in ((λ e. omega (arith, e2, e, b)), (λ e. omega (arith, e1, e, b, k))))) in
    let t4 = result_off c (val_of c l) x
    (λ p h. (let q = taken_range c p h in let e1 = q.2.1 in let e2 = q.1.1 in ((λ e. omega (arith, e2, e, b)), (λ e. omega (arith, e1, e, b))))) in
    let s = far_claims c l x (omega (arith, b)) in
    let f = after_off c l.branch l.parts x (λ j k e. off j k e (member_or_not (back_written c) j)) in
    (omega (arith, ints, t1, t2, t3, t4), omega (arith, ints, s, f))
  where
    off : (j : ℕ) → j < n_of c → after_of c j ≡ x → Member (back_written c) j ⊎ (Member (back_written c) j → ⊥) → ⊥
    off j k e (inl m) = let r = (written_range c j m).1 in omega (arith, r, e, b)
    off j k e (inr n) = let r = after_absent (m_of c) (m_of c + n_of c) (back_written c) j n in omega (arith, r, e, b, k)

at_helper : (c : BackLetter) (l : BackLeaf c) (i : ℕ) → i < c.call.helpers → AddsAt c l (m_of c + n_of c + w_of c + i)
at_helper c l i b =
    let p = past_ties c l (m_of c + n_of c + w_of c + i) (omega arith) in
    let t = p.0 in
    let s = p.1 in
    let w = columns_differ_by c l.more l.late l.node l.branch l.parts l.facts (m_of c + n_of c + w_of c + i) (made c.call + locals c.call + i) (rows_of_helper c i b) (column_of_helper c i b) in
    let n = new_before c.call l.more l.late l.node l.branch l.parts (as_call c l.more l.late l.node l.branch l.parts l.facts) (made c.call + locals c.call + i) (omega arith) in
    let g = helper_gone c l.more l.late l.node l.branch l.parts l.facts i b in
    put_together c l (m_of c + n_of c + w_of c + i) (omega (arith, ints, t, s, w, n, g))

at_past : (c : BackLetter) (l : BackLeaf c) (x : ℕ) → m_of c + n_of c + w_of c + c.call.helpers ≤ x → AddsAt c l x
at_past c l x b =
    let p = past_ties c l x (omega (arith, b)) in
    let t = p.0 in
    let s = p.1 in
    let w = far_words c l x (omega (arith, b)) (inr b) in
    put_together c l x (omega (arith, ints, t, s, w))

-- ---- all columns

at_column : (c : BackLetter) (l : BackLeaf c) (x : ℕ) → AddsAt c l x
at_column c l x = by_callee (split_at (m_of c) x)
  where
    by_helper : (k : ℕ) → x ≡ m_of c + n_of c + w_of c + k → (k < c.call.helpers) ⊎ ((i : ℕ) × (k ≡ c.call.helpers + i)) → AddsAt c l x
    by_helper k e (inl b) = subst (AddsAt c l) (sym e) (at_helper c l k b)
    by_helper k e (inr h) = let q = h.1 in at_past c l x (omega (arith, e, q))

    by_written : (k : ℕ) → x ≡ m_of c + n_of c + k → (k < w_of c) ⊎ ((i : ℕ) × (k ≡ w_of c + i)) → AddsAt c l x
    by_written k e (inl b) = subst (AddsAt c l) (sym e) (at_written c l k b)
    by_written k e (inr h) = let q = h.1 in by_helper h.0 (omega (arith, e, q)) (split_at c.call.helpers h.0)

    by_caller : (k : ℕ) → x ≡ m_of c + k → (k < n_of c) ⊎ ((i : ℕ) × (k ≡ n_of c + i)) → AddsAt c l x
    by_caller k e (inl b) = let a = caller_long c.call in subst (AddsAt c l) (sym e) (at_caller c l k (omega (arith, b, a)))
    by_caller k e (inr h) = let q = h.1 in by_written h.0 (omega (arith, e, q)) (split_at (w_of c) h.0)

    by_callee : (x < m_of c) ⊎ ((k : ℕ) × (x ≡ m_of c + k)) → AddsAt c l x
    by_callee (inl b) = at_callee c l x b
    by_callee (inr h) = by_caller h.0 h.1 (split_at (n_of c) h.0)

-- ---- the bound

bound_law : (whole tc to ow tg tr fr os e bf af after exit call before own : ℤ) → whole ≡ tc +ℤ (to +ℤ (ow +ℤ (tg +ℤ (tr +ℤ fr)))) → tc ≡ pos 0 → to ≡ pos 0 → tg ≡ pos 0 → tr ≡ pos 0 →
    (ow +ℤ fr) +ℤ os ≡ call -ℤ before → e ≡ exit -ℤ call → bf ≡ before -ℤ own → af ≡ below_opposite (after -ℤ own) → after ≡ exit → ((whole +ℤ os) +ℤ (e +ℤ (bf +ℤ (af +ℤ pos 0)))) <ℤ pos 0
bound_law whole tc to ow tg tr fr os e bf af after exit call before own p q1 q2 q3 q4 w s t u v = omega (arith, ints, p, q1, q2, q3, q4, w, s, t, u, v)

pub back_adds : (c : BackLetter) → BackOpens c → (more : List LinearRow) (late : List ℕ) (n : ℕ) (b : Branch) (parts : List (ℕ × ℤ)) → LeafFacts (back_view c) (back_root c) more late n b parts →
    AddsUp (back_view c) (back_root c) (back_first c) more late n b parts
back_adds c o more late n b parts f =
    let val : Role → ℤ = multiplier (back_view c) n b parts in
    record {
      columns = λ x. at_column c (record { opens = o; more = more; late = late; node = n; branch = b; parts = parts; facts = f }) x;
      bound = bound_law (others val (λ r. r.bound) (back_first c).roles (back_first c).rows) (others val (λ r. r.bound) (constant_roles c) (constant_ties c)) (others val (λ r. r.bound) (old_roles c) (old_ties c))
          (others val (λ r. r.bound) (own_roles c) (back_own_rows c)) (others val (λ r. r.bound) (global_roles c) (global_ties c)) (others val (λ r. r.bound) (result_roles c) (result_ties c))
          (others val (λ r. r.bound) (frame_roles c) (back_frame c)) (own_sum (back_view c) val (λ r. r.bound) (length (root_of c.call.g c.call.w).rows) more late)
          (bound_at b parts (exit_claim c).position) (bound_at b parts (before_claim c).position) (below_opposite (bound_at b parts (after_claim c).position))
          (bound_upto b parts (suc (2 * suc c.r.letters))) (bound_upto b parts (suc (2 * c.r.letters))) (bound_upto b parts (2 * suc c.call.r.letters)) (bound_upto b parts (suc (2 * c.call.r.letters)))
          (bound_upto b parts (innermost c.call.r.scopes).own)
          (back_parts_add c o val (λ r. r.bound))
          (ties_bound val source_tie (λ x. x) (λ x. m_of c + x) (constants_of (callee_in c.call)) (constants_tie c))
          (ties_bound val (λ p. source_tie p.0) (λ p. p.0) (λ p. m_of c + p.1) (olds_of (callee_in c.call)) (olds_tie c))
          (ties_bound val target_tie (λ i. after_of c i) (λ i. i) (kept_globals c) (globals_tie c))
          (ties_bound val (λ q. target_tie q.0) (λ q. after_of c q.0) (λ q. q.1) (taken_in c) (results_tie c))
          (bounds_differ_by c more late n b parts f (rows_bounds c)) refl refl refl (over_return c more late n b parts f (λ r. r.bound));
    }
